-- Scratch as a table of marks, and what one more record changes.
use mathlib.Core.Path.{◌≡◌, refl, sym, ap, ◌∙◌}
use mathlib.Core.Bool.{Bool, true, false, cond}
use mathlib.Core.List.{List, ◌∷◌}
use Prim.Native.Nat.{ℕ, zero, suc, ◌+◌, ◌<◌}
use native.Mathlib.Omega.{arith}
use native.Mathlib.Nat.{zero-add}
use lib.Dec.{eqb}
use lib.ListN.{length, get_or, set, length-set}
use lib.Seq.{ext_get_or, get_or-set_same, get_or-set_other}
use borrow.Author.Tests.{eqb-true, eqb-false}
use Rattle.semantics.specs.Walk.{member}
use Rattle.semantics.specs.Graph.{Built, set_num}
use Rattle.nodes.specs.Memory.{tabulate, mark}

pub tabulate_length : (k n : ℕ) (f : ℕ → ℕ) → length (tabulate k n f) ≡ n
unfolding tabulate
tabulate_length k zero f = refl
tabulate_length k (suc n) f = ap suc (tabulate_length (suc k) n f)

pub tabulate_at : (k n : ℕ) (f : ℕ → ℕ) (i d : ℕ) → i < n → get_or (tabulate k n f) i d ≡ f (k + i)
unfolding tabulate
tabulate_at k zero f i d h = absurd (omega arith)
tabulate_at k (suc n) f zero d h = ap f (omega arith)
tabulate_at k (suc n) f (suc i) d h = tabulate_at (suc k) n f i d (omega arith) ∙ ap f (omega arith)

pub tabulate_from : (n : ℕ) (f : ℕ → ℕ) (i d : ℕ) → i < n → get_or (tabulate 0 n f) i d ≡ f i
tabulate_from n f i d h = tabulate_at 0 n f i d h ∙ ap f (zero-add i)

-- Two tables with the same entries are the same.
pub tabulate_same : (n : ℕ) (f g : ℕ → ℕ) → ((i : ℕ) → i < n → f i ≡ g i) → tabulate 0 n f ≡ tabulate 0 n g
tabulate_same n f g h =
    ext_get_or 0 (tabulate 0 n f) (tabulate 0 n g) (tabulate_length 0 n f ∙ sym (tabulate_length 0 n g))
    (λ i l.
    let m : i < n = omega (arith, tabulate_length 0 n f) in
    tabulate_from n f i 0 m ∙ h i m ∙ sym (tabulate_from n g i 0 m))

-- A store into a table.
pub tabulate_set : (n : ℕ) (f : ℕ → ℕ) (k v : ℕ) → k < n → set (tabulate 0 n f) k v ≡ tabulate 0 n (set_num k v f)
unfolding set_num
tabulate_set n f k v h =
    ext_get_or 0 (set (tabulate 0 n f) k v) (tabulate 0 n (set_num k v f))
    (length-set (tabulate 0 n f) k v ∙ tabulate_length 0 n f ∙ sym (tabulate_length 0 n (set_num k v f)))
    (λ i l.
    let m : i < n = omega (arith, length-set (tabulate 0 n f) k v, tabulate_length 0 n f) in
    entry i m (eqb i k) refl ∙ sym (tabulate_from n (set_num k v f) i 0 m))
  where
    entry : (i : ℕ) → i < n → (t : Bool) → eqb i k ≡ t → get_or (set (tabulate 0 n f) k v) i 0 ≡ set_num k v f i
    entry i m true e =
        ap (λ (j : ℕ). get_or (set (tabulate 0 n f) k v) j 0) (eqb-true i k e)
        ∙ get_or-set_same (tabulate 0 n f) k v 0 (omega (arith, tabulate_length 0 n f))
        ∙ sym (rw e)
    entry i m false e = get_or-set_other (tabulate 0 n f) k i v 0 (eqb-false i k e) ∙ tabulate_from n f i 0 m ∙ sym (rw e)

-- A mark is 0 exactly where the record is not added.
pub mark_new : (done : List ℕ) (b : Built) (i : ℕ) → mark done b i ≡ 0 → member i done ≡ false
unfolding mark
mark_new done b i = by_flag (member i done) refl
  where
    by_flag : (t : Bool) → member i done ≡ t → cond t (suc (b.num i)) 0 ≡ 0 → member i done ≡ false
    by_flag true e h = absurd (omega arith)
    by_flag false e h = e

pub mark_old : (done : List ℕ) (b : Built) (i : ℕ) → (mark done b i ≡ 0 → ⊥) → member i done ≡ true
unfolding mark
mark_old done b i = by_flag (member i done) refl
  where
    by_flag : (t : Bool) → member i done ≡ t → (cond t (suc (b.num i)) 0 ≡ 0 → ⊥) → member i done ≡ true
    by_flag true e h = e
    by_flag false e h = absurd (h refl)

pub mark_is : (done : List ℕ) (b : Built) (i : ℕ) → member i done ≡ true → mark done b i ≡ suc (b.num i)
unfolding mark
mark_is done b i e = rw e

-- One more record, with its node.
pub mark_more : (n : ℕ) (done : List ℕ) (b b' : Built) (r k : ℕ) → b'.num ≡ set_num r k b.num → r < n
    → set (tabulate 0 n (mark done b)) r (suc k) ≡ tabulate 0 n (mark (r ∷ done) b')
unfolding mark set_num member
mark_more n done b b' r k e h =
    tabulate_set n (mark done b) r (suc k) h ∙ tabulate_same n (set_num r (suc k) (mark done b)) (mark (r ∷ done) b') (λ i l. entry i (eqb i r) refl)
  where
    entry : (i : ℕ) (t : Bool) → eqb i r ≡ t → set_num r (suc k) (mark done b) i ≡ mark (r ∷ done) b' i
    entry i true q = rw (e, q)
    entry i false q = rw (e, q)
