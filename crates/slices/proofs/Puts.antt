-- Elements put one behind the other.
use mathlib.Core.Path.{◌≡◌, refl, sym, ap, ◌∙◌}
use mathlib.Core.List.{List, [], ◌∷◌, ◌++◌, append_assoc}
use Prim.Native.Nat.{ℕ, suc, ◌+◌, ◌-◌, ◌≤◌, ◌<◌}
use native.Mathlib.Nat.{add-zero, add-suc}
use native.Mathlib.Numerals.{add-one}
use native.Mathlib.Omega.{arith}
use lib.ListN.{length, get_or, set, take, drop, length-append, length-take, length-drop, take-append-drop, get_or-append}
use lib.Seq.{set_split, take_at, drop_at, drop-drop, sets, sets-eq, length-take-le, get_or-take, get_or-drop, get_or-append-add}
use Rattle.slices.specs.Putting.{put}

pub put_none : (out : List ℕ) (at : ℕ) → put out at [] ≡ out
put_none out at = ap (λ (k : ℕ). take at out ++ drop k out) (add-zero at) ∙ take-append-drop at out

pub put_length : (out : List ℕ) (at : ℕ) (xs : List ℕ) → at + length xs ≤ length out → length (put out at xs) ≡ length out
put_length out at xs h = simp (length-append, length-take, length-drop) (omega arith)

-- What is put first, and what behind it.
pub put_put : (out : List ℕ) (at : ℕ) (xs ys : List ℕ) → at + length xs + length ys ≤ length out
    → put (put out at xs) (at + length xs) ys ≡ put out at (xs ++ ys)
put_put out at xs ys h =
    let P : List ℕ = take at out ++ xs in
    let Q : List ℕ = drop (at + length xs) out in
    let l : length P ≡ at + length xs = simp (length-append, length-take) (omega arith) in
    let w : put out at xs ≡ P ++ Q = sym (append_assoc (take at out) xs Q) in
    ap (λ (u : List ℕ). put u (at + length xs) ys) w
    ∙ (λ i. take_at P Q (at + length xs) l i ++ (ys ++ skip i))
    ∙ append_assoc (take at out) xs (ys ++ drop (at + length (xs ++ ys)) out)
    ∙ ap (λ (r : List ℕ). take at out ++ r) (sym (append_assoc xs ys (drop (at + length (xs ++ ys)) out)))
  where
    more : at + length xs + length ys ≡ at + length (xs ++ ys)
    more = simp length-append (omega arith)

    skip : drop (at + length xs + length ys) (take at out ++ xs ++ drop (at + length xs) out) ≡ drop (at + length (xs ++ ys)) out
    skip =
        sym (drop-drop (length ys) (at + length xs) (take at out ++ xs ++ drop (at + length xs) out))
        ∙ ap (drop (length ys)) (drop_at (take at out ++ xs) (drop (at + length xs) out) (at + length xs) (simp (length-append, length-take) (omega arith)))
        ∙ drop-drop (length ys) (at + length xs) out
        ∙ ap (λ (k : ℕ). drop k out) more

pub put_one : (out : List ℕ) (at v : ℕ) → at < length out → set out at v ≡ put out at (v ∷ [])
put_one out at v h = set_split out at v h ∙ ap (λ (k : ℕ). take at out ++ (v ∷ drop k out)) (sym (add-one at))

-- What is put behind what is put, at the place where that ends; and one element more.
module _ (out out' : List ℕ) (at : ℕ) (xs : List ℕ) (e : out' ≡ put out at xs) (k : ℕ) (q : k ≡ at + length xs) where
  pub put_behind : (ys : List ℕ) → at + length xs + length ys ≤ length out → put out' k ys ≡ put out at (xs ++ ys)
  put_behind ys h = (λ i. put (e i) (q i) ys) ∙ put_put out at xs ys h

  pub set_behind : (v : ℕ) → at + length xs < length out → set out' k v ≡ put out at (xs ++ (v ∷ []))
  set_behind v h =
      put_one out' k v (omega (arith, ap length e ∙ put_length out at xs (omega arith))) ∙ put_behind (v ∷ []) (omega arith)

-- The elements in front of what is put, and behind it.
module _ (out : List ℕ) (at : ℕ) (xs : List ℕ) (h : at + length xs ≤ length out) where
  pub get_or_before : (k : ℕ) → k < at → get_or (put out at xs) k 0 ≡ get_or out k 0
  get_or_before k l =
      get_or-append (take at out) (xs ++ drop (at + length xs) out) 0 k (omega (arith, length-take-le at out (omega arith)))
      ∙ get_or-take at out k 0 l

  pub get_or_after : (k : ℕ) → at + length xs ≤ k → get_or (put out at xs) k 0 ≡ get_or out k 0
  get_or_after k l =
      let P : List ℕ = take at out ++ xs in
      let Q : List ℕ = drop (at + length xs) out in
      let e : length P ≡ at + length xs = simp (length-append, length-take) (omega arith) in
      let m : length P + (k - length P) ≡ k = omega arith in
      ap (λ (u : List ℕ). get_or u k 0) (sym (append_assoc (take at out) xs Q))
      ∙ ap (λ (n : ℕ). get_or (P ++ Q) n 0) (sym m) ∙ get_or-append-add P Q (k - length P) 0 ∙ get_or-drop (at + length xs) out (k - length P) 0
      ∙ ap (λ (n : ℕ). get_or out n 0) (omega arith)

-- Stores as code makes them: at a place and one, two, .. behind it. On a list that is written out `stores` computes to them.
module _ {A : Type 0} where
  abbrev pub stores : (l : List A) (at i : ℕ) → List A → List A
  stores l at i [] = l
  stores l at i (v ∷ vs) = stores (set l (at + i) v) at (suc i) vs

  stores_from : (l : List A) (at i : ℕ) (vs : List A) → stores l at i vs ≡ sets l (at + i) vs
  stores_from l at i [] = refl
  stores_from l at i (v ∷ vs) = stores_from (set l (at + i) v) at (suc i) vs ∙ ap (λ (k : ℕ). sets (set l (at + i) v) k vs) (add-suc at i)

  -- One store, and others behind it: one run of stores.
  pub stores_run : (l : List A) (at : ℕ) (v : A) (vs : List A) → stores (set l at v) at 1 vs ≡ sets l at (v ∷ vs)
  stores_run l at v vs = stores_from (set l at v) at 1 vs ∙ ap (λ (k : ℕ). sets (set l at v) k vs) (add-one at)

-- A run of stores puts its elements.
pub sets_put : (out : List ℕ) (at : ℕ) (xs : List ℕ) → at + length xs ≤ length out → sets out at xs ≡ put out at xs
sets_put out at xs h = sets-eq xs out at h ∙ append_assoc (take at out) xs (drop (at + length xs) out)

pub stores_put : (out : List ℕ) (at v : ℕ) (vs : List ℕ) → at + length (v ∷ vs) ≤ length out → stores (set out at v) at 1 vs ≡ put out at (v ∷ vs)
stores_put out at v vs h = stores_run out at v vs ∙ sets_put out at (v ∷ vs) h
