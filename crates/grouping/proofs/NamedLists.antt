-- Counting the lists of records that words name: what is left to count gives the whole.
use mathlib.Core.Path.{◌≡◌, refl, sym, ap, subst, ◌∙◌}
use mathlib.Core.List.{List, [], ◌∷◌, ◌++◌, flat_map, append-nil}
use Prim.Native.Nat.{ℕ, ◌+◌, ◌*◌, ◌≤◌, ◌<◌}
use native.Mathlib.Omega.{arith}
use native.Mathlib.Numerals.{add-one}
use lib.ListN.{length, get_or, drop, length-append}
use lib.Seq.{drop-cons}
use Rattle.slices.proofs.Lists.{flat_append}
use Rattle.semantics.specs.Lists.{All}
use Rattle.semantics.proofs.Lists.{all_front, all_back}
use Rattle.semantics.specs.Sheet.{Interaction}
use Rattle.records.specs.declared.interactions.Part.{Part}
use Rattle.records.specs.Named.{part_of, parts_of}
use Rattle.std.proofs.lemmas.List.{drop_all}
use Rattle.group.specs.Grouped.{tally_all, tallied_total, non_zero, list_of, InPool, vars_named}
use Rattle.group.specs.declared.Groups.{Groups}
use Rattle.group.specs.Groups.{tallies, Same}
use Rattle.group.proofs.Tallying.{same_as, same_on}
use Rattle.grouping.specs.Families.{ToTally}
use Rattle.group.proofs.Tallies.{tally_all_append, tally_all_grows, total_all}
use Rattle.group.proofs.PoolLists.{non_zero_length}

-- The next of the names that a loop goes through.
pub names_next : (names : List ℕ) (j : ℕ) → j < length names → drop j names ≡ get_or names j 0 ∷ drop (j + 1) names
names_next names j h = drop-cons names j 0 h ∙ ap (λ (k : ℕ). get_or names j 0 ∷ drop k names) (sym (add-one j))

-- A part of the next interaction, and of those behind it; and the end.
pub parts_next : (part : Part) {left : List Interaction} {x : Interaction} {rest : List Interaction} → left ≡ x ∷ rest → {names : List ℕ} → names ≡ part_of part x
    → parts_of part left ≡ names ++ parts_of part rest
unfolding flat_map
parts_next part {left} {x} {rest} e k = ap (parts_of part) e ∙ ap (λ (l : List ℕ). l ++ parts_of part rest) (sym k)

pub parts_end : (part : Part) {left : List Interaction} → left ≡ [] → parts_of part left ≡ []
unfolding flat_map
parts_end part e = ap (parts_of part) e

module _ (P : List ℕ) where
  pub vars_append : (xs ys : List ℕ) → vars_named P (xs ++ ys) ≡ vars_named P xs ++ vars_named P ys
  unfolding vars_named
  vars_append = flat_append (λ (i : ℕ). non_zero (list_of P i))

  pub vars_one : (i : ℕ) → vars_named P (i ∷ []) ≡ non_zero (list_of P i)
  unfolding vars_named flat_map
  vars_one i = append-nil (non_zero (list_of P i))

  pub vars_length : (xs : List ℕ) → All (InPool P) xs → length (vars_named P xs) ≤ 256 * length xs
  unfolding vars_named flat_map
  vars_length [] h = omega arith
  vars_length (x ∷ xs) h =
      let a = non_zero_length (list_of P x) in
      let b = h.0.few in
      let ih = vars_length xs h.1 in
      let e = length-append (non_zero (list_of P x)) (vars_named P xs) in
      omega arith

-- While lists are counted: those of `left` are still to count.
pub record NamesLeft (g₀ : Groups) (references : List ℕ) (g : Groups) (left : List ℕ) : Type 0 where
  pub ready : ToTally g left
  pub same : Same g₀ g
  pub whole : tally_all (vars_named g.pool.now left) (tallies g) ≡ tally_all (vars_named g₀.pool.now references) (tallies g₀)

pub names_none : {g : Groups} {references left : List ℕ} → ToTally g references → left ≡ references → NamesLeft g references g left
names_none {g} {references} t e = subst (NamesLeft g references g) (sym e) (record { ready = t; same = same_as g; whole = refl })

module _ {g₀ : Groups} {references : List ℕ} {g : Groups} {left : List ℕ} (t : NamesLeft g₀ references g left) where
  abbrev P : List ℕ
  P = g.pool.now

  pub references_done : left ≡ [] → Same g₀ g × (tallies g ≡ tally_all (vars_named g₀.pool.now references) (tallies g₀))
  unfolding vars_named flat_map tally_all
  references_done e = (t.same, sym (ap (λ (l : List ℕ). tally_all (vars_named P l) (tallies g)) e) ∙ t.whole)

  module _ (xs ys : List ℕ) (e : left ≡ xs ++ ys) where
    lists_are : All (InPool P) (xs ++ ys)
    lists_are = subst (All (InPool P)) e t.ready.lists

    pub references_next : ToTally g xs
    references_next =
        let s = t.ready.small in
        let l = ap length e ∙ length-append xs ys in
        record { lists = all_front (InPool P) xs ys lists_are; small = omega arith }

    both : tally_all (vars_named P ys) (tally_all (vars_named P xs) (tallies g)) ≡ tally_all (vars_named g₀.pool.now references) (tallies g₀)
    both =
        sym (tally_all_append (vars_named P xs) (vars_named P ys) (tallies g))
        ∙ ap (λ (l : List (List ℕ)). tally_all l (tallies g)) (sym (vars_append P xs ys) ∙ ap (vars_named P) (sym e))
        ∙ t.whole

    -- What counting the next references answers.
    pub references_more : {g' : Groups} → Same g g' × (tallies g' ≡ tally_all (vars_named P xs) (tallies g)) → NamesLeft g₀ references g' ys
    references_more {g'} c =
        let s = t.ready.small in
        let l = ap length e ∙ length-append xs ys in
        let k = ap tallied_total c.1 ∙ total_all (vars_named P xs) (tallies g) in
        let v = vars_length P xs (all_front (InPool P) xs ys lists_are) in
        record {
          ready = record {
            lists = subst (λ (Q : List ℕ). All (InPool Q) ys) (sym c.0.pool) (all_back (InPool P) xs ys lists_are);
            small = omega arith;
          };
          same = same_on t.same c.0;
          whole = (λ i. tally_all (vars_named (c.0.pool i) ys) (c.1 i)) ∙ both;
        }

    -- However much more comes, the slice stays too short.
    pub references_full : length g.headers.now < 4 * length (tally_all (vars_named P xs) (tallies g))
        → length g₀.headers.now < 4 * length (tally_all (vars_named g₀.pool.now references) (tallies g₀))
    references_full c =
        omega (arith, c, t.same.long, tally_all_grows (vars_named P ys) (tally_all (vars_named P xs) (tallies g)), ap length both)

-- The first j names are passed.
pub record NamesPassed (names : List ℕ) (g₀ g : Groups) (j : ℕ) : Type 0 where
  pub left : NamesLeft g₀ names g (drop j names)

module _ {names : List ℕ} {g₀ g : Groups} {j : ℕ} (t : NamesPassed names g₀ g j) where
  pub names_done : length names ≤ j → Same g₀ g × (tallies g ≡ tally_all (vars_named g₀.pool.now names) (tallies g₀))
  names_done h = references_done t.left (drop_all j names h)

  module _ (h : j < length names) where
    abbrev r : ℕ
    r = get_or names j 0

    abbrev rest : List ℕ
    rest = drop (j + 1) names

    pub names_ready : InPool g.pool.now r × (tallied_total (tallies g) + length (list_of g.pool.now r) ≤ 4294967295)
    names_ready =
        let n = references_next t.left (r ∷ []) rest (names_next names j h) in
        (n.lists.0, omega (arith, n.small, n.lists.0.few))

    pub names_more : {g' : Groups} → Same g g' × (tallies g' ≡ tally_all (non_zero (list_of g.pool.now r)) (tallies g)) → NamesPassed names g₀ g' (j + 1)
    names_more c = record {
      left = references_more t.left (r ∷ []) rest (names_next names j h)
          (c.0, c.1 ∙ ap (λ (v : List (List ℕ)). tally_all v (tallies g)) (sym (vars_one g.pool.now r)));
    }

    pub names_full : length g.headers.now < 4 * length (tally_all (non_zero (list_of g.pool.now r)) (tallies g))
        → length g₀.headers.now < 4 * length (tally_all (vars_named g₀.pool.now names) (tallies g₀))
    names_full c =
        references_full t.left (r ∷ []) rest (names_next names j h)
        (subst (λ (v : List (List ℕ)). length g.headers.now < 4 * length (tally_all v (tallies g))) (sym (vars_one g.pool.now r)) c)
