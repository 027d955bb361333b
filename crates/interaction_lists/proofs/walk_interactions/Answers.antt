-- The heads of the pool are zeroed, then all counts are expanded, then all fields. Of each stage: the records so far are visited from the
-- cleared pool, which at the end gives the order of both lists of roots.
use mathlib.Core.Path.{refl, subst, ◌∙◌}
use mathlib.Core.List.{List, ◌++◌}
use Prim.Native.Nat.{ℕ}
use native.Mathlib.Omega.{arith}
use borrow.Author.Rules.{rules}
use Rattle.semantics.specs.Sheet.{Interaction}
use Rattle.semantics.specs.Check.{read_sheet}
use Rattle.records.specs.declared.interactions.Part.TheVariants.{Count, Fields}
use Rattle.records.specs.Access.{counts_of, fields_of}
use Rattle.records.specs.Named.{parts_of}
use Rattle.expand.specs.Walks.{Walked}
use Rattle.expand.proofs.Far.{same_then}
use Rattle.constraint_lists.proofs.Walked.{walk_starts, walk_ends}
use Rattle.interaction_lists.proofs.Walked.{part_below, first_refused, second_walking, both_walked}
use Rattle.interaction_lists.proofs.walk_interactions.Goals as goal

-- What the counts and the fields of a sheet name.
abbrev counts : List ℕ → List ℕ
counts ws = counts_of (read_sheet ws).interactions

abbrev fields : List ℕ → List ℕ
fields ws = fields_of (read_sheet ws).interactions

pub clear_heads-requires : goal.clear_heads-requires
clear_heads-requires c = omega (arith, c.num_records-records.ensures, c.requires.1)

pub expand_each-counted-requires : goal.expand_each-counted-requires
expand_each-counted-requires c =
    let a = c.args.sheet in
    let m = c.new-walk.ensures.starts in (
      walk_starts a.words.now _ c.num_records-records.ensures _ c.clear_heads.ensures m,
      part_below a.words.now a.checked Count c.interactions.ensures m.sheet_is,
    )

pub returns-in_default : goal.returns-in_default
returns-in_default c =
    let a = c.args.sheet in
    let ws = a.words.now in
    let n = c.num_records-records.ensures in
    let e = c.expand_each-counted in
    let m = c.new-walk.ensures in
    let v = c.new-walk.result in
    let p = walk_starts ws _ n _ c.clear_heads.ensures m.starts in
    let k = e.ensures.0 in
    let first = subst (λ (xs : List Interaction). Walked v (parts_of Count xs) e.new.self e.result) c.interactions.ensures e.ensures in
    let f = first_refused p (counts ws) (fields ws) (part_below ws a.checked Count refl m.starts.sheet_is) e.new.self e.result first c.in_default.is in
    walk_ends ws _ n _ c.clear_heads.ensures m.starts (λ _. counts ws ++ fields ws) e.new.self e.result f _ (search rules)

pub expand_each-requires : goal.expand_each-requires
expand_each-requires c =
    let a = c.args.sheet in
    let ws = a.words.now in
    let e = c.expand_each-counted in
    let v = c.new-walk.result in
    let m = c.new-walk.ensures.starts in
    let p = walk_starts ws _ c.num_records-records.ensures _ c.clear_heads.ensures m in
    let first = subst (λ (xs : List Interaction). Walked v (parts_of Count xs) e.new.self e.result) c.interactions.ensures e.ensures in (
      second_walking p (counts ws) (fields ws) (part_below ws a.checked Count refl m.sheet_is) e.new.self e.result first c.in-Ok.is,
      part_below ws a.checked Fields c.interactions-2.ensures (e.ensures.0.sheet ∙ m.sheet_is),
    )

pub returns : goal.returns
returns c =
    let a = c.args.sheet in
    let ws = a.words.now in
    let n = c.num_records-records.ensures in
    let e = c.expand_each-counted in
    let g = c.expand_each in
    let m = c.new-walk.ensures in
    let v = c.new-walk.result in
    let p = walk_starts ws _ n _ c.clear_heads.ensures m.starts in
    let k = same_then e.ensures.0 g.ensures.0 in
    let first = subst (λ (xs : List Interaction). Walked v (parts_of Count xs) e.new.self e.result) c.interactions.ensures e.ensures in
    let second = subst (λ (xs : List Interaction). Walked e.new.self (parts_of Fields xs) g.new.self g.result) c.interactions-2.ensures g.ensures in
    let f = both_walked p (counts ws) (fields ws) (part_below ws a.checked Count refl m.starts.sheet_is) e.new.self e.result first c.in-Ok.is
    g.new.self g.result second in
    walk_ends ws _ n _ c.clear_heads.ensures m.starts (λ _. counts ws ++ fields ws) g.new.self g.result f _ (search rules)
