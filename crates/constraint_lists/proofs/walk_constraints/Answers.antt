-- The heads of the pool are zeroed, then all that the constraints name is expanded.
use mathlib.Core.Path.{sym, subst}
use mathlib.Core.List.{List}
use Prim.Native.Nat.{ℕ}
use native.Mathlib.Omega.{arith}
use borrow.Author.Rules.{rules}
use lib.ListN.{length}
use Rattle.semantics.specs.Walk.{Below}
use Rattle.semantics.specs.Check.{read_sheet}
use Rattle.semantics.proofs.GraphSheets.{named_below}
use Rattle.records.specs.Access.{records_of}
use Rattle.records.proofs.Steps.{inside}
use Rattle.expand.specs.Walks.{Walked}
use Rattle.constraint_lists.proofs.Walked.{walk_starts, walk_ends}
use Rattle.constraint_lists.proofs.walk_constraints.Goals as goal

pub clear_heads-requires : goal.clear_heads-requires
clear_heads-requires c = omega (arith, c.num_records-records.ensures, c.requires.1)

pub expand_references-requires : goal.expand_references-requires
expand_references-requires c =
    let ws = c.args.sheet.words.now in
    let checked = c.args.sheet.checked in
    let n : ℕ = length (records_of ws) in
    let starts = c.new-walk.ensures.starts in (
      walk_starts ws _ c.num_records-records.ensures _ c.clear_heads.ensures starts,
      subst (λ (s : List ℕ). Below (length (records_of s)) c.constraints-names.result.now) (sym starts.sheet_is)
          (subst (Below n) (sym c.constraints-names.ensures) (named_below n (read_sheet ws).constraints (inside ws checked).constraints)),
    )

pub returns : goal.returns
returns c =
    let ws = c.args.sheet.words.now in
    let e = c.expand_references in
    let m = c.new-walk.ensures in
    let k = e.ensures.0 in
    let f = subst (λ (names : List ℕ). Walked c.new-walk.result names e.new.self e.result) c.constraints-names.ensures e.ensures in
    walk_ends ws _ c.num_records-records.ensures _ c.clear_heads.ensures m.starts (λ _. (read_sheet ws).constraints) e.new.self e.result f _ (search rules)
