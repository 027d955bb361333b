-- The monomial goes behind the others, and is one that may be held.
use mathlib.Core.Path.{sym, ap, subst, ◌∙◌}
use mathlib.Core.List.{List, [], ◌∷◌, ◌++◌}
use Prim.Native.Nat.{◌+◌, ◌≤◌}
use native.Mathlib.Omega.{arith}
use lib.ListN.{length}
use Rattle.semantics.specs.Monomial.{Monomial}
use Rattle.semantics.specs.Lists.{All}
use Rattle.semantics.proofs.Sorting.{all_append}
use Rattle.monomial.specs.Words.{monomial_of, held, Fits}
use Rattle.monomial.proofs.Rows.{held_length}
use Rattle.monomial.proofs.work_list.WorkList.put.Goals as goal

pub invariant_of-self : goal.invariant_of-self
invariant_of-self c =
    let s = c.self.inside in
    let below : s.count + 1 ≤ 256 = omega (arith, c.requires.0, ap length c.self.view_is, held_length s.count s.work.now) in (
      below,
      omega (arith, c.self.invariant.1, c.put_monomial.auto.work),
      subst (All Fits) (sym c.put_monomial.ensures) (all_append Fits (held s.count s.work.now) (monomial_of c.args.m.now ∷ []) c.self.invariant.2 (c.requires.1, tt)),
    )

pub returns : goal.returns
returns c = c.put_monomial.ensures ∙ ap (λ (l : List Monomial). l ++ (monomial_of c.args.m.now ∷ [])) c.self.view_is
