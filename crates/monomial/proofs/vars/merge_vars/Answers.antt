use mathlib.Core.Path.{sym, ◌∙◌}
use native.Mathlib.Omega.{arith}
use borrow.Author.Rules.{rules}
use borrow.Author.Tests.{leb-false}
use Rattle.monomial.specs.Words.{nums}
use Rattle.monomial.proofs.Merging.{right_taken, left_taken, lower_told, lower_denied, merging_all}
use Rattle.monomial.proofs.vars.merge_vars.Goals as goal
use Rattle.monomial.proofs.vars.merge_vars.Goals.{then-j-m+then-lt, then-n-i, else-n-i, else-j-m, else-j-m-via-then-j-m+else-lt, else-j-m-via-else-j-m}

pub loop-k-preserved : goal.loop-k-preserved
loop-k-preserved c =
    let a = c.args in
    let l = c.loop-k in
    let right = right_taken a.a a.b l.r l.i a.n l.k a.m (search rules) (search rules) c.requires.0 l.invariant c.loop-k-test.true in
    let left = left_taken a.a a.b l.r l.i a.n l.k a.m (search rules) (search rules) c.requires.0 l.invariant c.loop-k-test.true in
    elim c.if-j-m.branch [
      | then-j-m+then-lt w ↦ right w.if-j-m.true
          (elim w.if-n-i.branch [
            | then-n-i v ↦ λ h. absurd (omega arith)
            | else-n-i v ↦ λ h. lower_told _ _ _ _ v.lt.ensures v.value-is w.if-lt.true
          ]) _ w.r-is _ w.i-is
      | else-j-m w ↦ elim w.else-j-m.branch [
        | else-j-m-via-then-j-m+else-lt v ↦ elim v.if-n-i.branch [
          | then-n-i u ↦ absurd (omega (arith, leb-false _ _ (sym u.value-is ∙ v.if-lt.false)))
          | else-n-i u ↦ left u.if-n-i.false (λ h. lower_denied _ _ _ _ u.lt.ensures u.value-is v.if-lt.false) _ w.r-is _ w.i-is
        ]
        | else-j-m-via-else-j-m v ↦ left (omega arith) (λ h. absurd (omega arith)) _ w.r-is _ w.i-is
      ]
    ]

pub returns : goal.returns
returns c =
    let a = c.args in
    let l = c.loop-k in
    let g = l.invariant in
    let e = c.requires.0 in
    merging_all (nums l.r) a.a a.b l.i a.n l.k a.m (omega arith) (omega arith) (omega arith) g.merging c.requires.1 c.requires.2
