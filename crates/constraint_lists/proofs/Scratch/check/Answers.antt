-- Each refusal is that of the first test of the two that fails.
use mathlib.Core.Path.{sym, ap, ◌∙◌}
use Prim.Native.Nat.{ℕ, ◌*◌}
use native.Mathlib.Omega.{arith}
use lib.ListN.{length}
use Rattle.semantics.specs.Answer.{refused}
use Rattle.semantics.specs.Call.{needs}
use Rattle.semantics.proofs.Calls.{needs_met, needs_short}
use Rattle.records.specs.Access.{records_of}
use Rattle.records.proofs.Reading.{counts_small}
use Rattle.constraint_lists.proofs.Scratch.check.Goals as goal

pub overflow_mul-heads : goal.overflow_mul-heads
overflow_mul-heads c = omega (arith, c.num_records-heads.ensures, (counts_small c.args.sheet.words.now c.args.sheet.checked).0)

pub returns-then-self-lt4096 : goal.returns-then-self-lt4096
returns-then-self-lt4096 c rest =
    let heads : ℕ = 2 * length (records_of c.args.sheet.words.now) in
    needs_short 14 4096 (length c.args.self.now.work.now) (needs 14 heads (length c.args.self.now.pool.now) rest) c.if-self-lt4096.true

pub returns-then-self-heads : goal.returns-then-self-heads
returns-then-self-heads c rest =
    let heads : ℕ = 2 * length (records_of c.args.sheet.words.now) in
    let pool : ℕ = length c.args.self.now.pool.now in
    ap (λ (n : ℕ). refused 14 (2 * n)) c.num_records-heads.ensures
    ∙ needs_short 14 heads pool rest (omega (arith, c.if-self-heads.true, c.num_records-heads.ensures))
    ∙ sym (needs_met 14 4096 (length c.args.self.now.work.now) (needs 14 heads pool rest) c.if-self-lt4096.false)

pub returns : goal.returns
returns c = (c.if-self-lt4096.false, omega (arith, c.if-self-heads.false, c.num_records-heads.ensures))
