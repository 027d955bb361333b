use Rattle.number_input.proofs.Reading.{reads_digit, reads_end, reads_most}
use Rattle.number_input.proofs.next_number.Goals as goal

pub returns-then-byte-lt48-clause-number : goal.returns-then-byte-lt48-clause-number
returns-then-byte-lt48-clause-number g c =
    (reads_end _ _ _ c.loop.counter c.BYTES-end.result _ _ _ _ c.loop.invariant c.loop-test.true c.in_ok-byte.ensures.byte c.in_ok-byte.ensures.rest c.if-byte-lt48.true).0

pub returns-then-byte-lt48-clause-rest : goal.returns-then-byte-lt48-clause-rest
returns-then-byte-lt48-clause-rest g c =
    (reads_end _ _ _ c.loop.counter c.BYTES-end.result _ _ _ _ c.loop.invariant c.loop-test.true c.in_ok-byte.ensures.byte c.in_ok-byte.ensures.rest c.if-byte-lt48.true).1

pub loop-preserved : goal.loop-preserved
loop-preserved g c =
    reads_digit _ _ _ c.loop.counter c.BYTES-end.result _ _ _ _ _ c.loop.invariant c.loop-test.true c.in_ok-byte.ensures.byte c.in_ok-byte.ensures.rest c.if-byte-lt48.false
    c.with_digit-value.ensures

pub returns-clause-number : goal.returns-clause-number
returns-clause-number g c = (reads_most _ _ _ c.loop.counter c.BYTES-end.result _ _ c.loop.invariant c.loop-test.false).0

pub returns-clause-rest : goal.returns-clause-rest
returns-clause-rest g c = (reads_most _ _ _ c.loop.counter c.BYTES-end.result _ _ c.loop.invariant c.loop-test.false).1
