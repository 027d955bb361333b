use mathlib.Core.Path.{refl}
use native.Mathlib.Omega.{arith}
use Rattle.header_offsets.proofs.Chunks.{filled_none, vars_room, terms_room, vars_fit, terms_fit, filled_next, filled_all}
use Rattle.header_offsets.proofs.words.fill_words.Goals as goal

pub loop-i-init : goal.loop-i-init
loop-i-init c = filled_none c.args.words.now c.args.n

pub fill_offsets-requires : goal.fill_offsets-requires
fill_offsets-requires c =
    let g = c.loop-i.invariant in
    let k = c.min-k.ensures in
    let e = c.take_headers-headers.ensures in
    (vars_room g k e c.requires.1, terms_room g k e c.requires.2)

pub overflow_add-vars : goal.overflow_add-vars
overflow_add-vars c =
    record {
      fits = vars_fit c.loop-i.invariant c.min-k.ensures c.take_headers-headers.ensures c.fill_offsets.ensures c.requires.1;
    }

pub overflow_add-terms : goal.overflow_add-terms
overflow_add-terms c =
    record {
      fits = terms_fit c.loop-i.invariant c.min-k.ensures c.take_headers-headers.ensures c.fill_offsets.ensures c.requires.2;
    }

pub loop-i-preserved : goal.loop-i-preserved
loop-i-preserved c =
    filled_next c.loop-i.invariant c.min-k.ensures c.take_headers-headers.ensures c.fill_offsets.ensures c.put_headers.ensures
    (omega (arith, c.min-k.ensures))

pub returns-2 : goal.returns-2
returns-2 c =
    filled_all (filled_next c.loop-i.invariant c.min-k.ensures c.take_headers-headers.ensures c.fill_offsets.ensures c.put_headers.ensures refl)
    (omega (arith, c.min-k.ensures))
