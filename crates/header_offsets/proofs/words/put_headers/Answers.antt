use native.Mathlib.Omega.{arith}
use Rattle.header_offsets.proofs.HeaderWords.{none_put, one_put, all_put}
use Rattle.header_offsets.proofs.words.put_headers.Goals as goal

pub loop-j-init : goal.loop-j-init
loop-j-init c = none_put c.args.words.now c.args.at c.args.headers.now

pub loop-j-preserved : goal.loop-j-preserved
loop-j-preserved c =
    let a = c.args in
    let b = c.loop-j in
    one_put a.words.now a.at a.headers.now b.j b.words b.invariant (omega arith) (omega arith) c.put_header.new.words c.put_header.ensures

pub returns : goal.returns
returns c =
    let a = c.args in
    let b = c.loop-j in
    all_put a.words.now a.at a.headers.now b.j b.words b.invariant (omega arith)
