-- The node that the search finds is the one, or there is none and it is written behind the others.
use Prim.Native.Nat.{◌+◌}
use native.Mathlib.Omega.{arith}
use Rattle.semantics.proofs.Places.{place_next, place_past}
use Rattle.records.specs.Access.{five_words}
use Rattle.nodes.proofs.NodeLaws.{is_there, is_new}
use Rattle.nodes.proofs.intern_node.Goals as goal

pub find_node-requires : goal.find_node-requires
find_node-requires c = (c.requires.0, omega (arith, place_next 5 c.args.n, c.requires.1))

pub returns-in-Some : goal.returns-in-Some
returns-in-Some c =
    let a = c.args in
    let h = c.in-Some.ensures in
    λ ns e z none. is_there a.out.now ns e a.n z a.from (five_words a.r) none c.in-Some.index h.1 h.0

pub put_record-requires : goal.put_record-requires
put_record-requires c = omega (arith, place_next 5 c.args.n, c.requires.1)

pub overflow_add-result : goal.overflow_add-result
overflow_add-result c = omega (arith, place_past 5 (c.args.n + 1) (omega arith), c.requires.1)

pub returns : goal.returns
returns c =
    let a = c.args in
    let f = c.in_default.ensures in
    λ ns e z none. is_new a.out.now ns e a.n z a.from (five_words a.r) none a.n f (omega arith) c.requires.1 _ c.put_record.ensures
