-- A refusal of the builder, or the graph that it wrote: each prints the same as the sheet.
use mathlib.Core.Path.{◌≡◌}
use mathlib.Core.List.{[], ◌∷◌}
use Prim.Native.Nat.{◌≤◌, ◌<◌}
use native.Mathlib.Omega.{arith}
use lib.ListN.{length, take, length-take}
use Rattle.semantics.specs.Arithmetic.{prime}
use Rattle.semantics.specs.Sheetlist.{decimal, line, refused_text, dag_text, graph_lines, sheet_lines}
use Rattle.answers.specs.Replies.{number_of}
use Rattle.listing.proofs.Writing.{room_is, puts_is}
use Rattle.sheet_listing.proofs.Printed.{built_refused, graph_written}
use Rattle.sheet_listing.proofs.put_sheet.Goals as goal

pub put_refused-requires : goal.put_refused-requires
put_refused-requires c =
    let refused : let u = c.unwrap_err.result in
    line (refused_text ∷ dag_text ∷ decimal (number_of u.reason) ∷ decimal u.place ∷ []) ≡ sheet_lines prime c.args.sheet.now =
    let v = c.build-built in
    let u = c.unwrap_err in
    built_refused c.args.sheet.now v.result c.build-built.new.scratch c.build-built.new.out v.ensures u.result u.ensures in
    room_is c.args.out.now refused c.requires

pub returns-in_default : goal.returns-in_default
returns-in_default c =
    let refused : let u = c.unwrap_err.result in
    line (refused_text ∷ dag_text ∷ decimal (number_of u.reason) ∷ decimal u.place ∷ []) ≡ sheet_lines prime c.args.sheet.now =
    let v = c.build-built in
    let u = c.unwrap_err in
    built_refused c.args.sheet.now v.result c.build-built.new.scratch c.build-built.new.out v.ensures u.result u.ensures in
    puts_is c.put_refused.ensures refused

pub slice_bounds-graph-end : goal.slice_bounds-graph-end
slice_bounds-graph-end c =
    let written : let words = take c.in-Ok.n c.build-built.new.out in
    (c.in-Ok.n ≤ length c.build-built.new.out) × (2 < length words) × (graph_lines prime words ≡ sheet_lines prime c.args.sheet.now) =
    let v = c.build-built in
    graph_written c.args.sheet.now v.result c.build-built.new.scratch c.build-built.new.out v.ensures c.in-Ok.n c.in-Ok.is in
    written.0

pub slice_bounds-put_graph-end : goal.slice_bounds-put_graph-end
slice_bounds-put_graph-end c =
    let written : let words = take c.in-Ok.n c.build-built.new.out in
    (c.in-Ok.n ≤ length c.build-built.new.out) × (2 < length words) × (graph_lines prime words ≡ sheet_lines prime c.args.sheet.now) =
    let v = c.build-built in
    graph_written c.args.sheet.now v.result c.build-built.new.scratch c.build-built.new.out v.ensures c.in-Ok.n c.in-Ok.is in
    omega (arith, written.0, length-take c.in-Ok.n c.build-built.new.out)

pub put_graph-requires : goal.put_graph-requires
put_graph-requires c =
    let written : let words = take c.in-Ok.n c.build-built.new.out in
    (c.in-Ok.n ≤ length c.build-built.new.out) × (2 < length words) × (graph_lines prime words ≡ sheet_lines prime c.args.sheet.now) =
    let v = c.build-built in
    graph_written c.args.sheet.now v.result c.build-built.new.scratch c.build-built.new.out v.ensures c.in-Ok.n c.in-Ok.is in
    let h = written in
    (h.1, room_is c.args.out.now h.2 c.requires)

pub returns : goal.returns
returns c =
    let written : let words = take c.in-Ok.n c.build-built.new.out in
    (c.in-Ok.n ≤ length c.build-built.new.out) × (2 < length words) × (graph_lines prime words ≡ sheet_lines prime c.args.sheet.now) =
    let v = c.build-built in
    graph_written c.args.sheet.now v.result c.build-built.new.scratch c.build-built.new.out v.ensures c.in-Ok.n c.in-Ok.is in
    puts_is c.put_graph.ensures written.2
