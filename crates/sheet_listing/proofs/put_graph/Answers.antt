-- A refusal of `max_rotation`, or the graph's line and behind it what the graph's lists print: each is what the graph prints.
use mathlib.Core.Path.{◌≡◌}
use mathlib.Core.List.{[], ◌∷◌, ◌++◌}
use Rattle.semantics.specs.Arithmetic.{prime}
use Rattle.semantics.specs.Sheetlist.{decimal, line, refused_text, dag_text, graph_lines, constraint_step}
use Rattle.answers.specs.Replies.{number_of}
use Rattle.listing.proofs.Writing.{room_is, room_front, room_next, puts_is, puts_next}
use Rattle.listing.proofs.Steps.{dag_line}
use Rattle.sheet_listing.proofs.Printed.{rotation_refused, graph_joins}
use Rattle.sheet_listing.proofs.put_graph.Goals as goal

pub put_refused-requires : goal.put_refused-requires
put_refused-requires c =
    let refused : let u = c.unwrap_err.result in
    line (refused_text ∷ dag_text ∷ decimal (number_of u.reason) ∷ decimal u.place ∷ []) ≡ graph_lines prime c.args.graph.now =
    let v = c.max_rotation-rotated in
    let u = c.unwrap_err in
    rotation_refused c.args.graph.now v.result v.ensures u.result u.ensures in
    room_is c.args.out.now refused c.requires.1

pub returns-in_default : goal.returns-in_default
returns-in_default c =
    let refused : let u = c.unwrap_err.result in
    line (refused_text ∷ dag_text ∷ decimal (number_of u.reason) ∷ decimal u.place ∷ []) ≡ graph_lines prime c.args.graph.now =
    let v = c.max_rotation-rotated in
    let u = c.unwrap_err in
    rotation_refused c.args.graph.now v.result v.ensures u.result u.ensures in
    puts_is c.put_refused.ensures refused

pub put_dag_line-requires : goal.put_dag_line-requires
put_dag_line-requires c =
    let joined : dag_line c.args.graph.now c.in-Ok.rotation ++ constraint_step prime c.args.graph.now ≡ graph_lines prime c.args.graph.now =
    let v = c.max_rotation-rotated in
    graph_joins c.args.graph.now v.result v.ensures c.in-Ok.rotation c.in-Ok.is in
    room_front c.args.out.now (dag_line c.args.graph.now c.in-Ok.rotation) (constraint_step prime c.args.graph.now) joined c.requires.1

pub put_constraints-requires : goal.put_constraints-requires
put_constraints-requires c =
    let joined : dag_line c.args.graph.now c.in-Ok.rotation ++ constraint_step prime c.args.graph.now ≡ graph_lines prime c.args.graph.now =
    let v = c.max_rotation-rotated in
    graph_joins c.args.graph.now v.result v.ensures c.in-Ok.rotation c.in-Ok.is in
    room_next c.put_dag_line.ensures (constraint_step prime c.args.graph.now) joined c.requires.1

pub returns : goal.returns
returns c =
    let joined : dag_line c.args.graph.now c.in-Ok.rotation ++ constraint_step prime c.args.graph.now ≡ graph_lines prime c.args.graph.now =
    let v = c.max_rotation-rotated in
    graph_joins c.args.graph.now v.result v.ensures c.in-Ok.rotation c.in-Ok.is in
    puts_next c.put_dag_line.ensures (constraint_step prime c.args.graph.now) joined c.requires.1 c.put_constraints.ensures
