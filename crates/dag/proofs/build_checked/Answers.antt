-- Scratch or output is too short, or the graph of the checked sheet is built in them.
use Rattle.dag.proofs.Outcomes.{scratch_short, out_short, graph_built, starting}
use Rattle.dag.proofs.build_checked.Goals as goal

pub returns-then-scratch-records : goal.returns-then-scratch-records
returns-then-scratch-records c = scratch_short c.args.sheet.checked c.num_records-records.ensures c.requires c.if-scratch-records.true

pub returns-then-out-words : goal.returns-then-out-words
returns-then-out-words c = out_short c.args.sheet.checked c.num_records-records.ensures c.requires c.if-scratch-records.false c.if-out-words.true

pub build_graph-written-requires : goal.build_graph-written-requires
build_graph-written-requires c =
    starting c.args.sheet.checked c.num_records-records.ensures c.requires c.if-scratch-records.false c.if-out-words.false

pub returns : goal.returns
returns c =
    let g = c.build_graph-written in
    graph_built c.args.sheet.checked c.num_records-records.ensures c.requires c.if-scratch-records.false c.if-out-words.false g.result g.new.out g.ensures.0 g.ensures.1
