-- The bus, the weight, the count's node and the message's length, then the nodes of its fields, one behind the other.
use Rattle.semantics.specs.Check.{read_interaction}
use Rattle.graph_lists.proofs.Naming.{count_asks, fields_room, interaction_put}
use Rattle.graph_lists.proofs.write_interaction.Goals as goal

pub node_number-count-requires : goal.node_number-count-requires
node_number-count-requires c = count_asks (read_interaction c.args.x.now.words.now) c.requires.0 c.count.ensures

pub write_references-requires : goal.write_references-requires
write_references-requires c =
    fields_room (read_interaction c.args.x.now.words.now) c.requires.0 c.args.out.now c.args.to c.requires.1 c.count.ensures c.fields.ensures
    c.node_number-count.ensures c.write_front-fields.ensures

pub returns : goal.returns
returns c =
    interaction_put (read_interaction c.args.x.now.words.now) c.requires.0 c.args.out.now c.args.to c.requires.1 c.count.ensures c.fields.ensures
    c.node_number-count.ensures c.write_front-fields.ensures c.word_count.ensures c.write_references.ensures
