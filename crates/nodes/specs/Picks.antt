-- What the rules' answers mean.
use Rattle.semantics.specs.Graph as graph
use Rattle.records.specs.Access.{five_words}
use Rattle.nodes.specs.declared.rules.Pick.{Pick}
use Rattle.nodes.specs.declared.rules.Pick.TheVariants.{Present, Make}

abbrev pub pick_of : Pick → graph.Pick
pick_of (Present n) = graph.present n
pick_of (Make r) = graph.make (five_words r)
