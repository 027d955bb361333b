-- The names that are counted are those of the family's roots: the constraints, or a part of every interaction.
use Rattle.records.specs.declared.interactions.Part.TheVariants.{Count, Fields}
use Rattle.grouping.proofs.RootItems.{constraint_nodes, part_nodes, nodes_as}
use Rattle.grouping.proofs.Fitting.{known, fit_start, fit_counted}
use Rattle.grouping.proofs.families.tally_family.Goals as goal

pub tally_references-requires : goal.tally_references-requires
tally_references-requires c =
    let ws = c.args.sheet.words.now in
    let p = c.requires in
    fit_start _ (known c.args.family c.args.sheet.checked p.0) p.1 (nodes_as ws c.in-Constraints.is (constraint_nodes ws c.args.sheet.checked c.constraints.ensures))

pub tally_parts-requires : goal.tally_parts-requires
tally_parts-requires c =
    let ws = c.args.sheet.words.now in
    let p = c.requires in
    fit_start _ (known c.args.family c.args.sheet.checked p.0) p.1 (nodes_as ws c.in-Counts.is (part_nodes Count ws))

pub tally_parts-requires-in-Fields : goal.tally_parts-requires-in-Fields
tally_parts-requires-in-Fields c =
    let ws = c.args.sheet.words.now in
    let p = c.requires in
    fit_start _ (known c.args.family c.args.sheet.checked p.0) p.1 (nodes_as ws c.in-Fields.is (part_nodes Fields ws))

pub returns-in-Constraints : goal.returns-in-Constraints
returns-in-Constraints c =
    let ws = c.args.sheet.words.now in
    let p = c.requires in
    fit_counted _ (known c.args.family c.args.sheet.checked p.0) p.1 (nodes_as ws c.in-Constraints.is (constraint_nodes ws c.args.sheet.checked c.constraints.ensures))
    _ _ c.tally_references.ensures

pub returns-in-Counts : goal.returns-in-Counts
returns-in-Counts c =
    let ws = c.args.sheet.words.now in
    let p = c.requires in
    fit_counted _ (known c.args.family c.args.sheet.checked p.0) p.1 (nodes_as ws c.in-Counts.is (part_nodes Count ws)) _ _ c.tally_parts.ensures

pub returns-in-Fields : goal.returns-in-Fields
returns-in-Fields c =
    let ws = c.args.sheet.words.now in
    let p = c.requires in
    fit_counted _ (known c.args.family c.args.sheet.checked p.0) p.1 (nodes_as ws c.in-Fields.is (part_nodes Fields ws)) _ _ c.tally_parts-in-Fields.ensures
