-- The terms that are placed are those of the family's roots: of the constraints, or of a part of every interaction.
use mathlib.Core.Path.{ap}
use Rattle.records.specs.declared.interactions.Part.TheVariants.{Count, Fields}
use Rattle.grouping.specs.Families.{form_of}
use Rattle.grouping.proofs.RootItems.{constraint_roots_lem, constraints_few, part_roots_lem, roots_as, family_ready, family_placed}
use Rattle.grouping.proofs.families.place_family.Goals as goal

pub place_references-requires : goal.place_references-requires
place_references-requires c =
    let ws = c.args.sheet.words.now in
    let h = c.args.sheet.checked in
    let e = c.constraints.ensures in
    let k = c.in-Constraints.is in
    (constraints_few ws h e, family_ready (ap form_of k) (roots_as ws k (constraint_roots_lem ws h e)) _ _ c.requires)

pub place_parts-requires : goal.place_parts-requires
place_parts-requires c =
    let ws = c.args.sheet.words.now in
    let k = c.in-Counts.is in
    family_ready (ap form_of k) (roots_as ws k (part_roots_lem Count ws)) _ _ c.requires

pub place_parts-requires-in-Fields : goal.place_parts-requires-in-Fields
place_parts-requires-in-Fields c =
    let ws = c.args.sheet.words.now in
    let k = c.in-Fields.is in
    family_ready (ap form_of k) (roots_as ws k (part_roots_lem Fields ws)) _ _ c.requires

pub returns-in-Constraints : goal.returns-in-Constraints
returns-in-Constraints c =
    let ws = c.args.sheet.words.now in
    let k = c.in-Constraints.is in
    family_placed (ap form_of k) (roots_as ws k (constraint_roots_lem ws c.args.sheet.checked c.constraints.ensures)) _ _ _ _ c.place_references.ensures

pub returns-in-Counts : goal.returns-in-Counts
returns-in-Counts c =
    let ws = c.args.sheet.words.now in
    let k = c.in-Counts.is in
    family_placed (ap form_of k) (roots_as ws k (part_roots_lem Count ws)) _ _ _ _ c.place_parts.ensures

pub returns-in-Fields : goal.returns-in-Fields
returns-in-Fields c =
    let ws = c.args.sheet.words.now in
    let k = c.in-Fields.is in
    family_placed (ap form_of k) (roots_as ws k (part_roots_lem Fields ws)) _ _ _ _ c.place_parts-in-Fields.ensures
