use mathlib.Core.Path.{ap, sym, subst, ◌∙◌}
use Rattle.semantics.specs.Check.{read_sheet}
use Rattle.records.specs.Named.{parts_of}
use Rattle.group.specs.Grouped.{tally_all, vars_named}
use Rattle.group.specs.Groups.{tallies, Counted}
use Rattle.grouping.proofs.NamedLists.{names_none, parts_next, parts_end, references_done, references_next, references_more, references_full}
use Rattle.grouping.proofs.families.tally_parts.Goals as goal

pub loop-x-init : goal.loop-x-init
loop-x-init c =
    names_none c.requires (ap (parts_of c.args.part) (c.into_iter-x-iterator.ensures.into_iter_gives ∙ c.interactions-x-items.ensures))

pub tally_references-requires : goal.tally_references-requires
tally_references-requires c = references_next c.loop-x.invariant _ _ (parts_next c.args.part c.in-Some.ensures.steps c.part.ensures)

pub returns-in_err-tally_references : goal.returns-in_err-tally_references
returns-in_err-tally_references c =
    let g = c.args.groups.now in
    let names = parts_of c.args.part (read_sheet c.args.sheet.words.now).interactions in
    subst (Counted g c.tally_references.new.groups (tally_all (vars_named g.pool.now names) (tallies g))) (sym c.from_residual.ensures)
    (references_full c.loop-x.invariant _ _ (parts_next c.args.part c.in-Some.ensures.steps c.part.ensures) c.in_err-tally_references.ensures)

pub loop-x-preserved : goal.loop-x-preserved
loop-x-preserved c =
    references_more c.loop-x.invariant _ _ (parts_next c.args.part c.in-Some.ensures.steps c.part.ensures) c.in_ok-tally_references.ensures

pub returns : goal.returns
returns c = references_done c.loop-x.invariant (parts_end c.args.part c.in-None.ensures.steps.0)
