use mathlib.Core.Path.{refl, sym, subst}
use Rattle.group.specs.Grouped.{tally_all, vars_named}
use Rattle.group.specs.Groups.{tallies, Counted}
use Rattle.grouping.proofs.NamedLists.{names_none, names_done, names_ready, names_more, names_full}
use Rattle.grouping.proofs.families.tally_references.Goals as goal

pub loop-r-init : goal.loop-r-init
loop-r-init c = record { left = names_none c.requires refl }

pub tally_root-requires : goal.tally_root-requires
tally_root-requires c = names_ready c.loop-r.invariant c.loop-r-test.true

pub returns-in_err-tally_root : goal.returns-in_err-tally_root
returns-in_err-tally_root c =
    let g = c.args.groups.now in
    subst (Counted g c.tally_root.new.self (tally_all (vars_named g.pool.now c.args.names.now) (tallies g))) (sym c.from_residual.ensures)
    (names_full c.loop-r.invariant c.loop-r-test.true c.in_err-tally_root.ensures)

pub loop-r-preserved : goal.loop-r-preserved
loop-r-preserved c = names_more c.loop-r.invariant c.loop-r-test.true c.in_ok-tally_root.ensures

pub returns : goal.returns
returns c = names_done c.loop-r.invariant c.loop-r-test.false
