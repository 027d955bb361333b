-- The constraints' nodes are flagged, written behind the nodes in ascending order and plain again (`Behind`), then the interactions are
-- written, and last the head.
use mathlib.Core.Path.{◌≡◌, sym, ap, subst, ◌∙◌}
use mathlib.Core.List.{List}
use Prim.Native.Nat.{ℕ}
use native.Mathlib.Omega.{arith}
use lib.ListN.{length}
use Rattle.semantics.specs.Sheet.{place}
use Rattle.semantics.specs.Check.{read_sheet}
use Rattle.semantics.proofs.Places.{records_limit}
use Rattle.nodes.specs.Memory.{tabulate}
use Rattle.slices.specs.Putting.{Puts}
use Rattle.graph_lists.specs.Lists.{flagged, flagged_among, plain_below, marks_of, node_numbers, NodesNamed}
use Rattle.graph_lists.proofs.Graphing.{Behind, constraints_named, nodes_small, room_flagged, interactions_named, head_asks, graph_end, graph_written}
use Rattle.graph_lists.proofs.write_graph.Goals as goal

-- Behind the loop that flags, and behind the one that writes the flagged nodes.
flags : (ws scratch : List ℕ) {names s₁ : List ℕ} → names ≡ (read_sheet ws).constraints
    → s₁ ≡ tabulate 0 (length scratch) (flagged (marks_of scratch) (node_numbers (marks_of scratch) names))
    → s₁ ≡ tabulate 0 (length scratch) (flagged (marks_of scratch) (node_numbers (marks_of scratch) (read_sheet ws).constraints))
flags ws scratch e k = k ∙ ap (λ (xs : List ℕ). tabulate 0 (length scratch) (flagged (marks_of scratch) (node_numbers (marks_of scratch) xs))) e

behind : (ws : List ℕ) (n : ℕ) (s₁ : List ℕ) {out s₂ out₁ : List ℕ} {to next ints : ℕ} → to ≡ place 5 n
    → (s₂ ≡ tabulate 0 (length s₁) (plain_below n s₁)) × Puts out to (flagged_among 0 n s₁) out₁ next
    → ints ≡ length (read_sheet ws).interactions → Behind ws out n s₁ to s₂ out₁ next ints
behind ws n s₁ e w i = record { to_is = e; plain_is = w.0; out_is = w.1; ints_are = i }

pub flag_nodes-requires : goal.flag_nodes-requires
flag_nodes-requires c =
    subst (λ (xs : List ℕ). NodesNamed xs c.args.scratch.now) (sym c.constraints.ensures) (constraints_named c.args.sheet.checked c.requires)

pub records_end-to-requires : goal.records_end-to-requires
records_end-to-requires c = omega (arith, records_limit c.args.n (nodes_small c.args.sheet.checked c.requires))

pub write_flagged-next-requires : goal.write_flagged-next-requires
write_flagged-next-requires c =
    room_flagged c.args.sheet.checked c.requires (flags c.args.sheet.words.now _ c.constraints.ensures c.flag_nodes.ensures) c.records_end-to.result c.records_end-to.ensures

pub write_interactions-end-requires : goal.write_interactions-end-requires
write_interactions-end-requires c =
    let ws = c.args.sheet.words.now in
    let f = flags ws _ c.constraints.ensures c.flag_nodes.ensures in
    interactions_named c.args.sheet.checked c.requires f
    (behind ws _ _ c.records_end-to.ensures c.write_flagged-next.ensures c.num_interactions-interactions.ensures)

pub put_head-requires : goal.put_head-requires
put_head-requires c =
    let ws = c.args.sheet.words.now in
    let f = flags ws _ c.constraints.ensures c.flag_nodes.ensures in
    let b =
    behind ws _ _ c.records_end-to.ensures c.write_flagged-next.ensures c.num_interactions-interactions.ensures in
    head_asks c.args.sheet.checked c.requires f b c.write_interactions-end.ensures.out_is

pub returns : goal.returns
returns c =
    let ws = c.args.sheet.words.now in
    let k = c.args.sheet.checked in
    let p = c.requires in
    let f = flags ws _ c.constraints.ensures c.flag_nodes.ensures in
    let b =
    behind ws _ _ c.records_end-to.ensures c.write_flagged-next.ensures c.num_interactions-interactions.ensures in
    let o = c.write_interactions-end.ensures in
    (c.put_head.ensures ∙ graph_written k p f b o.out_is, graph_end k p f b o.out_is _ o.next_is)
