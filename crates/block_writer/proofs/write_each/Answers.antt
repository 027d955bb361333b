-- Each block stands behind those before it.
use mathlib.Core.Path.{ap, ◌∙◌}
use mathlib.Core.List.{List, ◌++◌}
use Prim.Native.Nat.{ℕ, ◌+◌, ◌*◌}
use borrow.Author.Rules.{rules}
use lib.ListN.{take}
use Rattle.std.proofs.lemmas.List.{take_rest}
use Rattle.std.proofs.lemmas.Slice.{take-put_mid}
use Rattle.semantics.specs.Block.{first_words, block_bytes}
use Rattle.block_writer.proofs.Writing.{one_put, all_put}
use Rattle.block_writer.proofs.write_each.Goals as goal

pub loop-k-preserved : goal.loop-k-preserved
loop-k-preserved c =
    let l = c.loop-k in
    let block = c.write_block.ensures ∙ ap (λ (ws : List ℕ). block_bytes (l.k + 1) (first_words 127 ws)) (take_rest c.args.s.now (127 * l.k)) in
    one_put l.invariant _ (search rules) (search rules)
    (take-put_mid (512 * l.k) _ l.out c.write_block.new.block (512 * l.k + 512) (search rules) (search rules)
    ∙ ap (λ (bs : List ℕ). take (512 * l.k) l.out ++ bs) block)

pub returns : goal.returns
returns c = all_put c.loop-k.invariant (search rules)
