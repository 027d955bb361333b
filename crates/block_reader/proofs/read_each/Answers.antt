-- A block that is not good stops the reading; the words of a good one stand behind those of the blocks before it.
use mathlib.Core.Path.{sym, ap, ◌∙◌}
use mathlib.Core.List.{List, ◌++◌}
use Prim.Native.Nat.{ℕ, ◌+◌, ◌*◌}
use borrow.Author.Rules.{rules}
use lib.ListN.{take}
use Rattle.std.proofs.lemmas.List.{take_rest}
use Rattle.std.proofs.lemmas.Slice.{take-put_mid}
use Rattle.semantics.specs.Block.{words_of, block_good}
use Rattle.block_reader.proofs.Reading.{block_bad, block_more, blocks_all}
use Rattle.block_reader.proofs.read_each.Goals as goal

pub returns-then-not-block_good : goal.returns-then-not-block_good
returns-then-not-block_good c =
    let l = c.loop-k in
    block_bad l.invariant (search rules)
    (sym c.if-not-block_good.true ∙ c.block_good.ensures ∙ ap (block_good (l.k + 1)) (take_rest c.args.bytes.now (512 * l.k)))

pub loop-k-preserved : goal.loop-k-preserved
loop-k-preserved c =
    let l = c.loop-k in
    let bytes = c.args.bytes.now in
    let words = c.read_block.ensures ∙ ap (words_of 127) (take_rest bytes (512 * l.k)) in
    block_more l.invariant (search rules) _
    (sym c.if-not-block_good.false ∙ c.block_good.ensures ∙ ap (block_good (l.k + 1)) (take_rest bytes (512 * l.k)))
    (search rules)
    (take-put_mid (127 * l.k) _ l.out c.read_block.new.out (127 * l.k + 127) (search rules) (search rules)
    ∙ ap (λ (ws : List ℕ). take (127 * l.k) l.out ++ ws) words)

pub returns : goal.returns
returns c = blocks_all c.loop-k.invariant (search rules) (search rules)
