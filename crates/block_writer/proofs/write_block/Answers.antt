-- The words are put, the check word is computed from them where they stand, and put behind them.
use borrow.Author.Rules.{rules}
use Rattle.semantics.specs.Block.{first_words}
use Rattle.block_writer.proofs.Writing.{block_put}
use Rattle.block_writer.proofs.write_block.Goals as goal

pub returns : goal.returns
returns c =
    let put = c.put_word in
    let words = c.put_words in
    block_put (first_words 127 c.args.s.now) words.new.block put.new.out c.args.number
    words.ensures.0 words.ensures.1 c.check_word-check.ensures (search rules) put.ensures
