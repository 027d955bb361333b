-- Each word stands behind those read before it.
use borrow.Author.Rules.{rules}
use Rattle.block_reader.proofs.Reading.{words_none, words_more, words_all}
use Rattle.block_reader.proofs.read_block.Goals as goal

pub loop-i-init : goal.loop-i-init
loop-i-init c = words_none c.args.block.now c.args.out.now c.requires.1

pub loop-i-preserved : goal.loop-i-preserved
loop-i-preserved c = words_more c.loop-i.invariant (search rules) c.word_at.ensures

pub returns : goal.returns
returns c = words_all c.loop-i.invariant (search rules)
