-- The block's last word is compared with the check word of the words before it, which is what `block_good` compares (`good_word`).
use Rattle.block.proofs.Laws.{good_word}
use Rattle.block.proofs.words.block_good.Goals as goal

pub returns : goal.returns
returns c =
    good_word c.args.block.now c.args.number c.word_at.ensures c.check_word.ensures
