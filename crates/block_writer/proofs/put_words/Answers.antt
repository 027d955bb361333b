-- Each word stands behind those before it; the zeros behind the last of them are the bytes of words that are 0.
use Rattle.std.proofs.Common.{◌≡◌, ap, sym, ◌∙◌, ℕ, ◌++◌, ◌-◌, ◌*◌, take, replicate, arith, rules}
use Rattle.std.proofs.lemmas.Slice.{take-put_mid}
use Rattle.block_writer.proofs.Writing.{put_none, put_more, put_all}
use Rattle.block_writer.proofs.put_words.Goals as goal

pub loop-i-init : goal.loop-i-init
loop-i-init c = put_none c.args.s.now c.args.block.now

pub loop-i-preserved : goal.loop-i-preserved
loop-i-preserved c =
    let put = c.put_word in
    put_more c.loop-i.invariant put.new.out (search rules) (search rules) put.auto.out put.ensures

pub returns : goal.returns
returns c =
    let l = c.loop-i in
    let n : l.i ≡ c.min-n.result = omega (arith, l.auto.i-end) in
    let zeros : c.fill.new.self ≡ replicate (508 - 4 * c.min-n.result) 0 = search rules in
    put_all l.invariant (n ∙ c.min-n.ensures) _
    (take-put_mid (4 * c.min-n.result) _ l.block c.fill.new.self 508 (search rules) (search rules)
    ∙ (λ i. take (4 * sym n i) l.block ++ (zeros ∙ ap (λ (k : ℕ). replicate (508 - 4 * k) 0) (sym n)) i))
