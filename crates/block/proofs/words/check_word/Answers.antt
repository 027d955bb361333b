-- A row adds one word to each column; behind the last row 8 times the sums of sums is taken off.
use borrow.Author.Rules.{rules}
use mathlib.Core.Path.{◌≡◌, refl}
use Prim.Native.Nat.{ℕ, ◌+◌, ◌*◌}
use native.Mathlib.Omega.{arith}
use Rattle.semantics.specs.Block.{weighted, words_of}
use Rattle.block.proofs.Laws.{rest, rest_all, weighed_more, sums_fit, sums_taken, row_words, last_words, summed}
use Rattle.block.proofs.words.check_word.Goals as goal

pub loop-row-init : goal.loop-row-init
loop-row-init c =
    let a = c.args in
    (search rules, search rules, search rules, search rules, omega (arith, rest_all 127 a.block.now))

pub loop-row-preserved : goal.loop-row-preserved
loop-row-preserved c =
    let a = c.args in
    let b = c.loop-row in
    let row : ℕ = b.row in
    let words =
    row_words a.block.now row (16 * row) (search rules) refl c.word_at.ensures c.word_at-in-loop-row.ensures
    c.word_at-in-loop-row-2.ensures c.word_at-in-loop-row-3.ensures in (
      search rules,
      search rules,
      search rules,
      search rules,
      weighed_more row _ _ _ b.a b.b b.c b.d _ _ _ _ _ _ _ _ b.invariant.4 c.with_word-a.ensures c.with_word-b.ensures
          c.with_word-c.ensures c.with_word-d.ensures words,
    )

pub overflow_sub-sum : goal.overflow_sub-sum
overflow_sub-sum c =
    let a = c.args in
    let b = c.loop-row in
    let end-words : 249 * c.word_at-2.result + 251 * c.word_at-3.result + 253 * c.word_at-4.result ≡ rest 127 a.block.now 124 =
    last_words a.block.now c.word_at-2.ensures c.word_at-3.ensures c.word_at-4.ensures in
    let rows : b.row ≡ 31 = search rules in
    sums_fit a.number (weighted 0 (words_of 127 a.block.now)) b.row a.block.now b.a b.b b.c b.d _ _ _ b.invariant.4 rows end-words

pub returns : goal.returns
returns c =
    let a = c.args in
    let b = c.loop-row in
    let end-words : 249 * c.word_at-2.result + 251 * c.word_at-3.result + 253 * c.word_at-4.result ≡ rest 127 a.block.now 124 =
    last_words a.block.now c.word_at-2.ensures c.word_at-3.ensures c.word_at-4.ensures in
    let rows : b.row ≡ 31 = search rules in
    summed a.number _ (words_of 127 a.block.now)
    (sums_taken a.number (weighted 0 (words_of 127 a.block.now)) b.row a.block.now b.a b.b b.c b.d _ _ _ b.invariant.4 rows end-words)
