-- Row by row. The loop's invariant: `Weighed`, of the words that are read and those that are left, and each column small enough for one row more (`Low`).
use Prim.Native.Nat.{ℕ, ◌*◌, ◌≤◌}
use Rattle.semantics.specs.Block.{weighted, words_of}
use Rattle.block.specs.declared.words.Column.{Column}
use Rattle.block.proofs.Laws.{rest, Weighed}
use Rattle.block.proofs.words.check_word.Given as goal

abbrev Low : ℕ → Column → Type 0
Low row column = (column.sum ≤ 4294967295 * row) × (column.sums ≤ 4294967295 * 31 * row)

abbrev pub invariant-loop-row : goal.invariant-loop-row
invariant-loop-row l =
    Low l.row l.a × Low l.row l.b × Low l.row l.c × Low l.row l.d
    × Weighed l.row (weighted 0 (words_of 127 l.block)) (rest 127 l.block (4 * l.row)) l.a l.b l.c l.d
