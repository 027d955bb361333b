-- The rows of the work list.
use mathlib.Core.Path.{◌≡◌, refl, ap, ◌∙◌}
use mathlib.Core.List.{List, []}
use Prim.Native.Nat.{ℕ, ◌*◌, ◌<◌}
use native.Mathlib.Omega.{arith}
use lib.ListN.{length, get_or, take, drop, length-map}
use Rattle.slices.specs.Rows.{rows}
use Rattle.slices.proofs.Rows.{rows_length, rows_at}
use Rattle.semantics.specs.Monomial.{Monomial}
use Rattle.semantics.proofs.Lists.{get_or_map}
use Rattle.monomial.specs.Words.{read_monomial, held}

-- The work list, row by row.
pub held_length : (n : ℕ) (ws : List ℕ) → length (held n ws) ≡ n
unfolding held
held_length n ws = length-map (rows 16 n ws) read_monomial ∙ rows_length 16 n ws

pub held_at : (n k : ℕ) (ws : List ℕ) (d : Monomial) → k < n → get_or (held n ws) k d ≡ read_monomial (take 16 (drop (16 * k) ws))
unfolding held
held_at n k ws d h = get_or_map read_monomial (rows 16 n ws) k [] d (omega (arith, rows_length 16 n ws)) ∙ ap read_monomial (rows_at 16 n k ws h)

pub held_zero : (ws : List ℕ) → held 0 ws ≡ []
unfolding held rows
held_zero ws = refl
