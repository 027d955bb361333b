-- The refusals of rotating: a sum of offsets that is too large is the only one.
use mathlib.Core.Path.{refl}
use mathlib.Core.List.{[], ◌∷◌}
use Prim.Native.Nat.{ℕ, ◌+◌}
use lib.Dec.{leb}
use Rattle.semantics.specs.Walk.{member}
use Rattle.semantics.proofs.Basics.{by_test}
use Rattle.semantics.proofs.Acceptance.{Within, then_sent, result_sent}
use Rattle.semantics.proofs.Refusals.{sends}
use Rattle.symbolic_variable.specs.declared.Entry.{Entry}
use Rattle.symbolic_variable.specs.declared.Entry.TheVariants.{Preprocessed, Main, Public, Challenge}
use Rattle.symbolic_variable.specs.Variable.{offset_moved, entry_rotated}
use Rattle.symbolic_variable.specs.Replies.{rotate_call, rotate_variable_call, RotateRefusals}

moved_within : (o k : ℕ) → Within (11 ∷ []) (offset_moved o k)
unfolding offset_moved member
moved_within o k = by_test (Within (11 ∷ [])) (leb (o + k) 18446744073709551615) (λ e. tt) (λ e. refl)

entry_within : (e : Entry) (k : ℕ) → Within (11 ∷ []) (entry_rotated e k)
entry_within (Preprocessed o) k = then_sent _ (offset_moved o k) _ (moved_within o k) (λ m. tt)
entry_within (Main p o) k = then_sent _ (offset_moved o k) _ (moved_within o k) (λ m. tt)
entry_within Public k = tt
entry_within Challenge k = tt

pub rotate_refusals : RotateRefusals
unfolding rotate_call rotate_variable_call
rotate_refusals = record {
  entry = λ e k. sends (11 ∷ []) [] [] _ (then_sent _ (entry_rotated e k) _ (entry_within e k) (λ m. result_sent _ _ _));
  variable = λ v k.
      sends (11 ∷ []) [] [] _
      (then_sent _ _ _ (then_sent _ (entry_rotated v.entry k) _ (entry_within v.entry k) (λ e. tt)) (λ m. result_sent _ _ _));
}
