-- What the outcome of a call tells: its counts are inside its slices, and its refusals have a number.
use mathlib.Core.Path.{◌≡◌, refl, sym, ap, subst, ◌∙◌}
use mathlib.Core.Bool.{false}
use mathlib.Core.List.{List, [], ◌∷◌, ◌++◌, map}
use Prim.Native.Nat.{ℕ, zero, suc, ◌+◌, ◌-◌, ◌≤◌, ◌<◌}
use native.Mathlib.Omega.{arith}
use lib.ListN.{length, get_or, length-append, length-map}
use lib.Seq.{get_or-append-add}
use Rattle.semantics.specs.Answer.{Answer, good, refused, and_then}
use Rattle.semantics.specs.Sheet.{Sheet}
use Rattle.semantics.specs.Check.{check}
use Rattle.semantics.specs.Graph.{max_rotation}
use Rattle.semantics.specs.Call.{Outcome, Result, Accepted, zeros, padded, padded_all, outcome, result, on_sheet, expansion_of, expansion}
use Rattle.semantics.specs.Call.{reader_call, builder_call, max_rotation_call, constraint_call, interaction_call}
use Rattle.semantics.specs.Sheetlist.{decimal, line, refused_text, step}
use Rattle.semantics.specs.Walk.{Mem, member}
use Rattle.semantics.specs.Refusals.{of_sheet, of_expansion}
use Rattle.semantics.proofs.Basics.{not_both}
use Rattle.semantics.proofs.Acceptance.{Within}
use Rattle.semantics.proofs.Refusals.{check_within, reader_within, builder_within, expansion_within}
use Rattle.answers.specs.declared.Refusal.{Refusal}
use Rattle.answers.specs.Replies.{number_of, refused_reply}
use Rattle.listing.proofs.Steps.{step_refused}

pub record Sound (scratch : ℕ) (o : Outcome) : Type 0 where
  pub inside : (k : ℕ) → scratch + k < length o.slices → get_or o.reply.counts k 0 ≤ length (get_or o.slices (scratch + k) [])
  pub real : o.reply.counts ≡ [] → scratch < length o.slices → Accepted o → ⊥

pad_inside : (ws : List (List ℕ)) (lent : List ℕ) (k : ℕ) → k < length (padded_all ws lent) → get_or (map length ws) k 0 ≤ length (get_or (padded_all ws lent) k [])
unfolding padded_all padded
pad_inside [] lent k h = absurd (omega arith)
pad_inside (w ∷ ws) [] k h = absurd (omega arith)
pad_inside (w ∷ ws) (n ∷ ns) zero h = omega (arith, length-append w (zeros (n - length w)))
pad_inside (w ∷ ws) (n ∷ ns) (suc k) h = pad_inside ws ns k (omega arith)

none_padded : (ws : List (List ℕ)) (lent : List ℕ) → map length ws ≡ [] → length (padded_all ws lent) ≡ 0
unfolding padded_all
none_padded [] lent e = refl
none_padded (w ∷ ws) lent e = absurd (let z : suc (length (map length ws)) ≡ 0 = ap length e in omega arith)

module _ (scratch lent : List ℕ) where
  module _ (r : Result) where
    all_length : length (map zeros scratch ++ padded_all r.outputs lent) ≡ length scratch + length (padded_all r.outputs lent)
    all_length = length-append (map zeros scratch) (padded_all r.outputs lent) ∙ omega (arith, length-map scratch zeros)

    output_at_lem : (k : ℕ) → get_or (map zeros scratch ++ padded_all r.outputs lent) (length scratch + k) [] ≡ get_or (padded_all r.outputs lent) k []
    output_at_lem k =
        ap (λ (n : ℕ). get_or (map zeros scratch ++ padded_all r.outputs lent) (n + k) []) (sym (length-map scratch zeros))
        ∙ get_or-append-add (map zeros scratch) (padded_all r.outputs lent) k []

  pub outcome_sound : (ns : List ℕ) (a : Answer Result) → member 0 ns ≡ false → Within ns a → Sound (length scratch) (outcome scratch lent a)
  unfolding outcome
  outcome_sound ns (good r) z h = record {
    inside = λ k l. subst (λ (s : List ℕ). get_or (map length r.outputs) k 0 ≤ length s) (sym (output_at_lem r k))
        (pad_inside r.outputs lent k (omega (arith, all_length r)));
    real = λ e l a. omega (arith, all_length r, none_padded r.outputs lent e);
  }
  outcome_sound ns (refused n k) z h = record { inside = λ k l. omega arith; real = λ e l a. not_both (subst (λ (m : ℕ). Mem m ns) a h) z }

-- The calls.
pub reader_sound : (bytes : List ℕ) (out : ℕ) → Sound 0 (reader_call bytes (out ∷ []))
unfolding reader_call
reader_sound bytes out = outcome_sound [] (out ∷ []) (1 ∷ 15 ∷ 2 ∷ []) _ (unfold member in refl) (reader_within bytes out)

module _ (p : ℕ) (ws : List ℕ) where
  pub builder_sound : (scratch out : ℕ) → Sound 1 (builder_call p ws (scratch ∷ out ∷ []))
  unfolding builder_call
  builder_sound scratch out =
      outcome_sound (scratch ∷ []) (out ∷ []) (of_sheet ++ (14 ∷ 15 ∷ [])) _ (unfold member in refl) (builder_within p ws scratch out)

  expansion_sound : (work pool : ℕ) (lent : List ℕ) (roots : _) (outputs : Sheet → List (List ℕ)) (numbers : Sheet → List ℕ)
      → Sound 2 (expansion p ws (work ∷ pool ∷ lent) (expansion_of p (work ∷ pool ∷ lent) roots outputs numbers))
  unfolding expansion
  expansion_sound work pool lent roots outputs numbers =
      outcome_sound (work ∷ pool ∷ []) lent (of_sheet ++ of_expansion) _ (unfold member in refl)
      (expansion_within p ws work pool lent roots outputs numbers)

  pub constraint_sound : (work pool h v t : ℕ) → Sound 2 (constraint_call p ws (work ∷ pool ∷ h ∷ v ∷ t ∷ []))
  unfolding constraint_call
  constraint_sound work pool h v t = expansion_sound work pool _ _ _ _

  pub interaction_sound : (work pool h v t h' v' t' : ℕ) → Sound 2 (interaction_call p ws (work ∷ pool ∷ h ∷ v ∷ t ∷ h' ∷ v' ∷ t' ∷ []))
  unfolding interaction_call
  interaction_sound work pool h v t h' v' t' = expansion_sound work pool _ _ _ _

-- `max_rotation` hands back a number where it accepts.
abbrev rotated : Answer Sheet → Outcome
rotated a = outcome [] [] (and_then a (λ s. result [] (max_rotation s ∷ [])))

rotated_real : (a : Answer Sheet) → Within of_sheet a → (rotated a).reply.numbers ≡ [] → Accepted (rotated a) → ⊥
unfolding outcome result and_then member
rotated_real (good s) h e a = let z : suc zero ≡ zero = ap length e in omega arith
rotated_real (refused n k) h e a = not_both (subst (λ (m : ℕ). Mem m of_sheet) a h) refl

pub rotation_real : (p : ℕ) (ws : List ℕ) → (max_rotation_call p ws).reply.numbers ≡ [] → Accepted (max_rotation_call p ws) → ⊥
unfolding max_rotation_call on_sheet
rotation_real p ws = rotated_real (check p ws) (check_within p ws)

-- A refusal ends the output with its line.
pub refused_line : (name : List ℕ) (o : Outcome) (rest : List ℕ) (x : Refusal) → refused_reply x ≡ o.reply → (Accepted o → ⊥)
    → line (refused_text ∷ name ∷ decimal (number_of x.reason) ∷ decimal x.place ∷ []) ≡ step name o rest
refused_line name o rest x e h =
    (λ i. line (refused_text ∷ name ∷ decimal (e i).number ∷ decimal (e i).place ∷ [])) ∙ step_refused name o rest h

-- The same for a call that has an output.
pub output_refused : (name : List ℕ) (scratch : ℕ) (o : Outcome) (rest : List ℕ) (x : Refusal) → Sound scratch o → refused_reply x ≡ o.reply → scratch < length o.slices
    → line (refused_text ∷ name ∷ decimal (number_of x.reason) ∷ decimal x.place ∷ []) ≡ step name o rest
output_refused name scratch o rest x s e l = refused_line name o rest x e (s.real (ap (λ y. y.counts) (sym e)) l)
