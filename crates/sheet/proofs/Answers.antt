-- What the answer of the check tells a caller.
use mathlib.Core.Path.{◌≡◌, refl, sym, ◌∙◌, ap}
use mathlib.Core.List.{List, [], ◌∷◌}
use Prim.Native.Nat.{ℕ, ◌+◌, ◌≤◌}
use native.Mathlib.Omega.{arith}
use lib.ListN.{length, get_or, take}
use lib.Seq.{take_at}
use Rattle.std.specs.Prelude.{Result, Ok, Err}
use Rattle.semantics.specs.Answer.{Answer, good, refused, and_then}
use Rattle.semantics.specs.Sheet as semantics
use Rattle.semantics.specs.Check.{check}
use Rattle.semantics.specs.Call.{Result as Made, Outcome, refused_with, outcome, padded_all, result, on_sheet, check_call}
use Rattle.semantics.proofs.Encoding.{check_sound, check_inside, length_limit}
use Rattle.answers.specs.declared.Refusal.{Refusal}
use Rattle.answers.specs.Replies.{number_of}
use Rattle.sheet.specs.declared.Head.{Head}
use Rattle.sheet.specs.Replies.{checked_outcome}

-- The counts of a sheet.
abbrev pub head_of : semantics.Sheet → Head
head_of t = record {
  records = length t.records;
  constraints = length t.constraints;
  interactions = length t.interactions;
  start = semantics.place 5 (length t.records) + length t.constraints;
  words = semantics.length_of t;
}

-- The outcome of the check, by its answer.
abbrev pub told : Answer semantics.Sheet → Outcome
told (good t) = checked_outcome (Ok (head_of t))
told (refused n k) = record { reply = refused_with n k; slices = [] }

pub check_told : (p : ℕ) (ws : List ℕ) → told (check p ws) ≡ check_call p ws
unfolding check_call on_sheet outcome padded_all result and_then
check_told p ws = go (check p ws)
  where
    go : (a : Answer semantics.Sheet) → told a ≡ outcome [] [] (and_then a (λ t. result [] (
        length t.records ∷ length t.constraints ∷ length t.interactions ∷ semantics.length_of t
        ∷ (semantics.place 5 (length t.records) + length t.constraints) ∷ [])))
    go (good t) = refl
    go (refused n k) = refl

-- The number at a place of a reply.
abbrev number_at : ℕ → Outcome → ℕ
number_at k o = get_or o.reply.numbers k 0

abbrev how_many : Outcome → ℕ
how_many o = length o.reply.numbers

-- A sheet was found, or the check refused.
module _ (p : ℕ) (ws : List ℕ) {r : Result Head Refusal} (e : checked_outcome r ≡ check_call p ws) where
  pub found : {h : Head} → r ≡ Ok h → (t : semantics.Sheet) × (check p ws ≡ good t) × (h ≡ head_of t)
  found {h} q = go (check p ws) refl (sym (ap checked_outcome q) ∙ e ∙ sym (check_told p ws))
    where
      go : (a : Answer semantics.Sheet) → check p ws ≡ a → checked_outcome (Ok h) ≡ told a
          → (t : semantics.Sheet) × (check p ws ≡ good t) × (h ≡ head_of t)
      go (good t) c o = (
        t,
        c,
        λ i. record {
          records = number_at 0 (o i);
          constraints = number_at 1 (o i);
          interactions = number_at 2 (o i);
          start = number_at 4 (o i);
          words = number_at 3 (o i);
        },
      )
      go (refused n k) c o = absurd (omega (arith, ap how_many o))

  pub not_found : {v : Refusal} → r ≡ Err v → refused (number_of v.reason) v.place ≡ check p ws
  not_found {v} q = go (check p ws) (sym (ap checked_outcome q) ∙ e ∙ sym (check_told p ws))
    where
      go : (a : Answer semantics.Sheet) → checked_outcome (Err v) ≡ told a → refused (number_of v.reason) v.place ≡ a
      go (good t) o = absurd (omega (arith, ap how_many o))
      go (refused n k) o = λ i. refused (o i).reply.number (o i).reply.place

-- The words of a sheet that was found stand in front.
module _ (p : ℕ) (ws : List ℕ) {t : semantics.Sheet} (e : check p ws ≡ good t) {h : Head} (q : h ≡ head_of t) where
  pub words_found : take h.words ws ≡ semantics.encode t
  unfolding semantics.length_of
  words_found =
      ap (λ (k : Head). take k.words ws) q ∙ ap (take (semantics.length_of t)) (check_sound p ws t e).1.2
      ∙ take_at (semantics.encode t) _ (semantics.length_of t) refl

  pub words_few : h.words ≤ 90116
  words_few = omega (arith, ap (λ (k : Head). k.words) q, length_limit p t (check_inside p ws t e))

  pub words_inside : h.words ≡ length (take h.words ws)
  unfolding semantics.length_of
  words_inside = ap (λ (k : Head). k.words) q ∙ sym (ap length words_found)

-- The rest of a call goes on with the sheet, or is not reached.
module _ (p : ℕ) (ws : List ℕ) (rest : semantics.Sheet → Answer Made) where
  pub on_found : {t : semantics.Sheet} → check p ws ≡ good t → rest t ≡ on_sheet p ws rest
  unfolding on_sheet and_then
  on_found e = ap (λ (a : Answer semantics.Sheet). and_then a rest) (sym e)

  pub on_refused : {r : Result Head Refusal} {v : Refusal} → checked_outcome r ≡ check_call p ws → r ≡ Err v → refused (number_of v.reason) v.place ≡ on_sheet p ws rest
  unfolding on_sheet and_then
  on_refused e q = ap (λ (a : Answer semantics.Sheet). and_then a rest) (not_found p ws e q)
