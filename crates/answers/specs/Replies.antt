-- What the answers that all calls share stand for (01, "What each call hands back").
use Rattle.std.specs.Prelude.{List, [], ◌∷◌, ◌++◌, ℕ, length, take, Result, Ok, Err, codes}
use Rattle.std.specs.Fmt.{decimal}
use Rattle.semantics.specs.Answer.{Answer, good, refused}
use Rattle.semantics.specs.Call.{Reply, Outcome, accepted_with, refused_with, padded}
use Rattle.answers.specs.declared.Reason.{Reason}
use Rattle.answers.specs.declared.Reason.TheVariants as reason
use Rattle.answers.specs.declared.Refusal.{Refusal}

-- The numbers of the refusals.
abbrev pub number_of : Reason → ℕ
number_of reason.WrongLength = 1
number_of reason.WrongCheck = 2
number_of reason.WrongHead = 3
number_of reason.PastEnd = 4
number_of reason.WrongRecord = 5
number_of reason.WrongName = 6
number_of reason.WrongSpare = 7
number_of reason.ColumnTooLarge = 8
number_of reason.ChallengeRefused = 9
number_of reason.PartTooLarge = 10
number_of reason.OffsetTooLarge = 11
number_of reason.ListTooLong = 12
number_of reason.ProductTooLong = 13
number_of reason.ScratchTooShort = 14
number_of reason.OutputTooShort = 15
number_of reason.PoolTooShort = 16
number_of reason.SliceTooShort = 17

-- "A refusal is a number and a place"
abbrev pub refused_reply : Refusal → Reply
refused_reply r = refused_with (number_of r.reason) r.place

-- Numbers in decimal, parted by spaces; and a refusal as a line shows it.
abbrev pub numbers_text : List ℕ → List ℕ
numbers_text [] = []
numbers_text (n ∷ []) = decimal n
numbers_text (n ∷ m ∷ ns) = decimal n ++ (32 ∷ numbers_text (m ∷ ns))

abbrev pub refusal_text : Refusal → List ℕ
refusal_text r = codes "refused " ++ numbers_text (number_of r.reason ∷ r.place ∷ [])

-- An answer, by what it is where the call accepts.
abbrev pub reply_of : {X : Type 0} → (accepted : X → Reply) → Result X Refusal → Reply
reply_of accepted (Ok x) = accepted x
reply_of accepted (Err r) = refused_reply r

-- The same as an answer of the definitions.
abbrev pub answer_of : {X : Type 0} → Result X Refusal → Answer X
answer_of (Ok x) = good x
answer_of (Err r) = refused (number_of r.reason) r.place

-- "Acceptance is number 0 with the count of words (or bytes) written to each slice"
abbrev pub written_reply : Result ℕ Refusal → Reply
written_reply = reply_of (λ (n : ℕ). accepted_with (n ∷ []) [])

abbrev pub written_outcome : Result ℕ Refusal → (out : List ℕ) → Outcome
written_outcome r out = record { reply = written_reply r; slices = out ∷ [] }

-- How much was written; and the outcome, once the rest of the output is zeroed.
abbrev pub count_of : Result ℕ Refusal → ℕ
count_of (Ok n) = n
count_of (Err r) = 0

abbrev pub rest_zeroed : Result ℕ Refusal → (out : List ℕ) → Outcome
rest_zeroed r out = written_outcome r (padded (take (count_of r) out) (length out))

-- "Both hand back the number with 0."
abbrev pub counted_reply : Result ℕ Refusal → Reply
counted_reply = reply_of (λ (n : ℕ). accepted_with [] (n ∷ []))

abbrev pub counted_outcome : Result ℕ Refusal → Outcome
counted_outcome r = record { reply = counted_reply r; slices = [] }
