-- By the four kinds of entry: where there is an offset, by what `moved` answers; the others stay.
use Rattle.std.proofs.Common.{◌≡◌, ℕ, ◌⊎◌, inl, inr, sym, ap, ◌∙◌}
use Rattle.semantics.specs.Answer.{good}
use Rattle.answers.proofs.Outcomes.{goes_on, hands_back}
use Rattle.symbolic_variable.specs.declared.Entry.{Entry}
use Rattle.symbolic_variable.specs.declared.Entry.TheVariants.{Preprocessed, Main, Public, Challenge}
use Rattle.symbolic_variable.specs.Variable.{entry_rotated}
use Rattle.symbolic_variable.proofs.Entry.rotated.Goals as goal

-- A public or a challenge entry stays.
stays : (e : Entry) (k : ℕ) → (e ≡ Public) ⊎ (e ≡ Challenge) → good e ≡ entry_rotated e k
stays e k (inl is) = ap good is ∙ ap (λ (f : Entry). entry_rotated f k) (sym is)
stays e k (inr is) = ap good is ∙ ap (λ (f : Entry). entry_rotated f k) (sym is)

pub returns-in_default : goal.returns-in_default
returns-in_default c =
    sym (hands_back (λ m. good (Preprocessed m)) c.moved-sum.ensures c.unwrap_err.ensures)
    ∙ ap (λ (e : Entry). entry_rotated e c.args.offset) (sym c.in-Preprocessed.is)

pub returns-in_default-sum : goal.returns-in_default-sum
returns-in_default-sum c =
    sym (hands_back (λ m. good (Main c.in-Main.part_index m)) c.moved-sum-in-Main.ensures c.unwrap_err-in_default-sum.ensures)
    ∙ ap (λ (e : Entry). entry_rotated e c.args.offset) (sym c.in-Main.is)

pub returns-in-Ok : goal.returns-in-Ok
returns-in-Ok c =
    sym (goes_on (λ m. good (Preprocessed m)) c.moved-sum.ensures c.in-Ok.is)
    ∙ ap (λ (e : Entry). entry_rotated e c.args.offset) (sym c.in-Preprocessed.is)

pub returns-in-Ok-sum : goal.returns-in-Ok-sum
returns-in-Ok-sum c =
    sym (goes_on (λ m. good (Main c.in-Main.part_index m)) c.moved-sum-in-Main.ensures c.in-Ok-sum.is)
    ∙ ap (λ (e : Entry). entry_rotated e c.args.offset) (sym c.in-Main.is)

pub returns-in-Public : goal.returns-in-Public
returns-in-Public c = stays c.args.self c.args.offset c.in-Public.is
