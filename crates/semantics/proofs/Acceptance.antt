-- What numbers the steps of a call send, and what an accepted call tells of its steps: no refusal has the number 0, so it comes from a result.
use mathlib.Core.Path.{◌≡◌, refl, sym, subst}
use mathlib.Core.Bool.{Bool, false}
use mathlib.Core.List.{List, [], ◌∷◌}
use Prim.Native.Nat.{ℕ, zero, suc, ◌≤◌}
use native.Mathlib.Omega.{arith}
use lib.Dec.{eqb, leb, ltb}
use lib.ListN.{length}
use borrow.Author.Tests.{eqb-false, leb-true}
use Rattle.semantics.specs.Answer.{Answer, good, refused, and_then}
use Rattle.semantics.specs.Sheet.{Record}
use Rattle.semantics.specs.Check.{Scan, reading, stopped, scan_words, scan_part, scan_parts, scan_spare, scan_sheet, judged, check}
use Rattle.semantics.specs.Packing.{pack_fault}
use Rattle.semantics.specs.Value.{record_at}
use Rattle.semantics.specs.Walk.{Mem, member}
use Rattle.semantics.specs.Monomial.{Monomial}
use Rattle.semantics.specs.Expand.{longer, work_fault, record_fault, expand_record, expand_all}
use Rattle.semantics.specs.Call.{Result, Accepted, outcome, needs, result, first_short, fitted}
use Rattle.semantics.specs.Refusals.{of_sheet}
use Rattle.semantics.specs.Lists.{All}
use Rattle.semantics.proofs.Basics.{by_test, not_both}
use Rattle.semantics.proofs.Encoding.{good_injective, refused≢good}

-- A refusal's number has the property; the property of each number that a step names is then enough.
abbrev pub Sent : (ℕ → Type 0) → {X : Type 0} → Answer X → Type 0
Sent P (good x) = Unit {0}
Sent P (refused n k) = P n

abbrev Stops : (ℕ → Type 0) → Scan → Type 0
Stops P (reading i ws) = Unit {0}
Stops P (stopped n k) = P n

module _ (P : ℕ → Type 0) where
  words_sent : (n : ℕ) → P n → P 4 → (ts : List (ℕ → Bool)) (s : Scan) → Stops P s → Stops P (scan_words n ts s)
  unfolding scan_words
  words_sent n h four [] s r = r
  words_sent n h four (t ∷ ts) (reading i []) r = four
  words_sent n h four (t ∷ ts) (reading i (w ∷ ws)) r =
      let ih = words_sent n h four ts (reading (suc i) ws) tt in
      by_test (Stops P) (t w) (λ e. ih) (λ e. h)
  words_sent n h four (t ∷ ts) (stopped m k) r = r

  -- No word is missing where there are as many as tests.
  pub words_there : (n : ℕ) → P n → (ts : List (ℕ → Bool)) (i : ℕ) (ws : List ℕ) → length ts ≤ length ws → Stops P (scan_words n ts (reading i ws))
  unfolding scan_words
  words_there n h [] i ws l = tt
  words_there n h (t ∷ ts) i [] l = absurd (omega arith)
  words_there n h (t ∷ ts) i (w ∷ ws) l =
      let ih = words_there n h ts (suc i) ws (omega arith) in
      by_test (Stops P) (t w) (λ e. ih) (λ e. h)

  part_sent : (n : ℕ) → P n → P 4 → (tests : List ℕ → List (ℕ → Bool)) (s : Scan) → Stops P s → Stops P (scan_part n tests s)
  unfolding scan_part
  part_sent n h four tests (reading i ws) r = words_sent n h four (tests ws) (reading i ws) tt
  part_sent n h four tests (stopped m k) r = r

  parts_sent : (n : ℕ) → P n → P 4 → (tests : ℕ → List ℕ → List (ℕ → Bool)) (count own : ℕ) (s : Scan) → Stops P s → Stops P (scan_parts n tests count own s)
  unfolding scan_parts
  parts_sent n h four tests zero own s r = r
  parts_sent n h four tests (suc count) own s r =
      parts_sent n h four tests count (suc own) (scan_part n (tests own) s) (part_sent n h four (tests own) s r)

  spare_sent : P 7 → (room : ℕ) (s : Scan) → Stops P s → Stops P (scan_spare room s)
  unfolding scan_spare
  spare_sent h room (reading i []) r = tt
  spare_sent h zero (reading i (w ∷ ws)) r = h
  spare_sent h (suc room) (reading i (w ∷ ws)) r =
      let ih = spare_sent h room (reading (suc i) ws) tt in
      by_test (Stops P) (eqb w 0) (λ e. ih) (λ e. h)
  spare_sent h room (stopped m k) r = r

  pub judged_sent : {X : Type 0} (s : Scan) (x : X) → Stops P s → Sent P (judged s x)
  unfolding judged
  judged_sent (reading i ws) x r = tt
  judged_sent (stopped n k) x r = r

  pub check_sent : All P of_sheet → (p : ℕ) (ws : List ℕ) → Sent P (check p ws)
  unfolding check scan_sheet
  check_sent (three, (four, (five, (six, (seven, _))))) p ws =
      judged_sent (scan_sheet p ws) _
      (spare_sent seven 126 _ (parts_sent 6 six four _ _ 0 _ (words_sent 6 six four _ _ (parts_sent 5 five four _ _ 0 _
      (words_sent 3 three four _ (reading 0 ws) tt)))))

  pub then_sent : {X Y : Type 0} (a : Answer X) (f : X → Answer Y) → Sent P a → ((x : X) → Sent P (f x)) → Sent P (and_then a f)
  unfolding and_then
  then_sent (good x) f r h = h x
  then_sent (refused n k) f r h = r

  pub result_sent : (outputs : List (List ℕ)) (numbers : List ℕ) → Sent P (result outputs numbers)
  unfolding result
  result_sent outputs numbers = tt

  pub needs_sent : {X : Type 0} (number needed lent : ℕ) (rest : Answer X) → P number → Sent P rest → Sent P (needs number needed lent rest)
  unfolding needs
  needs_sent number needed lent rest h r = by_test (Sent P) (leb needed lent) (λ e. r) (λ e. h)

  -- A fault is 0, or a number with the property.
  pub pack_fault_lem : All P (8 ∷ 9 ∷ 10 ∷ 11 ∷ []) → (r : Record) → (pack_fault r ≡ 0 → ⊥) → P (pack_fault r)
  unfolding pack_fault
  pack_fault_lem (eight, (nine, (ten, (eleven, _)))) r =
      let F : ℕ → Type 0 = λ n. (n ≡ 0 → ⊥) → P n in
      by_test F (eqb r.kind 1)
      (λ k. by_test F (ltb 65535 r.d) (λ e z. eight) (λ d. by_test F (eqb r.a 2) (λ e z. nine)
      (λ a. by_test F (ltb 255 r.b) (λ e z. ten) (λ b. by_test F (ltb 15 r.c) (λ e z. eleven) (λ c z. absurd (z refl))))))
      (λ k z. absurd (z refl))

  work_fault_lem : P 12 → P 13 → (ms : List Monomial) → (work_fault ms ≡ 0 → ⊥) → P (work_fault ms)
  unfolding work_fault
  work_fault_lem twelve thirteen ms =
      let F : ℕ → Type 0 = λ n. (n ≡ 0 → ⊥) → P n in
      by_test F (ltb 256 (length ms)) (λ e z. twelve) (λ e. by_test F (longer 14 ms) (λ f z. thirteen) (λ f z. absurd (z refl)))

  module _ (packs : All P (8 ∷ 9 ∷ 10 ∷ 11 ∷ [])) (twelve : P 12) (thirteen : P 13) (sixteen : P 16) (p : ℕ) (rs : List Record) (pool : ℕ) where
    record_fault_lem : (i : ℕ) → (record_fault p rs i ≡ 0 → ⊥) → P (record_fault p rs i)
    unfolding record_fault
    record_fault_lem i =
        let F : ℕ → Type 0 = λ n. (n ≡ 0 → ⊥) → P n in
        by_test F (eqb (pack_fault (record_at rs i)) 0) (λ e. work_fault_lem twelve thirteen _) (λ e. pack_fault_lem packs (record_at rs i))

    expand_sent : (i used : ℕ) → Sent P (expand_record p rs pool i used)
    unfolding expand_record
    expand_sent i used =
        by_test (Sent P) (eqb (record_fault p rs i) 0) (λ e. by_test (Sent P) (leb _ pool) (λ f. tt) (λ f. sixteen))
        (λ e. record_fault_lem i (eqb-false (record_fault p rs i) 0 e))

    pub walk_sent : (s : List ℕ) → Sent P (expand_all p rs pool s)
    unfolding expand_all
    walk_sent [] = tt
    walk_sent (i ∷ s) = then_sent (expand_all p rs pool s) (expand_record p rs pool i) (walk_sent s) (expand_sent i)

  pub fitted_sent : P 17 → (outputs : List (List ℕ)) (lent numbers : List ℕ) → Sent P (fitted outputs lent numbers)
  unfolding fitted result
  fitted_sent h outputs lent numbers = by_test (Sent P) (eqb (first_short 1 outputs lent) 0) (λ e. tt) (λ e. h)

-- One of these numbers.
abbrev pub Within : List ℕ → {X : Type 0} → Answer X → Type 0
Within ns a = Sent (λ (n : ℕ). Mem n ns) a

-- The steps of a result.
pub accepted_result : (scratch lent : List ℕ) (ns : List ℕ) (a : Answer Result) → member 0 ns ≡ false → Within ns a
    → Accepted (outcome scratch lent a) → (r : Result) × (a ≡ good r)
unfolding outcome
accepted_result scratch lent ns (good r) z h e = (r, refl)
accepted_result scratch lent ns (refused n k) z h e = not_both (subst (λ (m : ℕ). Mem m ns) e h) z

pub then_result : {X Y : Type 0} (a : Answer X) (f : X → Answer Y) (y : Y) → and_then a f ≡ good y → (x : X) × (a ≡ good x) × (f x ≡ good y)
unfolding and_then
then_result (good x) f y e = (x, refl, e)
then_result (refused n k) f y e = refused≢good e

pub needs_result : {X : Type 0} (number needed lent : ℕ) (rest : Answer X) (x : X) → needs number needed lent rest ≡ good x → (needed ≤ lent) × (rest ≡ good x)
unfolding needs
needs_result number needed lent rest x =
    by_test (λ (a : Answer _). a ≡ good x → (needed ≤ lent) × (rest ≡ good x)) (leb needed lent) (λ e h. (leb-true needed lent e, h)) (λ e h. refused≢good h)

pub fitted_result : (outputs : List (List ℕ)) (lent numbers : List ℕ) (r : Result) → fitted outputs lent numbers ≡ good r
    → r ≡ record { outputs = outputs; numbers = numbers }
unfolding fitted result
fitted_result outputs lent numbers r =
    by_test (λ (a : Answer Result). a ≡ good r → r ≡ record { outputs = outputs; numbers = numbers }) (eqb (first_short 1 outputs lent) 0)
    (λ e h. sym (good_injective h)) (λ e h. refused≢good h)
