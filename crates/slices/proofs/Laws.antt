-- Laws of filling and copying, over lists.
use mathlib.Core.Path.{◌≡◌, refl, ap, ◌∙◌}
use mathlib.Core.List.{List, [], ◌∷◌, ◌++◌, append_assoc}
use Prim.Native.Nat.{ℕ, ◌+◌, ◌-◌, ◌≤◌, ◌<◌}
use native.Mathlib.Numerals.{add-one}
use native.Mathlib.Omega.{arith}
use lib.ListN.{length, take, drop, replicate, set}
use lib.Seq.{take-suc-set, take_all, take_at}
use Rattle.std.proofs.lemmas.List.{append-nil, drop_all, replicate-append-replicate}

-- One more element at the end of what is written.
pub put_next : {A : Type 0} (o : List A) (k j : ℕ) (x : A) {front : List A} → j ≡ k + 1 → k < length o → take k o ≡ front → take j (set o k x) ≡ front ++ (x ∷ [])
put_next {A} o k j x e h f = ap (λ (m : ℕ). take m (set o k x)) (e ∙ add-one k) ∙ take-suc-set o k x h ∙ ap (λ (l : List A). l ++ (x ∷ [])) f

-- The same where one value is written from k on.
pub fill_next : {A : Type 0} (o front : List A) (k i : ℕ) (x : A) → k ≤ i → i < length o → take i o ≡ front ++ replicate (i - k) x
    → take (i + 1) (set o i x) ≡ front ++ replicate (i + 1 - k) x
fill_next {A} o front k i x h l e =
    put_next o i (i + 1) x refl l e ∙ append_assoc front (replicate (i - k) x) (x ∷ [])
    ∙ ap (λ (r : List A). front ++ r) (replicate-append-replicate (i - k) 1 x ∙ ap (λ (n : ℕ). replicate n x) (omega arith))

-- A slice that is as long as the list has it whole at its front.
pub copied_front : (list s s₀ : List ℕ) → length list ≤ length s₀ → s ≡ take (length s₀) list ++ drop (length list) s₀ → take (length list) s ≡ list
copied_front list s s₀ h e = ap (take (length list)) (e ∙ ap (λ (t : List ℕ). t ++ drop (length list) s₀) (take_all (length s₀) list h)) ∙ take_at list _ (length list) refl

-- A slice of the list's length is the list then.
pub copied_whole : {A : Type 0} (list s s₀ : List A) → length list ≡ length s₀ → s ≡ take (length s₀) list ++ drop (length list) s₀ → s ≡ list
copied_whole list s s₀ h e =
    e ∙ ap (λ (t : List _). t ++ drop (length list) s₀) (take_all (length s₀) list (omega (arith, h)))
    ∙ ap (λ (t : List _). list ++ t) (drop_all (length list) s₀ (omega (arith, h))) ∙ append-nil list
