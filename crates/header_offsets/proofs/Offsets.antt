-- Totals over headers, and headers with their offsets.
use mathlib.Core.Path.{◌≡◌, refl, sym, ap, ◌∙◌}
use mathlib.Core.List.{List, [], ◌∷◌, ◌++◌}
use Prim.Native.Nat.{ℕ, zero, suc, ◌+◌, ◌<◌}
use native.Mathlib.Omega.{arith}
use lib.ListN.{length, get_or, take, replicate}
use lib.Seq.{take-suc, take_all}
use Rattle.header_offsets.specs.declared.MonomialHeader.{MonomialHeader}
use Rattle.header_offsets.specs.Headers.{num_vars_of, num_terms_of, column_total, offset_at, with_offsets, no_header}

pub total_append : (number : MonomialHeader → ℕ) (xs ys : List MonomialHeader) → column_total number (xs ++ ys) ≡ column_total number xs + column_total number ys
unfolding column_total
total_append number [] ys = omega arith
total_append number (x ∷ xs) ys = omega (arith, total_append number xs ys)

pub total_none : (number : MonomialHeader → ℕ) → number no_header ≡ 0 → (k : ℕ) → column_total number (replicate k no_header) ≡ 0
unfolding column_total
total_none number e zero = refl
total_none number e (suc k) = omega (arith, total_none number e k)

pub offsets_length : (v t : ℕ) (hs : List MonomialHeader) → length (with_offsets v t hs) ≡ length hs
unfolding with_offsets
offsets_length v t [] = refl
offsets_length v t (h ∷ hs) = ap suc (offsets_length (v + num_vars_of h) (t + num_terms_of h) hs)

-- The headers behind others: their offsets count on.
pub offsets_append : (v t : ℕ) (xs ys : List MonomialHeader)
    → with_offsets v t (xs ++ ys) ≡ with_offsets v t xs ++ with_offsets (v + column_total num_vars_of xs) (t + column_total num_terms_of xs) ys
unfolding with_offsets column_total
offsets_append v t [] ys =
    let a : v ≡ v + 0 = omega arith in
    let b : t ≡ t + 0 = omega arith in
    λ i. with_offsets (a i) (b i) ys
offsets_append v t (x ∷ xs) ys =
    let a : v + num_vars_of x + column_total num_vars_of xs ≡ v + (num_vars_of x + column_total num_vars_of xs) = omega arith in
    let b : t + num_terms_of x + column_total num_terms_of xs ≡ t + (num_terms_of x + column_total num_terms_of xs) = omega arith in
    ap (λ (r : List MonomialHeader). offset_at v t x ∷ r) (offsets_append (v + num_vars_of x) (t + num_terms_of x) xs ys)
    ∙ λ i. offset_at v t x ∷ (with_offsets (v + num_vars_of x) (t + num_terms_of x) xs ++ with_offsets (a i) (b i) ys)

-- Each offset is the total of the matching number over the headers before it.
pub offset_at_lem : (v t : ℕ) (hs : List MonomialHeader) (i : ℕ) → i < length hs
    → get_or (with_offsets v t hs) i no_header ≡ offset_at (v + column_total num_vars_of (take i hs)) (t + column_total num_terms_of (take i hs)) (get_or hs i no_header)
unfolding with_offsets column_total
offset_at_lem v t [] i l = absurd (omega arith)
offset_at_lem v t (h ∷ hs) zero l =
    let a : v ≡ v + 0 = omega arith in
    let b : t ≡ t + 0 = omega arith in
    λ i. offset_at (a i) (b i) h
offset_at_lem v t (h ∷ hs) (suc i) l =
    let a : v + num_vars_of h + column_total num_vars_of (take i hs) ≡ v + (num_vars_of h + column_total num_vars_of (take i hs)) = omega arith in
    let b : t + num_terms_of h + column_total num_terms_of (take i hs) ≡ t + (num_terms_of h + column_total num_terms_of (take i hs)) = omega arith in
    offset_at_lem (v + num_vars_of h) (t + num_terms_of h) hs i (omega arith) ∙ λ j. offset_at (a j) (b j) (get_or hs i no_header)

-- The last header's offset and number are the total over all.
total_last : (number : MonomialHeader → ℕ) (hs : List MonomialHeader) (k : ℕ) → length hs ≡ suc k
    → column_total number (take k hs) + number (get_or hs k no_header) ≡ column_total number hs
unfolding column_total
total_last number hs k e =
    let l : column_total number (take k hs ++ (get_or hs k no_header ∷ [])) ≡ column_total number hs =
    ap (column_total number) (sym (take-suc hs k no_header (omega arith)) ∙ take_all (suc k) hs (omega arith)) in
    omega (arith, total_append number (take k hs) (get_or hs k no_header ∷ []))

module _ (v t : ℕ) (hs : List MonomialHeader) (k : ℕ) (e : length hs ≡ suc k) where
  pub vars_carried : (get_or (with_offsets v t hs) k no_header).var_offset + num_vars_of (get_or (with_offsets v t hs) k no_header) ≡ v + column_total num_vars_of hs
  vars_carried =
      ap (λ (h : MonomialHeader). h.var_offset + num_vars_of h) (offset_at_lem v t hs k (omega arith)) ∙ omega (arith, total_last num_vars_of hs k e)

  pub terms_carried : (get_or (with_offsets v t hs) k no_header).term_offset + num_terms_of (get_or (with_offsets v t hs) k no_header) ≡ t + column_total num_terms_of hs
  terms_carried =
      ap (λ (h : MonomialHeader). h.term_offset + num_terms_of h) (offset_at_lem v t hs k (omega arith))
      ∙ omega (arith, total_last num_terms_of hs k e)
