-- The offsets of headers in words, filled sixteen headers at a time.
use mathlib.Core.Path.{◌≡◌, refl, sym, ap, subst, ◌∙◌}
use mathlib.Core.List.{List, ◌++◌, append_assoc}
use Prim.Native.Nat.{ℕ, ◌+◌, ◌*◌, ◌-◌, ◌≤◌, ◌<◌, ◌^◌, min}
use native.Mathlib.Omega.{arith}
use lib.ListN.{length, get_or, take, drop, replicate}
use lib.Seq.{take_at, drop_at, drop-drop, length-take-le}
use Rattle.header_offsets.specs.declared.MonomialHeader.{MonomialHeader}
use Rattle.header_offsets.specs.Headers.{num_vars_of, num_terms_of, column_total, with_offsets, no_header, headers_in, header_words, filled_words}
use Rattle.header_offsets.proofs.Offsets.{total_append, total_none, offsets_length, offsets_append, vars_carried, terms_carried}
use Rattle.header_offsets.proofs.HeaderWords.{in_length, in_append, words_length, words_append, Taken, taken_length}

-- The words of i headers with their offsets.
abbrev front : (i : ℕ) (ws : List ℕ) → List ℕ
front i ws = header_words (with_offsets 0 0 (headers_in i ws))

front_length : (i : ℕ) (ws : List ℕ) → length (front i ws) ≡ 4 * i
front_length i ws =
    words_length (with_offsets 0 0 (headers_in i ws)) ∙ ap (λ (n : ℕ). 4 * n) (offsets_length 0 0 (headers_in i ws) ∙ in_length i ws)

pub filled_front : (n : ℕ) (ws : List ℕ) → take (4 * n) (filled_words n ws) ≡ header_words (with_offsets 0 0 (headers_in n ws))
unfolding filled_words
filled_front n ws = take_at (front n ws) (drop (4 * n) ws) (4 * n) (front_length n ws)

pub filled_rest : (n : ℕ) (ws : List ℕ) → drop (4 * n) (filled_words n ws) ≡ drop (4 * n) ws
unfolding filled_words
filled_rest n ws = drop_at (front n ws) (drop (4 * n) ws) (4 * n) (front_length n ws)

-- The first i headers have their offsets; vars and terms are the totals over them.
pub record Filled (ws₀ : List ℕ) (n : ℕ) (ws : List ℕ) (vars terms i : ℕ) : Type 0 where
  pub upto : i ≤ n
  pub words_are : ws ≡ filled_words i ws₀
  pub vars_are : vars ≡ column_total num_vars_of (headers_in i ws₀)
  pub terms_are : terms ≡ column_total num_terms_of (headers_in i ws₀)

pub filled_none : (ws : List ℕ) (n : ℕ) → Filled ws n ws 0 0 0
unfolding filled_words headers_in with_offsets header_words column_total
filled_none ws n = record { upto = omega arith; words_are = refl; vars_are = refl; terms_are = refl }

total_in : (number : MonomialHeader → ℕ) (i k : ℕ) (ws : List ℕ)
    → column_total number (headers_in (i + k) ws) ≡ column_total number (headers_in i ws) + column_total number (headers_in k (drop (4 * i) ws))
total_in number i k ws = ap (column_total number) (in_append i k ws) ∙ total_append number (headers_in i ws) (headers_in k (drop (4 * i) ws))

module _ {ws₀ : List ℕ} {n : ℕ} {ws : List ℕ} {vars terms i : ℕ} (g : Filled ws₀ n ws vars terms i) {k : ℕ} (q : k ≡ min (n - i) 16)
    {taken : List MonomialHeader} (e : Taken (drop (4 * i) ws) k taken) where
  upto_next : i + k ≤ n
  upto_next = let u = g.upto in omega arith

  -- The headers that are taken stand as they did.
  as_before : headers_in k (drop (4 * i) ws) ≡ headers_in k (drop (4 * i) ws₀)
  as_before = ap (headers_in k) (ap (drop (4 * i)) g.words_are ∙ filled_rest i ws₀)

  total_taken : (number : MonomialHeader → ℕ) → number no_header ≡ 0 → column_total number (headers_in i ws₀) + column_total number taken ≡ column_total number (headers_in (i + k) ws₀)
  total_taken number z =
      let a = ap (column_total number) (e ∙ ap (λ (r : List MonomialHeader). r ++ replicate (16 - k) no_header) as_before)
      ∙ total_append number (headers_in k (drop (4 * i) ws₀)) (replicate (16 - k) no_header) in
      omega (arith, total_none number z (16 - k), total_in number i k ws₀)

  fits : (number : MonomialHeader → ℕ) → number no_header ≡ 0 → column_total number (headers_in i ws₀) + column_total number taken ≤ column_total number (headers_in n ws₀)
  fits number z =
      let m : n ≡ i + k + (n - (i + k)) = omega (arith, upto_next) in
      let a = ap (λ (j : ℕ). column_total number (headers_in j ws₀)) m in
      omega (arith, total_taken number z, total_in number (i + k) (n - (i + k)) ws₀)

  pub vars_room : column_total num_vars_of (headers_in n ws₀) ≤ 4294967295 → vars + column_total num_vars_of taken ≤ 4294967295
  vars_room h = let a = g.vars_are in omega (arith, fits num_vars_of refl)

  pub terms_room : column_total num_terms_of (headers_in n ws₀) ≤ 4294967295 → terms + column_total num_terms_of taken ≤ 4294967295
  terms_room h = let a = g.terms_are in omega (arith, fits num_terms_of refl)

  module _ {filled : List MonomialHeader} (f : filled ≡ with_offsets vars terms taken) where
    sixteen : length taken ≡ 16
    sixteen = taken_length (drop (4 * i) ws) k taken e (omega arith)

    abbrev last : MonomialHeader
    last = get_or filled 15 no_header

    vars_next : last.var_offset + num_vars_of last ≡ column_total num_vars_of (headers_in (i + k) ws₀)
    vars_next =
        let a = g.vars_are in
        ap (λ (r : List MonomialHeader). (get_or r 15 no_header).var_offset + num_vars_of (get_or r 15 no_header)) f
        ∙ vars_carried vars terms taken 15 sixteen
        ∙ omega (arith, total_taken num_vars_of refl)

    pub vars_fit : column_total num_vars_of (headers_in n ws₀) ≤ 4294967295 → last.var_offset + num_vars_of last < 2 ^ 32
    vars_fit h = omega (arith, vars_next, total_taken num_vars_of refl, fits num_vars_of refl)

    terms_next : last.term_offset + num_terms_of last ≡ column_total num_terms_of (headers_in (i + k) ws₀)
    terms_next =
        let a = g.terms_are in
        ap (λ (r : List MonomialHeader). (get_or r 15 no_header).term_offset + num_terms_of (get_or r 15 no_header)) f
        ∙ terms_carried vars terms taken 15 sixteen
        ∙ omega (arith, total_taken num_terms_of refl)

    pub terms_fit : column_total num_terms_of (headers_in n ws₀) ≤ 4294967295 → last.term_offset + num_terms_of last < 2 ^ 32
    terms_fit h = omega (arith, terms_next, total_taken num_terms_of refl, fits num_terms_of refl)

    -- The first k of the headers with their offsets.
    first : take k filled ≡ with_offsets (column_total num_vars_of (headers_in i ws₀)) (column_total num_terms_of (headers_in i ws₀)) (headers_in k (drop (4 * i) ws₀))
    first =
        let X : List MonomialHeader = headers_in k (drop (4 * i) ws₀) in
        let Z : List MonomialHeader = replicate (16 - k) no_header in
        let v : ℕ = column_total num_vars_of (headers_in i ws₀) in
        let t : ℕ = column_total num_terms_of (headers_in i ws₀) in
        let x : taken ≡ X ++ Z = e ∙ ap (λ (r : List MonomialHeader). r ++ Z) as_before in
        ap (take k) (f ∙ (λ j. with_offsets (g.vars_are j) (g.terms_are j) (x j)) ∙ offsets_append v t X Z)
        ∙ take_at (with_offsets v t X) (with_offsets (v + column_total num_vars_of X) (t + column_total num_terms_of X) Z) k (offsets_length v t X ∙ in_length k (drop (4 * i) ws₀))

    first_length : length (take k filled) ≡ k
    first_length = length-take-le k filled (let l = ap length f ∙ offsets_length vars terms taken ∙ sixteen in omega arith)

    words_next : {ws' : List ℕ} → ws' ≡ take (4 * i) ws ++ (header_words (take k filled) ++ drop (4 * i + 4 * length (take k filled)) ws) → ws' ≡ filled_words (i + k) ws₀
    unfolding filled_words
    words_next w =
        let X : List MonomialHeader = headers_in k (drop (4 * i) ws₀) in
        let Y : List MonomialHeader = with_offsets (column_total num_vars_of (headers_in i ws₀)) (column_total num_terms_of (headers_in i ws₀)) X in
        let m : 4 * i + 4 * k ≡ 4 * (i + k) = omega arith in
        let v : 0 + column_total num_vars_of (headers_in i ws₀) ≡ column_total num_vars_of (headers_in i ws₀) = omega arith in
        let t : 0 + column_total num_terms_of (headers_in i ws₀) ≡ column_total num_terms_of (headers_in i ws₀) = omega arith in
        let d : drop (4 * i + 4 * length (take k filled)) ws ≡ drop (4 * (i + k)) ws₀ =
        ap (λ (j : ℕ). drop (4 * i + 4 * j) ws) first_length ∙ sym (drop-drop (4 * k) (4 * i) ws) ∙ ap (drop (4 * k)) (ap (drop (4 * i)) g.words_are ∙ filled_rest i ws₀)
        ∙ drop-drop (4 * k) (4 * i) ws₀
        ∙ ap (λ (j : ℕ). drop j ws₀) m in
        let q : front (i + k) ws₀ ≡ front i ws₀ ++ header_words Y =
        ap (λ (hs : List MonomialHeader). header_words (with_offsets 0 0 hs)) (in_append i k ws₀)
        ∙ ap header_words (offsets_append 0 0 (headers_in i ws₀) X ∙ λ j. with_offsets 0 0 (headers_in i ws₀) ++ with_offsets (v j) (t j) X)
        ∙ words_append (with_offsets 0 0 (headers_in i ws₀)) Y in
        w ∙ (λ j. (ap (take (4 * i)) g.words_are ∙ filled_front i ws₀) j ++ (header_words (first j) ++ d j))
        ∙ sym (append_assoc (front i ws₀) (header_words Y) (drop (4 * (i + k)) ws₀)) ∙ ap (λ (r : List ℕ). r ++ drop (4 * (i + k)) ws₀) (sym q)

    pub filled_next : {ws' : List ℕ} → ws' ≡ take (4 * i) ws ++ (header_words (take k filled) ++ drop (4 * i + 4 * length (take k filled)) ws)
        → {j : ℕ} → i + k ≡ j → Filled ws₀ n ws' (last.var_offset + num_vars_of last) (last.term_offset + num_terms_of last) j
    filled_next {ws'} w z =
        subst (λ (j : ℕ). Filled ws₀ n ws' (last.var_offset + num_vars_of last) (last.term_offset + num_terms_of last) j) z
        (record { upto = upto_next; words_are = words_next w; vars_are = vars_next; terms_are = terms_next })

pub filled_all : {ws₀ : List ℕ} {n : ℕ} {ws : List ℕ} {vars terms i : ℕ} → Filled ws₀ n ws vars terms i → n ≤ i → ws ≡ filled_words n ws₀
filled_all {ws₀} {n} {i} g h = let u = g.upto in let e : i ≡ n = omega arith in g.words_are ∙ ap (λ (j : ℕ). filled_words j ws₀) e
