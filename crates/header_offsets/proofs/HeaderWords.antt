-- Headers and their words: taken out one by one, and put back.
use mathlib.Core.Path.{◌≡◌, refl, sym, ap, ◌∙◌}
use mathlib.Core.List.{List, [], ◌∷◌, ◌++◌, map, append_assoc, map-append}
use Prim.Native.Nat.{ℕ, zero, suc, ◌+◌, ◌*◌, ◌-◌, ◌≤◌, ◌<◌}
use native.Mathlib.Numerals.{add-one}
use native.Mathlib.Omega.{arith}
use lib.ListN.{length, get_or, set, take, drop, replicate, length-append, length-map, length-replicate}
use lib.Seq.{take-suc, get_or-drop, get_or-take, length-take-le, take_all, set_at}
use Rattle.slices.specs.Putting.{put}
use Rattle.slices.specs.Rows.{rows}
use Rattle.slices.proofs.Puts.{put_none, put_behind}
use Rattle.slices.proofs.Rows.{rows_length, rows_split}
use Rattle.header_offsets.specs.declared.MonomialHeader.{MonomialHeader}
use Rattle.header_offsets.specs.Headers.{no_header, header_in, headers_in, header_words}

-- A header by its words.
pub header_read : (ws : List ℕ) (at : ℕ)
    → ◌≡◌ {A = MonomialHeader} (record { var_offset = get_or ws at 0; term_offset = get_or ws (at + 1) 0; num_vars = get_or ws (at + 2) 0; num_terms = get_or ws (at + 3) 0 })
    (header_in (drop at ws))
unfolding header_in
header_read ws at =
    let z : at ≡ at + 0 = omega arith in
    let a : get_or ws at 0 ≡ get_or (drop at ws) 0 0 = ap (λ (i : ℕ). get_or ws i 0) z ∙ sym (get_or-drop at ws 0 0) in
    λ i. record { var_offset = a i; term_offset = sym (get_or-drop at ws 1 0) i; num_vars = sym (get_or-drop at ws 2 0) i; num_terms = sym (get_or-drop at ws 3 0) i }

-- The words of a header stored.
-- Headers are rows of four words.
in_row : (ws : List ℕ) → header_in (take 4 ws) ≡ header_in ws
unfolding header_in
in_row ws = λ i. record {
  var_offset = get_or-take 4 ws 0 0 (omega arith) i;
  term_offset = get_or-take 4 ws 1 0 (omega arith) i;
  num_vars = get_or-take 4 ws 2 0 (omega arith) i;
  num_terms = get_or-take 4 ws 3 0 (omega arith) i;
}

pub in_rows : (n : ℕ) (ws : List ℕ) → headers_in n ws ≡ map header_in (rows 4 n ws)
unfolding headers_in rows
in_rows zero ws = refl
in_rows (suc n) ws = λ i. sym (in_row ws) i ∷ in_rows n (drop 4 ws) i

pub in_length : (n : ℕ) (ws : List ℕ) → length (headers_in n ws) ≡ n
in_length n ws = ap length (in_rows n ws) ∙ length-map (rows 4 n ws) header_in ∙ rows_length 4 n ws

pub in_append : (i k : ℕ) (ws : List ℕ) → headers_in (i + k) ws ≡ headers_in i ws ++ headers_in k (drop (4 * i) ws)
in_append i k ws =
    in_rows (i + k) ws ∙ ap (map header_in) (rows_split 4 i k ws) ∙ map-append header_in (rows 4 i ws) (rows 4 k (drop (4 * i) ws))
    ∙ λ j. sym (in_rows i ws) j ++ sym (in_rows k (drop (4 * i) ws)) j

pub words_length : (hs : List MonomialHeader) → length (header_words hs) ≡ 4 * length hs
unfolding header_words
words_length [] = refl
words_length (h ∷ hs) = omega (arith, words_length hs)

pub words_append : (xs ys : List MonomialHeader) → header_words (xs ++ ys) ≡ header_words xs ++ header_words ys
unfolding header_words
words_append [] ys = refl
words_append (x ∷ xs) ys =
    ap (λ (r : List ℕ). x.var_offset ∷ x.term_offset ∷ x.num_vars ∷ x.num_terms ∷ r) (words_append xs ys)

-- While headers are taken: the first j, and headers of four zeros.
abbrev pub Taken : (ws : List ℕ) (j : ℕ) (hs : List MonomialHeader) → Type 0
Taken ws j hs = hs ≡ headers_in j ws ++ replicate (16 - j) no_header

pub taken_none : (ws : List ℕ) → Taken ws 0 (replicate 16 no_header)
unfolding headers_in
taken_none ws = refl

module _ (ws : List ℕ) (j : ℕ) (hs : List MonomialHeader) (e : Taken ws j hs) where
  pub taken_length : j ≤ 16 → length hs ≡ 16
  taken_length l =
      ap length e ∙ length-append (headers_in j ws) (replicate (16 - j) no_header)
      ∙ omega (arith, in_length j ws, length-replicate (16 - j) no_header)

  pub taken_next : j < 16 → Taken ws (j + 1) (set hs j (header_in (drop (4 * j) ws)))
  unfolding headers_in
  taken_next l =
      let x : MonomialHeader = header_in (drop (4 * j) ws) in
      let rest : List MonomialHeader = replicate (16 - (j + 1)) no_header in
      let n : 16 - j ≡ suc (16 - (j + 1)) = omega arith in
      ap (λ (r : List MonomialHeader). set r j x) (e ∙ ap (λ (m : ℕ). headers_in j ws ++ replicate m no_header) n)
      ∙ set_at (headers_in j ws) no_header rest x j (in_length j ws)
      ∙ sym (append_assoc (headers_in j ws) (x ∷ []) rest)
      ∙ ap (λ (r : List MonomialHeader). r ++ rest) (sym (in_append j 1 ws))

-- While headers are put back: the words of the first j.
abbrev pub Put : (ws₀ : List ℕ) (at : ℕ) (hs : List MonomialHeader) (j : ℕ) (ws : List ℕ) → Type 0
Put ws₀ at hs j ws = ws ≡ put ws₀ at (header_words (take j hs))

pub none_put : (ws : List ℕ) (at : ℕ) (hs : List MonomialHeader) → Put ws at hs 0 ws
unfolding header_words
none_put ws at hs = sym (put_none ws at)

module _ (ws₀ : List ℕ) (at : ℕ) (hs : List MonomialHeader) (j : ℕ) (ws : List ℕ) (p : Put ws₀ at hs j ws) where
  first_words_lem : j ≤ length hs → length (header_words (take j hs)) ≡ 4 * j
  first_words_lem l = words_length (take j hs) ∙ ap (λ (n : ℕ). 4 * n) (length-take-le j hs l)

  pub one_put : j < length hs → at + 4 * (j + 1) ≤ length ws₀ → (ws' : List ℕ)
      → ws' ≡ take (at + 4 * j) ws ++ (header_words (get_or hs j no_header ∷ []) ++ drop (at + 4 * j + 4) ws) → Put ws₀ at hs (j + 1) ws'
  unfolding header_words
  one_put l r ws' e =
      let h : List ℕ = header_words (get_or hs j no_header ∷ []) in
      let n : length (header_words (take j hs)) ≡ 4 * j = first_words_lem (omega arith) in
      let w : header_words (take j hs) ++ h ≡ header_words (take (j + 1) hs) =
      sym (ap (λ (i : ℕ). header_words (take i hs)) (add-one j) ∙ ap header_words (take-suc hs j no_header l) ∙ words_append (take j hs) (get_or hs j no_header ∷ [])) in
      e ∙ put_behind ws₀ ws at (header_words (take j hs)) p (at + 4 * j) (omega arith) h (omega arith) ∙ ap (put ws₀ at) w

  pub all_put : length hs ≤ j → ws ≡ take at ws₀ ++ (header_words hs ++ drop (at + 4 * length hs) ws₀)
  all_put l =
      p ∙ ap (λ (ks : List MonomialHeader). put ws₀ at (header_words ks)) (take_all j hs l)
      ∙ ap (λ (n : ℕ). take at ws₀ ++ (header_words hs ++ drop (at + n) ws₀)) (words_length hs)
