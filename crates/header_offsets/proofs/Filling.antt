-- A pass over headers, one turn after another: those before i have their offsets.
use mathlib.Core.Path.{◌≡◌, sym, ap, ◌∙◌}
use mathlib.Core.List.{List, [], ◌∷◌, ◌++◌, append_assoc, append-nil}
use Prim.Native.Nat.{ℕ, suc, ◌+◌, ◌≤◌, ◌<◌, ◌^◌}
use native.Mathlib.Numerals.{add-one}
use native.Mathlib.Omega.{arith}
use lib.ListN.{length, get_or, set, take, drop, drop_of_length-le}
use lib.Seq.{take-suc-set, take_all, drop-set-lt, drop-cons}
use Rattle.header_offsets.specs.declared.MonomialHeader.{MonomialHeader}
use Rattle.header_offsets.specs.Headers.{num_vars_of, num_terms_of, column_total, offset_at, with_offsets, no_header}

-- The headers hs while they are passed, as ys: vars and terms are the totals before header i.
pub record Filling (hs : List MonomialHeader) (v t i : ℕ) (ys : List MonomialHeader) (vars terms : ℕ) : Type 0 where
  pub whole : take i ys ++ with_offsets vars terms (drop i ys) ≡ with_offsets v t hs
  pub vars_fit : vars + column_total num_vars_of (drop i ys) ≤ 4294967295
  pub terms_fit : terms + column_total num_terms_of (drop i ys) ≤ 4294967295

-- The total from header i on is header i's number and the total behind it.
total_from : (number : MonomialHeader → ℕ) (ys : List MonomialHeader) (i : ℕ) → i < length ys
    → column_total number (drop i ys) ≡ number (get_or ys i no_header) + column_total number (drop (suc i) ys)
unfolding column_total
total_from number ys i h = ap (column_total number) (drop-cons ys i no_header h)

module _ {hs : List MonomialHeader} {v t i : ℕ} {ys : List MonomialHeader} {vars terms : ℕ} (g : Filling hs v t i ys vars terms) where
  -- Header i, and the same at its offsets.
  abbrev pub here : MonomialHeader
  here = get_or ys i no_header

  abbrev pub filled : MonomialHeader
  filled = offset_at vars terms here

  pub vars_next : i < length ys → vars + num_vars_of here < 2 ^ 32
  vars_next l = let f = g.vars_fit in omega (arith, total_from num_vars_of ys i l)

  pub terms_next : i < length ys → terms + num_terms_of here < 2 ^ 32
  terms_next l = let f = g.terms_fit in omega (arith, total_from num_terms_of ys i l)

  drop_next : drop (i + 1) (set ys i filled) ≡ drop (suc i) ys
  drop_next = drop-set-lt (i + 1) ys i filled (omega arith) ∙ ap (λ (k : ℕ). drop k ys) (add-one i)

  pub next : i < length ys → Filling hs v t (i + 1) (set ys i filled) (vars + num_vars_of here) (terms + num_terms_of here)
  unfolding with_offsets
  next l =
      let front : List MonomialHeader = take i ys in
      let rest : List MonomialHeader = with_offsets (vars + num_vars_of here) (terms + num_terms_of here) (drop (suc i) ys) in
      let e : front ++ (filled ∷ rest) ≡ with_offsets v t hs = rw (drop-cons ys i no_header l) at g.whole in
      record {
        whole =
            rw drop_next
            (ap (λ (k : ℕ). take k (set ys i filled) ++ rest) (add-one i)
            ∙ ap (λ (k : List MonomialHeader). k ++ rest) (take-suc-set ys i filled l) ∙ append_assoc front (filled ∷ []) rest
            ∙ e);
        vars_fit = rw drop_next (let f = g.vars_fit in omega (arith, total_from num_vars_of ys i l));
        terms_fit = rw drop_next (let f = g.terms_fit in omega (arith, total_from num_terms_of ys i l));
      }

  pub done : length ys ≤ i → ys ≡ with_offsets v t hs
  unfolding with_offsets
  done h =
      sym (append-nil ys) ∙ ap (λ (k : List MonomialHeader). k ++ []) (sym (take_all i ys h))
      ∙ rw (drop_of_length-le ys {i = i} h) at g.whole
