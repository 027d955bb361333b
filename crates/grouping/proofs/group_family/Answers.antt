-- The lists are counted (`Rowed`), room is asked for (`Fits`), headers and terms are made ready (`Started`), the terms are placed, and variables and
-- offsets are written. A refusal leaves at the counting or at the room.
use mathlib.Core.Path.{◌≡◌, refl, sym, ap, subst, ◌∙◌}
use mathlib.Core.List.{List, [], ◌++◌}
use Prim.Native.Nat.{ℕ, ◌*◌, ◌≤◌}
use native.Mathlib.Omega.{arith}
use borrow.Author.Rules.{rules}
use lib.ListN.{length, drop}
use Rattle.slices.specs.Rows.{rows}
use Rattle.semantics.specs.Arithmetic.{prime}
use Rattle.semantics.specs.Answer.{good}
use Rattle.semantics.specs.Check.{read_sheet, check}
use Rattle.semantics.specs.Group.{items}
use Rattle.std.specs.Prelude.{Ok}
use Rattle.std.proofs.lemmas.Result.{err_from_is_err_and}
use Rattle.group.specs.declared.Groups.{Groups}
use Rattle.group.specs.Grouped.{tally_all, tallied_total, vars_named, tallied, term_of, term_width, sum, column, totalled, vars_in, list_of, Places, Placing}
use Rattle.group.specs.Groups.{tallies, Same, Placed}
use Rattle.group.proofs.Tallying.{moved}
use Rattle.grouping.specs.declared.Family.{Family}
use Rattle.grouping.specs.declared.Lengths.{Lengths}
use Rattle.grouping.specs.Families.{roots_of, nodes_of, form_of, groups_of, Grouping, Measured, FewTerms, StartsPlacing, ToPlaceRoots, Laid}
use Rattle.grouping.proofs.Fitting.{Rowed, Started, known, fit_full, fit_rows, fit_room, fit_fits, fit_short, fit_terms, fit_place, fit_variables, fit_offsets, fit_written}
use Rattle.grouping.proofs.group_family.Goals as goal

-- The lists are counted.
module _ (f : Family) {ws P : List ℕ} (checked : check prime ws ≡ good (read_sheet ws)) (grouping : Grouping ws P (roots_of f (read_sheet ws))) (g₀ g₁ : Groups) (q : g₀.pool.now ≡ P)
    (counted : Same g₀ g₁ × (tallies g₁ ≡ tally_all (vars_named g₀.pool.now (nodes_of (roots_of f (read_sheet ws)))) [])) where
  rowed : Rowed ws P (roots_of f (read_sheet ws)) g₁.n g₁.headers.now
  rowed = fit_rows (known f checked grouping) g₀ q g₁ counted

  same_pool : g₁.pool.now ≡ P
  same_pool = counted.0.pool ∙ q

  few_terms : FewTerms g₁
  few_terms = subst (λ (Q : List ℕ). tallied_total (tallied g₁.n g₁.headers.now Q) ≤ 16777216) (sym same_pool) rowed.total_small

  -- There is room for all, and headers and terms are ready.
  module _ {w : ℕ} (width : w ≡ term_width (form_of f)) (W T : List ℕ) {c : Lengths}
      (m : Measured g₁.n w (sum (column 2 g₁.n g₁.headers.now)) (sum (column 3 g₁.n g₁.headers.now)) (length W) (length T) (Ok c))
      (g₂ : Groups) {T₁ : List ℕ} (s : Same g₁ g₂ × (g₂.n ≡ g₁.n) × StartsPlacing (tallies g₁) g₂ T₁ (length T)) where
    started : Started ws P (roots_of f (read_sheet ws)) (form_of f) g₁.n g₁.headers.now W T c g₂.headers.now T₁
    started =
        let fits = fit_fits rowed (form_of f) width W T m in
        let room =
        subst (λ (Q : List ℕ). term_width (form_of f) * tallied_total (tallied g₁.n g₁.headers.now Q) ≤ length T) (sym same_pool) (fit_terms fits) in
        record {
          fits = fits;
          placing =
              subst (λ (Q : List ℕ). Placing (form_of f) (tallied g₁.n g₁.headers.now Q) g₁.n g₂.headers.now P T₁ []) same_pool
              (moved (λ (n : ℕ) (Q : List ℕ). Placing (form_of f) (tallies g₁) n g₂.headers.now Q T₁ []) s.1 (s.0.pool ∙ same_pool) (s.2 (form_of f) room));
        }

    ready : ToPlaceRoots (form_of f) g₂ T₁ (roots_of f (read_sheet ws))
    ready = fit_place started g₂ s.1 (s.0.pool ∙ same_pool) refl

    -- The terms are placed.
    module _ (g₃ : Groups) (T₂ : List ℕ) (p : Placed (form_of f) g₂ T₁ g₃ T₂ (items (list_of g₂.pool.now) (roots_of f (read_sheet ws)))) where
      count_is : g₃.n ≡ g₁.n
      count_is = p.rows ∙ s.1

      pool_is : g₃.pool.now ≡ P
      pool_is = p.same.pool ∙ s.0.pool ∙ same_pool

      placed : Places (form_of f) g₁.n P g₂.headers.now T₁ g₃.headers.now T₂ (items (list_of P) (roots_of f (read_sheet ws)))
      placed =
          moved (λ (n : ℕ) (Q : List ℕ). Places (form_of f) n Q g₂.headers.now T₁ g₃.headers.now T₂ (items (list_of Q) (roots_of f (read_sheet ws)))) s.1
          (s.0.pool ∙ same_pool) p.places

      variables_fit : length (vars_in (tallies g₃)) ≤ length W
      variables_fit =
          moved (λ (n : ℕ) (Q : List ℕ). length (vars_in (tallied n g₃.headers.now Q)) ≤ length W) (sym count_is) (sym pool_is)
          (fit_variables started g₃.headers.now T₂ placed)

      -- The slice holds what the groups did.
      module _ (H : List ℕ) (e : g₃.headers.now ≡ H) (n : ℕ) (k : n ≡ g₃.n) where
        offsets_fit : (4 * n ≤ length H) × (sum (column 2 n H) ≤ 4294967295) × (sum (column 3 n H) ≤ 4294967295)
        offsets_fit =
            moved (λ (n : ℕ) (H : List ℕ). (4 * n ≤ length H) × (sum (column 2 n H) ≤ 4294967295) × (sum (column 3 n H) ≤ 4294967295)) (sym (k ∙ count_is)) e
            (fit_offsets started g₃.headers.now T₂ placed)

        laid : (H₃ W₃ : List ℕ) → length H₃ ≡ length H → length W₃ ≡ length W → length T₂ ≡ length T
            → (rows 4 n H₃ ≡ totalled 1 3 0 (totalled 0 2 0 (rows 4 n H))) × (drop (4 * n) H₃ ≡ drop (4 * n) H)
            → W₃ ≡ vars_in (tallies g₃) ++ drop (length (vars_in (tallies g₃))) W
            → Laid (term_of (form_of f)) (groups_of ws (roots_of f (read_sheet ws))) H₃ W₃ T₂ (Ok c)
        laid H₃ W₃ lh lw lt offsets written =
            let headers_are =
            moved (λ (n : ℕ) (H : List ℕ). (rows 4 n H₃ ≡ totalled 1 3 0 (totalled 0 2 0 (rows 4 n H))) × (drop (4 * n) H₃ ≡ drop (4 * n) H)) (k ∙ count_is) (sym e) offsets in
            let variables_are =
            moved (λ (n : ℕ) (Q : List ℕ). W₃ ≡ vars_in (tallied n g₃.headers.now Q) ++ drop (length (vars_in (tallied n g₃.headers.now Q))) W) count_is pool_is written in
            fit_written started g₃.headers.now T₂ placed H₃ W₃ (lh ∙ ap length (sym e)) lw lt headers_are variables_are (p.same.long ∙ s.0.long)

pub tally_family-counted-requires : goal.tally_family-counted-requires
tally_family-counted-requires c =
    let e = c.new-groups.ensures.none in
    (subst (λ (P : List ℕ). Grouping c.args.sheet.words.now P (roots_of c.args.family (read_sheet c.args.sheet.words.now))) (sym e.pool_is) c.requires, e.none)

pub returns-in_default : goal.returns-in_default
returns-in_default c =
    let e = c.new-groups.ensures.none in
    let l = e.long in
    fit_full (known c.args.family c.args.sheet.checked c.requires) c.new-groups.result e.pool_is c.in_default.ensures (form_of c.args.family) _ _ _ (omega arith)

pub room_for-requires : goal.room_for-requires
room_for-requires c =
    fit_room (rowed c.args.family c.args.sheet.checked c.requires _ _ c.new-groups.ensures.none.pool_is c.in-Some.ensures) (form_of c.args.family)
    c.width.ensures

pub returns-in_err-lengths : goal.returns-in_err-lengths
returns-in_err-lengths c =
    let e = c.new-groups.ensures.none in
    let l = e.long in
    let k = c.in-Some.ensures in
    let s = k.0.long in
    let p = err_from_is_err_and c.from_residual.result c.from_residual.ensures.1 in
    rw (p.1, p.2)
    (fit_short (rowed c.args.family c.args.sheet.checked c.requires _ _ e.pool_is k) (form_of c.args.family) c.width.ensures
    _ _ _ (omega arith) _ c.in_err-lengths.ensures)

pub start_groups-requires : goal.start_groups-requires
start_groups-requires c = few_terms c.args.family c.args.sheet.checked c.requires _ _ c.new-groups.ensures.none.pool_is c.in-Some.ensures

pub place_family-requires : goal.place_family-requires
place_family-requires c =
    ready c.args.family c.args.sheet.checked c.requires _ _ c.new-groups.ensures.none.pool_is c.in-Some.ensures c.width.ensures
    c.args.variables.now c.args.terms.now c.in_ok-lengths.ensures _ c.start_groups.ensures

pub write_variables-requires : goal.write_variables-requires
write_variables-requires c =
    variables_fit c.args.family c.args.sheet.checked c.requires _ _ c.new-groups.ensures.none.pool_is c.in-Some.ensures c.width.ensures
    c.args.variables.now c.args.terms.now c.in_ok-lengths.ensures _ c.start_groups.ensures _ _ c.place_family.ensures

pub fill_offsets-requires : goal.fill_offsets-requires
fill_offsets-requires c =
    let a = c.new-groups.ensures.same in
    let b = c.in-Some.ensures in
    let s = c.start_groups.ensures in
    let p = c.place_family.ensures.same in
    offsets_fit c.args.family c.args.sheet.checked c.requires _ _ c.new-groups.ensures.none.pool_is c.in-Some.ensures c.width.ensures
    c.args.variables.now c.args.terms.now c.in_ok-lengths.ensures _ c.start_groups.ensures _ _ c.place_family.ensures _ (search rules) _ c.count-n.ensures

pub returns : goal.returns
returns c =
    let a = c.new-groups.ensures.same in
    let b = c.in-Some.ensures in
    let s = c.start_groups.ensures in
    let p = c.place_family.ensures.same in
    let place = c.place_family in
    let fill = c.fill_offsets in
    let write = c.write_variables in
    laid c.args.family c.args.sheet.checked c.requires _ _ c.new-groups.ensures.none.pool_is c.in-Some.ensures c.width.ensures
    c.args.variables.now c.args.terms.now c.in_ok-lengths.ensures _ c.start_groups.ensures _ _ c.place_family.ensures _ (search rules) _ c.count-n.ensures
    fill.new.headers write.new.variables fill.auto.headers write.auto.variables (place.auto.terms ∙ c.start_groups.auto.terms) fill.ensures write.ensures
