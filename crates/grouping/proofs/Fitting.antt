-- A family of roots, from counting to the finished slices: what its groups are, and the first slice that is too short.
use mathlib.Core.Path.{◌≡◌, refl, sym, ap, subst, ◌∙◌}
use mathlib.Core.List.{List, [], ◌∷◌, ◌++◌, map, flat_map}
use Prim.Native.Nat.{ℕ, ◌+◌, ◌*◌, ◌-◌, ◌≤◌, ◌<◌}
use native.Mathlib.Omega.{arith}
use lib.Dec.{leb}
use lib.ListN.{length, take, drop, length-append, length-map}
use lib.Seq.{take-append_seam}
use borrow.Author.Tests.{le-leb, lt-leb}
use Rattle.slices.specs.Rows.{rows}
use Rattle.slices.proofs.Lists.{flat_length}
use Rattle.semantics.specs.Arithmetic.{prime}
use Rattle.semantics.specs.Monomial.{Monomial, list_at}
use Rattle.semantics.specs.Answer.{good}
use Rattle.semantics.specs.Check.{read_sheet, check}
use Rattle.semantics.specs.Group.{Root, Item, items_of, items, Group, groups, headers, variables, terms, layout}
use Rattle.semantics.specs.Call.{zeros, padded, first_short}
use Rattle.semantics.specs.Lists.{All}
use Rattle.semantics.proofs.Basics.{cond_true, cond_false}
use Rattle.semantics.proofs.Sorting.{all_imply, all_map}
use Rattle.semantics.proofs.Grouping.{headers_length}
use Rattle.semantics.proofs.HeaderSizes.{constraints_few, counts_few, fields_few}
use Rattle.semantics.proofs.Calls.{padded_is}
use Rattle.semantics.proofs.RecordLists.{lists_ascend}
use Rattle.records.specs.Access.{records_of}
use Rattle.records.proofs.Steps.{inside}
use Rattle.monomial.specs.Words.{Stored}
use Rattle.std.specs.Prelude.{Option, Result, Ok, Err}
use Rattle.grouping.specs.declared.Family.{Family}
use Rattle.grouping.specs.declared.Family.TheVariants.{Constraints, Counts, Fields}
use Rattle.grouping.specs.declared.Lengths.{Lengths}
use Rattle.grouping.specs.declared.Short.{Short}
use Rattle.grouping.specs.declared.Short.TheVariants.{Headers, Variables, Terms}
use Rattle.group.specs.declared.place.Form.{Form}
use Rattle.group.specs.declared.place.Form.TheVariants.{Constraint, Interaction}
use Rattle.group.specs.declared.Groups.{Groups}
use Rattle.group.specs.Groups.{tallies, Same, Counted}
use Rattle.group.proofs.Tallying.{moved}
use Rattle.group.specs.Grouped.{Tally, tally_all, tallied_total, tallied, Rows, select, tallied_count, placed, RoomForTerms, column, sum, list_of, InPool, vars_named, term_of}
use Rattle.group.specs.Grouped.{term_width, totalled, ToPlace, Placing, Places, vars_in, tallied_headers}
use Rattle.grouping.specs.Families.{roots_of, nodes_of, ToTally, ToPlaceRoots, Grouping, groups_of, Measured, Front, Laid}
use Rattle.group.proofs.Gathering.{gathered}
use Rattle.group.proofs.Tallies.{counted, counted_gathered, gathered_whole, count_all}
use Rattle.group.proofs.Labels.{Labels, constraint_labels, count_labels, field_labels, groups_gathered}
use Rattle.group.proofs.Places.{placed_all}
use Rattle.group.proofs.Headers.{tallied_length}
use Rattle.group.proofs.PoolLists.{stored_in}
use Rattle.group.proofs.Placements.{term_wide}
use Rattle.grouping.proofs.Finished.{total_is, vars_total, vars_few, total_nil, headers_filled, written_starts, family_small}
use Rattle.grouping.proofs.RootItems.{items_named}
use Rattle.monomial.proofs.ListLaws.{stored_list}

-- Groups as tallies.
headers_are : (v t : ℕ) (gs : List Group) → tallied_headers v t (map counted gs) ≡ headers v t gs
unfolding tallied_headers headers
headers_are v t [] = refl
headers_are v t (g ∷ gs) =
    ap (λ (l : List ℕ). v ∷ t ∷ length g.vars ∷ length g.terms ∷ l) (headers_are (v + length g.vars) (t + length g.terms) gs)

vars_are : (gs : List Group) → vars_in (map counted gs) ≡ variables gs
unfolding vars_in variables flat_map
vars_are [] = refl
vars_are (g ∷ gs) = ap (λ (l : List ℕ). g.vars ++ l) (vars_are gs)

terms_count : (b : Form) (gs : List Group) → length (terms (term_of b) gs) ≡ term_width b * tallied_total (map counted gs)
unfolding terms tallied_total flat_map
terms_count b [] = omega arith
terms_count b (g ∷ gs) =
    length-append (flat_map (term_of b) g.terms) (terms (term_of b) gs)
    ∙ omega (arith, flat_length (term_of b) (term_width b) (term_wide b) g.terms, terms_count b gs)

-- The first slice that is too short.
module _ (term : Item → List ℕ) (gs : List Group) (a b c : ℕ) where
  short_one : a < length (headers 0 0 gs) → first_short 1 (layout term gs) (a ∷ b ∷ c ∷ []) ≡ 1
  unfolding first_short layout
  short_one h = cond_false (leb (length (headers 0 0 gs)) a) _ 1 (lt-leb (length (headers 0 0 gs)) a h)

  module _ (h : length (headers 0 0 gs) ≤ a) where
    short_two : b < length (variables gs) → first_short 1 (layout term gs) (a ∷ b ∷ c ∷ []) ≡ 2
    unfolding first_short layout
    short_two k =
        cond_true (leb (length (headers 0 0 gs)) a) _ 1 (le-leb (length (headers 0 0 gs)) a h)
        ∙ cond_false (leb (length (variables gs)) b) _ 2 (lt-leb (length (variables gs)) b k)

    module _ (k : length (variables gs) ≤ b) where
      short_three : c < length (terms term gs) → first_short 1 (layout term gs) (a ∷ b ∷ c ∷ []) ≡ 3
      unfolding first_short layout
      short_three l =
          cond_true (leb (length (headers 0 0 gs)) a) _ 1 (le-leb (length (headers 0 0 gs)) a h)
          ∙ cond_true (leb (length (variables gs)) b) _ 2 (le-leb (length (variables gs)) b k)
          ∙ cond_false (leb (length (terms term gs)) c) _ 3 (lt-leb (length (terms term gs)) c l)

      short_none : length (terms term gs) ≤ c → first_short 1 (layout term gs) (a ∷ b ∷ c ∷ []) ≡ 0
      unfolding first_short layout
      short_none l =
          cond_true (leb (length (headers 0 0 gs)) a) _ 1 (le-leb (length (headers 0 0 gs)) a h)
          ∙ cond_true (leb (length (variables gs)) b) _ 2 (le-leb (length (variables gs)) b k)
          ∙ cond_true (leb (length (terms term gs)) c) _ 3 (le-leb (length (terms term gs)) c l)

-- Words in front of a slice, and zeros behind them.
pub padded_starts : (words slice : List ℕ) → slice ≡ padded words (length slice) → Front words slice
padded_starts words slice e =
    let p = e ∙ padded_is words (length slice) in
    let l = ap length p ∙ length-append words (zeros (length slice - length words)) in
    (omega arith, ap (take (length words)) p ∙ take-append_seam words (zeros (length slice - length words)))

-- A family of roots whose lists stand in the pool.
pub record Known (ws P : List ℕ) (roots : List Root) : Type 0 where
  pub grouping : Grouping ws P roots
  pub labels : Labels roots
  pub few : length roots ≤ 65536

-- Its rows are counted.
pub record Rowed (ws P : List ℕ) (roots : List Root) (n : ℕ) (H : List ℕ) : Type 0 where
  pub known : Known ws P roots
  pub rows_are : Rows n H P
  pub tallies_are : tallied n H P ≡ tally_all (vars_named P (nodes_of roots)) []
  pub total_small : tallied_total (tallied n H P) ≤ 16777216
  pub rows_few : n ≤ 16777216

-- There is room for all.
pub record Fits (ws P : List ℕ) (roots : List Root) (b : Form) (n : ℕ) (H W T : List ℕ) (c : Lengths) : Type 0 where
  pub rowed : Rowed ws P roots n H
  pub measured : Measured n (term_width b) (sum (column 2 n H)) (sum (column 3 n H)) (length W) (length T) (Ok c)

-- Headers and terms are ready for the terms of the roots.
pub record Started (ws P : List ℕ) (roots : List Root) (b : Form) (n : ℕ) (H W T : List ℕ) (c : Lengths) (H₁ T₁ : List ℕ) : Type 0 where
  pub fits : Fits ws P roots b n H W T c
  pub placing : Placing b (tallied n H P) n H₁ P T₁ []

-- Each family of a checked sheet.
pub known : (f : Family) {ws P : List ℕ} → check prime ws ≡ good (read_sheet ws) → Grouping ws P (roots_of f (read_sheet ws)) → Known ws P (roots_of f (read_sheet ws))
known Constraints {ws} checked g = record { grouping = g; labels = constraint_labels (read_sheet ws); few = omega (arith, constraints_few prime (read_sheet ws) (inside ws checked)) }
known Counts {ws} checked g = record { grouping = g; labels = count_labels (read_sheet ws); few = omega (arith, counts_few prime (read_sheet ws) (inside ws checked)) }
known Fields {ws} checked g = record { grouping = g; labels = field_labels (read_sheet ws); few = omega (arith, fields_few prime (read_sheet ws) (inside ws checked)) }

module _ {ws P : List ℕ} {roots : List Root} (f : Known ws P roots) where
  abbrev list : ℕ → List Monomial
  list = list_at prime (records_of ws)

  named : All (InPool P) (nodes_of roots)
  unfolding nodes_of
  named =
      all_map (λ (r : Root). Stored P r.node (list r.node)) (InPool P) (λ (r : Root). r.node) (λ r. stored_in P r.node (list r.node)) roots
      f.grouping.lists

  in_pool : All (λ (r : Root). InPool P r.node) roots
  in_pool =
      all_imply (λ (r : Root). Stored P r.node (list r.node)) (λ (r : Root). InPool P r.node) (λ r. stored_in P r.node (list r.node)) roots
      f.grouping.lists

  -- The lists in the pool are the finished ones.
  agree : items list roots ≡ items (list_of P) roots
  unfolding items flat_map
  agree = go roots f.grouping.lists
    where
      go : (rs : List Root) → All (λ (r : Root). Stored P r.node (list r.node)) rs → items list rs ≡ items (list_of P) rs
      go [] h = refl
      go (r ∷ rs) h = λ i. items_of r (sym (stored_list P r.node (list r.node) h.0) i) ++ go rs h.1 i

  nodes_few : length (nodes_of roots) ≤ 65536
  unfolding nodes_of
  nodes_few = let e = length-map roots (λ (r : Root). r.node) in omega (arith, f.few)

  abbrev all : List Tally
  all = tally_all (vars_named P (nodes_of roots)) []

  groups_are : groups list roots ≡ gathered (items (list_of P) roots)
  groups_are = groups_gathered list (lists_ascend prime (records_of ws)) roots f.labels ∙ ap gathered agree

  counted_are : map counted (groups list roots) ≡ all
  counted_are =
      ap (map counted) groups_are ∙ counted_gathered (items (list_of P) roots) ∙ ap (λ (l : List (List ℕ)). tally_all l []) (items_named P roots)

  headers_size : length (headers 0 0 (groups list roots)) ≡ 4 * length all
  headers_size = headers_length 0 0 (groups list roots) ∙ ap (λ (k : ℕ). 4 * k) (sym (length-map (groups list roots) counted) ∙ ap length counted_are)

  room_is : RoomForTerms all (items (list_of P) roots)
  room_is v =
      let e = ap (λ (l : List (List ℕ)). tallied_count v (tally_all l [])) (sym (items_named P roots)) ∙ count_all v (items (list_of P) roots) in
      omega arith

-- Counting starts with no groups; the references are those of the roots' records.
module _ {ws : List ℕ} {roots : List Root} (g : Groups) (f : Known ws g.pool.now roots) {references : List ℕ} (z : tallies g ≡ []) (e : references ≡ nodes_of roots) where
  pub fit_start : ToTally g references
  fit_start =
      let t = ap tallied_total z ∙ total_nil in
      let l = ap length e in
      let k = nodes_few f in
      record { lists = subst (All (InPool g.pool.now)) (sym e) (named f); small = omega arith }

  pub fit_counted : (h : Groups) (u : Option (Unit {0})) → Counted g h (tally_all (vars_named g.pool.now references) (tallies g)) u
      → Counted g h (tally_all (vars_named g.pool.now (nodes_of roots)) []) u
  fit_counted h u c = subst (λ (gs : List Tally). Counted g h gs u) (λ i. tally_all (vars_named g.pool.now (e i)) (z i)) c

-- What counting answers.
module _ {ws P : List ℕ} {roots : List Root} (f : Known ws P roots) (g : Groups) (q : g.pool.now ≡ P) where
  pub fit_full : length g.headers.now < 4 * length (tally_all (vars_named g.pool.now (nodes_of roots)) [])
      → (b : Form) (H W T : List ℕ) → length H ≡ length g.headers.now → Laid (term_of b) (groups_of ws roots) H W T (Err Headers)
  fit_full d b H W T l =
      let s = headers_size f in
      let e = ap (λ (Q : List ℕ). length (tally_all (vars_named Q (nodes_of roots)) [])) q in
      short_one (term_of b) (groups_of ws roots) (length H) (length W) (length T) (omega arith)

  pub fit_rows : (h : Groups) → Same g h × (tallies h ≡ tally_all (vars_named g.pool.now (nodes_of roots)) []) → Rowed ws P roots h.n h.headers.now
  fit_rows h d =
      let p = d.0.pool ∙ q in
      let r = subst (Rows h.n h.headers.now) p h.rows in
      let t : tallied h.n h.headers.now P ≡ tally_all (vars_named P (nodes_of roots)) [] =
      subst (λ (Q : List ℕ). tallied h.n h.headers.now Q ≡ tally_all (vars_named Q (nodes_of roots)) []) q
      (subst (λ (Q : List ℕ). tallied h.n h.headers.now Q ≡ tally_all (vars_named g.pool.now (nodes_of roots)) []) d.0.pool d.1) in
      let s = family_small h.n h.headers.now P (nodes_of roots) t (named f) (nodes_few f) in
      record { known = f; rows_are = r; tallies_are = t; total_small = s.0; rows_few = s.1 }

-- A term has at most three words.
width_few : (b : Form) → term_width b ≤ 3
width_few Constraint = omega arith
width_few Interaction = omega arith

-- The rows are counted.
module _ {ws P : List ℕ} {roots : List Root} {n : ℕ} {H : List ℕ} (r : Rowed ws P roots n H) where
  pub fit_room : (b : Form) {w : ℕ} → w ≡ term_width b → (n ≤ 16777216) × (sum (column 3 n H) ≤ 16777216) × (w ≤ 3)
  fit_room b e =
      let t = total_is n H P r.rows_are in
      let s = r.total_small in
      (r.rows_few, omega arith, omega (arith, width_few b))

  sizes : (b : Form)
      → (length (headers 0 0 (groups_of ws roots)) ≡ 4 * n) × (length (variables (groups_of ws roots)) ≡ sum (column 2 n H))
      × (length (terms (term_of b) (groups_of ws roots)) ≡ term_width b * sum (column 3 n H))
  sizes b =
      let l = sym (tallied_length n H P) ∙ ap length r.tallies_are in
      let h = headers_size r.known in
      let k = counted_are r.known ∙ sym r.tallies_are in (
        omega arith,
        ap length (sym (vars_are (groups_of ws roots)) ∙ ap vars_in k) ∙ sym (vars_total n H P r.rows_are),
        terms_count b (groups_of ws roots) ∙ ap (λ (l : List Tally). term_width b * tallied_total l) k
            ∙ ap (λ (k : ℕ). term_width b * k) (sym (total_is n H P r.rows_are)),
      )

  module _ (b : Form) {w : ℕ} (q : w ≡ term_width b) (W T : List ℕ) where
    abbrev Measures : ℕ → Result Lengths Short → Type 0
    Measures w u = Measured n w (sum (column 2 n H)) (sum (column 3 n H)) (length W) (length T) u

    pub fit_fits : {c : Lengths} → Measures w (Ok c) → Fits ws P roots b n H W T c
    fit_fits {c} m = record { rowed = r; measured = subst (λ (w : ℕ). Measures w (Ok c)) q m }

    -- Variables or terms have no room.
    pub fit_short : (H' : List ℕ) → length H' ≡ length H → (k : Short) → Measures w (Err k) → Laid (term_of b) (groups_of ws roots) H' W T (Err k)
    fit_short H' l k m = go k (subst (λ (w : ℕ). Measures w (Err k)) q m)
      where
        go : (k : Short) → Measures (term_width b) (Err k) → Laid (term_of b) (groups_of ws roots) H' W T (Err k)
        go Headers m = absurd m
        go Variables m =
            let s = sizes b in
            let o = r.rows_are.room in
            short_two (term_of b) (groups_of ws roots) (length H') (length W) (length T) (omega (arith, s.0)) (omega (arith, s.1, m))
        go Terms m =
            let s = sizes b in
            let o = r.rows_are.room in
            short_three (term_of b) (groups_of ws roots) (length H') (length W) (length T) (omega (arith, s.0)) (omega (arith, s.1, m.0)) (omega (arith, s.2, m.1))

pub fit_terms : {ws P : List ℕ} {roots : List Root} {b : Form} {n : ℕ} {H W T : List ℕ} {c : Lengths} → Fits ws P roots b n H W T c
    → term_width b * tallied_total (tallied n H P) ≤ length T
fit_terms {ws} {P} {roots} {b} {n} {H} {W} {T} g = subst (λ (k : ℕ). term_width b * k ≤ length T) (total_is n H P g.rowed.rows_are) g.measured.4

-- The terms are placed.
module _ {ws P : List ℕ} {roots : List Root} {b : Form} {n : ℕ} {H W T : List ℕ} {c : Lengths} {H₁ T₁ : List ℕ}
    (g : Started ws P roots b n H W T c H₁ T₁) where
  abbrev r : Rowed ws P roots n H
  r = g.fits.rowed

  room_now : RoomForTerms (tallied n H P) (items (list_of P) roots)
  room_now = λ v. subst (λ (l : List Tally). length (select v (items (list_of P) roots)) ≤ tallied_count v l) (sym r.tallies_are) (room_is r.known v)

  -- The groups that the terms are placed into are those of the rows.
  pub fit_place : (h : Groups) → h.n ≡ n → h.pool.now ≡ P → h.headers.now ≡ H₁ → ToPlaceRoots b h T₁ roots
  fit_place h m p e = record {
    to_place =
        subst (λ (l : List ℕ). ToPlace b h.n l h.pool.now T₁ (items (list_of h.pool.now) roots)) (sym e)
        (moved (λ (k : ℕ) (Q : List ℕ). ToPlace b k H₁ Q T₁ (items (list_of Q) roots)) (sym m) (sym p)
        (record { gs = tallied n H P; done = []; placing = g.placing; room = room_now }));
    lists = subst (λ (Q : List ℕ). All (λ (r : Root). InPool Q r.node) roots) (sym p) (in_pool r.known);
  }

  module _ (H₂ T₂ : List ℕ) (p : Places b n P H₁ T₁ H₂ T₂ (items (list_of P) roots)) where
    placed_now : Placing b (tallied n H P) n H₂ P T₂ (items (list_of P) roots)
    placed_now = p (tallied n H P) [] g.placing room_now

    pub fit_variables : length (vars_in (tallied n H₂ P)) ≤ length W
    fit_variables =
        let d = ap (λ (l : List Tally). length (vars_in l)) placed_now.tallies_are in
        let v = vars_total n H P r.rows_are in
        omega (arith, g.fits.measured.3)

    pub fit_offsets : (4 * n ≤ length H₂) × (sum (column 2 n H₂) ≤ 4294967295) × (sum (column 3 n H₂) ≤ 4294967295)
    fit_offsets =
        let a = ap tallied_total placed_now.tallies_are in
        let t = total_is n H₂ P placed_now.rows_are in
        let s = r.total_small in
        (placed_now.rows_are.room, omega (arith, vars_few n H₂ P placed_now.rows_are, r.rows_few), omega arith)

    -- All is written.
    module _ (H₃ W₃ : List ℕ) (lh : length H₃ ≡ length H₂) (lw : length W₃ ≡ length W) (lt : length T₂ ≡ length T)
        (offsets : (rows 4 n H₃ ≡ totalled 1 3 0 (totalled 0 2 0 (rows 4 n H₂))) × (drop (4 * n) H₃ ≡ drop (4 * n) H₂))
        (written : W₃ ≡ vars_in (tallied n H₂ P) ++ drop (length (vars_in (tallied n H₂ P))) W) where
      pub fit_written : length H₂ ≡ length H → Laid (term_of b) (groups_of ws roots) H₃ W₃ T₂ (Ok c)
      fit_written lh₂ =
          let s = sizes r b in
          let o = r.rows_are.room in
          let h = g.fits.measured in
          let gs : List Group = groups_of ws roots in
          let x = padded_starts (tallied_headers 0 0 (tallied n H₂ P)) H₃ (headers_filled n H₂ H₃ P placed_now.rows_are offsets.0 offsets.1 lh) in
          let y = written_starts (vars_in (tallied n H₂ P)) W W₃ fit_variables lw written in
          let t : tallied n H₂ P ≡ map counted gs = placed_now.tallies_are ∙ r.tallies_are ∙ sym (counted_are r.known) in
          let hs = ap (tallied_headers 0 0) t ∙ headers_are 0 0 gs in
          let vw = ap vars_in t ∙ vars_are gs in
          let ts : placed (term_of b) (term_width b) (tallied n H P) (items (list_of P) roots) ≡ terms (term_of b) gs =
          ap (λ (l : List Tally). placed (term_of b) (term_width b) l (items (list_of P) roots)) (r.tallies_are ∙ sym (counted_are r.known) ∙ ap (map counted) (groups_are r.known))
          ∙ placed_all (term_of b) (term_width b) (term_wide b) (gathered (items (list_of P) roots)) (items (list_of P) roots) (gathered_whole (items (list_of P) roots))
          ∙ ap (terms (term_of b)) (sym (groups_are r.known)) in (
            short_none (term_of b) gs (length H₃) (length W₃) (length T₂) (omega (arith, s.0)) (omega (arith, s.1, h.3)) (omega (arith, s.2, h.4)),
            subst (λ (w : List ℕ). Front w H₃) hs x,
            subst (λ (w : List ℕ). Front w W₃) vw y,
            subst (λ (w : List ℕ). Front w T₂) ts (padded_starts (placed (term_of b) (term_width b) (tallied n H P) (items (list_of P) roots)) T₂ placed_now.terms_are),
            h.0 ∙ sym s.0,
            h.1 ∙ sym s.1,
            h.2 ∙ sym s.2,
          )
