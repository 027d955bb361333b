-- One term more in the slices, and the items of a list one after another.
use mathlib.Core.Path.{◌≡◌, refl, sym, ◌∙◌, ap, subst}
use mathlib.Core.List.{List, [], ◌∷◌, ◌++◌, map, flat_map, append_assoc, append-nil}
use Prim.Native.Nat.{ℕ, zero, suc, ◌+◌, ◌*◌, ◌-◌, ◌≤◌, ◌<◌}
use native.Mathlib.Numerals.{add-one}
use native.Mathlib.Omega.{arith}
use Rattle.std.proofs.Math.Nat.{mul-le-mul_left}
use lib.ListN.{length, get_or, set, length-append, length-set}
use lib.Seq.{sets, length-sets, drop-set-lt, get_or-set_other, get_or-set_same}
use Rattle.slices.proofs.Rows.{rows_length, word_at, rows_set}
use Rattle.slices.specs.Rows.{rows}
use Rattle.slices.proofs.Lists.{map_set, flat_length}
use Rattle.semantics.specs.Monomial.{Monomial}
use Rattle.semantics.specs.Group.{Item, constraint_term, interaction_term}
use Rattle.semantics.specs.Call.{zeros, padded}
use Rattle.semantics.specs.Lists.{All}
use Rattle.semantics.proofs.Sorting.{all_within}
use Rattle.semantics.proofs.Grouping.{constraint_wide, interaction_wide}
use Rattle.semantics.proofs.Lists.{get_or_map}
use Rattle.semantics.proofs.Calls.{padded_is, padded_length}
use Rattle.std.specs.Prelude.{Ok, Err}
use Rattle.group.specs.declared.place.Form.{Form}
use Rattle.group.specs.declared.place.Form.TheVariants.{Constraint, Interaction}
use Rattle.group.specs.declared.place.Label.{Label}
use Rattle.group.specs.declared.place.Label.TheVariants as label
use Rattle.group.specs.Grouped.{Tally, Ascends, tallied_count, tallied_total, none, tallied, tally_row, RowInside, Rows, Spot, select, placed, cursors, RoomForTerms, column}
use Rattle.group.specs.Grouped.{monomial_in, MonomialInside, list_of, InPool, kept_of, term_of, term_width, form_at, words_at, item_at, items_at, items_on, Placing, ToPlace, Places}
use Rattle.group.proofs.Gathering.{less_is, more_is}
use Rattle.group.proofs.Places.{select_append, select_same, Fit, room_fit, spot, cursor_at, cursor_step, place_step}
use Rattle.group.proofs.Headers.{tallied_length}
use Rattle.group.proofs.RowTotals.{words, column_words}
use Rattle.group.proofs.Counting.{all_set, row_long, tally_row_cursor}
use Rattle.group.specs.Waiting.{PlaceInside}
use Rattle.group.specs.declared.Groups.{Groups}
use Rattle.group.specs.Groups.{Same, MayPlace, Placed}
use Rattle.group.proofs.Tallying.{same_as, same_on}
use Rattle.group.proofs.PoolLists.{stands}
use Rattle.group.proofs.KeptPlaces.{kept_inside, kept_items}

-- The two forms of a term.
pub term_wide : (b : Form) (t : Item) → length (term_of b t) ≡ term_width b
term_wide Constraint t = constraint_wide t
term_wide Interaction t = interaction_wide t

-- The words of a term under a label are those of the item.
pub label_words : (l : Label) (m : Monomial) → words_at l m.coef ≡ term_of (form_at l) (item_at l m)
unfolding constraint_term interaction_term
label_words (label.Constraint i) m = refl
label_words (label.Interaction i f) m = refl

-- The cursor of row k changed.
module _ (n k x : ℕ) (H P : List ℕ) (r : Rows n H P) (h : k < n) where
  set_rows : rows 4 n (set H (4 * k + 1) x) ≡ set (rows 4 n H) k (set (get_or (rows 4 n H) k []) 1 x)
  set_rows = rows_set 4 n k 1 x H h (omega arith)

  in_rows : k < length (rows 4 n H)
  in_rows = subst (λ (m : ℕ). k < m) (sym (rows_length 4 n H)) h

  same_row : {Y : Type 0} (f : List ℕ → Y) → f (set (get_or (rows 4 n H) k []) 1 x) ≡ f (get_or (rows 4 n H) k [])
      → map f (rows 4 n (set H (4 * k + 1) x)) ≡ map f (rows 4 n H)
  same_row f e = ap (map f) set_rows ∙ map_set f (rows 4 n H) k (set (get_or (rows 4 n H) k []) 1 x) ∙ go (rows 4 n H) k (set (get_or (rows 4 n H) k []) 1 x) e
    where
      go : (l : List (List ℕ)) (k : ℕ) (y : List ℕ) → f y ≡ f (get_or l k []) → set (map f l) k (f y) ≡ map f l
      go [] k y e = refl
      go (z ∷ l) zero y e = ap (λ w. w ∷ map f l) e
      go (z ∷ l) (suc k) y e = ap (λ w. f z ∷ w) (go l k y e)

  pub cursor_tallies : tallied n (set H (4 * k + 1) x) P ≡ tallied n H P
  unfolding tallied
  cursor_tallies = same_row (tally_row P) (tally_row_cursor P (get_or (rows 4 n H) k []) x)

  pub cursor_rows : Rows n (set H (4 * k + 1) x) P
  cursor_rows =
      let row : List ℕ = get_or (rows 4 n H) k [] in
      let g = all_within (RowInside P) (rows 4 n H) k [] r.inside in_rows in
      let a : get_or (set row 1 x) 0 0 ≡ get_or row 0 0 = get_or-set_other row 1 0 x 0 (λ z. absurd (omega arith)) in
      let b : get_or (set row 1 x) 2 0 ≡ get_or row 2 0 = get_or-set_other row 1 2 x 0 (λ z. absurd (omega arith)) in
      let d = length-set H (4 * k + 1) x in
      let m = r.room in
      record {
        room = omega arith;
        inside = subst (All (RowInside P)) (sym set_rows) (all_set (RowInside P) (rows 4 n H) k (set row 1 x) r.inside (omega (arith, g.0), omega (arith, g.1)));
        ascends = subst Ascends (sym cursor_tallies) r.ascends;
        rest = drop-set-lt (4 * n) H (4 * k + 1) x (omega arith) ∙ r.rest ∙ ap (λ (i : ℕ). zeros (i - 4 * n)) (sym d);
      }

  pub cursor_column : (l : length (get_or (rows 4 n H) k []) ≡ 4) → column 1 n (set H (4 * k + 1) x) ≡ set (column 1 n H) k x
  cursor_column l =
      column_words 1 n (set H (4 * k + 1) x) ∙ ap (words 1) set_rows
      ∙ map_set (λ (row : List ℕ). get_or row 1 0) (rows 4 n H) k (set (get_or (rows 4 n H) k []) 1 x)
      ∙ ap (set (words 1 (rows 4 n H)) k) (get_or-set_same (get_or (rows 4 n H) k []) 1 x 0 (omega arith))
      ∙ ap (λ (w : List ℕ). set w k x) (sym (column_words 1 n H))

-- Room for the first of some items.
pub room_front : (gs : List Tally) (ts us : List Item) → RoomForTerms gs (ts ++ us) → RoomForTerms gs ts
room_front gs ts us r v = let e = ap length (select_append v ts us) ∙ length-append (select v ts) (select v us) in omega (arith, r v)

count_missing : (v : List ℕ) (gs : List Tally) (k : ℕ) → Spot v gs (Err k) → tallied_count v gs ≡ 0
unfolding tallied_count
count_missing v [] k s = refl
count_missing v (g ∷ gs) zero s = less_is v g.vars 0 (tallied_count v gs) g.count (s.2 0 (omega arith) (omega arith))
count_missing v (g ∷ gs) (suc k) s =
    more_is v g.vars 0 (tallied_count v gs) g.count (s.1 0 (omega arith))
    ∙ count_missing v gs k (omega (arith, s.0), (λ i h. s.1 (suc i) (omega arith)), (λ i h l. s.2 (suc i) (omega arith) (omega arith)))

-- Variables with room for an item are found.
pub room_found : (gs : List Tally) (done : List Item) (t : Item) (k : ℕ) → RoomForTerms gs (done ++ (t ∷ [])) → Spot t.vars gs (Err k) → ⊥
room_found gs done t k r s =
    let e = ap length (select_same t.vars t done refl) ∙ length-append (select t.vars done) (t ∷ []) in
    let z = count_missing t.vars gs k s in
    absurd (omega (arith, r t.vars))

pub spot_lt : (gs : List Tally) (k : ℕ) (done : List Item) (t : Item) → k < length gs → (get_or gs k none).vars ≡ t.vars → Fit gs (done ++ (t ∷ []))
    → suc (spot gs k done) ≤ tallied_total gs
unfolding spot tallied_total
spot_lt [] k done t h e f = absurd (omega arith)
spot_lt (g ∷ gs) zero done t h e f =
    let q = ap length (select_same g.vars t done e) ∙ length-append (select g.vars done) (t ∷ []) in
    omega (arith, f.0)
spot_lt (g ∷ gs) (suc k) done t h e f = omega (arith, spot_lt gs k done t (omega arith) e f.1)

module _ (term : Item → List ℕ) (width : ℕ) (wide : (u : Item) → length (term u) ≡ width) where
  pub placed_length : (gs : List Tally) (done : List Item) → Fit gs done → length (placed term width gs done) ≡ width * tallied_total gs
  unfolding placed tallied_total
  placed_length [] done f = omega arith
  placed_length (g ∷ gs) done f =
      let l = flat_length term width wide (select g.vars done) in
      let p = padded_length (flat_map term (select g.vars done)) (width * g.count)
      (subst (λ (x : ℕ). x ≤ width * g.count) (sym l) (mul-le-mul_left width f.0)) in
      let ih = placed_length gs done f.1 in
      length-append (padded (flat_map term (select g.vars done)) (width * g.count)) (placed term width gs done) ∙ omega arith

-- The next term of row k.
module _ {b : Form} {gs : List Tally} {n : ℕ} {H P T : List ℕ} {done : List Item} (p : Placing b gs n H P T done)
    (t : Item) (k : ℕ) (m : RoomForTerms gs (done ++ (t ∷ []))) (s : Spot t.vars (tallied n H P) (Ok k)) where
  row_lt : k < n
  row_lt = subst (λ (i : ℕ). k < i) (tallied_length n H P) s.0

  in_groups : (k < length gs) × ((get_or gs k none).vars ≡ t.vars)
  in_groups = subst (λ (l : List Tally). (k < length l) × ((get_or l k none).vars ≡ t.vars)) p.tallies_are s

  ascending : Ascends gs
  ascending = subst Ascends p.tallies_are p.rows_are.ascends

  fitting : Fit gs (done ++ (t ∷ []))
  fitting = room_fit gs (done ++ (t ∷ [])) ascending m

  cursor_word : get_or (column 1 n H) k 0 ≡ get_or H (4 * k + 1) 0
  cursor_word =
      ap (λ (l : List ℕ). get_or l k 0) (column_words 1 n H)
      ∙ get_or_map (λ (row : List ℕ). get_or row 1 0) (rows 4 n H) k [] 0 (subst (λ (i : ℕ). k < i) (sym (rows_length 4 n H)) row_lt)
      ∙ word_at 4 n k 1 H row_lt (omega arith)

  cursor_spot : get_or H (4 * k + 1) 0 ≡ spot gs k done
  cursor_spot =
      let z : 0 + spot gs k done ≡ spot gs k done = omega arith in
      sym cursor_word ∙ ap (λ (l : List ℕ). get_or l k 0) p.cursors_are ∙ cursor_at 0 gs k done in_groups.0 ∙ z

  pub cursor_small : suc (get_or H (4 * k + 1) 0) ≤ tallied_total gs
  cursor_small = subst (λ (x : ℕ). suc x ≤ tallied_total gs) (sym cursor_spot) (spot_lt gs k done t in_groups.0 in_groups.1 fitting)

  pub term_fits : term_width b * get_or H (4 * k + 1) 0 + term_width b ≤ length T
  term_fits =
      let a = mul-le-mul_left (term_width b) cursor_small in
      let f = p.fits in
      omega arith

  row_four : length (get_or (rows 4 n H) k []) ≡ 4
  row_four = row_long n k H row_lt p.rows_are.room

  -- The rows stay rows when the cursor goes on.
  pub cursor_kept : (x : ℕ) → Rows n (set H (4 * k + 1) x) P
  cursor_kept x = cursor_rows n k x H P p.rows_are row_lt

  pub place_one : (H' T' : List ℕ) → T' ≡ sets T (term_width b * get_or H (4 * k + 1) 0) (term_of b t) → H' ≡ set H (4 * k + 1) (get_or H (4 * k + 1) 0 + 1)
      → Placing b gs n H' P T' (done ++ (t ∷ []))
  place_one H' T' tt' hh =
      let x : ℕ = get_or H (4 * k + 1) 0 + 1 in
      let c : x ≡ suc (get_or (cursors 0 gs done) k 0) = add-one (get_or H (4 * k + 1) 0) ∙ ap suc (sym cursor_word ∙ ap (λ (l : List ℕ). get_or l k 0) p.cursors_are) in
      let W : List ℕ = placed (term_of b) (term_width b) gs done in
      let W' : List ℕ = placed (term_of b) (term_width b) gs (done ++ (t ∷ [])) in
      let lw = placed_length (term_of b) (term_width b) (term_wide b) gs done (room_fit gs done ascending (room_front gs done (t ∷ []) m)) in
      let lw' = placed_length (term_of b) (term_width b) (term_wide b) gs (done ++ (t ∷ [])) fitting in
      let lt : length T' ≡ length T = ap length tt' ∙ length-sets T (term_width b * get_or H (4 * k + 1) 0) (term_of b t) in
      let z : length T - length W ≡ length T' - length W' = omega arith in
      let q : T' ≡ padded W' (length T') =
      tt' ∙ ap (λ (i : ℕ). sets T (term_width b * i) (term_of b t)) cursor_spot
      ∙ ap (λ (l : List ℕ). sets l (term_width b * spot gs k done) (term_of b t)) (p.terms_are ∙ padded_is W (length T))
      ∙ place_step t done (term_of b) (term_width b) (term_wide b) gs k (zeros (length T - length W)) ascending in_groups.0 in_groups.1 fitting
      ∙ ap (λ (i : ℕ). W' ++ zeros i) z ∙ sym (padded_is W' (length T')) in
      let f = p.fits in
      record {
        rows_are = subst (λ (l : List ℕ). Rows n l P) (sym hh) (cursor_rows n k x H P p.rows_are row_lt);
        tallies_are = ap (λ (l : List ℕ). tallied n l P) hh ∙ cursor_tallies n k x H P p.rows_are row_lt ∙ p.tallies_are;
        cursors_are =
            ap (column 1 n) hh ∙ cursor_column n k x H P p.rows_are row_lt row_four ∙ ap (λ (l : List ℕ). set l k x) p.cursors_are
            ∙ ap (set (cursors 0 gs done) k) c ∙ cursor_step t done 0 gs k ascending in_groups.0 in_groups.1;
        terms_are = q;
        fits = omega arith;
        small = p.small;
      }

-- While the items `all` are placed, of which `rest` are left.
pub record Going (b : Form) (n : ℕ) (P H₀ T₀ : List ℕ) (all : List Item) (H T : List ℕ) (rest : List Item) : Type 0 where
  pub long : length H ≡ length H₀
  pub terms_long : length T ≡ length T₀
  pub front : List Item
  pub whole : front ++ rest ≡ all
  pub placing : (gs : List Tally) → (done : List Item) → Placing b gs n H₀ P T₀ done → RoomForTerms gs (done ++ all) → Placing b gs n H P T (done ++ front)

module _ (b : Form) (n : ℕ) (P H₀ T₀ : List ℕ) (all : List Item) where
  module _ (H T : List ℕ) (rest here rest' : List Item) (e : rest ≡ here ++ rest') (g : Going b n P H₀ T₀ all H T rest) where
    next_items : (g.front ++ here) ++ rest' ≡ all
    next_items = append_assoc g.front here rest' ∙ ap (λ (l : List Item). g.front ++ l) (sym e) ∙ g.whole

    next_room : (gs : List Tally) (done : List Item) → RoomForTerms gs (done ++ all) → RoomForTerms gs ((done ++ g.front) ++ here)
    next_room gs done r =
        room_front gs ((done ++ g.front) ++ here) rest'
        (subst (RoomForTerms gs)
        (ap (λ (l : List Item). done ++ l) (sym next_items) ∙ sym (append_assoc done (g.front ++ here) rest')
        ∙ ap (λ (l : List Item). l ++ rest') (sym (append_assoc done g.front here))) r)

    pub going_asks : ToPlace b n H₀ P T₀ all → ToPlace b n H P T here
    going_asks t = record {
      gs = t.gs;
      done = t.done ++ g.front;
      placing = g.placing t.gs t.done t.placing t.room;
      room = next_room t.gs t.done t.room;
    }

    pub going_step : (H' T' : List ℕ) → length H' ≡ length H → length T' ≡ length T → Places b n P H T H' T' here
        → Going b n P H₀ T₀ all H' T' rest'
    going_step H' T' lh lt does = record {
      long = lh ∙ g.long;
      terms_long = lt ∙ g.terms_long;
      front = g.front ++ here;
      whole = next_items;
      placing = λ gs done x y. subst (λ (l : List Item). Placing b gs n H' P T' l) (append_assoc done g.front here)
          (does gs (done ++ g.front) (g.placing gs done x y) (next_room gs done y));
    }

  pub going_done : (H T : List ℕ) (rest : List Item) → rest ≡ [] → Going b n P H₀ T₀ all H T rest → Places b n P H₀ T₀ H T all
  going_done H T rest e g gs done x y =
      subst (λ (l : List Item). Placing b gs n H P T (done ++ l))
      (sym (append-nil g.front) ∙ ap (λ (l : List Item). g.front ++ l) (sym e) ∙ g.whole) (g.placing gs done x y)

-- While the monomials that stand at the places `all` are placed: those at `left` are still to come.
pub record Listing (l : Label) (all : List ℕ) (g₀ : Groups) (T₀ : List ℕ) (g : Groups) (T left : List ℕ) : Type 0 where
  pub same : Same g₀ g
  pub rows_are : g.n ≡ g₀.n
  pub inside : All (PlaceInside g₀.pool.now) left
  pub going : Going (form_at l) g₀.n g₀.pool.now g₀.headers.now T₀ (items_on l g₀.pool.now all) g.headers.now T (items_on l g₀.pool.now left)

pub listing_start : (l : Label) (all : List ℕ) (g : Groups) (T left : List ℕ) → All (PlaceInside g.pool.now) all → left ≡ all → Listing l all g T g T left
listing_start l all g T left s e = record {
  same = same_as g;
  rows_are = refl;
  inside = subst (All (PlaceInside g.pool.now)) (sym e) s;
  going = record {
    long = refl;
    terms_long = refl;
    front = [];
    whole = ap (items_on l g.pool.now) e;
    placing = λ gs done x y. subst (Placing (form_at l) gs g.n g.headers.now g.pool.now T) (sym (append-nil done)) x;
  };
}

module _ {l : Label} {all : List ℕ} {g₀ : Groups} {T₀ : List ℕ} {g : Groups} {T left : List ℕ} (t : Listing l all g₀ T₀ g T left) where
  module _ {at : ℕ} {left' : List ℕ} (e : left ≡ at ∷ left') where
    -- What is asked and done for groups with the same rows over the same pool is so for these.
    pub listing_asks : MayPlace (form_at l) g₀ T₀ (items_on l g₀.pool.now all)
        → MayPlace (form_at l) g T (item_at l (monomial_in g.pool.now at) ∷ []) × (get_or g.pool.now at 0 ≤ 14) × MonomialInside g.pool.now at
    listing_asks m =
        let P : List ℕ = g₀.pool.now in
        let i = (subst (All (PlaceInside P)) e t.inside).0 in
        let h = going_asks (form_at l) g₀.n P g₀.headers.now T₀ _ g.headers.now T _ (item_at l (monomial_in P at) ∷ []) (items_on l P left') (ap (items_on l P) e) t.going m in
        subst (λ (Q : List ℕ). ToPlace (form_at l) g.n g.headers.now Q T (item_at l (monomial_in Q at) ∷ []) × (get_or Q at 0 ≤ 14) × MonomialInside Q at) (sym t.same.pool)
        (subst (λ (n : ℕ). ToPlace (form_at l) n g.headers.now P T (item_at l (monomial_in P at) ∷ [])) (sym t.rows_are) h, i.0, i.1)

    pub listing_step : {g' : Groups} {T' : List ℕ} → length T' ≡ length T → Placed (form_at l) g T g' T' (item_at l (monomial_in g.pool.now at) ∷ [])
        → Listing l all g₀ T₀ g' T' left'
    listing_step {g'} {T'} lt does =
        let P : List ℕ = g₀.pool.now in
        let p =
        subst (λ (n : ℕ). Places (form_at l) n P g.headers.now T g'.headers.now T' (item_at l (monomial_in P at) ∷ [])) t.rows_are
        (subst (λ (Q : List ℕ). Places (form_at l) g.n Q g.headers.now T g'.headers.now T' (item_at l (monomial_in Q at) ∷ [])) t.same.pool does.places) in
        record {
          same = same_on t.same does.same;
          rows_are = does.rows ∙ t.rows_are;
          inside = (subst (All (PlaceInside P)) e t.inside).1;
          going =
              going_step (form_at l) g₀.n P g₀.headers.now T₀ _ g.headers.now T _ (item_at l (monomial_in P at) ∷ []) (items_on l P left') (ap (items_on l P) e) t.going
              g'.headers.now T' does.same.long lt p;
        }

  pub listing_done : left ≡ [] → Placed (form_at l) g₀ T₀ g T (items_on l g₀.pool.now all)
  listing_done e = record {
    same = t.same;
    rows = t.rows_are;
    places =
        going_done (form_at l) g₀.n g₀.pool.now g₀.headers.now T₀ (items_on l g₀.pool.now all) g.headers.now T _
        (ap (items_on l g₀.pool.now) e) t.going;
  }

-- The list of a record: what placing it asks and does is what placing the monomials that are kept of it asks and does.
module _ (l : Label) (P : List ℕ) (node : ℕ) where
  record_items : items_on l P (kept_of P node) ≡ items_at l (list_of P node)
  record_items = kept_items l P (get_or P (2 * node) 0) (get_or P (2 * node + 1) 0)

  pub record_asks : (g : Groups) (T : List ℕ) → MayPlace (form_at l) g T (items_at l (list_of P node)) → InPool P node
      → MayPlace (form_at l) g T (items_on l P (kept_of P node)) × All (PlaceInside P) (kept_of P node)
  record_asks g T m s = (
    subst (MayPlace (form_at l) g T) (sym record_items) m,
    kept_inside P (get_or P (2 * node) 0) (get_or P (2 * node + 1) 0) (stands P node s),
  )

  pub record_placed : {g h : Groups} {T T' : List ℕ} → Placed (form_at l) g T h T' (items_on l P (kept_of P node)) → Placed (form_at l) g T h T' (items_at l (list_of P node))
  record_placed {g} {h} {T} {T'} does = subst (Placed (form_at l) g T h T') record_items does
