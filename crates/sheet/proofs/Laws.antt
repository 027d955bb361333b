-- Laws of the scan, for the code that judges a sheet word by word.
use mathlib.Core.Path.{◌≡◌, refl, sym, ap, ◌∙◌}
use mathlib.Core.Bool.{Bool, true, false, cond, ◌&&◌}
use mathlib.Core.List.{List, [], ◌∷◌, ◌++◌, map}
use Prim.Native.Nat.{ℕ, zero, suc, ◌+◌, ◌-◌, ◌≤◌, ◌<◌}
use native.Mathlib.Numerals.{add-one}
use native.Mathlib.Omega.{arith}
use lib.Dec.{eqb, leb, ltb}
use lib.ListN.{length, get_or, drop, replicate, drop_of_length-le, get_or-map}
use lib.Seq.{drop-cons}
use borrow.Author.Tests.{leb-true, lt-ltb, le-ltb}
use Rattle.semantics.specs.Sheet.{Inside, encode, head_words, length_of, place, table, fits, row, record_tests, interaction_tests, head_tests, refers}
use Rattle.semantics.specs.Answer.{good}
use Rattle.semantics.specs.Sheet as semantics
use Rattle.semantics.specs.Check.{Scan, reading, stopped, scan_words, scan_part, scan_parts, scan_spare, scan_sheet, read_sheet, judged, check}
use Rattle.semantics.specs.Call.{check_call}
use Rattle.semantics.proofs.Basics.{and_true}
use Rattle.semantics.proofs.Encoding.{check_sound, scan_to_interactions, scan_to_end}
use Rattle.std.specs.Prelude.{Result, Ok, Err}
use Rattle.std.proofs.lemmas.List.{nil_from_length}
use Rattle.answers.specs.declared.Refusal.{Refusal}
use Rattle.answers.specs.Replies.{number_of}
use Rattle.sheet.specs.declared.Head.{Head}
use Rattle.sheet.specs.declared.scan.Use.{Use}
use Rattle.sheet.specs.declared.scan.Use.TheVariants.{Unused, Entry, Part, Offset, Any, Constant, Child}
use Rattle.sheet.specs.Readings.{Reading, from}
use Rattle.sheet.specs.Scans.{scan_of, use_of}
use Rattle.sheet.specs.Replies.{checked_outcome}
use Rattle.sheet.proofs.Answers.{told, check_told}

-- One word: none is left, it fails, or it passes.
module _ (n : ℕ) (t : ℕ → Bool) (i : ℕ) (ws : List ℕ) where
  pub word_none : length ws ≡ 0 → stopped 4 i ≡ scan_words n (t ∷ []) (reading i ws)
  unfolding scan_words
  word_none h = rw (nil_from_length ws h)

  module _ {w : ℕ} {vs : List ℕ} (q : ws ≡ w ∷ vs) where
    pub word_fails : t w ≡ false → stopped n i ≡ scan_words n (t ∷ []) (reading i ws)
    unfolding scan_words
    word_fails e = rw (q, e)

    pub word_passes : t w ≡ true → reading (i + 1) vs ≡ scan_words n (t ∷ []) (reading i ws)
    unfolding scan_words
    word_passes e = rw (q, e, add-one)

    -- A word behind which the scan goes on has passed.
    pub word_passed : {k : ℕ} {us : List ℕ} → reading k us ≡ scan_words n (t ∷ []) (reading i ws) → t w ≡ true
    unfolding scan_words
    word_passed {k} {us} e = go (t w) (rw q at e)
      where
        go : (b : Bool) → reading k us ≡ cond b (reading (suc i) vs) (stopped n i) → b ≡ true
        go true e = refl
        go false e = cc

-- A stopped scan stays.
pub words_stay : (n : ℕ) (ts : List (ℕ → Bool)) (m k : ℕ) → scan_words n ts (stopped m k) ≡ stopped m k
unfolding scan_words
words_stay n [] m k = refl
words_stay n (t ∷ ts) m k = refl

pub parts_stay : (n : ℕ) (tests : ℕ → List ℕ → List (ℕ → Bool)) (count own m k : ℕ) → scan_parts n tests count own (stopped m k) ≡ stopped m k
unfolding scan_parts scan_part
parts_stay n tests zero own m k = refl
parts_stay n tests (suc count) own m k = parts_stay n tests count (suc own) m k

pub spare_stays : (room m k : ℕ) → scan_spare room (stopped m k) ≡ stopped m k
unfolding scan_spare
spare_stays zero m k = refl
spare_stays (suc room) m k = refl

-- One word, and then the rest of the tests.
pub words_more : (n : ℕ) (t : ℕ → Bool) (ts : List (ℕ → Bool)) (s : Scan) → scan_words n ts (scan_words n (t ∷ []) s) ≡ scan_words n (t ∷ ts) s
unfolding scan_words
words_more n t [] (reading i []) = refl
words_more n t (u ∷ ts) (reading i []) = refl
words_more n t ts (reading i (w ∷ ws)) = go (t w)
  where
    go : (b : Bool) → scan_words n ts (cond b (reading (suc i) ws) (stopped n i)) ≡ cond b (scan_words n ts (reading (suc i) ws)) (stopped n i)
    go true = refl
    go false = words_stay n ts n i
words_more n t [] (stopped m k) = refl
words_more n t (u ∷ ts) (stopped m k) = refl

-- A step of a scan, behind which the tests `rest` are left: where it stops, so does the whole; else they go on from where it stands.
module _ {X : Type 0} (r : Result X Refusal) (now : Reading) {s : Scan} (e : scan_of r now ≡ s) where
  pub stops : (rest : Scan → Scan) → ((m k : ℕ) → rest (stopped m k) ≡ stopped m k) → (v : Refusal) → r ≡ Err v
      → stopped (number_of v.reason) v.place ≡ rest s
  stops rest stays v q =
      sym (stays (number_of v.reason) v.place) ∙ ap rest (ap (λ (x : Result X Refusal). scan_of x now) (sym q) ∙ e)

  pub goes : (x : X) → r ≡ Ok x → from now ≡ s
  goes x q = ap (λ (y : Result X Refusal). scan_of y now) (sym q) ∙ e

-- The tests `ts` from where a scan stands give the whole.
pub record WordsLeft (n : ℕ) (ts : List (ℕ → Bool)) (s whole : Scan) : Type 0 where
  pub give : scan_words n ts s ≡ whole

-- The first of them judges a word.
module _ {n : ℕ} {t : ℕ → Bool} {ts : List (ℕ → Bool)} {s whole : Scan} (left : WordsLeft n (t ∷ ts) s whole)
    {X : Type 0} (r : Result X Refusal) (now : Reading) (e : scan_of r now ≡ scan_words n (t ∷ []) s) where
  pub left_stops : (v : Refusal) → r ≡ Err v → stopped (number_of v.reason) v.place ≡ whole
  left_stops v q = stops r now e (scan_words n ts) (words_stay n ts) v q ∙ words_more n t ts s ∙ left.give

  pub left_next : (x : X) → r ≡ Ok x → WordsLeft n ts (from now) whole
  left_next x q = record { give = ap (scan_words n ts) (goes r now e x q) ∙ words_more n t ts s ∙ left.give }

-- Of a row `j` uses are judged; those that are left, from where the scan stands, give the whole.
pub record RowLeft (n : ℕ) (f : ℕ → ℕ → Bool) (uses : List ℕ) (j : ℕ) (s whole : Scan) : Type 0 where
  pub give : scan_words n (map f (drop j uses)) s ≡ whole

module _ {n : ℕ} {f : ℕ → ℕ → Bool} {uses : List ℕ} {j : ℕ} {s whole : Scan} (left : RowLeft n f uses j s whole) where
  -- There is one more.
  module _ (h : j < length uses) (u : ℕ) (q : get_or uses j 0 ≡ u) {X : Type 0} (r : Result X Refusal) (now : Reading) (e : scan_of r now ≡ scan_words n (f u ∷ []) s) where
    first : WordsLeft n (f u ∷ map f (drop (j + 1) uses)) s whole
    first = record {
      give = (λ i. scan_words n (f (sym q i) ∷ map f (drop (add-one j i) uses)) s)
          ∙ ap (λ (r : List ℕ). scan_words n (map f r) s) (sym (drop-cons uses j 0 h)) ∙ left.give;
    }

    pub row_stop : (v : Refusal) → r ≡ Err v → stopped (number_of v.reason) v.place ≡ whole
    row_stop v p = left_stops first r now e v p

    pub row_next : (x : X) → r ≡ Ok x → RowLeft n f uses (j + 1) (from now) whole
    row_next x p = record { give = (left_next first r now e x p).give }

  -- All are judged.
  pub row_done : length uses ≤ j → s ≡ whole
  unfolding scan_words
  row_done h = ap (λ (r : List ℕ). scan_words n (map f r) s) (sym (drop_of_length-le uses h)) ∙ left.give

-- The constant rows of the code.
abbrev pub uses : List (List Use)
uses =
    (Entry ∷ Part ∷ Offset ∷ Any ∷ [])
    ∷ (Unused ∷ Unused ∷ Unused ∷ Unused ∷ [])
    ∷ (Unused ∷ Unused ∷ Unused ∷ Unused ∷ [])
    ∷ (Unused ∷ Unused ∷ Unused ∷ Unused ∷ [])
    ∷ (Constant ∷ Unused ∷ Unused ∷ Unused ∷ [])
    ∷ (Child ∷ Child ∷ Any ∷ Unused ∷ [])
    ∷ (Child ∷ Child ∷ Any ∷ Unused ∷ [])
    ∷ (Child ∷ Unused ∷ Any ∷ Unused ∷ [])
    ∷ (Child ∷ Child ∷ Any ∷ Unused ∷ [])
    ∷ []

-- They are those of the table.
pub uses_row : (kind : ℕ) → map use_of (get_or uses (kind - 1) []) ≡ row kind
unfolding row table
uses_row kind = sym (get_or-map (map use_of) uses (kind - 1) [])

-- The tests of a record and of an interaction, in the order in which the words are judged.
module _ (s : Reading) where
  pub record_left : (p own : ℕ)
      → WordsLeft 5 ((λ w. leb 1 w && leb w 9) ∷ map (fits p own (get_or s.words 1 0)) (row (get_or s.words 0 0))) (from s)
      (scan_part 5 (record_tests p own) (from s))
  unfolding scan_part record_tests
  record_left p own = record { give = refl }

  pub interaction_left : (n : ℕ)
      → WordsLeft 6 ((λ w. leb w 65535) ∷ (λ w. true) ∷ refers n ∷ (λ w. leb w 63) ∷ replicate (get_or s.words 3 0) (refers n)) (from s)
      (scan_part 6 (interaction_tests n) (from s))
  unfolding scan_part interaction_tests
  interaction_left n = record { give = refl }

-- A word that was read as a kind is one.
pub kind_read : (old now : Reading) {k : ℕ} → old.words ≡ k ∷ now.words → from now ≡ scan_words 5 ((λ w. leb 1 w && leb w 9) ∷ []) (from old) → (1 ≤ k) × (k ≤ 9)
kind_read old now {k} q e =
    let t = and_true (leb 1 k) (leb k 9) (word_passed 5 (λ w. leb 1 w && leb w 9) old.at old.words q e) in
    (leb-true _ _ t.0, leb-true _ _ t.1)

-- The words a to d of a record, by the kind that was read and by the word a, the first of those that are left.
pub record_rest : (p own : ℕ) (old now : Reading) {k a : ℕ} {uses : List ℕ} → old.words ≡ k ∷ now.words → a ≡ get_or now.words 0 0 → uses ≡ row k
    → scan_words 5 (map (fits p own a) uses) (from now)
    ≡ scan_words 5 (map (fits p own (get_or old.words 1 0)) (row (get_or old.words 0 0))) (from now)
record_rest p own old now {k} {a} {uses} q e u =
    let first : a ≡ get_or old.words 1 0 = e ∙ ap (λ (ws : List ℕ). get_or ws 1 0) (sym q) in
    let kind : uses ≡ row (get_or old.words 0 0) = u ∙ ap (λ (ws : List ℕ). row (get_or ws 0 0)) (sym q) in
    λ i. scan_words 5 (map (fits p own (first i)) (kind i)) (from now)

-- The fourth of four words that are read.
pub fourth : {ws us vs xs ys : List ℕ} {a b c d : ℕ} → ws ≡ a ∷ us → us ≡ b ∷ vs → vs ≡ c ∷ xs → xs ≡ d ∷ ys → d ≡ get_or ws 3 0
fourth {ws} {us} {vs} {xs} {ys} {a} {b} {c} {d} e f g h =
    let all : a ∷ b ∷ c ∷ d ∷ ys ≡ ws = cc in
    ap (λ (l : List ℕ). get_or l 3 0) all

-- Of `count` parts `own` are judged; those that are left, from where the scan stands, give the whole.
pub record PartsLeft (n : ℕ) (tests : ℕ → List ℕ → List (ℕ → Bool)) (count own : ℕ) (s whole : Scan) : Type 0 where
  pub give : scan_parts n tests (count - own) own s ≡ whole

-- None is judged.
pub parts_begin : (n : ℕ) (tests : ℕ → List ℕ → List (ℕ → Bool)) (count : ℕ) (s : Scan) → PartsLeft n tests count 0 s (scan_parts n tests count 0 s)
parts_begin n tests count s =
    let z : count - 0 ≡ count = omega arith in
    record { give = ap (λ (k : ℕ). scan_parts n tests k 0 s) z }

module _ {n : ℕ} {tests : ℕ → List ℕ → List (ℕ → Bool)} {count own : ℕ} {s whole : Scan} (left : PartsLeft n tests count own s whole) where
  -- There is one more.
  module _ (h : own < count) {X : Type 0} (r : Result X Refusal) (now : Reading) (e : scan_of r now ≡ scan_part n (tests own) s) where
    abbrev behind : Scan → Scan
    behind = scan_parts n tests (count - (own + 1)) (own + 1)

    more : behind (scan_part n (tests own) s) ≡ whole
    unfolding scan_parts
    more =
        let m : suc (count - (own + 1)) ≡ count - own = omega arith in
        (λ i. scan_parts n tests (count - (own + 1)) (add-one own i) (scan_part n (tests own) s)) ∙ ap (λ (k : ℕ). scan_parts n tests k own s) m ∙ left.give

    pub parts_stop : (v : Refusal) → r ≡ Err v → stopped (number_of v.reason) v.place ≡ whole
    parts_stop v q = stops r now e behind (parts_stay n tests (count - (own + 1)) (own + 1)) v q ∙ more

    pub parts_next : (x : X) → r ≡ Ok x → PartsLeft n tests count (own + 1) (from now) whole
    parts_next x q = record { give = ap behind (goes r now e x q) ∙ more }

  -- All are judged.
  pub parts_done : count ≤ own → s ≡ whole
  unfolding scan_parts
  parts_done h =
      let z : 0 ≡ count - own = omega arith in
      ap (λ (k : ℕ). scan_parts n tests k own s) z ∙ left.give

-- Words that all have one test: none of `count` is judged; `k` of them are, and there is one more; or all are judged.
pub same_begin : (n : ℕ) (t : ℕ → Bool) (count : ℕ) (s : Scan) → WordsLeft n (replicate (count - 0) t) s (scan_words n (replicate count t) s)
same_begin n t count s =
    let z : count - 0 ≡ count = omega arith in
    record { give = ap (λ (k : ℕ). scan_words n (replicate k t) s) z }

module _ {n : ℕ} (t : ℕ → Bool) {count k : ℕ} {s whole : Scan} (left : WordsLeft n (replicate (count - k) t) s whole) where
  pub same_first : k < count → WordsLeft n (t ∷ replicate (count - (k + 1)) t) s whole
  same_first h =
      let m : suc (count - (k + 1)) ≡ count - k = omega arith in
      record { give = ap (λ (j : ℕ). scan_words n (replicate j t) s) m ∙ left.give }

  pub same_done : count ≤ k → s ≡ whole
  unfolding scan_words
  same_done h =
      let z : 0 ≡ count - k = omega arith in
      ap (λ (j : ℕ). scan_words n (replicate j t) s) z ∙ left.give

-- `k` spare words are judged; those that are left, from where the scan stands, give the whole.
pub record SpareLeft (k : ℕ) (s : Reading) (whole : Scan) : Type 0 where
  pub give : scan_spare (126 - k) (from s) ≡ whole

-- One spare word, by the room that is left.
spare_room : (k i w : ℕ) (ws : List ℕ) (room : ℕ) → 126 - k ≡ room
    → scan_spare (126 - (k + 1)) (scan_words 7 ((λ w. ltb k 126 && eqb w 0) ∷ []) (reading i (w ∷ ws))) ≡ scan_spare room (reading i (w ∷ ws))
unfolding scan_spare scan_words
spare_room k i w ws zero e = rw (le-ltb k 126 (omega arith)) (spare_stays (126 - (k + 1)) 7 i)
spare_room k i w ws (suc room) e =
    let z : 126 - (k + 1) ≡ room = omega arith in
    rw (lt-ltb k 126 (omega arith), z) (go (eqb w 0))
  where
    go : (b : Bool) → scan_spare room (cond b (reading (suc i) ws) (stopped 7 i)) ≡ cond b (scan_spare room (reading (suc i) ws)) (stopped 7 i)
    go true = refl
    go false = spare_stays room 7 i

module _ {k : ℕ} {s : Reading} {whole : Scan} (left : SpareLeft k s whole) where
  -- There is one more.
  module _ (h : 0 < length s.words) {X : Type 0} (r : Result X Refusal) (now : Reading)
      (e : scan_of r now ≡ scan_words 7 ((λ w. ltb k 126 && eqb w 0) ∷ []) (from s)) where
    spare_more : scan_spare (126 - (k + 1)) (scan_words 7 ((λ w. ltb k 126 && eqb w 0) ∷ []) (from s)) ≡ whole
    spare_more = go s.words h ∙ left.give
      where
        go : (ws : List ℕ) → 0 < length ws
            → scan_spare (126 - (k + 1)) (scan_words 7 ((λ w. ltb k 126 && eqb w 0) ∷ []) (reading s.at ws)) ≡ scan_spare (126 - k) (reading s.at ws)
        go [] h = absurd (omega arith)
        go (w ∷ ws) h = spare_room k s.at w ws (126 - k) refl

    pub spare_stop : (v : Refusal) → r ≡ Err v → stopped (number_of v.reason) v.place ≡ whole
    spare_stop v q = stops r now e (scan_spare (126 - (k + 1))) (spare_stays (126 - (k + 1))) v q ∙ spare_more

    pub spare_next : (x : X) → r ≡ Ok x → SpareLeft (k + 1) now whole
    spare_next x q = record { give = ap (scan_spare (126 - (k + 1))) (goes r now e x q) ∙ spare_more }

  -- None is left.
  pub spare_done : length s.words ≡ 0 → from s ≡ whole
  unfolding scan_spare
  spare_done h = go s.words h ∙ left.give
    where
      go : (ws : List ℕ) → length ws ≡ 0 → reading s.at ws ≡ scan_spare (126 - k) (reading s.at ws)
      go [] h = refl
      go (w ∷ ws) h = absurd (omega arith)

-- Where a scan goes on.
abbrev index_of : Scan → ℕ
index_of (reading i ws) = i
index_of (stopped n k) = 0

-- The stages of the sheet check: what follows the head, the records, the constraints, the interactions.
module _ (p : ℕ) (ws : List ℕ) where
  abbrev pub after_interactions : Scan → Scan
  after_interactions t = scan_spare 126 t

  abbrev pub after_constraints : Scan → Scan
  after_constraints t = scan_spare 126 (scan_parts 6 (λ own. interaction_tests (get_or ws 1 0)) (get_or ws 3 0) 0 t)

  abbrev pub after_records : Scan → Scan
  after_records t = after_constraints (scan_words 6 (replicate (get_or ws 2 0) (refers (get_or ws 1 0))) t)

  abbrev pub after_head : Scan → Scan
  after_head t = after_records (scan_parts 5 (record_tests p) (get_or ws 1 0) 0 t)

  pub from_head : after_head (scan_words 3 head_tests (reading 0 ws)) ≡ scan_sheet p ws
  unfolding scan_sheet
  from_head = refl

  pub interactions_stay : (m k : ℕ) → after_interactions (stopped m k) ≡ stopped m k
  interactions_stay m k = spare_stays 126 m k

  pub constraints_stay : (m k : ℕ) → after_constraints (stopped m k) ≡ stopped m k
  constraints_stay m k = ap (scan_spare 126) (parts_stay 6 (λ own. interaction_tests (get_or ws 1 0)) (get_or ws 3 0) 0 m k) ∙ interactions_stay m k

  pub records_stay : (m k : ℕ) → after_records (stopped m k) ≡ stopped m k
  records_stay m k = ap after_constraints (words_stay 6 (replicate (get_or ws 2 0) (refers (get_or ws 1 0))) m k) ∙ constraints_stay m k

  pub head_stays : (m k : ℕ) → after_head (stopped m k) ≡ stopped m k
  head_stays m k = ap after_records (parts_stay 5 (record_tests p) (get_or ws 1 0) 0 m k) ∙ records_stay m k

  -- A scan that stopped refuses the sheet; one that went to the end accepts it.
  pub refuses : (v : Refusal) → stopped (number_of v.reason) v.place ≡ scan_sheet p ws → checked_outcome (Err v) ≡ check_call p ws
  unfolding check judged
  refuses v e = ap (λ (t : Scan). told (judged t (read_sheet ws))) e ∙ check_told p ws

  module _ {end : Reading} (e : from end ≡ scan_sheet p ws) where
    accepts : check p ws ≡ good (read_sheet ws)
    unfolding check judged
    accepts = ap (λ (t : Scan). judged t (read_sheet ws)) (sym e)

    -- The words are those of the sheet and zeros, so the head and the places are the sheet's.
    module _ (b : Reading)
        (at_b : from b ≡ scan_words 6 (replicate (get_or ws 2 0) (refers (get_or ws 1 0)))
        (scan_parts 5 (record_tests p) (get_or ws 1 0) 0 (scan_words 3 head_tests (reading 0 ws))))
        (l : Reading) (at_l : from l ≡ scan_parts 6 (λ own. interaction_tests (get_or ws 1 0)) (get_or ws 3 0) 0 (from b)) where
      abbrev head : Head
      head = record { records = get_or ws 1 0; constraints = get_or ws 2 0; interactions = get_or ws 3 0; start = b.at; words = l.at }

      pub is_head : checked_outcome (Ok head) ≡ check_call p ws
      is_head =
          let c = check_sound p ws (read_sheet ws) accepts in
          go (read_sheet ws) c.0 c.1.0 c.1.2
          ∙ ap told (sym accepts)
          ∙ check_told p ws
        where
          go : (s : semantics.Sheet) → Inside p s → (k : ℕ) → ws ≡ encode s ++ replicate k 0
              → checked_outcome (Ok head) ≡ told (good s)
          go s h k w =
              let zs : List ℕ = replicate k 0 in
              let c₁ : get_or ws 1 0 ≡ length s.records = ap (λ (u : List ℕ). get_or u 1 0) w ∙ unfold encode head_words in refl in
              let c₂ : get_or ws 2 0 ≡ length s.constraints = ap (λ (u : List ℕ). get_or u 2 0) w ∙ unfold encode head_words in refl in
              let c₃ : get_or ws 3 0 ≡ length s.interactions = ap (λ (u : List ℕ). get_or u 3 0) w ∙ unfold encode head_words in refl in
              let eb : b.at ≡ place 5 (length s.records) + length s.constraints =
              ap index_of (at_b ∙ (λ i. scan_words 6 (replicate (c₂ i) (refers (c₁ i))) (scan_parts 5 (record_tests p) (c₁ i) 0 (scan_words 3 head_tests (reading 0 (w i)))))
              ∙ scan_to_interactions p s h zs) in
              let el : l.at ≡ length_of s =
              ap index_of (at_l ∙ ap (scan_parts 6 (λ own. interaction_tests (get_or ws 1 0)) (get_or ws 3 0) 0) at_b
              ∙ (λ i. scan_parts 6 (λ own. interaction_tests (c₁ i)) (c₃ i) 0
              (scan_words 6 (replicate (c₂ i) (refers (c₁ i))) (scan_parts 5 (record_tests p) (c₁ i) 0 (scan_words 3 head_tests (reading 0 (w i))))))
              ∙ scan_to_end p s h zs) in
              λ i. checked_outcome (Ok (record { records = c₁ i; constraints = c₂ i; interactions = c₃ i; start = eb i; words = el i }))
