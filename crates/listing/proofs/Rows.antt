-- Rows of words that come one after the other, each written as a text.
use mathlib.Core.Path.{◌≡◌, ap, ◌∙◌}
use mathlib.Core.List.{List, [], ◌++◌, flat_map}
use Prim.Native.Nat.{ℕ, suc, ◌+◌, ◌/◌, ◌<◌}
use native.Mathlib.Omega.{arith}
use native.Mathlib.Nat.{add-div_left, div-eq_of_lt}
use native.Mathlib.Numerals.{add-one}
use lib.ListN.{length, length-append}
use Rattle.slices.specs.Rows.{rows}
use Rattle.slices.proofs.Rows.{rows_cons}
use Rattle.listing.specs.declared.output.Out.{Out}
use Rattle.listing.specs.Putting.{Room, Writes}
use Rattle.listing.proofs.Writing.{Done, done_none, done_room, done_more, done_all}

abbrev pub row_lines : (width : ℕ) → (List ℕ → List ℕ) → List ℕ → List ℕ
row_lines width text ws = flat_map text (rows width (length ws / width) ws)

-- A loop over the rows: those that came are written, the words behind them are left.
pub record RowsDone (width : ℕ) (text : List ℕ → List ℕ) (ws : List ℕ) (old : Out) (size : ℕ) (left : List ℕ) (new : Out) : Type 0 where
  pub size_is : size ≡ width
  pub done : Done old (row_lines width text ws) (row_lines width text left) new

pub rows_none : (width : ℕ) (text : List ℕ → List ℕ) (ws : List ℕ) (o : Out) {size : ℕ} {left : List ℕ} → size ≡ width → left ≡ ws
    → Room o (row_lines width text ws) → RowsDone width text ws o size left o
rows_none width text ws o e f room = record { size_is = e; done = done_none o (ap (row_lines width text) f) room }

module _ {width : ℕ} (some : 0 < width) (text : List ℕ → List ℕ) where
  row_left : (row left : List ℕ) → length row ≡ width → row_lines width text (row ++ left) ≡ text row ++ row_lines width text left
  unfolding flat_map
  row_left row left e =
      ap (λ (n : ℕ). flat_map text (rows width n (row ++ left))) more
      ∙ ap (flat_map text) (rows_cons width (length left / width) row left e)
    where
      more : length (row ++ left) / width ≡ suc (length left / width)
      more = ap (λ (n : ℕ). n / width) (length-append row left ∙ ap (λ (n : ℕ). n + length left) e) ∙ add-div_left (length left) some ∙ add-one (length left / width)

  row_none : (left : List ℕ) → length left < width → row_lines width text left ≡ []
  unfolding rows flat_map
  row_none left l = rw (div-eq_of_lt l)

  module _ {ws : List ℕ} {old new : Out} {size : ℕ} {left : List ℕ} (h : RowsDone width text ws old size left new) where
    pub rows_all : length left < size → Writes old (row_lines width text ws) new
    rows_all l = done_all h.done (row_none left (omega (arith, h.size_is)))

    module _ (row left' : List ℕ) (e : left ≡ row ++ left') (l : length row ≡ size) where
      pub row_wide : length row ≡ width
      row_wide = l ∙ h.size_is

      row_comes : row_lines width text left ≡ text row ++ row_lines width text left'
      row_comes = ap (row_lines width text) e ∙ row_left row left' row_wide

      pub row_room : Room new (text row)
      row_room = done_room h.done (text row) (row_lines width text left') row_comes

      pub row_more : {size' : ℕ} → size' ≡ size → {last : Out} → Writes new (text row) last → RowsDone width text ws old size' left' last
      row_more f k = record {
        size_is = f ∙ h.size_is;
        done = done_more h.done (text row) (row_lines width text left') row_comes k;
      }
