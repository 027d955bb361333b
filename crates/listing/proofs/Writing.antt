-- Bytes written one behind the other.
use mathlib.Core.Path.{◌≡◌, refl, sym, ap, ◌∙◌}
use mathlib.Core.List.{List, [], ◌∷◌, ◌++◌, flat_map, append_assoc, append-nil}
use Prim.Native.Nat.{ℕ, ◌+◌, ◌≤◌, ◌<◌}
use native.Mathlib.Omega.{arith}
use native.Mathlib.Numerals.{add-one}
use lib.ListN.{length, get_or, drop, length-append}
use lib.Seq.{drop-cons}
use Rattle.std.proofs.lemmas.List.{drop_all}
use Rattle.slices.specs.Putting.{put}
use Rattle.slices.proofs.Puts.{put_none, put_length, put_behind}
use Rattle.listing.specs.declared.output.Out.{Out}
use Rattle.listing.specs.Putting.{Room, Writes, spaced}

-- Nothing is written.
pub puts_none : (o : Out) → Writes o [] o
puts_none o = record {
  puts = record { out_is = sym (put_none o.bytes.now o.at); next_is = omega arith };
  same = refl;
}

-- There is room for the same bytes, and for what comes first.
pub room_is : (o : Out) {xs ys : List ℕ} → xs ≡ ys → Room o ys → Room o xs
room_is o e h = omega (arith, ap length e)

pub room_front : (o : Out) (xs ys : List ℕ) {zs : List ℕ} → xs ++ ys ≡ zs → Room o zs → Room o xs
room_front o xs ys e h = omega (arith, length-append xs ys, ap length e)

module _ {old new : Out} {xs : List ℕ} (h : Writes old xs new) where
  pub puts_is : {ys : List ℕ} → xs ≡ ys → Writes old ys new
  puts_is {ys} e = record {
    puts = record {
      out_is = h.puts.out_is ∙ ap (put old.bytes.now old.at) e;
      next_is = h.puts.next_is ∙ ap (λ (zs : List ℕ). old.at + length zs) e;
    };
    same = h.same;
  }

  pub puts_length : Room old xs → length new.bytes.now ≡ length old.bytes.now
  puts_length r = ap length h.puts.out_is ∙ put_length old.bytes.now old.at xs r

  -- What is written behind it.
  module _ (ys : List ℕ) {zs : List ℕ} (e : xs ++ ys ≡ zs) (room : Room old zs) where
    all_length : old.at + length xs + length ys ≤ length old.bytes.now
    all_length = omega (arith, length-append xs ys, ap length e)

    pub room_next : Room new ys
    room_next = omega (arith, all_length, h.puts.next_is, puts_length (omega (arith, all_length)))

    pub puts_next : {last : Out} → Writes new ys last → Writes old zs last
    puts_next {last} k = record {
      puts = record {
        out_is =
            k.puts.out_is ∙ put_behind old.bytes.now new.bytes.now old.at xs h.puts.out_is new.at h.puts.next_is ys all_length
            ∙ ap (put old.bytes.now old.at) e;
        next_is = omega (arith, h.puts.next_is, k.puts.next_is, length-append xs ys, ap length e);
      };
      same = k.same ∙ h.same;
    }

-- What is written so far and what is left of the whole, for which there is room.
pub record Done (old : Out) (whole rest : List ℕ) (new : Out) : Type 0 where
  pub room : Room old whole
  pub words : List ℕ
  pub puts : Writes old words new
  pub joins : words ++ rest ≡ whole

pub done_none : (o : Out) {whole rest : List ℕ} → rest ≡ whole → Room o whole → Done o whole rest o
done_none o e room = record { room = room; words = []; puts = puts_none o; joins = e }

module _ {old new : Out} {whole rest : List ℕ} (h : Done old whole rest new) where
  pub done_all : rest ≡ [] → Writes old whole new
  done_all e = puts_is h.puts (sym (append-nil h.words) ∙ ap (λ (l : List ℕ). h.words ++ l) (sym e) ∙ h.joins)

  -- One piece more.
  module _ (xs more : List ℕ) (e : rest ≡ xs ++ more) where
    joined : h.words ++ (xs ++ more) ≡ whole
    joined = ap (λ (l : List ℕ). h.words ++ l) (sym e) ∙ h.joins

    pub done_room : Room new xs
    done_room = room_front new xs more refl (room_next h.puts (xs ++ more) joined h.room)

    pub done_more : {last : Out} → Writes new xs last → Done old whole more last
    done_more k = record {
      room = h.room;
      words = h.words ++ xs;
      puts = puts_next h.puts xs refl (room_front old (h.words ++ xs) more (append_assoc h.words xs more ∙ joined) h.room) k;
      joins = append_assoc h.words xs more ∙ joined;
    }

  -- The last piece.
  pub last_room : Room new rest
  last_room = room_next h.puts rest h.joins h.room

  pub done_last : {last : Out} → Writes new rest last → Writes old whole last
  done_last k = puts_next h.puts rest h.joins h.room k

-- A loop that writes a space and a text for each number: after i numbers those are written and the others are left.
module _ (text : ℕ → List ℕ) (ns : List ℕ) where
  abbrev pub SpacedDone : (old : Out) (i : ℕ) (new : Out) → Type 0
  SpacedDone old i new = Done old (spaced text ns) (spaced text (drop i ns)) new

  next_left : (i : ℕ) → i < length ns → spaced text (drop i ns) ≡ (32 ∷ text (get_or ns i 0)) ++ spaced text (drop (i + 1) ns)
  unfolding flat_map
  next_left i l = rw (drop-cons ns i 0 l, add-one i)

  pub spaced_all : {old new : Out} (i : ℕ) → length ns ≤ i → SpacedDone old i new → Writes old (spaced text ns) new
  unfolding flat_map
  spaced_all i l h = done_all h (rw (drop_all i ns l))

  module _ {old new : Out} (i : ℕ) (l : i < length ns) (h : SpacedDone old i new) where
    next_room : Room new (32 ∷ text (get_or ns i 0))
    next_room = done_room h (32 ∷ text (get_or ns i 0)) (spaced text (drop (i + 1) ns)) (next_left i l)

    pub space_room : Room new (32 ∷ [])
    space_room = room_front new (32 ∷ []) (text (get_or ns i 0)) refl next_room

    module _ {between : Out} (space : Writes new (32 ∷ []) between) where
      pub text_room : Room between (text (get_or ns i 0))
      text_room = room_next space (text (get_or ns i 0)) refl next_room

      pub spaced_more : {last : Out} → Writes between (text (get_or ns i 0)) last → SpacedDone old (i + 1) last
      spaced_more k =
          done_more h (32 ∷ text (get_or ns i 0)) (spaced text (drop (i + 1) ns)) (next_left i l)
          (puts_next space (text (get_or ns i 0)) refl next_room k)
