-- Interactions that stand one behind the other in the words.
use mathlib.Core.Path.{◌≡◌, refl, sym, ap, subst, ◌∙◌}
use mathlib.Core.List.{List, [], ◌∷◌, ◌++◌, flat_map, append_assoc}
use Prim.Native.Nat.{ℕ, suc, ◌+◌, ◌-◌, ◌≤◌}
use native.Mathlib.Omega.{arith}
use lib.ListN.{length, get_or, take, drop, length-append, length-take, length-drop}
use lib.Seq.{drop_at, drop-cons, get_or-take}
use Rattle.std.proofs.lemmas.List.{drop-take, take_rest, get_or-drop}
use Rattle.semantics.specs.Sheet.{Interaction, interaction_words}
use Rattle.semantics.specs.Check.{read_interaction, read_interactions}
use Rattle.records.specs.Access.{InteractionsStand}

-- The words of one interaction.
module _ (ws : List ℕ) (whole : length ws ≡ 4 + get_or ws 3 0) where
  pub fields_read : drop 4 ws ≡ (read_interaction ws).message
  unfolding read_interaction
  fields_read =
      let k : length ws - 4 ≡ get_or ws 3 0 = omega (arith, whole) in
      sym (take_rest ws 4) ∙ ap (λ (n : ℕ). take n (drop 4 ws)) k

  pub length_read : get_or ws 3 0 ≡ length (read_interaction ws).message
  length_read = omega (arith, ap length fields_read, length-drop 4 ws, whole)

  pub count_read : take 1 (drop 2 ws) ≡ (read_interaction ws).count ∷ []
  unfolding read_interaction
  count_read = ap (take 1) (drop-cons ws 2 0 (omega (arith, whole)))

pub none_read : (ws : List ℕ) → read_interactions 0 ws ≡ []
unfolding read_interactions
none_read ws = refl

-- The interaction in front of some words, where there is room for it.
module _ (ws : List ℕ) (room : 4 + get_or ws 3 0 ≤ length ws) where
  abbrev size : ℕ
  size = 4 + get_or ws 3 0

  front_whole : length (take size ws) ≡ 4 + get_or (take size ws) 3 0
  front_whole = omega (arith, length-take size ws, room, get_or-take size ws 3 0 (omega arith))

  front_fields : take (get_or (take size ws) 3 0) (drop 4 (take size ws)) ≡ take (get_or ws 3 0) (drop 4 ws)
  unfolding read_interaction
  front_fields = sym (fields_read (take size ws) front_whole) ∙ drop-take 4 (get_or ws 3 0) ws

  pub front_read : read_interaction (take size ws) ≡ read_interaction ws
  unfolding read_interaction
  front_read = λ i. record {
    bus = get_or-take size ws 0 0 (omega arith) i;
    weight = get_or-take size ws 1 0 (omega arith) i;
    count = get_or-take size ws 2 0 (omega arith) i;
    message = front_fields i;
  }

  pub front_length : length (read_interaction ws).message ≡ get_or ws 3 0
  front_length =
      sym (ap (λ (x : Interaction). length x.message) front_read) ∙ sym (length_read (take size ws) front_whole) ∙ get_or-take size ws 3 0 (omega arith)

-- At a place.
module _ (ws : List ℕ) (at : ℕ) (room : at + (4 + get_or ws (at + 3) 0) ≤ length ws) where
  pub place_read : {n : ℕ} → n ≡ 4 + get_or ws (at + 3) 0 → read_interaction (take n (drop at ws)) ≡ read_interaction (drop at ws)
  place_read {n} e =
      let l : get_or (drop at ws) 3 0 ≡ get_or ws (at + 3) 0 = get_or-drop at ws 3 0 in
      ap (λ (k : ℕ). read_interaction (take k (drop at ws))) (omega (arith, e, l))
      ∙ front_read (drop at ws) (omega (arith, room, l, length-drop at ws))

-- The first of n that stand in the words.
module _ (ws : List ℕ) (n : ℕ) (some : n ≡ 0 → ⊥) (stand : InteractionsStand n ws) where
  more : n ≡ suc (n - 1)
  more = omega (arith, some)

  now : InteractionsStand (suc (n - 1)) ws
  now = subst (λ (k : ℕ). InteractionsStand k ws) more stand

  pub first_room : 4 + get_or ws 3 0 ≤ length ws
  first_room = now.0

  pub rest_stand : InteractionsStand (n - 1) (drop (4 + get_or ws 3 0) ws)
  rest_stand = now.1

  pub first_whole : length (take (4 + get_or ws 3 0) ws) ≡ 4 + get_or (take (4 + get_or ws 3 0) ws) 3 0
  first_whole = front_whole ws first_room

  pub first_read : read_interactions n ws
      ≡ read_interaction (take (4 + get_or ws 3 0) ws) ∷ read_interactions (n - 1) (drop (4 + get_or ws 3 0) ws)
  unfolding read_interactions
  first_read =
      ap (λ (m : ℕ). read_interactions m ws) more
      ∙ λ i. sym (front_read ws first_room) i ∷ read_interactions (n - 1) (drop (4 + get_or ws 3 0) ws)

  -- Read as x, with k words; the words behind it are those that are left.
  module _ {x : Interaction} (x_is : x ≡ read_interaction ws) {k : ℕ} (k_is : k ≡ 4 + length x.message) where
    size_is : k ≡ 4 + get_or ws 3 0
    size_is = omega (arith, k_is, ap (λ (y : Interaction). length y.message) x_is, front_length ws first_room)

    pub first_within : k ≤ length ws
    first_within = omega (arith, size_is, first_room)

    rest_is : drop (4 + get_or ws 3 0) ws ≡ take (length ws - k) (drop k ws)
    rest_is = ap (λ (m : ℕ). drop m ws) (sym size_is) ∙ sym (take_rest ws k)

    pub left_stand : InteractionsStand (n - 1) (take (length ws - k) (drop k ws))
    left_stand = subst (InteractionsStand (n - 1)) rest_is rest_stand

    pub left_read : read_interactions n ws ≡ x ∷ read_interactions (n - 1) (take (length ws - k) (drop k ws))
    left_read = first_read ∙ λ i. (front_read ws first_room ∙ sym x_is) i ∷ read_interactions (n - 1) (rest_is i)

-- Interactions whose words stand one behind the other.
pub words_stand : (xs : List Interaction) (rest : List ℕ) → InteractionsStand (length xs) (flat_map interaction_words xs ++ rest)
unfolding flat_map interaction_words
words_stand [] rest = tt
words_stand (x ∷ xs) rest =
    let tail : List ℕ = flat_map interaction_words xs ++ rest in
    subst (InteractionsStand (suc (length xs))) (sym (append_assoc (interaction_words x) (flat_map interaction_words xs) rest)) (
      omega (arith, length-append (interaction_words x) tail),
      subst (InteractionsStand (length xs)) (sym (drop_at (interaction_words x) tail (4 + length x.message) (omega arith))) (words_stand xs rest),
    )
