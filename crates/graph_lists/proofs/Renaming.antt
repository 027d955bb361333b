-- Interactions with their references turned into node numbers.
use mathlib.Core.Path.{◌≡◌, refl}
use mathlib.Core.List.{List, [], ◌∷◌, ◌++◌, map, flat_map}
use Prim.Native.Nat.{ℕ, pred}
use lib.ListN.{length}
use Rattle.semantics.specs.Sheet.{Interaction, interaction_words}
use Rattle.semantics.specs.Graph.{renamed}
use Rattle.semantics.specs.Walk.{Mem}
use Rattle.semantics.proofs.Members.{mem_here, mem_there, mem_left, mem_right}
use Rattle.records.specs.Named.{references_of, references}
use Rattle.graph_lists.specs.Lists.{marks_of, renamed_words, renamed_all}

-- Two functions that agree on a list.
pub map_same : (f g : ℕ → ℕ) (xs : List ℕ) → ((c : ℕ) → Mem c xs → f c ≡ g c) → map f xs ≡ map g xs
map_same f g [] h = refl
map_same f g (x ∷ xs) h = λ i. h x (mem_here x xs) i ∷ map_same f g xs (λ c m. h c (mem_there c x xs m)) i

-- The marks give the numbers of all that interactions name.
module _ (scratch : List ℕ) (num : ℕ → ℕ) where
  renamed_one : (x : Interaction) → ((c : ℕ) → Mem c (references_of x) → pred (marks_of scratch c) ≡ num c)
      → renamed_words scratch x ≡ interaction_words (renamed num x)
  unfolding interaction_words renamed
  renamed_one x h =
      let c = h x.count (mem_right x.count x.message (x.count ∷ []) (mem_here x.count [])) in
      let m = map_same (λ (n : ℕ). pred (marks_of scratch n)) num x.message (λ n k. h n (mem_left n x.message (x.count ∷ []) k)) in
      λ i. x.bus ∷ x.weight ∷ c i ∷ length (m i) ∷ m i

  pub renamed_are : (xs : List Interaction) → ((c : ℕ) → Mem c (references xs) → pred (marks_of scratch c) ≡ num c)
      → renamed_all scratch xs ≡ flat_map interaction_words (map (renamed num) xs)
  unfolding flat_map
  renamed_are [] h = refl
  renamed_are (x ∷ xs) h =
      λ i. renamed_one x (λ c m. h c (mem_left c (references_of x) (references xs) m)) i ++ renamed_are xs (λ c m. h c (mem_right c (references_of x) (references xs) m)) i
