-- The numbers that each call can send, of those that 01 lists; the places of packing, unpacking and the block check; and how large a header is.
use Rattle.std.specs.Prelude.{◌≡◌, true, List, [], ◌∷◌, ◌++◌, ℕ, ◌/◌, ◌≤◌, length, get_or}
use Rattle.slices.specs.Rows.{rows}
use Rattle.semantics.specs.Sheet.{Record}
use Rattle.semantics.specs.Walk.{member}
use Rattle.semantics.specs.Call.{Outcome, Accepted, handed_back, block_check_call, reader_call, writer_call, check_call, builder_call, max_rotation_call, num_constraints_call, conversion_call}
use Rattle.semantics.specs.Call.{pack_call, variable_call, unpack_call, constraint_call, interaction_call}

-- The number of the reply is 0 or one of these.
abbrev pub Sends : List ℕ → Outcome → Type 0
Sends ns o = member o.reply.number (0 ∷ ns) ≡ true

-- "Every sheet call first checks it (3 to 7)"
abbrev pub of_sheet : List ℕ
of_sheet = 3 ∷ 4 ∷ 5 ∷ 6 ∷ 7 ∷ []

-- "Then 14, work before pool; .. then the walk (8 to 13, 16); then 17."
abbrev pub of_expansion : List ℕ
of_expansion = 14 ∷ 8 ∷ 9 ∷ 10 ∷ 11 ∷ 12 ∷ 13 ∷ 16 ∷ 17 ∷ []

-- Each call, on any input and any lent lengths.
pub record Refusals (p : ℕ) : Type 0 where
  pub block_check : (bytes : List ℕ) (number : ℕ) → Sends (1 ∷ []) (block_check_call bytes number)
  pub reader : (bytes : List ℕ) (out : ℕ) → Sends (1 ∷ 15 ∷ 2 ∷ []) (reader_call bytes (out ∷ []))
  pub writer : (ws : List ℕ) (out : ℕ) → Sends (of_sheet ++ (15 ∷ [])) (writer_call p ws (out ∷ []))
  pub check : (ws : List ℕ) → Sends of_sheet (check_call p ws)
  pub builder : (ws : List ℕ) (scratch out : ℕ) → Sends (of_sheet ++ (14 ∷ 15 ∷ [])) (builder_call p ws (scratch ∷ out ∷ []))
  pub max_rotation : (ws : List ℕ) → Sends of_sheet (max_rotation_call p ws)
  pub num_constraints : (ws : List ℕ) → Sends of_sheet (num_constraints_call p ws)
  pub conversion : (ws : List ℕ) (out : ℕ) → Sends (of_sheet ++ (15 ∷ [])) (conversion_call p ws (out ∷ []))
  pub pack : (r : Record) → Sends (5 ∷ 8 ∷ 9 ∷ 10 ∷ 11 ∷ []) (pack_call r)
  pub variable : (r : Record) → Sends (8 ∷ 9 ∷ 10 ∷ 11 ∷ []) (variable_call r)
  pub unpack : (n : ℕ) → Sends (5 ∷ []) (unpack_call n)
  pub constraints : (ws : List ℕ) (work pool h v t : ℕ) → Sends (of_sheet ++ of_expansion) (constraint_call p ws (work ∷ pool ∷ h ∷ v ∷ t ∷ []))
  pub interactions : (ws : List ℕ) (work pool h v t h' v' t' : ℕ) → Sends (of_sheet ++ of_expansion) (interaction_call p ws (work ∷ pool ∷ h ∷ v ∷ t ∷ h' ∷ v' ∷ t' ∷ []))

-- The places of packing, a word's or 0; of unpacking, "or 5, place 0"; and of the block check alone, "gives 1, place 0".
pub record LowPlaces : Type 0 where
  pub pack : (r : Record) → (pack_call r).reply.place ≤ 4
  pub unpack : (n : ℕ) → (unpack_call n).reply.place ≡ 0
  pub block_check : (bytes : List ℕ) (number : ℕ) → (block_check_call bytes number).reply.place ≡ 0

-- A header's words: at most 14 variables, and at most 64,512 terms (1,024 interactions of 63 fields).
abbrev pub SmallHeader : List ℕ → Type 0
SmallHeader h = (get_or h 2 0 ≤ 14) × (get_or h 3 0 ≤ 64512)

abbrev pub SmallHeaders : List (List ℕ) → Type 0
SmallHeaders [] = Unit {0}
SmallHeaders (h ∷ hs) = SmallHeader h × SmallHeaders hs

-- The headers that output k of an expansion holds.
abbrev pub headers_of : Outcome → (k : ℕ) → List (List ℕ)
headers_of o k = rows 4 (length (handed_back 2 o k) / 4) (handed_back 2 o k)

-- "The two assertions on 65,535 can't be met under the limits."
pub record HeaderSizes (p : ℕ) : Type 0 where
  pub constraints : (ws : List ℕ) (work pool h v t : ℕ) → Accepted (constraint_call p ws (work ∷ pool ∷ h ∷ v ∷ t ∷ []))
      → SmallHeaders (headers_of (constraint_call p ws (work ∷ pool ∷ h ∷ v ∷ t ∷ [])) 0)
  pub interactions : (ws : List ℕ) (work pool h v t h' v' t' : ℕ) → Accepted (interaction_call p ws (work ∷ pool ∷ h ∷ v ∷ t ∷ h' ∷ v' ∷ t' ∷ []))
      → SmallHeaders (headers_of (interaction_call p ws (work ∷ pool ∷ h ∷ v ∷ t ∷ h' ∷ v' ∷ t' ∷ [])) 0)
      × SmallHeaders (headers_of (interaction_call p ws (work ∷ pool ∷ h ∷ v ∷ t ∷ h' ∷ v' ∷ t' ∷ [])) 3)
