-- What adding records asks and changes.
use Rattle.std.specs.Prelude.{◌≡◌, false, List, ℕ, ◌-◌, ◌<◌, length, get_or}
use Rattle.semantics.specs.Check.{prime_of}
use Rattle.semantics.specs.Walk.{member}
use Rattle.semantics.specs.Value.{node_of, record_at}
use Rattle.semantics.specs.Graph.{Pick, pick}
use Rattle.records.specs.Access.{node_in, records_of}
use Rattle.records.specs.Nodes.{shown_node, as_record, CarriesLeaf}
use Rattle.records.specs.Orders.{Order, There, Visits, Finishes, Visiting}
use Rattle.nodes.specs.declared.rules.Child.{Child}
use Rattle.nodes.specs.Memory.{built_of, GraphHolds}
use Rattle.graph_walk.specs.declared.Walk.{Walk}

-- Scratch and output hold the nodes of the records done.
abbrev pub State : Walk → (done : List ℕ) → Type 0
State w done = GraphHolds w.sheet.words.now done w.scratch.now w.out.now w.n

-- A walk over these words, from an output that holds n nodes.
pub record Starts (ws scratch out : List ℕ) (n : ℕ) (w : Walk) : Type 0 where
  pub sheet_is : w.sheet.words.now ≡ ws
  pub scratch_is : w.scratch.now ≡ scratch
  pub out_is : w.out.now ≡ out
  pub count_is : w.n ≡ n

-- It goes on over the same sheet, in the same two slices, and the output is as long as it was.
pub record Same (v w : Walk) : Type 0 where
  pub sheet : w.sheet.words.now ≡ v.sheet.words.now
  pub scratch : w.scratch.ghost_name ≡ v.scratch.ghost_name
  pub out : w.out.ghost_name ≡ v.out.ghost_name
  pub long : length w.out.now ≡ length v.out.now

-- What adding records asks: some records are added.
pub record AddWalking (w : Walk) : Type 0 where
  pub done : List ℕ
  pub order : Order w.sheet.words.now done
  pub holds : State w done

-- What adding a record whose children are added asks.
pub record Adding (w : Walk) (r : ℕ) : Type 0 where
  pub walking : AddWalking w
  pub inside : r < length (records_of w.sheet.words.now)
  pub new : member r walking.done ≡ false
  pub there : There w.sheet.words.now r walking.done

-- What is read of an added child: its number, and its node, which carries the record that stands there if it is a leaf.
abbrev pub Reads : Walk → (c : ℕ) → Child → Type 0
Reads w c x =
    (x.number ≡ get_or w.scratch.now c 0 - 1) × (shown_node x.node ≡ node_of (node_in w.out.now (get_or w.scratch.now c 0 - 1)))
    × CarriesLeaf x.node (as_record (node_in w.out.now (get_or w.scratch.now c 0 - 1)))

abbrev pub pick_of_record : (ws : List ℕ) (r : ℕ) (done : List ℕ) → Pick
pick_of_record ws r done = pick (prime_of ws) (built_of ws done) (record_at (records_of ws) r) (node_of (record_at (records_of ws) r))

-- What is picked is the node of record r, whatever records are done, if its children are.
abbrev pub Picks : Walk → (r : ℕ) → Pick → Type 0
Picks w r x = (done : List ℕ) → Order w.sheet.words.now done → There w.sheet.words.now r done → State w done → x ≡ pick_of_record w.sheet.words.now r done

-- The walk goes from the one to the other as record r is added, whose children are; as it is added with all that it reaches; and as these records are.
abbrev pub Finished : (v : Walk) (r : ℕ) (w : Walk) → Type 0
Finished v r w = Same v w × Finishes v.sheet.words.now r (State v) (State w)

abbrev pub Visited : (v : Walk) (r : ℕ) (w : Walk) → Type 0
Visited v r w = Same v w × Visits v.sheet.words.now r (State v) (State w)

abbrev pub Walks : (v : Walk) (roots : List ℕ) (w : Walk) → Type 0
Walks v roots w = Same v w × Visiting v.sheet.words.now roots (State v) (State w)
