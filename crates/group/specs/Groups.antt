-- The groups that are counted so far, the monomials that wait beside them, and what counting and placing does.
use Rattle.std.specs.Prelude.{◌≡◌, Option, Some, None, List, [], ℕ, ◌*◌, ◌<◌, length}
use Rattle.semantics.specs.Group.{Item}
use Rattle.group.specs.declared.Groups.{Groups}
use Rattle.group.specs.declared.waits.Waits.{Waits}
use Rattle.group.specs.declared.place.Form.{Form}
use Rattle.slices.specs.Rows.{rows}
use Rattle.group.specs.Grouped.{Tally, tally_all, tallied, totalled, ToPlace, Places}
use Rattle.group.specs.Waiting.{Pending, batched}

abbrev pub tallies : Groups → List Tally
tallies g = tallied g.n g.headers.now g.pool.now

-- They stand in the same slice, over the same pool.
pub record Same (g h : Groups) : Type 0 where
  pub slice : h.headers.ghost_name ≡ g.headers.ghost_name
  pub long : length h.headers.now ≡ length g.headers.now
  pub pool : h.pool.now ≡ g.pool.now

-- No groups, in a slice as long as this one, over this pool.
pub record Starts (headers pool : List ℕ) (g : Groups) : Type 0 where
  pub none : tallies g ≡ []
  pub long : length g.headers.now ≡ length headers
  pub pool_is : g.pool.now ≡ pool

-- The n groups whose rows stand in these headers, over this pool.
pub record Holds (n : ℕ) (headers pool : List ℕ) (g : Groups) : Type 0 where
  pub count : g.n ≡ n
  pub headers_are : g.headers.now ≡ headers
  pub pool_is : g.pool.now ≡ pool

-- After counting: the groups have these tallies, or the slice is too short for them.
abbrev pub Counted : (g h : Groups) → List Tally → Option (Unit {0}) → Type 0
Counted g h gs (Some u) = Same g h × (tallies h ≡ gs)
Counted g h gs None = length g.headers.now < 4 * length gs

-- The monomials that wait have no row among the groups, and what is counted with them.
abbrev pub Awaits : Groups → Waits → Type 0
Awaits g w = Pending w.count w.places g.pool.now (tallies g)

abbrev pub counting : Groups → Waits → List Tally
counting g w = batched g.n w.count g.headers.now g.pool.now w.places

-- Monomials with these variables are counted or wait too.
abbrev pub Took : (g : Groups) (w : Waits) (vs : List (List ℕ)) (h : Groups) (v : Waits) → Type 0
Took g w vs h v = Same g h × Awaits h v × (counting h v ≡ tally_all vs (counting g w))

-- After monomials with these variables: they are taken, or nothing is done, since those that wait come first.
abbrev pub Nexts : (g : Groups) (w : Waits) (vs : List (List ℕ)) (h : Groups) (v : Waits) → Option ℕ → Type 0
Nexts g w vs h v (Some near) = Took g w vs h v
Nexts g w vs h v None = (0 < w.count) × (h ≡ g) × (v ≡ w)

-- The same, but that those that wait are put in where they come first; the slice may be too short for them.
abbrev pub Takes : (g : Groups) (w : Waits) (vs : List (List ℕ)) (h : Groups) (v : Waits) → Option ℕ → Type 0
Takes g w vs h v (Some near) = Took g w vs h v
Takes g w vs h v None = length g.headers.now < 4 * length (counting g w)

-- What placing some items asks, and what it does.
abbrev pub MayPlace : Form → Groups → (terms : List ℕ) → List Item → Type 0
MayPlace form g terms ts = ToPlace form g.n g.headers.now g.pool.now terms ts

pub record Placed (form : Form) (g : Groups) (terms : List ℕ) (h : Groups) (terms' : List ℕ) (ts : List Item) : Type 0 where
  pub same : Same g h
  pub rows : h.n ≡ g.n
  pub places : Places form g.n g.pool.now g.headers.now terms h.headers.now terms' ts

-- The cursor of each row is set to where its first term goes: the total of the terms before it.
pub record Cursors (g h : Groups) : Type 0 where
  pub same : Same g h
  pub count : h.n ≡ g.n
  pub tallies_are : tallies h ≡ tallies g
  pub set : rows 4 g.n h.headers.now ≡ totalled 1 3 0 (rows 4 g.n g.headers.now)
