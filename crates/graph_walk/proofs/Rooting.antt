-- Adding the records that some words name.
use mathlib.Core.Path.{◌≡◌, refl, sym, subst, ◌∙◌}
use mathlib.Core.List.{List, [], ◌∷◌, ◌++◌}
use Prim.Native.Nat.{ℕ, ◌+◌, ◌<◌}
use lib.ListN.{length, get_or, take}
use Rattle.semantics.specs.Walk.{Below, children_at, fold_left, visit}
use Rattle.semantics.proofs.Members.{mem_here, mem_left, mem_right, mem_get_or}
use Rattle.semantics.specs.Sheet.{Interaction}
use Rattle.records.specs.Access.{records_of}
use Rattle.records.specs.Named.{references_of, references}
use Rattle.records.specs.Orders.{Order, Visiting}
use Rattle.records.proofs.Rooting.{order_walk, visiting_none, visiting_one, visiting_both}
use Rattle.records.proofs.Named.{PassedRun, run_none, run_below, run_done, run_next, run_more, Last, last_none, last_more}
use Rattle.std.proofs.lemmas.List.{take_more}
use Rattle.records.proofs.Parts.{mem_take}
use Rattle.graph_walk.specs.declared.Walk.{Walk}
use Rattle.graph_walk.specs.Walking.{State, Same, AddWalking, Visited, Walks}

pub same_as : (w : Walk) → Same w w
same_as w = record { sheet = refl; scratch = refl; out = refl; long = refl }

pub same_on : {u v w : Walk} → Same u v → Same v w → Same u w
same_on s t = record { sheet = t.sheet ∙ s.sheet; scratch = t.scratch ∙ s.scratch; out = t.out ∙ s.out; long = t.long ∙ s.long }

-- How many records the sheet has.
abbrev pub size : Walk → ℕ
size w = length (records_of w.sheet.words.now)

-- What is below it stays below.
pub still_inside : {v w : Walk} → Same v w → {r : ℕ} → r < size v → r < size w
still_inside s {r} = subst (λ (ws : List ℕ). r < length (records_of ws)) (sym s.sheet)

pub still_below : {v w : Walk} → Same v w → (xs : List ℕ) → Below (size v) xs → Below (size w) xs
still_below s xs = subst (λ (ws : List ℕ). Below (length (records_of ws)) xs) (sym s.sheet)

pub walks_none : (w : Walk) → Walks w [] w
walks_none w = (same_as w, visiting_none w.sheet.words.now (State w))

pub walks_one : {v w : Walk} (r : ℕ) → r < size v → Visited v r w → Walks v (r ∷ []) w
walks_one {v} {w} r l f = (f.0, visiting_one v.sheet.words.now v.sheet.checked r l (State v) (State w) f.1)

-- One list of records after another.
pub walks_both : {u v w : Walk} (xs ys : List ℕ) → Below (size u) xs → Walks u xs v → Walks v ys w → Walks u (xs ++ ys) w
walks_both {u} {v} {w} xs ys b f g = (
  same_on f.0 g.0,
  visiting_both u.sheet.words.now u.sheet.checked xs ys b (State u) (State v) (State w) f.1 (subst (λ (ws : List ℕ). Visiting ws ys (State v) (State w)) f.0.sheet g.1),
)

-- What is asked again.
unfoldable pub walking_after : {v w : Walk} (roots : List ℕ) → Below (size v) roots → AddWalking v → Walks v roots w → AddWalking w
walking_after {v} {w} roots b p f =
    let done : List ℕ = fold_left (visit (children_at (records_of v.sheet.words.now)) (size v)) p.done roots in
    record {
      done = done;
      order = subst (λ (ws : List ℕ). Order ws done) (sym f.0.sheet) (order_walk v.sheet.words.now v.sheet.checked roots b p.done p.order);
      holds = f.1 p.done p.order p.holds;
    }

-- What holds while the records that are named are added.
pub record Naming (u : Walk) (names : List ℕ) (v : Walk) (j : ℕ) : Type 0 where
  pub walks : Walks u (take j names) v

pub naming_none : {u : Walk} {names : List ℕ} → Naming u names u 0
naming_none {u} = record { walks = walks_none u }

module _ {u : Walk} {names : List ℕ} (p : AddWalking u) (below : Below (size u) names) {v : Walk} {j : ℕ} (h : Naming u names v j) (l : j < length names) where
  so_far : Below (size u) (take j names)
  so_far x m = below x (mem_take x j names m)

  abbrev r : ℕ
  r = get_or names j 0

  inside : r < size v
  inside = still_inside h.walks.0 (below r (mem_get_or names j l))

  pub naming_ready : AddWalking v × (r < size v)
  naming_ready = (walking_after (take j names) so_far p h.walks, inside)

  pub naming_more : {w : Walk} → Visited v r w → Naming u names w (j + 1)
  naming_more {w} f = record {
    walks =
        subst (λ (xs : List ℕ). Walks u xs w) (sym (take_more names j 0 l))
        (walks_both (take j names) (r ∷ []) so_far h.walks (walks_one r inside f));
  }

-- What holds while the interactions are added; `left` are still to add, of all.
pub record Rooting (u : Walk) (all : List Interaction) (v : Walk) (left : List Interaction) : Type 0 where
  pub roots : List ℕ
  pub passed : PassedRun references_of all left roots
  pub last : Last all left
  pub walks : Walks u roots v

pub rooting_none : {u : Walk} {all left : List Interaction} → left ≡ all → Rooting u all u left
rooting_none {u} e = record { roots = []; passed = run_none e; last = last_none e; walks = walks_none u }

module _ {u : Walk} {all : List Interaction} (p : AddWalking u × Below (size u) (references all)) {v : Walk} {left : List Interaction}
    (h : Rooting u all v left) where
  so_far_below : Below (size u) h.roots
  so_far_below = run_below h.passed p.1

  pub rooting_walking : AddWalking v
  rooting_walking = walking_after h.roots so_far_below p.0 h.walks

  pub rooting_done : left ≡ [] → Walks u (references all) v
  rooting_done e = subst (λ (xs : List ℕ). Walks u xs v) (run_done h.passed e) h.walks

  -- The fields of the next are added, then its count.
  module _ {x : Interaction} {rest : List Interaction} (e : left ≡ x ∷ rest) {fields : List ℕ} (fields_are : fields ≡ x.message) where
    next : Below (size u) (references_of x)
    next = run_next h.passed e p.1

    pub fields_inside : Below (size v) fields
    fields_inside =
        still_below h.walks.0 fields (subst (Below (size u)) (sym fields_are) (λ c m. next c (mem_left c x.message (x.count ∷ []) m)))

    module _ {v₁ : Walk} (f : Walks v fields v₁) {count : ℕ} (count_is : count ≡ x.count) where
      count_inside : count < size v₁
      count_inside =
          still_inside f.0
          (still_inside h.walks.0 (subst (λ (c : ℕ). c < size u) (sym count_is) (next x.count (mem_right x.count x.message (x.count ∷ []) (mem_here x.count [])))))

      pub count_ready : AddWalking v₁ × (count < size v₁)
      count_ready = (walking_after fields fields_inside rooting_walking f, count_inside)

      pub rooting_more : {v₂ : Walk} → Visited v₁ count v₂ → Rooting u all v₂ rest
      rooting_more {v₂} g = record {
        roots = h.roots ++ references_of x;
        passed = run_more h.passed e;
        last = last_more h.last e;
        walks =
            walks_both h.roots (references_of x) so_far_below h.walks
            (subst (λ (xs : List ℕ). Walks v xs v₂) (λ i. fields_are i ++ (count_is i ∷ []))
            (walks_both fields (count ∷ []) fields_inside f (walks_one count count_inside g)));
      }
