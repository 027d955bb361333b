-- Placing the terms of roots: what is left to place gives the whole; the roots that the words name.
use mathlib.Core.Path.{◌≡◌, refl, sym, ap, subst, ◌∙◌}
use mathlib.Core.List.{List, [], ◌∷◌, ◌++◌, flat_map, append_assoc, append-nil, map-append}
use Prim.Native.Nat.{ℕ, ◌+◌, ◌≤◌, ◌<◌}
use native.Mathlib.Omega.{arith}
use native.Mathlib.Numerals.{add-one}
use lib.ListN.{length, get_or, drop}
use Rattle.slices.proofs.Lists.{flat_append}
use Rattle.semantics.proofs.Lists.{all_front, all_back}
use Rattle.semantics.specs.Arithmetic.{prime}
use Rattle.semantics.specs.Answer.{good}
use Rattle.semantics.specs.Sheet as semantics
use Rattle.semantics.specs.Check.{read_sheet, check}
use Rattle.semantics.specs.Monomial.{Monomial}
use Rattle.semantics.specs.Group.{Root, labelled, constraint_roots, count_roots, field_roots, Item, items_of, items}
use Rattle.semantics.specs.Lists.{All}
use Rattle.records.specs.declared.interactions.Part.{Part}
use Rattle.records.specs.declared.interactions.Part.TheVariants.{Count, Fields}
use Rattle.records.specs.Access.{records_of}
use Rattle.records.specs.Named.{part_of, parts_of}
use Rattle.records.proofs.Reading.{counts_small}
use Rattle.records.proofs.Named.{interactions_good, part_few}
use Rattle.semantics.proofs.GraphSheets.{InteractionFacts}
use Rattle.std.proofs.lemmas.List.{drop_all}
use Rattle.semantics.proofs.Demands as demands
use Rattle.group.specs.declared.place.Form.{Form}
use Rattle.group.specs.declared.Groups.{Groups}
use Rattle.group.specs.Groups.{Same, MayPlace, Placed}
use Rattle.group.proofs.Tallying.{same_as, same_on, moved}
use Rattle.group.specs.Grouped.{RoomForTerms, list_of, InPool, form_at, index_at, field_at, items_at, Placing, ToPlace, Places, vars_named}
use Rattle.grouping.specs.declared.Family.{Family}
use Rattle.group.specs.declared.place.Form.TheVariants.{Interaction}
use Rattle.group.specs.declared.place.Label.{Label}
use Rattle.grouping.specs.declared.families.Numbering.{Numbering}
use Rattle.grouping.specs.declared.families.Numbering.TheVariants.{ByIndex, ByField}
use Rattle.grouping.specs.Families.{roots_of, nodes_of, label_as, form_as, root_as, named_roots, part_roots, family_of, ToPlaceRoots}
use Rattle.group.proofs.Tallies.{vars_of}
use Rattle.group.proofs.Placements.{room_front}
use Rattle.group.proofs.PoolLists.{items_vars}
use Rattle.grouping.proofs.Finished.{items_label}
use Rattle.grouping.proofs.NamedLists.{names_next}

module _ (list : ℕ → List Monomial) where
  pub items_append : (rs ss : List Root) → items list (rs ++ ss) ≡ items list rs ++ items list ss
  unfolding items
  items_append = flat_append (λ (r : Root). items_of r (list r.node))

  pub items_one : (l : Label) (c : ℕ) → items list (record { node = c; index = index_at l; field = field_at l } ∷ []) ≡ items_at l (list c)
  unfolding items flat_map
  items_one l c = append-nil (items_of (record { node = c; index = index_at l; field = field_at l }) (list c)) ∙ items_label c (index_at l) (field_at l) (list c)

-- The variables of the items of roots are those of the lists of the roots' records.
pub items_named : (P : List ℕ) (rs : List Root) → vars_of (items (list_of P) rs) ≡ vars_named P (nodes_of rs)
unfolding items flat_map vars_named nodes_of
items_named P [] = refl
items_named P (r ∷ rs) =
    map-append (λ (t : Item). t.vars) (items_of r (list_of P r.node)) (items (list_of P) rs)
    ∙ (λ i. items_vars r (list_of P r.node) i ++ items_named P rs i)

pub places_both : (b : Form) (n : ℕ) (P H T H' T' H'' T'' : List ℕ) (ts us : List Item) → Places b n P H T H' T' ts → Places b n P H' T' H'' T'' us
    → Places b n P H T H'' T'' (ts ++ us)
places_both b n P H T H' T' H'' T'' ts us f g gs done p r =
    let e = append_assoc done ts us in
    let q : RoomForTerms gs ((done ++ ts) ++ us) = subst (RoomForTerms gs) (sym e) r in
    subst (Placing b gs n H'' P T'') e (g gs (done ++ ts) (f gs done p (room_front gs (done ++ ts) us q)) q)

-- While terms are placed: those of the roots `left` are still to place.
pub record RootsLeft (b : Form) (g₀ : Groups) (T₀ : List ℕ) (roots : List Root) (g : Groups) (T : List ℕ) (left : List Root) : Type 0 where
  pub ready : ToPlaceRoots b g T left
  pub same : Same g₀ g
  pub rows_are : g.n ≡ g₀.n
  pub passed : List Item
  pub places : Places b g₀.n g₀.pool.now g₀.headers.now T₀ g.headers.now T passed
  pub whole : passed ++ items (list_of g.pool.now) left ≡ items (list_of g₀.pool.now) roots

module _ {b : Form} {g₀ : Groups} {T₀ : List ℕ} {roots : List Root} {g : Groups} {T : List ℕ} {left : List Root} (t : RootsLeft b g₀ T₀ roots g T left) where
  abbrev P : List ℕ
  P = g.pool.now

  pub roots_done : left ≡ [] → Placed b g₀ T₀ g T (items (list_of g₀.pool.now) roots)
  unfolding items flat_map
  roots_done e = record {
    same = t.same;
    rows = t.rows_are;
    places =
        subst (Places b g₀.n g₀.pool.now g₀.headers.now T₀ g.headers.now T)
        (sym (append-nil t.passed) ∙ ap (λ (l : List Root). t.passed ++ items (list_of P) l) (sym e) ∙ t.whole) t.places;
  }

  module _ (xs ys : List Root) (e : left ≡ xs ++ ys) where
    items_are : items (list_of P) left ≡ items (list_of P) xs ++ items (list_of P) ys
    items_are = ap (items (list_of P)) e ∙ items_append (list_of P) xs ys

    lists_are : All (λ (r : Root). InPool P r.node) (xs ++ ys)
    lists_are = subst (All (λ (r : Root). InPool P r.node)) e t.ready.lists

    room_both : RoomForTerms t.ready.to_place.gs ((t.ready.to_place.done ++ items (list_of P) xs) ++ items (list_of P) ys)
    room_both =
        subst (RoomForTerms t.ready.to_place.gs)
        (ap (λ (l : List Item). t.ready.to_place.done ++ l) items_are
        ∙ sym (append_assoc t.ready.to_place.done (items (list_of P) xs) (items (list_of P) ys)))
        t.ready.to_place.room

    room_first : RoomForTerms t.ready.to_place.gs (t.ready.to_place.done ++ items (list_of P) xs)
    room_first = room_front t.ready.to_place.gs (t.ready.to_place.done ++ items (list_of P) xs) (items (list_of P) ys) room_both

    pub roots_next : ToPlaceRoots b g T xs
    roots_next = record {
      to_place = record { gs = t.ready.to_place.gs; done = t.ready.to_place.done; placing = t.ready.to_place.placing; room = room_first };
      lists = all_front (λ (r : Root). InPool P r.node) xs ys lists_are;
    }

    pub roots_more : {g' : Groups} {T' : List ℕ} → Placed b g T g' T' (items (list_of P) xs) → RootsLeft b g₀ T₀ roots g' T' ys
    roots_more {g'} {T'} f = record {
      ready = record {
        to_place =
            moved (λ (n : ℕ) (Q : List ℕ). ToPlace b n g'.headers.now Q T' (items (list_of Q) ys)) (sym f.rows) (sym f.same.pool)
            (record {
              gs = t.ready.to_place.gs;
              done = t.ready.to_place.done ++ items (list_of P) xs;
              placing = f.places t.ready.to_place.gs t.ready.to_place.done t.ready.to_place.placing room_first;
              room = room_both;
            });
        lists = subst (λ (Q : List ℕ). All (λ (r : Root). InPool Q r.node) ys) (sym f.same.pool) (all_back (λ (r : Root). InPool P r.node) xs ys lists_are);
      };
      same = same_on t.same f.same;
      rows_are = f.rows ∙ t.rows_are;
      passed = t.passed ++ items (list_of P) xs;
      places =
          places_both b g₀.n g₀.pool.now g₀.headers.now T₀ g.headers.now T g'.headers.now T' t.passed (items (list_of P) xs) t.places
          (moved (λ (n : ℕ) (Q : List ℕ). Places b n Q g.headers.now T g'.headers.now T' (items (list_of P) xs)) t.rows_are t.same.pool f.places);
      whole =
          append_assoc t.passed (items (list_of P) xs) (items (list_of g'.pool.now) ys)
          ∙ ap (λ (l : List Item). t.passed ++ l)
          ((λ i. items (list_of P) xs ++ items (list_of (f.same.pool i)) ys) ∙ sym items_are)
          ∙ t.whole;
    }

-- Each label of a numbering has its form.
form_is : (k : Numbering) (j : ℕ) → form_at (label_as k j) ≡ form_as k
form_is ByIndex j = refl
form_is (ByField i) j = refl

-- While the terms of records that are named are placed: j of them are passed.
pub record RootsPassed (k : Numbering) (names : List ℕ) (g₀ : Groups) (T₀ : List ℕ) (g : Groups) (T : List ℕ) (j : ℕ) : Type 0 where
  pub left : RootsLeft (form_as k) g₀ T₀ (named_roots k 0 names) g T (named_roots k j (drop j names))

pub roots_none : {b : Form} {g : Groups} {T : List ℕ} {roots : List Root} → ToPlaceRoots b g T roots → RootsLeft b g T roots g T roots
roots_none {b} {g} {T} t = record {
  ready = t;
  same = same_as g;
  rows_are = refl;
  passed = [];
  places = λ gs done p r. subst (Placing b gs g.n g.headers.now g.pool.now T) (sym (append-nil done)) p;
  whole = refl;
}

module _ {k : Numbering} {names : List ℕ} {g₀ : Groups} {T₀ : List ℕ} {g : Groups} {T : List ℕ} {j : ℕ} (t : RootsPassed k names g₀ T₀ g T j) where
  pub named_done : length names ≤ j → Placed (form_as k) g₀ T₀ g T (items (list_of g₀.pool.now) (named_roots k 0 names))
  unfolding labelled
  named_done h = roots_done t.left (ap (named_roots k j) (drop_all j names h))

  module _ (h : j < length names) {label : Label} (e : label ≡ label_as k j) where
    abbrev r : ℕ
    r = get_or names j 0

    abbrev rest : List Root
    rest = named_roots k (j + 1) (drop (j + 1) names)

    next_is : named_roots k j (drop j names) ≡ (root_as k j r ∷ []) ++ rest
    unfolding labelled
    next_is =
        ap (named_roots k j) (names_next names j h)
        ∙ ap (λ (m : ℕ). root_as k j r ∷ named_roots k m (drop (j + 1) names)) (sym (add-one j))

    one_is : items (list_of g.pool.now) (root_as k j r ∷ []) ≡ items_at label (list_of g.pool.now r)
    one_is = items_one (list_of g.pool.now) (label_as k j) r ∙ ap (λ (l : Label). items_at l (list_of g.pool.now r)) (sym e)

    form_now : form_as k ≡ form_at label
    form_now = sym (form_is k j) ∙ ap form_at (sym e)

    pub named_ready : MayPlace (form_at label) g T (items_at label (list_of g.pool.now r)) × InPool g.pool.now r
    named_ready =
        let n = roots_next t.left (root_as k j r ∷ []) rest next_is in (
          subst (λ (b : Form). MayPlace b g T (items_at label (list_of g.pool.now r))) form_now (subst (MayPlace (form_as k) g T) one_is n.to_place),
          n.lists.0,
        )

    pub named_more : {g' : Groups} {T' : List ℕ} → Placed (form_at label) g T g' T' (items_at label (list_of g.pool.now r)) → RootsPassed k names g₀ T₀ g' T' (j + 1)
    named_more {g'} {T'} p = record {
      left = roots_more t.left (root_as k j r ∷ []) rest next_is
          (subst (λ (b : Form). Placed b g T g' T' (items (list_of g.pool.now) (root_as k j r ∷ []))) (sym form_now)
          (subst (Placed (form_at label) g T g' T') (sym one_is) p));
    }

-- The terms of a part of each interaction; `left` are still to place, numbered from i.
pub record PartsPassed (part : Part) (ws : List ℕ) (g₀ : Groups) (T₀ : List ℕ) (g : Groups) (T : List ℕ) (i : ℕ) (left : List semantics.Interaction) : Type 0 where
  pub numbered : i + length left ≡ length (read_sheet ws).interactions
  pub facts : All (InteractionFacts (length (records_of ws))) left
  pub roots : RootsLeft Interaction g₀ T₀ (part_roots part 0 (read_sheet ws).interactions) g T (part_roots part i left)

pub numbered_as : {part : Part} {ws : List ℕ} {g₀ : Groups} {T₀ : List ℕ} {g : Groups} {T : List ℕ} {i k : ℕ} {left : List semantics.Interaction} → k ≡ i
    → PartsPassed part ws g₀ T₀ g T i left → PartsPassed part ws g₀ T₀ g T k left
numbered_as {part} {ws} {g₀} {T₀} {g} {T} {i} {k} {left} e = subst (λ (j : ℕ). PartsPassed part ws g₀ T₀ g T j left) (sym e)

pub parts_none : {part : Part} {ws : List ℕ} {g : Groups} {T : List ℕ} → check prime ws ≡ good (read_sheet ws)
    → ToPlaceRoots Interaction g T (part_roots part 0 (read_sheet ws).interactions)
    → {i : ℕ} → i ≡ 0 → {left : List semantics.Interaction} → left ≡ (read_sheet ws).interactions → PartsPassed part ws g T g T i left
parts_none {part} {ws} {g} {T} checked t {i} z {left} e =
    let xs : List semantics.Interaction = (read_sheet ws).interactions in
    let start : PartsPassed part ws g T g T 0 xs = record { numbered = omega arith; facts = interactions_good ws checked; roots = roots_none t } in
    numbered_as z (subst (PartsPassed part ws g T g T 0) (sym e) start)

module _ {part : Part} {ws : List ℕ} {g₀ : Groups} {T₀ : List ℕ} {g : Groups} {T : List ℕ} {i : ℕ} {left : List semantics.Interaction}
    (p : PartsPassed part ws g₀ T₀ g T i left) where
  pub parts_few : check prime ws ≡ good (read_sheet ws) → i + length left ≤ 1024
  parts_few checked = omega (arith, p.numbered, (counts_small ws checked).2)

  pub parts_done : left ≡ [] → Placed Interaction g₀ T₀ g T (items (list_of g₀.pool.now) (part_roots part 0 (read_sheet ws).interactions))
  unfolding labelled
  parts_done e = roots_done p.roots (ap (part_roots part i) e)

  module _ {x : semantics.Interaction} {rest : List semantics.Interaction} (e : left ≡ x ∷ rest) {names : List ℕ} (names_are : names ≡ part_of part x) where
    facts_now : All (InteractionFacts (length (records_of ws))) (x ∷ rest)
    facts_now = subst (All (InteractionFacts (length (records_of ws)))) e p.facts

    pub names_few : length names ≤ 63
    names_few = omega (arith, ap length names_are, part_few facts_now.0 part)

    next_each : part_roots part i left ≡ named_roots (ByField i) 0 names ++ part_roots part (i + 1) rest
    unfolding labelled
    next_each = ap (part_roots part i) e ∙ (λ z. named_roots (ByField i) 0 (sym names_are z) ++ part_roots part (sym (add-one i) z) rest)

    pub parts_ready : ToPlaceRoots Interaction g T (named_roots (ByField i) 0 names)
    parts_ready = roots_next p.roots (named_roots (ByField i) 0 names) (part_roots part (i + 1) rest) next_each

    pub parts_more : {g' : Groups} {T' : List ℕ} → Placed Interaction g T g' T' (items (list_of g.pool.now) (named_roots (ByField i) 0 names))
        → PartsPassed part ws g₀ T₀ g' T' (i + 1) rest
    parts_more q = record {
      numbered = omega (arith, p.numbered, ap length e);
      facts = facts_now.1;
      roots = roots_more p.roots (named_roots (ByField i) 0 names) (part_roots part (i + 1) rest) next_each q;
    }

-- A checked sheet's roots are those that its words name.
module _ (ws : List ℕ) (checked : check prime ws ≡ good (read_sheet ws)) where
  pub constraint_roots_lem : {names : List ℕ} → names ≡ (read_sheet ws).constraints → named_roots ByIndex 0 names ≡ constraint_roots (read_sheet ws)
  unfolding constraint_roots
  constraint_roots_lem e = ap (named_roots ByIndex 0) e

  pub constraint_nodes : {names : List ℕ} → names ≡ (read_sheet ws).constraints → names ≡ nodes_of (constraint_roots (read_sheet ws))
  unfolding nodes_of
  constraint_nodes e = e ∙ sym (demands.constraint_nodes (read_sheet ws))

  pub constraints_few : {names : List ℕ} → names ≡ (read_sheet ws).constraints → length names ≤ 4294967295
  constraints_few e = omega (arith, ap length e, (counts_small ws checked).1)

-- A part of each interaction.
pub part_roots_lem : (part : Part) (ws : List ℕ) → part_roots part 0 (read_sheet ws).interactions ≡ roots_of (family_of part) (read_sheet ws)
unfolding count_roots field_roots labelled
part_roots_lem Count ws = refl
part_roots_lem Fields ws = refl

pub part_nodes : (part : Part) (ws : List ℕ) → parts_of part (read_sheet ws).interactions ≡ nodes_of (roots_of (family_of part) (read_sheet ws))
unfolding nodes_of
part_nodes Count ws = sym (demands.count_nodes (read_sheet ws))
part_nodes Fields ws = sym (demands.field_nodes (read_sheet ws))

-- The roots of a family that is known.
pub nodes_as : (ws : List ℕ) {f g : Family} → f ≡ g → {names : List ℕ} → names ≡ nodes_of (roots_of g (read_sheet ws)) → names ≡ nodes_of (roots_of f (read_sheet ws))
nodes_as ws k e = e ∙ ap (λ (f : Family). nodes_of (roots_of f (read_sheet ws))) (sym k)

pub roots_as : (ws : List ℕ) {f g : Family} → f ≡ g → {named : List Root} → named ≡ roots_of g (read_sheet ws) → named ≡ roots_of f (read_sheet ws)
roots_as ws k e = e ∙ ap (λ (f : Family). roots_of f (read_sheet ws)) (sym k)

-- Placing the terms of roots that words name.
module _ {b' b : Form} {named roots : List Root} (k : b ≡ b') (e : named ≡ roots) (g : Groups) (T : List ℕ) where
  pub family_ready : ToPlaceRoots b g T roots → ToPlaceRoots b' g T named
  family_ready t = subst (λ (c : Form). ToPlaceRoots c g T named) k (subst (ToPlaceRoots b g T) (sym e) t)

  pub family_placed : (g' : Groups) (T' : List ℕ) → Placed b' g T g' T' (items (list_of g.pool.now) named) → Placed b g T g' T' (items (list_of g.pool.now) roots)
  family_placed g' T' p =
      subst (λ (c : Form). Placed c g T g' T' (items (list_of g.pool.now) roots)) (sym k)
      (subst (λ (l : List Root). Placed b' g T g' T' (items (list_of g.pool.now) l)) e p)
