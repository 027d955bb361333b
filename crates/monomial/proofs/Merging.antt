-- Sorted lists merged from their fronts are sorted together.
use mathlib.Core.Path.{◌≡◌, refl, sym, ap, subst, ◌∙◌}
use mathlib.Core.Bool.{Bool, true, false}
use mathlib.Core.List.{List, [], ◌∷◌, ◌++◌, append_assoc, append-nil}
use Prim.Native.Nat.{ℕ, suc, ◌+◌, ◌-◌, ◌≤◌, ◌<◌}
use native.Mathlib.Omega.{arith}
use lib.Dec.{ltb}
use lib.ListN.{length, get_or, take, drop, set, length-map, length-set, get_or-map}
use lib.Seq.{drop-cons, take-suc-set}
use borrow.Author.Tests.{ltb-true, ltb-false, lt-ltb, le-ltb}
use Rattle.slices.proofs.Lists.{map_set}
use Rattle.std.proofs.lemmas.Bool.Decides.{nat_tests}
use Rattle.std.specs.Ordering.{nat_cmp, is_lt}
use Rattle.semantics.specs.Monomial.{above, insert_sorted, sort}
use Rattle.semantics.specs.Lists.{All, Ahead, Sorted}
use Rattle.semantics.proofs.Basics.{by_test, cond_true, cond_false}
use Rattle.semantics.proofs.Sorting.{all_append, insert_nil, sort_nil, sort_cons, sort_all}
use Rattle.packed_var.specs.declared.PackedVar.{PackedVar}
use Rattle.monomial.specs.Words.{num, nums}
use Rattle.monomial.specs.Merged.{merged, remaining, merged_rest}

-- Numbers that are ahead of those of a list.
ahead_le : (x y : ℕ) (zs : List ℕ) → above x y ≡ false → Ahead above y zs → Ahead above x zs
ahead_le x y [] h k = tt
ahead_le x y (z ∷ zs) h k = (unfold above in (le-ltb z x (omega (arith, ltb-false y x h, ltb-false z y k.0))), ahead_le x y zs h k.1)

abbrev Over : ℕ → List ℕ → Type 0
Over y xs = All (λ (x : ℕ). above x y ≡ true) xs

over_lt : (x y : ℕ) (zs : List ℕ) → above x y ≡ true → Ahead above x zs → Over y zs
over_lt x y [] h k = tt
over_lt x y (z ∷ zs) h k = (unfold above in (lt-ltb y z (omega (arith, ltb-true y x h, ltb-false z x k.0))), over_lt x y zs h k.1)

insert_front : (x : ℕ) (ys : List ℕ) → Ahead above x ys → insert_sorted above x ys ≡ x ∷ ys
insert_front x [] h = insert_nil above x
insert_front x (y ∷ ys) h = unfold insert_sorted in (cond_false (above x y) _ _ h.0)

insert_past : (x y : ℕ) (ys : List ℕ) → above x y ≡ true → insert_sorted above x (y ∷ ys) ≡ y ∷ insert_sorted above x ys
insert_past x y ys h = unfold insert_sorted in (cond_true (above x y) _ _ h)

sort_sorted : (ys : List ℕ) → Sorted above ys → sort above ys ≡ ys
sort_sorted [] h = sort_nil above
sort_sorted (y ∷ ys) h = sort_cons above y ys ∙ ap (insert_sorted above y) (sort_sorted ys h.1) ∙ insert_front y ys h.0

-- A number that is below all of the first list.
sort_past : (y : ℕ) (xs ys : List ℕ) → Over y xs → Sorted above (y ∷ ys) → sort above (xs ++ (y ∷ ys)) ≡ y ∷ sort above (xs ++ ys)
sort_past y [] ys h k = sort_sorted (y ∷ ys) k ∙ ap (λ (t : List ℕ). y ∷ t) (sym (sort_sorted ys k.1))
sort_past y (x ∷ xs) ys h k =
    sort_cons above x (xs ++ (y ∷ ys)) ∙ ap (insert_sorted above x) (sort_past y xs ys h.1 k) ∙ insert_past x y (sort above (xs ++ ys)) h.0
    ∙ ap (λ (t : List ℕ). y ∷ t) (sym (sort_cons above x (xs ++ ys)))

merge_step : (x : ℕ) (xs : List ℕ) (y : ℕ) (ys : List ℕ) → Sorted above (x ∷ xs) → Sorted above (y ∷ ys)
    → merged xs (y ∷ ys) ≡ sort above (xs ++ (y ∷ ys)) → merged (x ∷ xs) ys ≡ sort above ((x ∷ xs) ++ ys)
    → merged (x ∷ xs) (y ∷ ys) ≡ sort above ((x ∷ xs) ++ (y ∷ ys))
unfolding merged
merge_step x xs y ys h k f g =
    by_test (λ (l : List ℕ). l ≡ sort above ((x ∷ xs) ++ (y ∷ ys))) (above x y)
    (λ e. ap (λ (t : List ℕ). y ∷ t) g ∙ sym (sort_past y (x ∷ xs) ys (e, over_lt x y xs e h.0) k))
    (λ e. ap (λ (t : List ℕ). x ∷ t) f
    ∙ sym (sort_cons above x (xs ++ (y ∷ ys))
    ∙ insert_front x (sort above (xs ++ (y ∷ ys)))
    (sort_all above (λ (z : ℕ). above x z ≡ false) (xs ++ (y ∷ ys)) (all_append _ xs (y ∷ ys) h.0 (e, ahead_le x y ys e k.0)))))

pub merged_is : (xs ys : List ℕ) → Sorted above xs → Sorted above ys → merged xs ys ≡ sort above (xs ++ ys)
merged_is [] ys h k = unfold merged in (sym (sort_sorted ys k))
merged_is (x ∷ xs) [] h k = unfold merged in (sym (ap (sort above) (append-nil (x ∷ xs)) ∙ sort_sorted (x ∷ xs) h))
merged_is (x ∷ xs) (y ∷ ys) h k = merge_step x xs y ys h k (merged_is xs (y ∷ ys) h.1 k) (merged_is (x ∷ xs) ys h k.1)

-- What remains goes on with the number at i, or has ended.
remaining_cons : (n i : ℕ) (vs : List PackedVar) → i < n → n ≤ length (nums vs) → remaining vs i n ≡ get_or (nums vs) i 0 ∷ remaining vs (i + 1) n
remaining_cons n i vs h l =
    let m : n - i ≡ suc (n - (i + 1)) = omega arith in
    let k : suc i ≡ i + 1 = omega arith in
    (λ t. take (m t) (drop-cons (nums vs) i 0 (omega arith) t)) ∙ ap (λ (j : ℕ). get_or (nums vs) i 0 ∷ take (n - (i + 1)) (drop j (nums vs))) k

remaining_nil : (n i : ℕ) (vs : List PackedVar) → n ≤ i → remaining vs i n ≡ []
remaining_nil n i vs h = let z : n - i ≡ 0 = omega arith in ap (λ (k : ℕ). take k (drop i (nums vs))) z

merged_nil : (xs : List ℕ) → merged xs [] ≡ xs
unfolding merged
merged_nil [] = refl
merged_nil (x ∷ xs) = refl

-- The next number v: the left list's (l is 1) or the right list's (0).
abbrev pub Takes : (vs us : List PackedVar) (i n j m v l : ℕ) → Type 0
Takes vs us i n j m v l = merged_rest vs i n us j m ≡ v ∷ merged_rest vs (i + l) n us (j + (1 - l)) m

module _ (vs us : List PackedVar) (i n j m : ℕ) (hs : n ≤ length (nums vs)) (hd : m ≤ length (nums us)) where
  same_left : remaining vs i n ≡ remaining vs (i + 0) n
  same_left = let z : i ≡ i + 0 = omega arith in ap (λ (k : ℕ). remaining vs k n) z

  same_right : remaining us j m ≡ remaining us (j + (1 - 1)) m
  same_right = let z : j ≡ j + (1 - 1) = omega arith in ap (λ (k : ℕ). remaining us k m) z

  only_left : m ≤ j → i < n → Takes vs us i n j m (get_or (nums vs) i 0) 1
  only_left h k =
      let x : ℕ = get_or (nums vs) i 0 in
      ap (merged (remaining vs i n)) (remaining_nil m j us h) ∙ merged_nil (remaining vs i n) ∙ remaining_cons n i vs k hs
      ∙ ap (λ (t : List ℕ). x ∷ t) (sym (merged_nil (remaining vs (i + 1) n)) ∙ ap (merged (remaining vs (i + 1) n)) (sym (remaining_nil m j us h) ∙ same_right))

  only_right : n ≤ i → j < m → Takes vs us i n j m (get_or (nums us) j 0) 0
  unfolding merged
  only_right h k =
      let y : ℕ = get_or (nums us) j 0 in
      ap (λ (t : List ℕ). merged t (remaining us j m)) (remaining_nil n i vs h) ∙ remaining_cons m j us k hd
      ∙ ap (λ (t : List ℕ). y ∷ merged t (remaining us (j + 1) m)) (sym (remaining_nil n i vs h) ∙ same_left)

  module _ (k : i < n) (l : j < m) where
    both : merged_rest vs i n us j m ≡ merged (get_or (nums vs) i 0 ∷ remaining vs (i + 1) n) (get_or (nums us) j 0 ∷ remaining us (j + 1) m)
    both = λ t. merged (remaining_cons n i vs k hs t) (remaining_cons m j us l hd t)

    lower_right : get_or (nums us) j 0 < get_or (nums vs) i 0 → Takes vs us i n j m (get_or (nums us) j 0) 0
    lower_right h =
        both ∙ unfold merged above in (cond_true (ltb (get_or (nums us) j 0) (get_or (nums vs) i 0)) _ _ (lt-ltb (get_or (nums us) j 0) (get_or (nums vs) i 0) h))
        ∙ λ t. get_or (nums us) j 0 ∷ merged ((sym (remaining_cons n i vs k hs) ∙ same_left) t) (remaining us (j + 1) m)

    lower_left : get_or (nums vs) i 0 ≤ get_or (nums us) j 0 → Takes vs us i n j m (get_or (nums vs) i 0) 1
    lower_left h =
        both ∙ unfold merged above in (cond_false (ltb (get_or (nums us) j 0) (get_or (nums vs) i 0)) _ _ (le-ltb (get_or (nums us) j 0) (get_or (nums vs) i 0) h))
        ∙ λ t. get_or (nums vs) i 0 ∷ merged (remaining vs (i + 1) n) ((sym (remaining_cons m j us l hd) ∙ same_right) t)

  -- Each list's next number, where it is not after the other's.
  takes_left : i < n → (j < m → get_or (nums vs) i 0 ≤ get_or (nums us) j 0) → Takes vs us i n j m (get_or (nums vs) i 0) 1
  takes_left k h = go (ltb j m) refl
    where
      go : (t : Bool) → ltb j m ≡ t → Takes vs us i n j m (get_or (nums vs) i 0) 1
      go true e = lower_left k (ltb-true j m e) (h (ltb-true j m e))
      go false e = only_left (ltb-false j m e) k

  takes_right : j < m → (i < n → get_or (nums us) j 0 < get_or (nums vs) i 0) → Takes vs us i n j m (get_or (nums us) j 0) 0
  takes_right k h = go (ltb i n) refl
    where
      go : (t : Bool) → ltb i n ≡ t → Takes vs us i n j m (get_or (nums us) j 0) 0
      go true e = lower_right (ltb-true i n e) k (h (ltb-true i n e))
      go false e = only_right (ltb-false i n e) k

-- The same of variables in their fourteen places.
abbrev pub no_var : PackedVar
no_var = record { 0 = 0 }

abbrev pub TakesVar : (vs us : List PackedVar) (i n j m : ℕ) (v : PackedVar) (l : ℕ) → Type 0
TakesVar vs us i n j m v l = (l ≤ 1) × (i + l ≤ n) × (j + (1 - l) ≤ m) × Takes vs us i n j m (num v) l

module _ (vs us : List PackedVar) (i n j m : ℕ) (es : length vs ≡ 14) (ed : length us ≡ 14) (hn : n ≤ 14) (hm : m ≤ 14) where
  pub var_left : i < n → j ≤ m → (j < m → num (get_or vs i no_var) ≤ num (get_or us j no_var)) → TakesVar vs us i n j m (get_or vs i no_var) 1
  var_left k l h =
      let x = get_or-map num vs i no_var in
      let y = get_or-map num us j no_var in
      let e = takes_left vs us i n j m (omega (arith, length-map vs num)) (omega (arith, length-map us num)) k (λ q. omega (arith, h q)) in
      (omega arith, omega arith, omega arith, subst (λ (v : ℕ). Takes vs us i n j m v 1) x e)

  pub var_right : i ≤ n → j < m → (i < n → num (get_or us j no_var) < num (get_or vs i no_var)) → TakesVar vs us i n j m (get_or us j no_var) 0
  var_right k l h =
      let x = get_or-map num vs i no_var in
      let y = get_or-map num us j no_var in
      let e = takes_right vs us i n j m (omega (arith, length-map vs num)) (omega (arith, length-map us num)) l (λ q. omega (arith, h q)) in
      (omega arith, omega arith, omega arith, subst (λ (v : ℕ). Takes vs us i n j m v 0) y e)

-- The first k are written, i of them from the left list: they and what remains are the two lists merged.
abbrev pub Merging : (r : List ℕ) (vs us : List PackedVar) (i n k m : ℕ) → Type 0
Merging r vs us i n k m = take k r ++ merged_rest vs i n us (k - i) m ≡ merged (take n (nums vs)) (take m (nums us))

pub merging_more : (r : List ℕ) (vs us : List PackedVar) (i n k m v l : ℕ) → k < length r → i ≤ k → l ≤ 1 → Merging r vs us i n k m → Takes vs us i n (k - i) m v l
    → Merging (set r k v) vs us (i + l) n (k + 1) m
merging_more r vs us i n k m v l h o b e q =
    let c : k + 1 ≡ suc k = omega arith in
    let d : k + 1 - (i + l) ≡ k - i + (1 - l) = omega arith in
    let rest : List ℕ = merged_rest vs (i + l) n us (k - i + (1 - l)) m in
    (λ t. take (c t) (set r k v) ++ merged_rest vs (i + l) n us (d t) m) ∙ ap (λ (t : List ℕ). t ++ rest) (take-suc-set r k v h)
    ∙ append_assoc (take k r) (v ∷ []) rest ∙ ap (λ (t : List ℕ). take k r ++ t) (sym q) ∙ e

pub merging_all : (r : List ℕ) (vs us : List PackedVar) (i n k m : ℕ) → n ≤ i → m ≤ k - i → k ≡ n + m → Merging r vs us i n k m
    → Sorted above (take n (nums vs)) → Sorted above (take m (nums us)) → take (n + m) r ≡ sort above (take n (nums vs) ++ take m (nums us))
unfolding merged
merging_all r vs us i n k m h l c e a b =
    let z : merged_rest vs i n us (k - i) m ≡ [] = λ t. merged (remaining_nil n i vs h t) (remaining_nil m (k - i) us l t) in
    ap (λ (x : ℕ). take x r) (sym c) ∙ sym (append-nil (take k r)) ∙ ap (λ (t : List ℕ). take k r ++ t) (sym z) ∙ e
    ∙ merged_is (take n (nums vs)) (take m (nums us)) a b

-- Fourteen places written so far: k of them, i from the left list.
pub record MergedTo (vs us rs : List PackedVar) (i n k m : ℕ) : Type 0 where
  pub i_le : i ≤ n
  pub i_k : i ≤ k
  pub k_le : k ≤ i + m
  pub places : length rs ≡ 14
  pub merging : Merging (nums rs) vs us i n k m

module _ (vs us rs : List PackedVar) (i n k m : ℕ) (es : length vs ≡ 14) (ed : length us ≡ 14) (room : n + m ≤ 14) (g : MergedTo vs us rs i n k m) where
  -- One more is taken from the list that l says.
  taken_more : (v : PackedVar) (l : ℕ) → k < 14 → TakesVar vs us i n (k - i) m v l → (rs₁ : List PackedVar) → rs₁ ≡ set rs k v → (i₁ : ℕ) → i₁ ≡ i + l
      → MergedTo vs us rs₁ i₁ n (k + 1) m
  taken_more v l h t rs₁ e i₁ q = record {
    i_le = omega (arith, t.1);
    i_k = omega (arith, g.i_k, t.0);
    k_le = omega (arith, t.0, t.2, g.i_k, g.k_le);
    places = ap length e ∙ length-set rs k v ∙ g.places;
    merging = rw (e, q, map_set num rs k v) (merging_more (nums rs) vs us i n k m (num v) l (omega (arith, length-map rs num, g.places)) g.i_k t.0 g.merging t.3);
  }

  pub right_taken : k < n + m → k - i < m → (i < n → num (get_or us (k - i) no_var) < num (get_or vs i no_var)) → (rs₁ : List PackedVar)
      → rs₁ ≡ set rs k (get_or us (k - i) no_var) → (i₁ : ℕ) → i₁ ≡ i → MergedTo vs us rs₁ i₁ n (k + 1) m
  right_taken h d c rs₁ e i₁ q =
      taken_more (get_or us (k - i) no_var) 0 (omega arith) (var_right vs us i n (k - i) m es ed (omega arith) (omega arith) g.i_le d c) rs₁ e i₁ (omega (arith, q))

  pub left_taken : k < n + m → i < n → (k - i < m → num (get_or vs i no_var) ≤ num (get_or us (k - i) no_var)) → (rs₁ : List PackedVar)
      → rs₁ ≡ set rs k (get_or vs i no_var) → (i₁ : ℕ) → i₁ ≡ i + 1 → MergedTo vs us rs₁ i₁ n (k + 1) m
  left_taken h d c rs₁ e i₁ q =
      taken_more (get_or vs i no_var) 1 (omega arith) (var_left vs us i n (k - i) m es ed (omega arith) (omega arith) d (omega (arith, g.k_le)) c) rs₁ e i₁ q

-- What the comparison of two variables says.
pub lower_told : (x y : ℕ) (b c : Bool) → c ≡ is_lt (nat_cmp x y) → b ≡ c → b ≡ true → x < y
lower_told x y b c e p q = is_lower x y (sym e ∙ sym p ∙ q)
  where
    is_lower : (x y : ℕ) → is_lt (nat_cmp x y) ≡ true → x < y
    is_lower x y h = grind (arith, nat_tests)

pub lower_denied : (x y : ℕ) (b c : Bool) → c ≡ is_lt (nat_cmp x y) → b ≡ c → b ≡ false → y ≤ x
lower_denied x y b c e p q = is_not x y (sym e ∙ sym p ∙ q)
  where
    is_not : (x y : ℕ) → is_lt (nat_cmp x y) ≡ false → y ≤ x
    is_not x y h = grind (arith, nat_tests)
