-- Names turned into node numbers in the output.
use mathlib.Core.Path.{◌≡◌, sym, ap, subst, ◌∙◌}
use mathlib.Core.List.{List, [], ◌∷◌, ◌++◌, map, map-append, flat_map}
use Prim.Native.Nat.{ℕ, pred, ◌+◌, ◌%◌, ◌≤◌, ◌<◌}
use native.Mathlib.Omega.{arith}
use native.Mathlib.Nat.{mod-eq_of_lt}
use lib.ListN.{length, get_or, set, take, length-append, length-map}
use lib.Seq.{length-take-le}
use Rattle.semantics.specs.Sheet.{Interaction, interaction_words}
use Rattle.semantics.specs.Check.{read_sheet}
use Rattle.semantics.specs.Graph.{renamed}
use Rattle.records.specs.Named.{references_of, references}
use Rattle.std.proofs.lemmas.List.{take_more}
use Rattle.records.proofs.Named.{PassedRun, run_none, run_done, run_whole, run_more, Last, last_none, last_more}
use Rattle.semantics.proofs.Members.{mem_get_or, mem_left, mem_right}
use Rattle.slices.specs.Putting.{put, Puts}
use Rattle.graph_lists.specs.Lists.{node_numbers, marks_of, NodesNamed, renamed_words, renamed_all}
use Rattle.slices.proofs.Puts.{put_none, put_length, put_behind, set_behind}

module _ {names s : List ℕ} (h : NodesNamed names s) {j : ℕ} (l : j < length names) where
  abbrev x : ℕ
  x = get_or names j 0

  here : (x < length s) × (0 < marks_of s x) × (marks_of s x ≤ length s)
  here = h.named x (mem_get_or names j l)

  -- The next name's mark has no flag.
  plain_mark : get_or s x 0 % 65536 ≡ marks_of s x
  plain_mark = mod-eq_of_lt (h.small x here.0)

  -- What `node_number` asks and hands back of it.
  pub number_asks : (x < length s) × (0 < get_or s x 0 % 65536)
  number_asks = (here.0, omega (arith, plain_mark, here.1))

  pub number_is : {node : ℕ} → node ≡ pred (get_or s x 0 % 65536) → node ≡ pred (marks_of s x)
  number_is q = q ∙ ap pred plain_mark

  pub naming_more : (out₀ : List ℕ) (to : ℕ) {out : List ℕ} {node : ℕ} → to + length names ≤ length out₀ → out ≡ put out₀ to (node_numbers (marks_of s) (take j names))
      → node ≡ pred (get_or s x 0 % 65536) → set out (to + j) node ≡ put out₀ to (node_numbers (marks_of s) (take (j + 1) names))
  naming_more out₀ to {out} {node} r e q =
      let f : ℕ → ℕ = marks_of s in
      let xs : List ℕ = node_numbers f (take j names) in
      let n : length xs ≡ j = length-map (take j names) (λ (y : ℕ). pred (f y)) ∙ length-take-le j names (omega arith) in
      set_behind out₀ out to xs e (to + j) (omega arith) node (omega arith)
      ∙ ap (λ (y : ℕ). put out₀ to (xs ++ (y ∷ []))) (number_is q)
      ∙ ap (put out₀ to) (sym (map-append (λ (y : ℕ). pred (f y)) (take j names) (x ∷ [])))
      ∙ ap (λ (ys : List ℕ). put out₀ to (node_numbers f ys)) (sym (take_more names j 0 l))

-- An interaction's names, its count among them.
module _ (x : Interaction) {s : List ℕ} (h : NodesNamed (references_of x) s) where
  pub fields_named : {fields : List ℕ} → fields ≡ x.message → NodesNamed fields s
  fields_named e = subst (λ (xs : List ℕ). NodesNamed xs s) (sym e) (record {
    small = h.small;
    named = λ c m. h.named c (mem_left c x.message (x.count ∷ []) m);
  })

  count_named : {count : ℕ} → count ≡ x.count → NodesNamed (count ∷ []) s
  count_named e = subst (λ (n : ℕ). NodesNamed (n ∷ []) s) (sym e) (record {
    small = h.small;
    named = λ c m. h.named c (mem_right c x.message (x.count ∷ []) m);
  })

  pub count_asks : {count : ℕ} → count ≡ x.count → (count < length s) × (0 < get_or s count 0 % 65536)
  count_asks e = number_asks (count_named e) {j = 0} (omega arith)

  pub renamed_length : length (renamed_words s x) ≡ 4 + length x.message
  unfolding interaction_words renamed
  renamed_length = omega (arith, length-map x.message (λ (c : ℕ). pred (marks_of s c)))

  -- Its words are written: bus, weight, the count's node and the message's length, then the nodes of its fields.
  module _ (out : List ℕ) (to : ℕ) (room : to + (4 + length x.message) ≤ length out) {count node : ℕ} {fields : List ℕ}
      (count_is : count ≡ x.count) (fields_are : fields ≡ x.message) (node_is : node ≡ pred (get_or s count 0 % 65536)) where
    abbrev front : List ℕ
    front = x.bus ∷ x.weight ∷ node ∷ length x.message ∷ []

    abbrev num : ℕ → ℕ
    num c = pred (marks_of s c)

    words_are : front ++ node_numbers (marks_of s) fields ≡ renamed_words s x
    unfolding interaction_words renamed
    words_are =
        let k : node ≡ num x.count = number_is (count_named count_is) {j = 0} (omega arith) node_is ∙ ap num count_is in
        λ i. x.bus ∷ x.weight ∷ k i ∷ sym (length-map x.message num) i ∷ map num (fields_are i)

    pub fields_room : {o : List ℕ} {at : ℕ} → Puts out to front o at → NodesNamed fields s × (at + length fields ≤ length o)
    fields_room p = (fields_named fields_are, omega (arith, p.next_is, room, ap length fields_are, ap length p.out_is, put_length out to front (omega arith)))

    pub interaction_put : {o o' : List ℕ} {at next : ℕ} → Puts out to front o at → next ≡ 4 + length x.message
        → o' ≡ put o at (node_numbers (marks_of s) fields) → Puts out to (renamed_words s x) o' (to + next)
    interaction_put {o} {o'} {at} p n e =
        let l = ap length words_are ∙ renamed_length in
        record {
          out_is =
              e ∙ put_behind out o to front p.out_is at p.next_is (node_numbers (marks_of s) fields) (omega (arith, room, l, length-append front (node_numbers (marks_of s) fields)))
              ∙ ap (put out to) words_are;
          next_is = omega (arith, n, renamed_length);
        }

-- The loop over the interactions: what is written and what is left make the whole.
pub record Written (ws s : List ℕ) (out₀ : List ℕ) (to : ℕ) (out : List ℕ) (next : ℕ) (left : List Interaction) : Type 0 where
  pub words : List ℕ
  pub passed : PassedRun (renamed_words s) (read_sheet ws).interactions left words
  pub last : Last (read_sheet ws).interactions left
  pub named : NodesNamed (references left) s
  pub out_is : Puts out₀ to words out next

pub written_none : {ws s : List ℕ} {out₀ : List ℕ} {to : ℕ} {left : List Interaction} → NodesNamed (references (read_sheet ws).interactions) s
    → left ≡ (read_sheet ws).interactions → Written ws s out₀ to out₀ to left
written_none {ws} {s} {out₀} {to} h e = record {
  words = [];
  passed = run_none e;
  last = last_none e;
  named = subst (λ (xs : List Interaction). NodesNamed (references xs) s) (sym e) h;
  out_is = record { out_is = sym (put_none out₀ to); next_is = omega arith };
}

module _ {ws s : List ℕ} {out₀ : List ℕ} {to : ℕ} {out : List ℕ} {next : ℕ} {left : List Interaction} (h : Written ws s out₀ to out next left) where
  pub written_done : left ≡ [] → Puts out₀ to (renamed_all s (read_sheet ws).interactions) out next
  written_done e = subst (λ (xs : List ℕ). Puts out₀ to xs out next) (run_done h.passed e) h.out_is

  module _ (room : to + length (renamed_all s (read_sheet ws).interactions) ≤ length out₀) {x : Interaction} {rest : List Interaction} (e : left ≡ x ∷ rest) where
    named_now : NodesNamed (references_of x ++ references rest) s
    unfolding flat_map
    named_now = subst (λ (xs : List Interaction). NodesNamed (references xs) s) e h.named

    pub next_named : NodesNamed (references_of x) s
    next_named = record { small = h.named.small; named = λ c m. named_now.named c (mem_left c (references_of x) (references rest) m) }

    split_length : length h.words + (length (renamed_words s x) + length (renamed_all s rest)) ≡ length (renamed_all s (read_sheet ws).interactions)
    split_length =
        sym (length-append h.words (renamed_words s x ++ renamed_all s rest) ∙ ap (λ (n : ℕ). length h.words + n) (length-append (renamed_words s x) (renamed_all s rest)))
        ∙ ap length (run_whole h.passed e)

    pub next_room : next + (4 + length x.message) ≤ length out
    next_room =
        let k = renamed_length x next_named in
        let l = ap length h.out_is.out_is ∙ put_length out₀ to h.words (omega (arith, split_length)) in
        omega (arith, split_length, k, l, h.out_is.next_is)

    pub written_more : {out' : List ℕ} {next' : ℕ} → Puts out next (renamed_words s x) out' next' → Written ws s out₀ to out' next' rest
    written_more w = record {
      words = h.words ++ renamed_words s x;
      passed = run_more h.passed e;
      last = last_more h.last e;
      named = record { small = h.named.small; named = λ c m. named_now.named c (mem_right c (references_of x) (references rest) m) };
      out_is = record {
        out_is = w.out_is ∙ put_behind out₀ out to h.words h.out_is.out_is next h.out_is.next_is (renamed_words s x) (omega (arith, split_length));
        next_is = w.next_is ∙ omega (arith, h.out_is.next_is, length-append h.words (renamed_words s x));
      };
    }
