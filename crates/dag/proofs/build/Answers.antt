-- Scratch and output are zeroed, the graph is built in them, and scratch is zeroed again; all keep their lengths.
use mathlib.Core.Path.{◌≡◌, sym, ap, ◌∙◌}
use mathlib.Core.List.{List, [], ◌∷◌}
use Prim.Native.Nat.{ℕ}
use lib.ListN.{length, replicate}
use Rattle.semantics.specs.Arithmetic.{prime}
use Rattle.semantics.specs.Call.{builder_call, zeros}
use Rattle.dag.specs.Calls.{built_outcome}
use Rattle.dag.proofs.build.Goals as goal

-- What was zeroed is zeros of its own length.
zeroed : (m : ℕ) (z : List ℕ) → z ≡ replicate m 0 → length z ≡ m → z ≡ zeros (length z)
unfolding zeros
zeroed m z e k = e ∙ ap (λ (n : ℕ). replicate n 0) (sym k)

pub build_clear-written-requires : goal.build_clear-written-requires
build_clear-written-requires c =
    let scratch = c.fill.ensures in
    let out = c.fill-2.ensures in
    (zeroed _ _ (scratch.after (λ y e. e)) scratch.len, zeroed _ _ (out.after (λ y e. e)) out.len)

pub returns : goal.returns
unfolding zeros
returns c =
    let b = c.build_clear-written in
    ap (λ (l : List ℕ). built_outcome b.result l b.new.out) (c.fill-3.ensures.after (λ y e. e) ∙ ap (λ (k : ℕ). replicate k 0) b.auto.scratch)
    ∙ b.ensures
    ∙ (λ i. builder_call prime c.args.s.now ((c.fill.ensures.len i) ∷ (c.fill-2.ensures.len i) ∷ []))
