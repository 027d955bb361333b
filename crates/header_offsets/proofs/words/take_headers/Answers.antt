use mathlib.Core.Path.{◌≡◌, sym, ap, ◌∙◌}
use mathlib.Core.List.{List}
use Prim.Native.Nat.{ℕ, ◌*◌}
use native.Mathlib.Omega.{arith}
use lib.ListN.{drop, replicate, set}
use lib.Seq.{drop-drop}
use Rattle.header_offsets.specs.declared.MonomialHeader.{MonomialHeader}
use Rattle.header_offsets.specs.Headers.{header_in, no_header}
use Rattle.header_offsets.proofs.HeaderWords.{taken_none, taken_next}
use Rattle.header_offsets.proofs.words.take_headers.Goals as goal

pub loop-j-init : goal.loop-j-init
loop-j-init c =
    let e = c.default-headers.ensures in
    let z : c.default-headers.result ≡ no_header =
    λ i. record { var_offset = e.0 i; term_offset = e.1.0 i; num_vars = e.1.1.0 i; num_terms = e.1.1.1 i } in
    ap (replicate 16) z ∙ taken_none (drop c.args.at c.args.words.now)

pub loop-j-preserved : goal.loop-j-preserved
loop-j-preserved c =
    let a = c.args in
    let b = c.loop-j in
    let ws : List ℕ = drop a.at a.words.now in
    let e = c.header_at.ensures ∙ ap header_in (sym (drop-drop (4 * b.j) a.at a.words.now)) in
    ap (λ (h : MonomialHeader). set b.headers b.j h) e ∙ taken_next ws b.j b.headers b.invariant (omega arith)
