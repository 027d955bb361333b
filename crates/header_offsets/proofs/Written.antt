-- A part of a list written at once.
use mathlib.Core.Path.{◌≡◌, sym, ◌∙◌, ap}
use mathlib.Core.List.{List, ◌++◌, append_assoc}
use Prim.Native.Nat.{ℕ, ◌+◌, ◌-◌, ◌≤◌}
use native.Mathlib.Omega.{arith}
use lib.ListN.{length, take, drop, take-append-drop}
use lib.Seq.{sets, sets-eq}
use borrow.Rule.Slice.PartMut.{put_mid}
use Rattle.std.proofs.lemmas.Slice.{take-put_mid, drop-put_mid}

module _ (l part ws : List ℕ) (at end : ℕ) (e : part ≡ ws) (n : end ≡ at + length ws) (h : end ≤ length l) where
  joined : put_mid at (end - at) l part ≡ (take at l ++ ws) ++ drop end l
  joined =
      let d = ap length e in
      let f = take-put_mid at (end - at) l part end (omega arith) (omega arith) in
      let b = drop-put_mid at (end - at) l part end (omega arith) (omega arith) (omega arith) in
      sym (take-append-drop end (put_mid at (end - at) l part)) ∙ (λ i. f i ++ b i) ∙ ap (λ (x : List ℕ). (take at l ++ x) ++ drop end l) e

  pub part_written : put_mid at (end - at) l part ≡ take at l ++ (ws ++ drop end l)
  part_written = joined ∙ append_assoc (take at l) ws (drop end l)

  -- They are words written one by one.
  pub written : put_mid at (end - at) l part ≡ sets l at ws
  written = joined ∙ ap (λ (k : ℕ). (take at l ++ ws) ++ drop k l) n ∙ sym (sets-eq ws l at (omega arith))
