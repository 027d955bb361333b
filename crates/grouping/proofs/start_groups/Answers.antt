-- The terms are zeroed, then each row gets the place where its terms start. So no term is placed, and there is room for as many as are
-- counted.
use mathlib.Core.Path.{◌≡◌, sym, subst}
use Prim.Native.Nat.{ℕ, ◌*◌, ◌≤◌}
use mathlib.Core.List.{List, []}
use native.Mathlib.Omega.{arith}
use lib.ListN.{length}
use Rattle.group.specs.Grouped.{tallied, tallied_total, Rows, term_width, Placing}
use Rattle.group.specs.Groups.{tallies}
use Rattle.group.proofs.Starts.{zeros_again}
use Rattle.group.proofs.Tallying.{moved}
use Rattle.grouping.proofs.Finished.{placing_start, total_is, vacant_terms}
use Rattle.grouping.proofs.start_groups.Goals as goal

pub start_terms-requires : goal.start_terms-requires
start_terms-requires c =
    let g = c.args.groups.now in
    let t = total_is g.n g.headers.now g.pool.now g.rows in
    let small = c.requires in
    omega arith

pub returns : goal.returns
returns c =
    let g = c.args.groups.now in
    let h = c.start_terms.new.self in
    let e = c.start_terms.ensures in
    let zero = c.fill in
    let T = zero.new.self in
    let small = c.requires in
    let rows = moved (λ (n : ℕ) (P : List ℕ). Rows n h.headers.now P) e.count e.same.pool h.rows in
    let same = moved (λ (n : ℕ) (P : List ℕ). tallied n h.headers.now P ≡ tallies g) e.count e.same.pool e.tallies_are in (
      e.same,
      e.count,
      λ b k.
          let room = subst (λ (m : ℕ). term_width b * tallied_total (tallies g) ≤ m) (sym zero.auto.self) k in
          moved (λ (n : ℕ) (P : List ℕ). Placing b (tallies g) n h.headers.now P T []) (sym e.count) (sym e.same.pool)
          (placing_start b g.n g.headers.now h.headers.now g.pool.now T g.rows rows same e.set
          (vacant_terms b (tallies g) T (zeros_again T (length c.args.terms.now) (zero.ensures.after (λ y h. h))) room) (omega arith)),
    )
