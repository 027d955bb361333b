-- What a checked sheet's records are to each other, and an order that grows.
use mathlib.Core.Path.{◌≡◌}
use mathlib.Core.Logic.{◌⊎◌, inl, inr}
use mathlib.Core.Bool.{false}
use mathlib.Core.List.{List, ◌∷◌}
use Prim.Native.Nat.{ℕ, ◌≤◌, ◌<◌}
use native.Mathlib.Omega.{arith}
use lib.ListN.{length}
use Rattle.semantics.specs.Arithmetic.{prime}
use Rattle.semantics.specs.Answer.{good}
use Rattle.semantics.specs.Sheet.{Each, Inside}
use Rattle.semantics.specs.Check.{read_sheet, check}
use Rattle.semantics.specs.Walk.{Mem, children_at, member, visit, Reaches}
use Rattle.semantics.proofs.Members.{cons_below}
use Rattle.semantics.proofs.Records.{LowRecord, each_low}
use Rattle.semantics.proofs.Encoding.{check_inside, head_limits}
use Rattle.semantics.proofs.Walks.{visit_closed, visit_distinct, visit_reach, reach_le}
use Rattle.semantics.proofs.Orders.{low}
use Rattle.records.specs.Access.{records_of}
use Rattle.records.specs.Orders.{Order, There}

module _ (ws : List ℕ) (checked : check prime ws ≡ good (read_sheet ws)) where
  abbrev E : ℕ
  E = length (records_of ws)

  abbrev ch : ℕ → List ℕ
  ch = children_at (records_of ws)

  pub inside : Inside prime (read_sheet ws)
  inside = check_inside prime ws (read_sheet ws) checked

  pub few_records : E ≤ 4096
  few_records = (head_limits (read_sheet ws) inside.head).0

  pub lows : Each LowRecord 0 (records_of ws)
  lows = each_low prime 0 (records_of ws) inside.records

  -- A record's children are below it.
  pub child_low : (r c : ℕ) → Mem c (ch r) → c < r
  child_low = low (records_of ws) lows

  -- One more record whose children are there.
  pub order_more : (done : List ℕ) (r : ℕ) → Order ws done → r < E → member r done ≡ false → There ws r done → Order ws (r ∷ done)
  order_more done r o l e h = record {
    closed = (h, o.closed);
    distinct = (e, o.distinct);
    below = cons_below E r done l o.below;
  }

  -- A visit of a record.
  pub order_visit : (done : List ℕ) (k r : ℕ) → Order ws done → r < k → r < E → Order ws (visit ch k done r)
  order_visit done k r o h l = record {
    closed = visit_closed ch child_low k done r h o.closed;
    distinct = visit_distinct ch child_low k done r o.distinct;
    below = λ x m. go x (visit_reach ch k done r x m);
  }
    where
      go : (x : ℕ) → Mem x done ⊎ Reaches ch r x → x < E
      go x (inl m) = o.below x m
      go x (inr q) = omega (arith, reach_le ch child_low r x q)

  module _ (r : ℕ) (l : r < E) where
    -- A child is below.
    pub child_inside : (x : ℕ) → Mem x (ch r) → x < E
    child_inside x m = omega (arith, child_low r x m)
