use Rattle.std.proofs.Common.{◌≡◌, ℕ, ◌+◌, ◌<◌, true, false, length, get_or, Some, None}
use Prim.Native.Nat.{◌^◌}
use Rattle.charts.specs.declared.chart.Line.{Line}
use Rattle.charts.specs.Reaching.{between_accounts}
use Rattle.settlement.specs.Picking.{overridden}
use Rattle.settlement.proofs.overrides.find_overridden.Given as goal

abbrev pub invariant-loop-at : goal.invariant-loop-at
invariant-loop-at g l =
    let lines = g.C.Chart.lines l.chart in record {
      fits : l.at + (goal.iterator-loop-at g).remaining l.line-iterator < 2 ^ 64;
      counts : l.at ≡ length l.yielded;
      size : length l.flags ≡ 4096;
      right : (at : ℕ) (k : Line) → at < l.at → get_or lines at None ≡ Some k → between_accounts k ≡ true → get_or l.flags at false ≡ overridden lines k;
    }
