use Rattle.std.proofs.Common.{◌≡◌, ℕ, ◌+◌, ◌<◌, length, None, if◌then◌else◌, ◌==◌, get_or}
use Prim.Native.Nat.{◌^◌}
use Rattle.settlement.specs.Picked.{picked}
use Rattle.settlement.specs.Picking.{eligible, better, best}
use Rattle.settlement.proofs.cases.Case.round.Given as goal

abbrev pub invariant-loop-at : goal.invariant-loop-at
invariant-loop-at g l =
    let lines = g.C.Chart.lines l.self.chart.now in
    let signs = g.C.SignedChart.signs l.self.chart.now in record {
      fits : l.at + (goal.iterator-loop-at g).remaining l.line-iterator < 2 ^ 64;
      counts : l.at ≡ length l.yielded;
      picks : (a : ℕ) → picked l.next a ≡ (if a == l.self.owner then None else best (better lines signs (g.R.Ruling.ranking l.self.ruling.now) l.self.policy) l.at (λ at. eligible lines signs l.self.owner (picked l.picks) a (get_or lines at None)));
    }
