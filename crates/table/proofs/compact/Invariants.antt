use Rattle.std.specs.Fn.{CalledAt}
use Rattle.table.proofs.Compacted.{Compacted}
use Rattle.table.proofs.compact.Given as goal

abbrev pub invariant-loop-i : goal.invariant-loop-i
invariant-loop-i g l = goal.F-IsAlwaysCallable g l.keep × Compacted (CalledAt g.F.FnMut) l.fn.keep l.initial.cells l.keep l.cells l.stay l.i
