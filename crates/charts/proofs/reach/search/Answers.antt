use Rattle.std.proofs.Common.{eqb, refl, arith}
use Rattle.std.proofs.lemmas.Bool.{and_parts, and_from, eq-eqb, eqb-true}
use Rattle.charts.specs.Members.{member}
use Rattle.charts.specs.Passes.{reached_from, Is}
use Rattle.charts.proofs.Found.{missing_less, all_found}
use Rattle.charts.proofs.Reached.{member_account}
use Rattle.charts.proofs.reach.search.Goals as goal

pub loop-smaller : goal.loop-smaller
loop-smaller g c =
    let start = c.args.start in
    let p = c.pass.ensures in
    let new = p.new c.loop-test.true in
    let parts = and_parts (eqb new.0 start) (member c.pass.new.reached new.1) new.3 in
    missing_less (reached_from start) c.loop.reached c.pass.new.reached p.keeps new.0 new.1 (omega (arith, eqb-true new.0 start parts.0, c.if-start-ge-ACCOUNTS.false)) (member_account c.pass.new.reached new.1 parts.1) new.2 new.3

pub returns : goal.returns
returns g c =
    let lines = g.C.Chart.lines c.args.chart.now in
    let start = c.args.start in
    let reached = c.pass.new.reached in
    let p = c.loop-test.ensures in
    λ b. (
      (λ m. p.sound c.loop.invariant start b (and_from (eqb start start) (member reached b) (eq-eqb start start refl) m)),
      (λ chain. (and_parts (eqb start start) (member reached b) (all_found (reached_from start) (Is start) lines c.loop.reached reached p refl chain)).1),
    )
