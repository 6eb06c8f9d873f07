use Rattle.std.proofs.Common.{◌≡◌, not, filter, rules}
use Rattle.std.proofs.lemmas.Fn.{filter_same}
use Rattle.table.specs.Used.{used}
use Rattle.table.proofs.Places.{none_went, some_went}
use Rattle.table.proofs.Table.remove.Given.{Over}
use Rattle.table.proofs.Table.remove.Goals.{After-keep}
use Rattle.table.proofs.Table.remove.Goals as goal

stay : (g : Over) (c : After-keep g) → used c.keep.new.self ≡ filter (λ x. not (g.R.Record.has x c.args.key)) (used c.args.self.now)
stay g c = filter_same _ _ _ (λ x b f' k. search rules) _ _ c.keep.ensures.used

pub returns-then-keep-eq0-clause-value : goal.returns-then-keep-eq0-clause-value
returns-then-keep-eq0-clause-value g c =
    let after = (goal.at.returns-then-keep-eq0-clause-value g c).After-keep in
    rw (none_went (λ x. g.R.Record.has x c.args.key) _ _ _ (stay g after) c.keep.ensures.value c.if-keep-eq0.true)

pub returns-then-keep-eq0-clause-used : goal.returns-then-keep-eq0-clause-used
returns-then-keep-eq0-clause-used g c = stay g (goal.at.returns-then-keep-eq0-clause-used g c).After-keep

pub returns-clause-value : goal.returns-clause-value
returns-clause-value g c =
    let after = (goal.at.returns-clause-value g c).After-keep in
    rw (some_went (λ x. g.R.Record.has x c.args.key) _ _ _ (stay g after) c.keep.ensures.value c.if-keep-eq0.false)

pub returns-clause-used : goal.returns-clause-used
returns-clause-used g c = stay g (goal.at.returns-clause-used g c).After-keep
