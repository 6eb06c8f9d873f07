use Rattle.std.proofs.Common.{◌||◌, get_or, ap, ◌∙◌, rules}
use Rattle.charts.specs.Members.{member}
use Rattle.charts.specs.Sets.{nobody}
use Rattle.charts.proofs.Climbed.{climbed}
use Rattle.charts.proofs.above.Sources.follow.Goals as goal

pub returns : goal.returns
returns c =
    let before = c.args.self.now in
    let mid = c.insert-new.new.self in
    climbed c.args.line c.in-Some.line before c.from-2.result mid c.absorb-more.new.self c.insert-new.result c.absorb-more.result
    (search rules) c.from-2.ensures (search rules) (search rules) (search rules)
    c.insert-new.ensures.after c.insert-new.ensures.value
    (λ b. c.absorb-more.ensures.after b ∙ ap (λ n. member mid b || member (get_or before.sets n nobody) b) c.from.ensures)
    c.absorb-more.ensures.new c.absorb-more.ensures.same
