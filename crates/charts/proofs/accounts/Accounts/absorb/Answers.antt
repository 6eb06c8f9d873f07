use Rattle.std.proofs.Common.{rules}
use Rattle.charts.proofs.Words.{joined_holds, joined_new}
use Rattle.charts.proofs.accounts.Accounts.absorb.Goals as goal

pub returns-clause-after : goal.returns-clause-after
returns-clause-after c = joined_holds c.args.self.now.words c.args.other.now.words c.loop-k.self.words (search rules)

pub returns-clause-new : goal.returns-clause-new
returns-clause-new c grew =
    joined_new c.args.self.now.words c.args.other.now.words c.loop-k.self.words (search rules) (search rules) (search rules) (search rules) (search rules)
