use Rattle.std.proofs.Common.{rules}
use Rattle.charts.proofs.Bits.{words_or}
use Rattle.charts.proofs.accounts.Accounts.insert.Goals as goal

pub returns-clause-after : goal.returns-clause-after
returns-clause-after c = search (rules, words_or)
