use Rattle.std.proofs.Common.{rules}
use Rattle.rights.proofs.register.Register.obey.Goals as goal

-- what a call says of every ranking it says of the one in hand
pub returns-in-Close-clause-left : goal.returns-in-Close-clause-left
returns-in-Close-clause-left g c = let is = c.close.ensures.left (g.R.Ruling.ranking c.args.ruling.now) in search rules

pub returns-in-Grant-clause-told : goal.returns-in-Grant-clause-told
returns-in-Grant-clause-told g c = let is = c.grant.ensures.told (g.R.Ruling.ranking c.args.ruling.now) in search rules

pub returns-in-Grant-clause-left : goal.returns-in-Grant-clause-left
returns-in-Grant-clause-left g c = let is = c.grant.ensures.left (g.R.Ruling.ranking c.args.ruling.now) in search rules

pub returns-in-Withdraw-clause-left : goal.returns-in-Withdraw-clause-left
returns-in-Withdraw-clause-left g c = let is = c.withdraw.ensures.left (g.R.Ruling.ranking c.args.ruling.now) in search rules
