use Rattle.std.proofs.Common.{rules}
use Rattle.std.proofs.lemmas.Fn.{filter_same}
use Rattle.table.proofs.Table.retain.Goals as goal

pub returns-clause-used : goal.returns-clause-used
returns-clause-used g c = filter_same _ _ _ (λ x b f' k. search rules) _ _ c.keep.ensures.used
