use Rattle.settlement.proofs.Places.{none_picked}
use Rattle.settlement.proofs.picks.Settlement.none.Goals as goal

pub returns : goal.returns
returns c = none_picked 512
