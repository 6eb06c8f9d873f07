use Rattle.charts.proofs.Bits.{shared_bit}
use Rattle.charts.proofs.accounts.share_a_bit.Goals as goal

pub returns : goal.returns
returns c = shared_bit c.args.word c.args.more c.ranges.word.fits
