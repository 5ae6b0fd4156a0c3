use Rattle.walks.proofs.Feeding.{flags_feed, feeds_serve}
use Rattle.walks.proofs.marking.feeds_serve.Goals as goal

pub returns : goal.returns
returns g c = record { flagged = flags_feed g.met.M.Measure.lawful; served = feeds_serve g.met.M.Measure.lawful }
