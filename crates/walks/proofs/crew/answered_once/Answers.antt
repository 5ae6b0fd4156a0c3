use Rattle.walks.proofs.Answering.{answered_once, told_once}
use Rattle.walks.proofs.crew.answered_once.Goals as goal

pub returns : goal.returns
returns g c = record { one = answered_once g.met.M.Measure.lawful; all = told_once g.met.M.Measure.lawful }
