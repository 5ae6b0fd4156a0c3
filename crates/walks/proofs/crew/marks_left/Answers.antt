use Rattle.walks.proofs.Left.{marks_left, carries_on}
use Rattle.walks.proofs.crew.marks_left.Goals as goal

pub returns : goal.returns
returns g c = record { once = marks_left g.met.M.Measure.lawful; more = carries_on g.met.M.Measure.lawful }
