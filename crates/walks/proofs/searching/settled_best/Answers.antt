use Rattle.walks.proofs.Results.{settled_best}
use Rattle.walks.proofs.searching.settled_best.Goals as goal

pub returns : goal.returns
returns g c = settled_best g.met.M.Measure.lawful
