use Rattle.walks.proofs.Once.{determined}
use Rattle.walks.proofs.searching.determined.Goals as goal

pub returns : goal.returns
returns g c = determined g.met.M.Measure.lawful
