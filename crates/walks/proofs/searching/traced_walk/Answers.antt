use Rattle.walks.proofs.Results.{traced_walk}
use Rattle.walks.proofs.searching.traced_walk.Goals as goal

pub returns : goal.returns
returns g c = traced_walk g.met.M.Measure.lawful
