use Rattle.walks.proofs.Exists.{best_exists}
use Rattle.walks.proofs.searching.best_exists.Goals as goal

pub returns : goal.returns
returns g c = best_exists g.met.M.Measure.lawful
