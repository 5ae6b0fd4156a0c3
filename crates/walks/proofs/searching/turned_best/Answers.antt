use Rattle.walks.proofs.Turned.{turned_best}
use Rattle.walks.proofs.searching.turned_best.Goals as goal

pub returns : goal.returns
returns g c = turned_best g.met.M.Measure.lawful
