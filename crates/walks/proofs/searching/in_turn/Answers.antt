use Rattle.walks.proofs.InTurn.{in_turn}
use Rattle.walks.proofs.searching.in_turn.Goals as goal

pub returns : goal.returns
returns g c = in_turn g.met.M.Measure.lawful
