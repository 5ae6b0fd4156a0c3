use Rattle.walks.proofs.Tabling.{tabled_whole}
use Rattle.walks.proofs.searching.tabled_whole.Goals as goal

pub returns : goal.returns
returns g c = tabled_whole g.met.M.Measure.lawful
