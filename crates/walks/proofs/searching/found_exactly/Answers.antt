use Rattle.walks.proofs.Results.{found_exactly, found_all}
use Rattle.walks.proofs.searching.found_exactly.Goals as goal

pub returns : goal.returns
returns g c = record { exactly = found_exactly g.met.M.Measure.lawful; all = found_all g.met.M.Measure.lawful }
