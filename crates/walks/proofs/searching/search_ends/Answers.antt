use Rattle.walks.proofs.Ends.{search_ends}
use Rattle.walks.proofs.searching.search_ends.Goals as goal

pub returns : goal.returns
returns g c = search_ends g.met.M.Measure.lawful
