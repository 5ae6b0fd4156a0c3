use Rattle.walks.proofs.Promise.{crew_promise}
use Rattle.walks.proofs.crew.crew_promise.Goals as goal

pub returns : goal.returns
returns g c = crew_promise g.met.M.Measure.lawful
