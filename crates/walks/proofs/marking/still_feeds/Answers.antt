use Rattle.walks.proofs.Worsening.{still_feeds}
use Rattle.walks.proofs.marking.still_feeds.Goals as goal

pub returns : goal.returns
returns g c = still_feeds g.met.M.Measure.lawful
