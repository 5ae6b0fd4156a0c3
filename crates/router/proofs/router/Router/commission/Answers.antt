use Rattle.router.proofs.Commissioned.{commissioned}
use Rattle.router.proofs.router.Router.commission.Goals as goal

pub returns-clause-book : goal.returns-clause-book
returns-clause-book g c = commissioned g.M.Measure.scale (g.L.Layout.meaning c.args.layout) (g.L.Layout.sound c.args.layout) c.over.result.sheet c.lapsed.result c.over.ensures.sheet c.lapsed.ensures.force c.lapsed.ensures.marks
