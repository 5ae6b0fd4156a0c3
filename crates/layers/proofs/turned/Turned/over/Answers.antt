use Rattle.layers.proofs.Turning.{turned_twice}
use Rattle.layers.proofs.turned.Turned.over.Goals as goal

pub returns-clause-twice : goal.returns-clause-twice
returns-clause-twice g c = turned_twice (g.L.Layout.meaning c.args.below)
