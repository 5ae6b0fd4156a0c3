use Rattle.marks.proofs.Lapsing.{absent_shown}
use Rattle.marks.proofs.marked.Marked.over.Goals as goal

pub returns-clause-absent : goal.returns-clause-absent
returns-clause-absent g c = absent_shown c.args.marks.now c.args.hall (g.L.Layout.meaning c.args.below)
