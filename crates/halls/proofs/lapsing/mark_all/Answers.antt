use Rattle.halls.proofs.Marking.{marked_more}
use Rattle.halls.proofs.lapsing.mark_all.Goals as goal

pub loop-leg-preserved : goal.loop-leg-preserved
loop-leg-preserved c = marked_more c.args.hall c.loop-leg.leg c.args.marks.now c.loop-leg.marks c.put.new.self c.loop-leg.invariant c.put.ensures
