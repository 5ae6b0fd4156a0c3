use Rattle.layers.proofs.Entering.{blank_wide, blank_fit, blank_entered}
use Rattle.layers.proofs.day.DaySheet.over.Goals as goal

pub invariant_of-result : goal.invariant_of-result
invariant_of-result g c = record { wide = blank_wide; fit = blank_fit }

pub returns-clause-means : goal.returns-clause-means
returns-clause-means g c = blank_entered (g.L.Layout.meaning c.args.below)
