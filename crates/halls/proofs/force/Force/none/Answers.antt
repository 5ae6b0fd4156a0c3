use Rattle.std.proofs.lemmas.Bool.{and_right}
use Rattle.layers.proofs.Entering.{all_same}
use Rattle.halls.proofs.force.Force.none.Goals as goal

pub returns : goal.returns
returns c h = and_right _ _ (all_same 32 h _)
