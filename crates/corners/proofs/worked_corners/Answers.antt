use Rattle.corners.proofs.Corners.{corners}
use Rattle.corners.proofs.worked_corners.Goals as goal

pub returns : goal.returns
returns c = corners
