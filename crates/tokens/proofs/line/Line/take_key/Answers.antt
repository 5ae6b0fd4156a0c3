use Rattle.std.proofs.Common.{refl}
use Rattle.tokens.proofs.Taking.{keyless_stuck}
use Rattle.tokens.proofs.line.Line.take_key.Goals as goal

pub returns-in_err-place : goal.returns-in_err-place
returns-in_err-place c = rw c.from_residual.ensures (keyless_stuck c.args.self.now c.requires c.in_err-place.ensures, refl)
