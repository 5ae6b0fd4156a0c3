use Rattle.std.proofs.Common.{subst}
use Rattle.tokens.specs.Cuts.{Keyless}
use Rattle.tokens.proofs.Taking.{stuck_keyless}
use Rattle.tokens.proofs.values.split_key.Goals as goal

pub returns-in_err-key : goal.returns-in_err-key
returns-in_err-key c =
    let whole = c.new-line.ensures in
    rw c.from_residual.ensures (subst Keyless whole.0 (stuck_keyless c.new-line.result whole.1 c.in_err-key.ensures.0))
