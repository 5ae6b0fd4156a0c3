use Rattle.std.proofs.Common.{arith}
use Rattle.tokens.proofs.Decimal.{digits_at, read_more}
use Rattle.tokens.proofs.numeral.read_on.Goals as goal

pub returns-in_err-n : goal.returns-in_err-n
returns-in_err-n c = rw c.from_residual.ensures (λ all. c.in_err-n.ensures (digits_at _ c.loop-byte.byte-index all (omega arith)))

pub loop-byte-preserved : goal.loop-byte-preserved
loop-byte-preserved c =
    let d = c.in_ok-n.ensures in
    read_more _ _ _ _ _ (omega arith) c.loop-byte.invariant d.0 d.1
