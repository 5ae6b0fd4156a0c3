-- The bytes before the loop's place are digits, and `n` is what they write.
use Rattle.tokens.proofs.Decimal.{Read}
use Rattle.tokens.proofs.numeral.read_on.Given as goal

abbrev pub invariant-loop-byte : goal.invariant-loop-byte
invariant-loop-byte l = Read l.start l.digits l.byte-index l.n
