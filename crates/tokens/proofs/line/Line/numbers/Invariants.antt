-- The numbers before the loop's place were found, and the others are left.
use Rattle.tokens.proofs.Reading.{Found}
use Rattle.tokens.proofs.line.Line.numbers.Given as goal

abbrev pub invariant-loop-number : goal.invariant-loop-number
invariant-loop-number g l = Found g.row.K l.initial.self l.self l.number-items l.number-index
