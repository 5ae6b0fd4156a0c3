use Rattle.tokens.proofs.Reading.{letter_stuck}
use Rattle.tokens.proofs.line.Line.letter.Goals as goal

pub returns-in_err-next_value : goal.returns-in_err-next_value
returns-in_err-next_value c = rw c.from_residual.ensures (letter_stuck c.args.self c.in_err-next_value.ensures)
