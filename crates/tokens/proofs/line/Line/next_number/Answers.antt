use Rattle.tokens.proofs.Reading.{number_taken}
use Rattle.tokens.proofs.line.Line.next_number.Goals as goal

pub returns-in_err-next_value : goal.returns-in_err-next_value
returns-in_err-next_value c =
    rw c.from_residual.ensures (λ n after takes. c.in_err-next_value.ensures takes.0 after takes.1)

pub returns : goal.returns
returns c =
    number_taken c.args.self.now c.next_value.new.self c.in_ok-next_value.field-0 _ c.in_ok-next_value.ensures c.number_of.ensures
