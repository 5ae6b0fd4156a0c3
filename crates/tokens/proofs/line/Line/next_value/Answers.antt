use Rattle.tokens.specs.declared.line.Token.TheVariants.{Value}
use Rattle.tokens.proofs.line.Line.next_value.Goals as goal

pub returns-in_err-value : goal.returns-in_err-value
returns-in_err-value c = rw c.from_residual.ensures (λ part after takes. c.in_err-value.ensures.0 (Value part) after takes)
