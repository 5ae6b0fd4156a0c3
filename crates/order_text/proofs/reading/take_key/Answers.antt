use Rattle.tokens.proofs.Cutting.{one_cut}
use Rattle.order_text.specs.Orders.{spelt}
use Rattle.tokens.specs.Taken.{left}
use Rattle.order_text.proofs.reading.take_key.Goals as goal

pub returns-in_err-named : goal.returns-in_err-named
returns-in_err-named c =
    let here = c.in_ok-word.ensures in
    let other = c.in_err-named.ensures in
    rw c.from_residual-in_err-named.ensures
    (λ k value keyed. other k (one_cut 61 c.args.line.now c.in_ok-word.word.now (spelt k) (left c.in_ok-word.values.line) value here keyed).0)
