use Rattle.std.proofs.Common.{arith}
use Rattle.tokens.proofs.Reading.{found_more, found_stuck, found_at_end}
use Rattle.tokens.proofs.line.Line.numbers.Goals as goal

pub returns-in_err-number : goal.returns-in_err-number
returns-in_err-number g c =
    let loop = c.loop-number in
    rw c.from_residual.ensures
    (found_stuck g.row.K c.args.self loop.self loop.number-items loop.number-index c.loop-number-test.true loop.invariant c.in_err-number.ensures)

pub loop-number-preserved : goal.loop-number-preserved
loop-number-preserved g c =
    let loop = c.loop-number in
    found_more g.row.K c.args.self loop.self c.next_number.new.self loop.number-items loop.number-index c.in_ok-number.field-0
    (omega arith) loop.invariant c.in_ok-number.ensures

pub returns : goal.returns
returns g c =
    let loop = c.loop-number in
    rw c.then_some.ensures (found_at_end g.row.K c.args.self loop.self loop.number-items loop.number-index c.at_end.result (omega arith) loop.invariant c.at_end.ensures)
