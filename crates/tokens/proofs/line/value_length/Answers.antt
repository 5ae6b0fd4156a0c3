use Rattle.tokens.proofs.Taking.{stray_at}
use Rattle.tokens.proofs.line.value_length.Goals as goal

pub returns-in-Other : goal.returns-in-Other
returns-in-Other c =
    let other = c.in-Other.ensures in
    stray_at c.args.bytes.now c.loop-place.place c.loop-place-test.true c.loop-place.invariant other.0 other.1
