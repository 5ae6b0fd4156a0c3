use Rattle.std.proofs.Common.{is_ok, ap, arith}
use Rattle.std.proofs.Output.{has_written_append, has_written_of_eq}
use Rattle.replies.proofs.Spelling.{one_more, all_listed}
use Rattle.replies.proofs.way.write_legs.Goals as goal

pub loop-leg-preserved : goal.loop-leg-preserved
loop-leg-preserved g c plain =
    let took = g.W.Write.write_str_gives in
    let so_far = c.loop-leg.invariant plain in
    let next = c.write-in-loop-leg.ensures.writes so_far.plain (ap is_ok c.in_ok-write-2.was) in
    has_written_of_eq took _ _ _ _ (one_more c.in-Some.rest.now c.loop-leg.leg-index (omega arith)) (has_written_append took _ _ _ _ _ so_far next)

pub returns : goal.returns
returns g c plain ok =
    let took = g.W.Write.write_str_gives in
    let first = c.write.ensures.writes plain (ap is_ok c.in_ok-write.was) in
    let others = c.loop-leg.invariant first.plain in
    let last = c.writeln-2.ensures.writes others.plain ok in
    let parts = c.in-Some.ensures.cases in
    has_written_of_eq took _ _ _ _ (all_listed c.args.legs.now c.in-Some.rest.now c.in-Some.first.now c.loop-leg.leg-index parts.0 (omega arith))
    (has_written_append took _ _ _ _ _ (has_written_append took _ _ _ _ _ first others) last)
