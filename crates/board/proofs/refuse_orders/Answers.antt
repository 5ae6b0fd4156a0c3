use Rattle.tokens.proofs.Cutting.{line_shorter}
use Rattle.board.proofs.refuse_orders.Goals as goal

pub loop-rest-smaller : goal.loop-rest-smaller
loop-rest-smaller g c = line_shorter _ _ _ c.in-Some.ensures
