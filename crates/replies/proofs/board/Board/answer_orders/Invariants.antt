use Rattle.std.proofs.Common.{◌≡◌, ◌+◌, ◌≤◌, length, string_bytes}
use Rattle.plan.specs.Meant.{planned}
use Rattle.plan_text.specs.Reads.{most_bytes}
use Rattle.replies.specs.Carried.{Roomy}
use Rattle.replies.proofs.Replying.{UnderWay}
use Rattle.replies.proofs.board.Board.answer_orders.Given as goal

abbrev pub invariant-loop-rest : goal.invariant-loop-rest
invariant-loop-rest g l =
    (l.line + length l.rest ≤ most_bytes)
    × (l.self.router.sheet.below ≡ l.initial.self.router.sheet.below)
    × Roomy l.self
    × UnderWay g.M.Measure.scale g.M.Printing.written (planned l.initial.self.router.sheet.below) l.orders.lines l.orders.bytes.now (string_bytes l.initial.out)
    l.self.router.sheet.sheet l.self.router.halls l.line l.rest (string_bytes l.out)

abbrev pub decreases-loop-rest : goal.decreases-loop-rest
decreases-loop-rest g l = length l.rest
