use Rattle.std.proofs.Common.{string_bytes, sym, ap, ◌∙◌, arith}
use Rattle.std.proofs.lemmas.Result.{IfOk-weaker, IfOk-at_ok}
use Rattle.plan.specs.Meant.{planned}
use Rattle.tokens.proofs.Cutting.{line_shorter}
use Rattle.plan_text.proofs.Telling.{empty_text, some_text}
use Rattle.replies.proofs.Replying.{goes_on_over, goes_out, goes_last}
use Rattle.replies.proofs.board.Board.answer_orders.Goals as goal

pub returns-in_default : goal.returns-in_default
returns-in_default g c =
    let some = some_text c.loop-rest.rest.now (sym c.loop-rest-test.ensures) in
    let at = c.loop-rest in
    IfOk-weaker c.say.result _ _
    (λ x e.
    goes_last g.M.Measure.scale g.M.Printing.written (planned c.args.self.now.router.sheet.below) c.args.orders.lines c.args.orders.bytes.now _
    at.self.router.sheet.sheet at.self.router.halls at.line at.rest.now _ _ at.invariant.3 some c.in_default.ensures e)
    c.say.ensures

pub loop-rest-smaller : goal.loop-rest-smaller
loop-rest-smaller g c = line_shorter _ _ _ c.in-Some.ensures

pub loop-rest-preserved : goal.loop-rest-preserved
loop-rest-preserved g c =
    let at = c.loop-rest in
    let told = IfOk-at_ok _ c.in_ok-answer_line.was c.answer_line.ensures.line in
    let first = c.in-Some.ensures in
    let shorter = line_shorter _ _ _ first in
    let over = goes_on_over g.M.Measure.scale g.M.Printing.written (planned c.args.self.now.router.sheet.below) c.args.orders.lines c.args.orders.bytes.now (string_bytes c.args.out.now)
    (planned at.self.router.sheet.below) (ap planned at.invariant.1) at.self.router.sheet.sheet c.answer_line.new.self.router.sheet.sheet
    at.self.router.halls c.answer_line.new.self.router.halls at.line at.rest.now _ _ _ _ at.invariant.3 first told in
    (omega arith, c.answer_line.ensures.below ∙ at.invariant.1, c.answer_line.ensures.room, over)

pub returns : goal.returns
returns g c =
    let at = c.loop-rest in
    let none = empty_text at.rest.now (sym c.loop-rest-test.ensures) in
    goes_out g.M.Measure.scale g.M.Printing.written (planned c.args.self.now.router.sheet.below) c.args.orders.lines c.args.orders.bytes.now _
    at.self.router.sheet.sheet at.self.router.halls at.line at.rest.now _ at.invariant.3 none
