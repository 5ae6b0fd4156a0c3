use Rattle.std.proofs.Common.{sym, ap, ◌∙◌}
use Rattle.std.proofs.lemmas.Result.{IfOk-weaker}
use Rattle.replies.specs.Replied.{call_of}
use Rattle.replies.proofs.Deeds.{renew_roomy, carried_lapsed, carried_marked}
use Rattle.replies.proofs.board.Board.carry_out.Goals as goal

pub returns-in-Shut-clause-order : goal.returns-in-Shut-clause-order
returns-in-Shut-clause-order g c =
    IfOk-weaker c.say.result _ _
    (λ x wrote.
    carried_lapsed g.M.Measure.scale g.M.Printing.written _ c.args.line c.args.order _ _ _ _ _ _ _ _ _
    (ap call_of (sym c.in-Shut.is)) c.lapsed.ensures wrote c.shut.ensures.order.book)
    c.say.ensures

pub returns-in-Open-clause-order : goal.returns-in-Open-clause-order
returns-in-Open-clause-order g c =
    IfOk-weaker c.say-in-Open.result _ _
    (λ x wrote.
    carried_lapsed g.M.Measure.scale g.M.Printing.written _ c.args.line c.args.order _ _ _ _ _ _ _ _ _
    (ap call_of (sym c.in-Open.is)) c.lapsed-in-Open.ensures wrote c.open.ensures.order.book)
    c.say-in-Open.ensures

pub returns-in-Set-clause-order : goal.returns-in-Set-clause-order
returns-in-Set-clause-order g c =
    IfOk-weaker c.say-in-Set.result _ _
    (λ x wrote.
    carried_lapsed g.M.Measure.scale g.M.Printing.written _ c.args.line c.args.order _ _ _ _ _ _ _ _ _
    (ap call_of (sym c.in-Set.is)) c.lapsed-in-Set.ensures wrote c.set.ensures.order.book)
    c.say-in-Set.ensures

pub returns-in-Renew-clause-order : goal.returns-in-Renew-clause-order
returns-in-Renew-clause-order g c =
    IfOk-weaker c.say-in-Renew.result _ _
    (λ x wrote.
    carried_marked g.M.Measure.scale g.M.Printing.written _ c.args.line c.args.order _ _ _ _ _ _ _ _ _
    (renew_roomy c.in-Renew.hall c.args.self.now c.requires ∙ ap call_of (sym c.in-Renew.is)) c.marked.ensures wrote
    (ap (λ x. x.sheet) c.renew-answer.ensures.sheet) c.renew-answer.ensures.renewed.book)
    c.say-in-Renew.ensures
