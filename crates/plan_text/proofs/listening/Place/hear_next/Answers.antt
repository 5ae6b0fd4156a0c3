use Rattle.std.proofs.Common.{refl, inr}
use Rattle.std.proofs.lemmas.Result.{err_from_is_err_and}
use Rattle.std.proofs.option.Match.{if_some}
use Rattle.plan_text.proofs.listening.Place.hear_next.Goals as goal

pub returns-in_err-hear_line : goal.returns-in_err-hear_line
returns-in_err-hear_line g c =
    let asks = g.met.L.Listener.asks c.args.listener.now c.args.due c.requires in
    let cut = if_some _ _ _ c.in_ok-line.ensures.ok_part c.next_line.ensures in
    let told = c.in_err-hear_line.ensures in
    let p = err_from_is_err_and c.from_residual-in_err-hear_line.result c.from_residual-in_err-hear_line.ensures.1 in
    rw (p.1, p.2) ((c.args.due, asks, inr (inr (c.in_ok-line.line.now, c.in_ok-line.rest.now, cut, told.0))), told.1, refl)

pub returns : goal.returns
returns g c =
    let asks = g.met.L.Listener.asks c.args.listener.now c.args.due c.requires in
    let cut = if_some _ _ _ c.in_ok-line.ensures.ok_part c.next_line.ensures in
    (record { which = c.args.due; is_due = asks; bytes = c.in_ok-line.line.now; cut = cut; says = c.in_ok-hear_line.ensures }, refl)
