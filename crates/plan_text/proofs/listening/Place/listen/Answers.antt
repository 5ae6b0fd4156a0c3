use Rattle.std.proofs.Common.{◌≡◌, ℕ, ◌+◌, sym, subst, arith}
use Rattle.std.proofs.lemmas.Result.{err_from_is_err_and}
use Rattle.plan_text.specs.Heard.{Heard}
use Rattle.plan_text.specs.Reads.{Accepts, Refuses}
use Rattle.plan_text.specs.declared.listening.Place.{Place}
use Rattle.plan_text.proofs.Running.{lines_more}
use Rattle.plan_text.proofs.listening.Place.listen.Goals as goal

pub loop-due-preserved : goal.loop-due-preserved
loop-due-preserved g c =
    let heard = g.L.Listener.heard in
    let here = c.loop-due.self in
    let after = c.hear_next.new.self in
    let (k, count, lines) = c.loop-due.invariant in
    let number : here.lines + 1 ≡ c.args.self.now.lines + 1 + k = omega arith in
    let (accepted, more) = c.in_ok-hear_next.ensures in
    let last = subst (λ (n : ℕ). Accepts (heard c.loop-due.listener) n here.rest.now (heard c.hear_next.new.listener) after.rest.now) number accepted in
    (k + 1, omega arith, lines_more k _ _ _ _ here.rest.now _ _ lines last)

pub returns-in_err-hear_next-clause-stops : goal.returns-in_err-hear_next-clause-stops
returns-in_err-hear_next-clause-stops g c =
    let heard = g.L.Listener.heard in
    let here = c.loop-due.self in
    let (refused, same, stays) = c.in_err-hear_next.ensures in
    let e = c.in_err-hear_next.field-0.0 in
    let p = err_from_is_err_and c.from_residual.result c.from_residual.ensures.1 in
    let told = subst (λ (h : Heard). Refuses h (here.lines + 1) here.rest.now e) (sym same) refused in
    rw (p.1, p.2) (subst (λ (s : Place). Refuses (heard c.hear_next.new.listener) (s.lines + 1) s.rest.now e) (sym stays) told)
