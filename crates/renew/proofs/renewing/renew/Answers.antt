use Rattle.std.proofs.Common.{◌≡◌, length, None, rules}
use Rattle.search.specs.Desk.{held}
use Rattle.renew.specs.Renewed.{renew_due}
use Rattle.renew.proofs.Flagging.{flag_all}
use Rattle.renew.proofs.Writing.{written_same}
use Rattle.renew.proofs.renewing.renew.Goals as goal

pub returns-clause-renewed : goal.returns-clause-renewed
returns-clause-renewed g c =
    let m = g.M.Measure.scale in
    let p = g.L.Layout.meaning c.args.layout.now in
    let hall = c.args.hall in
    let new = c.mark_for_entries.new.marks in
    let none : renew_due p hall (held c.args.tables.now) ≡ None = search rules in (
      none,
      record {
        marks = written_same hall (length p.legs) _ _ c.args.marks.now new (flag_all m p hall (g.L.Layout.sound c.args.layout.now)) (c.mark_for_entries.ensures.marks c.args.marks.now c.mark_inside.ensures);
        counted = c.count_marked.ensures;
        past = c.mark_for_entries.ensures.past;
      },
    )
