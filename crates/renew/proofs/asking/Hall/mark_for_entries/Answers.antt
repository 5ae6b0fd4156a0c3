use Rattle.std.proofs.Common.{◌≡◌, length, subst, arith}
use Rattle.std.proofs.lemmas.Bool.{both_ways}
use Rattle.walks.specs.Net.{junctions}
use Rattle.search.specs.Desk.{held}
use Rattle.renew.specs.Flags.{FlaggedTo, Written}
use Rattle.renew.proofs.Flagging.{entry_turn, other_turn, past_then, same_then}
use Rattle.renew.proofs.asking.Hall.mark_for_entries.Goals.{then-is_entry, else-is_entry}
use Rattle.renew.proofs.asking.Hall.mark_for_entries.Goals as goal

pub loop-junction-preserved : goal.loop-junction-preserved
loop-junction-preserved g c =
    let m = g.M.Measure.scale in
    let p = g.L.Layout.meaning c.args.self.now.layout.now in
    let n = length p.legs in
    let hall = c.args.self.now.number in
    let k = c.loop-junction.junction in
    let mid = c.loop-junction.marks in
    let before = c.loop-junction.invariant in
    elim c.if-is_entry.branch [ then-is_entry w ↦ (let last = w.mark_for_entry.new in let then = w.mark_for_entry.ensures in rw (w.marks-is, w.tables-is) (record { marks = λ old h. entry_turn m p hall k n old mid last.marks (c.is_entry.ensures.0 w.if-is_entry.true) (before.marks old h) then.marks; past = past_then (junctions p) (held c.args.tables.now) (held c.loop-junction.tables) (held last.tables) before.past then.past; room = then.room; lent = same_then before.lent then.lent })) | else-is_entry w ↦ rw (w.marks-is, w.tables-is) (record { marks = λ old h. other_turn m p hall k n old mid (λ entry. both_ways c.is_entry.result w.if-is_entry.false (c.is_entry.ensures.1 entry)) (before.marks old h); past = before.past; room = before.room; lent = before.lent }) ]

pub returns-clause-marks : goal.returns-clause-marks
returns-clause-marks g c old h =
    let p = g.L.Layout.meaning c.args.self.now.layout.now in
    let hall = c.args.self.now.number in
    let end = c.junctions-junction-end.ensures in
    let left = c.loop-junction-test.false in
    let kept = c.loop-junction.auto.junction-end in
    let all : c.loop-junction.junction ≡ junctions p = omega arith in
    subst (λ k. Written hall (length p.legs) (FlaggedTo g.M.Measure.scale p hall k) old c.loop-junction.marks) all (c.loop-junction.invariant.marks old h)
