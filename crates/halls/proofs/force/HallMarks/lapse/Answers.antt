use Rattle.std.proofs.Common.{sym, arith}
use Rattle.halls.specs.Force.{lapsing}
use Rattle.halls.proofs.Counted.{count_le}
use Rattle.halls.proofs.Striking.{turn_yes, turn_no, all_turns}
use Rattle.halls.proofs.force.HallMarks.lapse.Goals.{then-is_struck, else-is_struck}
use Rattle.halls.proofs.force.HallMarks.lapse.Goals as goal

pub overflow_add-count : goal.overflow_add-count
overflow_add-count c =
    let few = count_le c.loop-hall.hall (lapsing c.args.self.now c.args.strikes) in
    let counted = c.loop-hall.invariant.0 in
    omega arith

pub loop-hall-preserved : goal.loop-hall-preserved
loop-hall-preserved c =
    let s = c.args.strikes in
    let old = c.args.self.now in
    let i = c.loop-hall.hall in
    elim c.if-is_struck.branch [ then-is_struck w ↦ rw (sym w.self-is, sym w.count-is) at (turn_yes s old c.loop-hall.self w.lapse_hall.new.self i c.loop-hall.count c.loop-hall.invariant (sym w.if-is_struck.ensures) w.lapse_hall.ensures) | else-is_struck w ↦ rw (sym w.self-is, sym w.count-is) at (turn_no s old c.loop-hall.self i c.loop-hall.count c.loop-hall.invariant (sym w.if-is_struck.ensures)) ]

pub returns : goal.returns
returns c =
    let last = c.min-hall-end.ensures in
    let all = all_turns c.args.strikes c.args.self.now c.loop-hall.self c.args.halls c.loop-hall.hall c.loop-hall.count (omega arith) c.loop-hall.invariant in
    record { count = all.0; lapsed = all.1 }
