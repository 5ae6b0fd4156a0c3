use Rattle.std.proofs.Common.{◌+◌, sym, ap, ◌∙◌, arith}
use Rattle.marks.specs.Mark.{is_marked}
use Rattle.halls.proofs.Counted.{count_le, count_yes, count_no}
use Rattle.renew.proofs.asking.Hall.count_marked.Goals.{then-has, else-has}
use Rattle.renew.proofs.asking.Hall.count_marked.Goals as goal

pub overflow_add-count : goal.overflow_add-count
overflow_add-count g c =
    let few = count_le c.loop-leg.leg (is_marked c.args.marks.now c.args.self.now.number) in
    let counted = c.loop-leg.invariant in
    omega arith

pub loop-leg-preserved : goal.loop-leg-preserved
loop-leg-preserved g c =
    let test = is_marked c.args.marks.now c.args.self.now.number in
    elim c.if-has.branch [ then-has w ↦ w.count-is ∙ ap (λ n. n + 1) c.loop-leg.invariant ∙ sym (count_yes c.loop-leg.leg test (sym w.if-has.ensures)) | else-has w ↦ w.count-is ∙ c.loop-leg.invariant ∙ sym (count_no c.loop-leg.leg test (sym w.if-has.ensures)) ]
