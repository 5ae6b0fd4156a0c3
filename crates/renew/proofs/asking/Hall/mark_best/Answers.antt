use Rattle.std.proofs.Common.{◌≡◌, ℕ, ◌+◌, ◌<◌, true, ◌⊎◌, Decides, sym, subst, arith}
use Rattle.layout.specs.Limits.{most_halls, most_legs}
use Rattle.marks.specs.Mark.{is_marked}
use Rattle.renew.specs.Flags.{LeadsBest, Written}
use Rattle.renew.proofs.Writing.{written_put, written_skip, best_yes, best_no}
use Rattle.renew.proofs.asking.Hall.mark_best.Goals.{then-unwrap_or, else-unwrap_or}
use Rattle.renew.proofs.asking.Hall.mark_best.Goals as goal

pub loop-leg-preserved : goal.loop-leg-preserved
loop-leg-preserved g c =
    let m = g.M.Measure.scale in
    let p = g.L.Layout.meaning c.args.self.now.layout.now in
    let sound = g.L.Layout.sound c.args.self.now.layout.now in
    let hall = c.args.self.now.number in
    let entry = c.args.ways.now.entry in
    let leg = c.loop-leg.leg in
    let old = c.args.marks.now in
    let hall_in : hall < most_halls = let exists = c.args.self.now.exists in omega (arith, sound.few_halls) in
    let leg_in : leg < most_legs = omega (arith, sound.few_legs) in
    let was = is_marked old hall leg in
    let P = λ (e : ℕ). (is_marked old hall e ≡ true) ⊎ LeadsBest m p entry e in
    let test = c.unwrap_or.result in
    let decides : Decides test (LeadsBest m p entry leg) = rw c.unwrap_or.ensures c.begin_with.ensures in
    elim c.if-unwrap_or.branch [ then-unwrap_or w ↦ subst (Written hall (leg + 1) P old) (sym w.marks-is) (written_put hall leg P old c.loop-leg.marks w.put.new.self true hall_in leg_in c.loop-leg.invariant w.put.ensures (best_yes m p entry leg was test decides w.if-unwrap_or.true)) | else-unwrap_or w ↦ subst (Written hall (leg + 1) P old) (sym w.marks-is) (written_skip hall leg P old c.loop-leg.marks c.loop-leg.invariant (best_no m p entry leg was test decides w.if-unwrap_or.false)) ]
