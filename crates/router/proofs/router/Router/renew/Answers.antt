use Rattle.std.proofs.Common.{◌≡◌, ◌<◌, true, cond, ◌&&◌, eqb, ltb, Ok, ap, ◌∙◌, arith, rules}
use Rattle.std.proofs.lemmas.Bool.{ltb-true, lt-ltb}
use Rattle.layout.specs.Limits.{most_halls}
use Rattle.halls.specs.Force.{in_force}
use Rattle.layers.specs.Soundness.{entered_sound}
use Rattle.search.specs.Desk.{held}
use Rattle.halls.specs.declared.force.HallMarks.{HallMarks}
use Rattle.router.proofs.Renewals.{renews_hall}
use Rattle.router.proofs.Sheets.{leg_passed}
use Rattle.router.proofs.router.Router.renew.Goals as goal

pub returns-in_err-count-clause-renewed : goal.returns-in_err-count-clause-renewed
returns-in_err-count-clause-renewed g c =
    let old = c.args.self.now in
    let p = g.L.Layout.meaning old.sheet.below in
    let sound = g.L.Layout.sound old.sheet.below in
    let s = old.sheet.sheet in
    let new : HallMarks = record { marks = c.renew.new.marks; force = old.halls.force } in
    renews_hall g.met.M.Measure.lawful p sound s (entered_sound s p old.sheet.fit sound) c.args.hall old.halls new (held c.args.tables.now) (held c.renew.new.tables) _ (search rules) (search rules)

pub returns-clause-renewed : goal.returns-clause-renewed
returns-clause-renewed g c =
    let old = c.args.self.now in
    let p = g.L.Layout.meaning old.sheet.below in
    let sound = g.L.Layout.sound old.sheet.below in
    let s = old.sheet.sheet in
    let hall = c.args.hall in
    let new : HallMarks = record { marks = c.renew.new.marks; force = c.put.new.self } in
    let there : hall < p.halls = ltb-true hall p.halls (leg_passed _ _ _ c.in_ok-count.ensures.renewed.0) in
    let known : ltb hall most_halls ≡ true = let few = sound.few_halls in lt-ltb hall most_halls (omega arith) in
    renews_hall g.met.M.Measure.lawful p sound s (entered_sound s p old.sheet.fit sound) hall old.halls new (held c.args.tables.now) (held c.renew.new.tables) (Ok c.in_ok-count.count) (search rules)
    (λ h. c.put.ensures h ∙ ap (λ b. cond (eqb h hall) (b && true) (in_force old.halls.force h)) known)
