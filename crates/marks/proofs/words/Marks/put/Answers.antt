use Rattle.std.proofs.Common.{◌≡◌, not, ◌&&◌, ap, ◌∙◌, arith, rules}
use Rattle.marks.specs.Mark.{bit_set, possible}
use Rattle.marks.proofs.Flipping.{marks_turned}
use Rattle.marks.proofs.words.Marks.put.Goals as goal

pub returns-then-is_set-on : goal.returns-then-is_set-on
returns-then-is_set-on c h k =
    let m = c.args.self.now in
    let turn : not (bit_set m.words c.args.hall c.args.leg) ≡ c.args.on = search rules in
    ap (λ w. possible h k && bit_set w h k) c.flip.ensures
    ∙ marks_turned m.words c.args.hall c.args.leg m.full (omega arith) (omega arith) c.args.on turn h k
