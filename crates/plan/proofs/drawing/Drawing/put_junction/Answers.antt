use Rattle.std.proofs.Common.{◌∙◌, arith}
use Rattle.std.proofs.lemmas.List.{length-set}
use Rattle.plan.proofs.Entry.{placed_sound}
use Rattle.plan.proofs.drawing.Drawing.put_junction.Goals as goal

pub invariant_of-self : goal.invariant_of-self
invariant_of-self c =
    let d = c.args.self.now in
    record {
      few_points = omega arith;
      few_belts = d.few_belts;
      wide_places = length-set d.tables.places d.points c.args.hall ∙ d.wide_places;
      wide_belts = d.wide_belts;
      sound = placed_sound d c.args.hall c.requires.0 c.requires.1;
      leaves = d.leaves;
      reaches = d.reaches;
    }
