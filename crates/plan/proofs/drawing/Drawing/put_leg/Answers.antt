use Rattle.std.proofs.Common.{◌∙◌, arith}
use Rattle.std.proofs.lemmas.List.{length-set}
use Rattle.plan.proofs.Entry.{laid_sound, ends_laid}
use Rattle.plan.proofs.drawing.Drawing.put_leg.Goals as goal

pub invariant_of-self : goal.invariant_of-self
invariant_of-self c =
    let d = c.args.self.now in
    let b = c.args.belt in
    record {
      few_points = d.few_points;
      few_belts = omega arith;
      wide_places = d.wide_places;
      wide_belts = length-set d.tables.belts d.count b ∙ d.wide_belts;
      sound = laid_sound d b c.requires.0 c.requires.1;
      leaves = ends_laid d (λ l. l.tail) b d.leaving c.push.new.self c.requires.1 d.leaves c.push.ensures;
      reaches = ends_laid d (λ l. l.head) b d.reaching c.push-2.new.self c.requires.1 d.reaches c.push-2.ensures;
    }
