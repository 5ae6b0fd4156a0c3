use Rattle.std.proofs.Common.{ℕ, ◌+◌, ◌<◌, ◌≤◌, length, get_or, drop, sym, refl, ap, ◌∙◌, subst, arith, rules}
use Rattle.std.proofs.lemmas.List.{take_more_set, drop-set-lt, drop-drop}
use Rattle.search.specs.Way.{Traced, came_by, tail_of, place_in}
use Rattle.search.specs.Way.Traced.{origin, back}
use Rattle.search.proofs.CameBy.{came_by_none, came_by_leg}
use Rattle.search.proofs.way.+trace.Goals as goal

pub returns-then-leg : goal.returns-then-leg
returns-then-leg t c = record { traced = origin (came_by_none c.args.came.now c.args.at (search rules)); few = omega arith; rest = refl }

pub bounds-tails-leg : goal.bounds-tails-leg
bounds-tails-leg t c = c.requires.falls.leg _ _ c.requires.there (came_by_leg c.args.came.now c.args.at c.if-leg.false)

pub returns : goal.returns
returns t c =
    let came = c.args.came.now in
    let tails = c.args.tails.now in
    let at = c.args.at in
    let leg = get_or came at 0 in
    let by = came_by_leg came at c.if-leg.false in
    let n : ℕ = c.trace-legs.result in
    let written = c.trace-legs.new.way in
    let e = c.trace-legs.ensures in
    let earlier = c.requires.falls.earlier at leg c.requires.there by in
    let more : n + 1 ≤ place_in c.args.settled.now at = omega (arith, earlier, e.few) in
    let inside : n < length written = omega (arith, more, c.requires.room, c.trace-legs.auto.way) in
    record {
      traced = subst (Traced (came_by came) (tail_of tails) at) (sym (take_more_set written n leg inside)) (back by e.traced);
      few = more;
      rest = drop-set-lt (n + 1) written n leg (omega arith) ∙ sym (drop-drop 1 n written) ∙ ap (drop 1) e.rest ∙ drop-drop 1 n c.args.way.now;
    }
