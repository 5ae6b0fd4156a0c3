use Rattle.std.proofs.Common.{◌+◌, ◌<◌, ◌≤◌, length, set, Some, refl, ◌∙◌, subst, arith, rules}
use Rattle.search.specs.Desk.{held}
use Rattle.shift.specs.Turns.{places_of, lent, call_of, AnswersCall}
use Rattle.shift.specs.declared.turn.Turn.{Turn}
use Rattle.shift.proofs.Histories.{SoFar, first_turn, next_turn, all_turns}
use Rattle.shift.proofs.working.work.Goals as goal

pub loop-turn-init : goal.loop-turn-init
loop-turn-init g c = record { below = refl; so_far = first_turn c.requires; places = refl; lent = search rules }

pub loop-turn-preserved : goal.loop-turn-preserved
loop-turn-preserved g c =
    let m = g.M.Measure.scale in
    let before = c.loop-turn.invariant in
    let first = c.args.router.now in
    let p = g.L.Layout.meaning first.sheet.below in
    let there = places_of (held c.args.tables.now) c.args.way.now in
    let i = c.loop-turn.turn-index in
    let turns = c.loop-turn.turns in
    let turn = c.turn-item.result in
    let old = c.loop-turn.router in
    let new = c.carry_out.new.router in
    let said = c.carry_out.result in
    let inside : i < length c.args.turns.now = omega arith in
    let inside' : i < length turns = omega arith in
    let book : AnswersCall m p (call_of turn.order (lent turn.places there)) old.sheet.sheet old.halls new.sheet.sheet new.halls said = search rules in
    record {
      below = c.carry_out.ensures.below ∙ before.below;
      so_far = subst (λ (t : Turn g.row.M.Denot). SoFar m p there (i + 1) c.args.turns.now (set turns i (record { order = t.order; places = t.places; reply = Some said })) new.sheet.sheet new.halls) c.turn-item.is
          (next_turn g.met.M.Measure.lawful p (g.L.Layout.sound first.sheet.below) there i c.args.turns.now turns old.sheet.sheet new.sheet.sheet old.halls new.halls turn said inside inside' before.so_far c.turn-item.is book);
      places = c.carry_out.ensures.places ∙ before.places;
      lent = search rules;
    }

pub returns-clause-worked : goal.returns-clause-worked
returns-clause-worked g c = (all_turns (let w : length c.args.turns.now ≤ c.loop-turn.turn-index = omega arith in w) (let w : length c.loop-turn.turns ≤ c.loop-turn.turn-index = omega arith in w) c.loop-turn.invariant.so_far).0

pub returns-clause-answers : goal.returns-clause-answers
returns-clause-answers g c = (all_turns (let w : length c.args.turns.now ≤ c.loop-turn.turn-index = omega arith in w) (let w : length c.loop-turn.turns ≤ c.loop-turn.turn-index = omega arith in w) c.loop-turn.invariant.so_far).1
