use Rattle.std.proofs.Common.{◌≡◌, ◌≤◌, length, take, Some, sym, refl, ◌∙◌, arith, rules}
use Rattle.std.proofs.lemmas.List.{length-take-le}
use Rattle.search.proofs.Earlier.{place_there}
use Rattle.search.proofs.Guiding.{falling, traced_back, front_shows, with_total, stranded, reached}
use Rattle.search.proofs.searching.tell.Goals as goal

-- no total was given: no walk leads there
pub returns-in_default : goal.returns-in_default
returns-in_default g c =
    let laws = g.met.M.Measure.lawful in
    let p = g.L.Layout.meaning c.args.layout.now in
    let t = c.args.tables.now in
    let room = c.requires.room in
    let settled = take c.args.count t.settled.now in
    let none = front_shows laws p c.args.start c.args.goal t.totals.now t.came.now settled room.came c.requires.goal c.requires.searched ∙ sym c.total_of.ensures ∙ c.in_default.is in (
      refl,
      stranded laws p c.args.start c.args.goal t.totals.now t.came.now settled room.came c.requires.goal c.requires.searched none c.args.way.now,
    )

-- the goal has a total, and was settled
pub trace_way-legs-requires : goal.trace_way-legs-requires
trace_way-legs-requires g c =
    let laws = g.met.M.Measure.lawful in
    let p = g.L.Layout.meaning c.args.layout.now in
    let sound = g.L.Layout.sound c.args.layout.now in
    let t = c.args.tables.now in
    let room = c.requires.room in
    let settled = take c.args.count t.settled.now in
    let has = front_shows laws p c.args.start c.args.goal t.totals.now t.came.now settled room.came c.requires.goal c.requires.searched ∙ sym c.total_of.ensures ∙ c.in-Some.is in
    let h = with_total laws p c.args.start c.args.goal t.totals.now t.came.now settled room.came c.requires.goal c.requires.searched _ has in
    let there = place_there settled c.args.goal h in
    let few = c.requires.few in
    let way = c.requires.way in
    let list = room.settled in
    let many = length-take-le c.args.count t.settled.now (omega arith) in
    let goal_in = c.requires.goal in
    let small = sound.few_junctions in
    record {
      falling = falling laws p sound c.args.start (Some c.args.goal) t.totals.now t.came.now settled c.requires.start room.came c.requires.searched;
      there = there;
      room = omega arith;
      small = omega arith;
    }

-- the way is the one that came-by gives
pub returns : goal.returns
returns g c =
    let laws = g.met.M.Measure.lawful in
    let p = g.L.Layout.meaning c.args.layout.now in
    let sound = g.L.Layout.sound c.args.layout.now in
    let t = c.args.tables.now in
    let tables_room = c.requires.room in
    let settled = take c.args.count t.settled.now in
    let has = front_shows laws p c.args.start c.args.goal t.totals.now t.came.now settled tables_room.came c.requires.goal c.requires.searched ∙ sym c.total_of.ensures ∙ c.in-Some.is in
    let h = with_total laws p c.args.start c.args.goal t.totals.now t.came.now settled tables_room.came c.requires.goal c.requires.searched _ has in
    let told = c.trace_way-legs.ensures in
    let legs = c.trace_way-legs.result in
    let way = c.trace_way-legs.new.way in
    let traced = traced_back laws p sound c.args.start (Some c.args.goal) t.totals.now t.came.now settled c.requires.start tables_room.came c.requires.searched
    c.args.goal (take legs way) h told.traced in
    let same : length way ≡ length c.args.way.now = search rules in
    let few = c.requires.few in
    let far = c.requires.way in
    let short = told.few in
    let list = tables_room.settled in
    let many = length-take-le c.args.count t.settled.now (omega arith) in
    let room : legs ≤ length way = omega arith in (
      refl,
      reached laws p c.args.start c.args.goal t.totals.now t.came.now settled tables_room.came c.requires.goal c.requires.searched _ has
          c.args.count legs c.args.way.now way traced room told.rest,
    )
