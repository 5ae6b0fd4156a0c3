use Rattle.std.proofs.Common.{◌≡◌, ◌-◌, ◌≤◌, drop}
use Rattle.walks.specs.Net.{net, junctions}
use Rattle.search.specs.Frontier.{Sized, SameSearch}
use Rattle.search.specs.Queued.{waiting}
use Rattle.search.specs.Stepped.{Underway}
use Rattle.search.proofs.frontier.Frontier.until_done.Given as goal

abbrev pub invariant-loop-goal : goal.invariant-loop-goal
invariant-loop-goal g l =
    let m = g.M.Measure.scale in
    let p = g.L.Layout.meaning l.layout in
    let n = junctions p in
    Underway m (net m p) l.goal n l.self (waiting l.queue)
    × Sized m n l.self l.queue
    × (l.self.count ≤ n)
    × (drop l.self.count l.self.settled.now ≡ drop l.self.count l.initial.self.settled.now)
    × SameSearch l.initial.self l.self
    × (l.queue.slots.ghost_name ≡ l.initial.queue.slots.ghost_name)

abbrev pub decreases-loop-goal : goal.decreases-loop-goal
decreases-loop-goal g l = junctions (g.L.Layout.meaning l.layout) - l.self.count
