use Rattle.std.proofs.Common.{◌≡◌, ℕ, ◌-◌, ◌≤◌, List, length}
use Rattle.walks.specs.Net.{junctions}
use Rattle.search.specs.Frontier.{state, Sized, SameSettled}
use Rattle.search.specs.Queued.{waiting}
use Rattle.search.specs.Standing.{Stands, Relaxed}
use Rattle.search.proofs.frontier.Frontier.relax.Given as goal

abbrev pub invariant-loop-leg : goal.invariant-loop-leg
invariant-loop-leg g l =
    let m = g.M.Measure.scale in
    let p = g.L.Layout.meaning l.layout in
    (l.from ≤ length p.legs)
    × Sized m (junctions p) l.self l.queue
    × SameSettled l.initial.self l.self
    × (l.queue.slots.ghost_name ≡ l.initial.queue.slots.ghost_name)
    × ((st : List ℕ) → Stands m l.at (state m l.initial.self st) (waiting l.initial.queue)
    → Relaxed m p st l.junction l.at (state m l.initial.self st) (state m l.self st) (waiting l.queue) l.from)

abbrev pub decreases-loop-leg : goal.decreases-loop-leg
decreases-loop-leg g l = length (g.L.Layout.meaning l.layout).legs - l.from
