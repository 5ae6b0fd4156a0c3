use Rattle.std.proofs.Common.{◌≡◌, ℕ, ◌+◌, length}
use Rattle.plan_text.specs.Reads.{Lines}
use Rattle.plan_text.proofs.listening.Place.listen.Given as goal

abbrev pub invariant-loop-due : goal.invariant-loop-due
invariant-loop-due g l =
    let heard = g.L.Listener.heard in
    let before = l.initial.self in
    (k : ℕ) × (l.self.lines ≡ before.lines + k) × Lines k (heard l.initial.listener) (before.lines + 1) before.rest.now (heard l.listener) l.self.rest.now

abbrev pub decreases-loop-due : goal.decreases-loop-due
decreases-loop-due g l = length l.self.rest.now
