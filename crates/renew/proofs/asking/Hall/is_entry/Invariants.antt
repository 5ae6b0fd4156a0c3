use Rattle.std.proofs.Common.{◌-◌, ◌≤◌, length}
use Rattle.renew.proofs.Reaching.{Quiet}
use Rattle.renew.proofs.asking.Hall.is_entry.Given as goal

abbrev pub invariant-loop-leg : goal.invariant-loop-leg
invariant-loop-leg g l =
    let p = g.L.Layout.meaning l.self.layout.now in
    (l.from ≤ length p.legs) × Quiet p l.junction l.self.number l.from

abbrev pub decreases-loop-leg : goal.decreases-loop-leg
decreases-loop-leg g l = length (g.L.Layout.meaning l.self.layout.now).legs - l.from
