-- The three measures: time, clearance, and time then turns. Assumes nothing.
use Rattle.std.specs.Prelude.{◌≡◌, ℕ, ◌+◌, ◌*◌, ◌≤◌, min, Bool, true, false, cond, ◌&&◌, ◌||◌, List, [], ◌∷◌, ◌==◌, nat_lt, slice_index, refl}
use Rattle.std.proofs.Common.{arith, ltb-true}
use Rattle.measure.specs.Limits.{stop, highest}
use Rattle.measure.specs.Scale.{Scale}
use Rattle.measure.specs.declared.figures.Figures.{Figures}
use Rattle.measure.specs.declared.totals.Tenths.{Tenths}
use Rattle.measure.specs.declared.totals.Headroom.{Headroom}
use Rattle.measure.specs.declared.totals.TimeTurns.{TimeTurns}

-- tenths of a second per metre, by drive class from 0
abbrev pub paces : List ℕ
paces = 20 ∷ 16 ∷ 14 ∷ 12 ∷ 10 ∷ 8 ∷ 6 ∷ 5 ∷ []

-- the pace of a class; a class that no leg has takes no time
abbrev pub pace_of : ℕ → ℕ
pace_of class = slice_index paces class

-- the time of a leg, in tenths of a second
abbrev pub leg_time : Figures → ℕ
leg_time leg = leg.metres * pace_of leg.class

-- a number stopped at a limit is not above it
pub capped : (n limit : ℕ) → min n limit ≤ limit
capped n limit = omega arith

-- and neither is the smaller of two numbers of which one is not
pub smaller_fits : (n k limit : ℕ) → n ≤ limit → min n k ≤ limit
smaller_fits n k limit fits = omega arith

-- t: time

-- the total of n tenths of a second
abbrev pub time_of : ℕ → Tenths
time_of n = record { tenths = min n stop; fits = capped n stop }

-- times add up, and the smaller number is lower
abbrev pub time_scale : Scale Tenths
time_scale = record {
  unit = time_of 0;
  joined = λ p q. time_of (p.tenths + q.tenths);
  below = λ p q. nat_lt p.tenths q.tenths;
  weighed = λ leg. time_of (leg_time leg);
}

-- h: clearance

-- the total of n centimetres
abbrev pub clearance_of : ℕ → Headroom
clearance_of n = record { centimetres = min n highest; fits = capped n highest }

-- a way is as high as its lowest leg, and the larger number counts as lower
abbrev pub clearance_scale : Scale Headroom
clearance_scale = record {
  unit = clearance_of highest;
  joined = λ p q. record { centimetres = min p.centimetres q.centimetres; fits = smaller_fits p.centimetres q.centimetres highest p.fits };
  below = λ p q. nat_lt q.centimetres p.centimetres;
  weighed = λ leg. clearance_of leg.clearance;
}

-- d: time, then turns

-- turns stop by themselves, and where the time stops they stand at the stop too
abbrev pub turns_at : ℕ → ℕ → ℕ
turns_at time turns = cond (nat_lt time stop) (min turns stop) stop

-- so these turns may stand in a total
pub turns_fit : (time turns : ℕ) → turns_at time turns ≤ stop
turns_fit time turns = by (nat_lt time stop)
  where
    by : (b : Bool) → cond b (min turns stop) stop ≤ stop
    by true = omega arith
    by false = omega arith

-- and beside a time that has stopped
pub turns_stopped : (time turns : ℕ) → min time stop ≡ stop → turns_at time turns ≡ stop
turns_stopped time turns = by (nat_lt time stop) refl
  where
    by : (b : Bool) → nat_lt time stop ≡ b → min time stop ≡ stop → cond b (min turns stop) stop ≡ stop
    by true e h = absurd (omega (arith, ltb-true time stop e))
    by false e h = refl

-- the total of a time in tenths of a second and a number of turns
abbrev pub pair_of : ℕ → ℕ → TimeTurns
pair_of time turns = record {
  time = min time stop;
  turns = turns_at time turns;
  timefits = capped time stop;
  turnsfit = turns_fit time turns;
  stopped = turns_stopped time turns;
}

-- both numbers add up; the smaller time is lower, and at equal times the smaller number of turns
abbrev pub turns_scale : Scale TimeTurns
turns_scale = record {
  unit = pair_of 0 0;
  joined = λ p q. pair_of (p.time + q.time) (p.turns + q.turns);
  below = λ p q. nat_lt p.time q.time || (p.time == q.time && nat_lt p.turns q.turns);
  weighed = λ leg. pair_of (leg_time leg) leg.turn;
}

-- a time one short of the stop, with 5 turns, joined with 1 and no turn stops in both numbers
abbrev pub BothStop : Type 0
BothStop = turns_scale.joined (pair_of 4294967294 5) (pair_of 1 0) ≡ pair_of stop stop
