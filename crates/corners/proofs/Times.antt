-- The flagged legs by time. Assumes nothing.
use Rattle.std.proofs.Common.{◌≡◌, ℕ, true, ◌≢◌, ◌↔◌, [], ◌∷◌, get_or, refl, ap, arith}
use Rattle.measure.specs.declared.totals.Tenths.{Tenths}
use Rattle.measure.specs.Kinds.{time_scale, time_of}
use Rattle.measure.specs.Lawfulness.{time_lawful}
use Rattle.measure.specs.Same.{same_time}
use Rattle.walks.specs.Walk.{Best}
use Rattle.walks.proofs.Order.{Le, no_both}
use Rattle.corners.specs.Corners.{among, Flags}
use Rattle.corners.proofs.Legs.{each}
use Rattle.corners.proofs.Potential.{Potential, best_by}
use Rattle.corners.proofs.Flags.{small_net, Flag, inside, outside, no_leg, on, off}
use Rattle.corners.proofs.Listed.{yes, no, past}

-- the best times to junction 3
abbrev times : ℕ → Tenths
times v = get_or (time_of 200 ∷ time_of 100 ∷ time_of 125 ∷ []) v (time_of 0)

bound : Potential time_scale (small_net time_scale) 3 times
bound = record {
  at_goal = refl;
  along = each Along (λ u. refl) (λ u. refl) (λ u. refl) (λ u. refl) (λ u. refl) (λ u. refl) (λ l u. absurd (no_both u refl));
}
  where
    Along : ℕ → Type 0
    Along e =
        (small_net time_scale).usable e ≡ true →
        Le time_scale (times ((small_net time_scale).tail e))
        (time_scale.joined ((small_net time_scale).weight e) (times ((small_net time_scale).head e)))

from_0 : Best time_scale (small_net time_scale) 0 3 (time_of 200)
from_0 = best_by time_lawful _ 3 times bound 0 (0 ∷ 1 ∷ []) (refl, refl, (refl, refl, refl)) (same_time _ _ refl)

from_1 : Best time_scale (small_net time_scale) 1 3 (time_of 100)
from_1 = best_by time_lawful _ 3 times bound 1 (1 ∷ []) (refl, refl, refl) (same_time _ _ refl)

from_2 : Best time_scale (small_net time_scale) 2 3 (time_of 125)
from_2 = best_by time_lawful _ 3 times bound 2 (5 ∷ 1 ∷ []) (refl, refl, (refl, refl, refl)) (same_time _ _ refl)

from_3 : Best time_scale (small_net time_scale) 3 3 (time_of 0)
from_3 = best_by time_lawful _ 3 times bound 3 [] refl refl

-- different times
differ : {p q : Tenths} → p.tenths ≢ q.tenths → p ≢ q
differ n e = n (ap (λ x. x.tenths) e)

pub by_time : Flags time_scale 1 (0 ∷ 1 ∷ 4 ∷ 5 ∷ [])
by_time =
    each (λ e. (among (0 ∷ 1 ∷ 4 ∷ 5 ∷ []) e ≡ true) ↔ Flag time_scale 1 e)
    (yes refl (on time_scale time_lawful 0 from_0 from_1 refl (same_time _ _ refl)))
    (yes refl (on time_scale time_lawful 1 from_1 from_3 refl (same_time _ _ refl)))
    (no refl (off time_scale time_lawful 2 from_0 from_2 (λ k. omega arith) (differ (λ k. omega arith))))
    (no refl (off time_scale time_lawful 3 from_2 from_3 (λ k. omega arith) (differ (λ k. omega arith))))
    (yes refl (inside time_scale 1 4 refl refl refl))
    (yes refl (on time_scale time_lawful 5 from_2 from_1 refl (same_time _ _ refl)))
    (λ l. no (past (0 ∷ 1 ∷ 4 ∷ 5 ∷ []) (omega arith) l) (no_leg time_scale 1 l))

pub inside_only : Flags time_scale 0 (0 ∷ 2 ∷ 5 ∷ [])
inside_only =
    each (λ e. (among (0 ∷ 2 ∷ 5 ∷ []) e ≡ true) ↔ Flag time_scale 0 e)
    (yes refl (inside time_scale 0 0 refl refl refl))
    (no refl (outside time_scale 1 (λ k. omega arith)))
    (yes refl (inside time_scale 0 2 refl refl refl))
    (no refl (outside time_scale 3 (λ k. omega arith)))
    (no refl (outside time_scale 4 (λ k. omega arith)))
    (yes refl (inside time_scale 0 5 refl refl refl))
    (λ l. no (past (0 ∷ 2 ∷ 5 ∷ []) (omega arith) l) (no_leg time_scale 0 l))
