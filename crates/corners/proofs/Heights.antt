-- The flagged legs by clearance. Assumes nothing.
use Rattle.std.proofs.Common.{◌≡◌, ℕ, true, ◌≢◌, ◌↔◌, [], ◌∷◌, get_or, refl, ap, arith}
use Rattle.measure.specs.Limits.{highest}
use Rattle.measure.specs.declared.totals.Headroom.{Headroom}
use Rattle.measure.specs.Kinds.{clearance_scale, clearance_of}
use Rattle.measure.specs.Lawfulness.{clearance_lawful}
use Rattle.measure.specs.Same.{same_headroom}
use Rattle.walks.specs.Walk.{Best}
use Rattle.walks.proofs.Order.{Le, no_both}
use Rattle.corners.specs.Corners.{among, Flags}
use Rattle.corners.proofs.Legs.{each}
use Rattle.corners.proofs.Potential.{Potential, best_by}
use Rattle.corners.proofs.Flags.{small_net, Flag, inside, no_leg, on, off}
use Rattle.corners.proofs.Listed.{yes, no, past}

-- the best clearances to junction 3
abbrev heights : ℕ → Headroom
heights v = get_or (clearance_of 80 ∷ clearance_of 40 ∷ clearance_of 80 ∷ []) v (clearance_of highest)

bound : Potential clearance_scale (small_net clearance_scale) 3 heights
bound = record {
  at_goal = refl;
  along = each Along (λ u. refl) (λ u. refl) (λ u. refl) (λ u. refl) (λ u. refl) (λ u. refl) (λ l u. absurd (no_both u refl));
}
  where
    Along : ℕ → Type 0
    Along e =
        (small_net clearance_scale).usable e ≡ true →
        Le clearance_scale (heights ((small_net clearance_scale).tail e))
        (clearance_scale.joined ((small_net clearance_scale).weight e) (heights ((small_net clearance_scale).head e)))

from_0 : Best clearance_scale (small_net clearance_scale) 0 3 (clearance_of 80)
from_0 = best_by clearance_lawful _ 3 heights bound 0 (2 ∷ 3 ∷ []) (refl, refl, (refl, refl, refl)) (same_headroom _ _ refl)

from_1 : Best clearance_scale (small_net clearance_scale) 1 3 (clearance_of 40)
from_1 = best_by clearance_lawful _ 3 heights bound 1 (1 ∷ []) (refl, refl, refl) (same_headroom _ _ refl)

from_2 : Best clearance_scale (small_net clearance_scale) 2 3 (clearance_of 80)
from_2 = best_by clearance_lawful _ 3 heights bound 2 (3 ∷ []) (refl, refl, refl) (same_headroom _ _ refl)

from_3 : Best clearance_scale (small_net clearance_scale) 3 3 (clearance_of highest)
from_3 = best_by clearance_lawful _ 3 heights bound 3 [] refl refl

-- different clearances
differ : {p q : Headroom} → p.centimetres ≢ q.centimetres → p ≢ q
differ n e = n (ap (λ x. x.centimetres) e)

pub by_clearance : Flags clearance_scale 1 (1 ∷ 2 ∷ 3 ∷ 4 ∷ [])
by_clearance =
    each (λ e. (among (1 ∷ 2 ∷ 3 ∷ 4 ∷ []) e ≡ true) ↔ Flag clearance_scale 1 e)
    (no refl (off clearance_scale clearance_lawful 0 from_0 from_1 (λ k. omega arith) (differ (λ k. omega arith))))
    (yes refl (on clearance_scale clearance_lawful 1 from_1 from_3 refl (same_headroom _ _ refl)))
    (yes refl (on clearance_scale clearance_lawful 2 from_0 from_2 refl (same_headroom _ _ refl)))
    (yes refl (on clearance_scale clearance_lawful 3 from_2 from_3 refl (same_headroom _ _ refl)))
    (yes refl (inside clearance_scale 1 4 refl refl refl))
    (no refl (off clearance_scale clearance_lawful 5 from_2 from_1 (λ k. omega arith) (differ (λ k. omega arith))))
    (λ l. no (past (1 ∷ 2 ∷ 3 ∷ 4 ∷ []) (omega arith) l) (no_leg clearance_scale 1 l))
