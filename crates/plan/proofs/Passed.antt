-- What holds of a call that no check refused. Assumes nothing.
use Rattle.std.proofs.Common.{◌≡◌, ℕ, ◌<◌, Bool, true, false, None, Option, refl, arith}
use Rattle.std.proofs.lemmas.Bool.{ltb-true}
use Rattle.layout.specs.Plant.{Leg, SoundLeg}
use Rattle.layout.specs.Refused.{refuse_unless}
use Rattle.layout.specs.declared.refusal.Refusal.{Refusal}
use Rattle.plan.specs.Drawn.{place_due, entry_due}

-- the test passed, and nothing after it refuses
pub past : (b : Bool) (r : Refusal) (later : Option Refusal) → refuse_unless b r later ≡ None → (b ≡ true) × (later ≡ None)
past true r later e = (refl, e)
past false r later e = let z : ◌≡◌ {A = ℕ} 0 1 = cc in absurd (let w : ⊥ = omega arith in w)

pub place_passed : (halls junctions hall : ℕ) → place_due halls junctions hall ≡ None → (hall < halls) × (junctions < 256)
place_passed halls junctions hall e =
    let range = past _ _ _ e in
    let room = past _ _ _ range.1 in
    (ltb-true hall halls range.0, ltb-true junctions 256 room.0)

pub entry_passed : (junctions legs : ℕ) (l : Leg) → entry_due junctions legs l ≡ None → SoundLeg junctions l × (legs < 512)
entry_passed junctions legs l e =
    let metres = past _ _ _ e in
    let class = past _ _ _ metres.1 in
    let clearance = past _ _ _ class.1 in
    let turn = past _ _ _ clearance.1 in
    let tail = past _ _ _ turn.1 in
    let head = past _ _ _ tail.1 in
    let room = past _ _ _ head.1 in (
      record {
        tail_exists = ltb-true l.tail junctions tail.0;
        head_exists = ltb-true l.head junctions head.0;
        metres_in_range = metres.0;
        class_in_range = class.0;
        clearance_in_range = clearance.0;
        turn_in_range = turn.0;
      },
      ltb-true legs 512 room.0,
    )
