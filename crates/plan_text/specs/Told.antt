-- What one line of a plan does: the forms of its value, its checks, and what is heard after it. Assumes nothing.
use Rattle.std.specs.Prelude.{◌≡◌, ℕ, Bool, true, ◌⊎◌, List, [], ◌∷◌, is_some, Some, None, Err, Option, Result, ◌==◌, nat_le}
use Rattle.std.specs.Option.{option_map, unwrap_or}
use Rattle.layout.specs.Limits.{most_junctions, most_legs}
use Rattle.layout.specs.Plant.{Plant, leg_of}
use Rattle.layout.specs.Refused.{refuse_unless, answered, in_line}
use Rattle.layout.specs.declared.belt.Belt.{Belt}
use Rattle.layout.specs.declared.refusal.Refusal.{Refusal}
use Rattle.layout.specs.declared.refusal.Refusal.TheVariants.{NotDue, WrongForm, OutOfRange}
use Rattle.plan.specs.Drawn.{begun, begin_due, junction_due, leg_due, with_junction, with_leg}
use Rattle.tokens.specs.Cuts.{Keyed}
use Rattle.tokens.specs.Values.{Numbers, OneLetter}
use Rattle.plan_text.specs.Heard.{Heard, key_of}
use Rattle.plan_text.specs.Kinds.{kind_of}
use Rattle.plan_text.specs.declared.due.Due.{Due}
use Rattle.plan_text.specs.declared.due.Due.TheVariants.{Version, Measure, Halls, Points, Legs, At, Leg}

-- a line's outcome: what is heard after it, or why it is refused
abbrev pub Outcome : Type 0
Outcome = Result Heard Refusal

-- the value writes some w, whose checks and effect decide; or it writes none, and its form is wrong
abbrev pub Valued : {W : Type 0} → ℕ → (W → Type 0) → (W → Option Refusal) → (W → Heard) → Outcome → Type 0
Valued {W = W} line Writes check effect outcome =
    ((w : W) × Writes w × (outcome ≡ answered (option_map (in_line line) (check w)) (effect w)))
    ⊎ (((w : W) → Writes w → ⊥) × (outcome ≡ Err (WrongForm line)))

-- one number; six numbers, a leg's ends and figures
abbrev pub One : List ℕ → ℕ → Type 0
One value n = Numbers value (n ∷ [])

abbrev pub Six : List ℕ → Belt → Type 0
Six value b = Numbers value (b.tail ∷ b.head ∷ b.metres ∷ b.class ∷ b.clearance ∷ b.turn ∷ [])

-- a number that is one of those allowed, as the first and only value of its line
abbrev pub unless_fits : Bool → Option Refusal
unless_fits fits = refuse_unless fits (OutOfRange 1) None

-- what was entered so far
abbrev pub entered : Heard → Plant
entered h = unwrap_or h.plant (begun 0)

-- what is heard after one part more was accepted
abbrev pub with_version : Heard → Heard
with_version h = record { version = true; kind = h.kind; plant = h.plant; points = h.points; legs = h.legs }

abbrev pub with_kind : Heard → ℕ → Heard
with_kind h c = record { version = h.version; kind = kind_of c; plant = h.plant; points = h.points; legs = h.legs }

abbrev pub with_plant : Heard → Plant → Heard
with_plant h p = record { version = h.version; kind = h.kind; plant = Some p; points = h.points; legs = h.legs }

abbrev pub with_points : Heard → ℕ → Heard
with_points h n = record { version = h.version; kind = h.kind; plant = h.plant; points = Some n; legs = h.legs }

abbrev pub with_legs : Heard → ℕ → Heard
with_legs h n = record { version = h.version; kind = h.kind; plant = h.plant; points = h.points; legs = Some n }

-- what the value of a line does where its key is the one due
abbrev pub Told : Heard → ℕ → Due → List ℕ → Outcome → Type 0
Told h line Version value o = Valued line (One value) (λ n. unless_fits (n == 1)) (λ n. with_version h) o
Told h line Measure value o = Valued line (OneLetter value) (λ c. unless_fits (is_some (kind_of c))) (with_kind h) o
Told h line Halls value o = Valued line (One value) begin_due (λ n. with_plant h (begun n)) o
Told h line Points value o = Valued line (One value) (λ n. unless_fits (nat_le n most_junctions)) (with_points h) o
Told h line Legs value o = Valued line (One value) (λ n. unless_fits (nat_le n most_legs)) (with_legs h) o
Told h line At value o = Valued line (One value) (junction_due (entered h)) (λ n. with_plant h (with_junction (entered h) n)) o
Told h line Leg value o = Valued line (Six value) (λ b. leg_due (entered h) (leg_of b)) (λ b. with_plant h (with_leg (entered h) (leg_of b))) o

-- what a line does: its value tells where its key is the one due, and else it is not due
abbrev pub Says : Heard → ℕ → Due → List ℕ → Outcome → Type 0
Says h line d bytes o =
    ((value : List ℕ) × Keyed bytes (key_of d) value × Told h line d value o)
    ⊎ (((value : List ℕ) → Keyed bytes (key_of d) value → ⊥) × (o ≡ Err (NotDue line)))
