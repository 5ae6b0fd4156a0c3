-- The letters that name the measures. Assumes nothing.
use Rattle.std.specs.Prelude.{◌≡◌, ℕ, cond, Some, None, Option, Result, MatchResult, ◌==◌}
use Rattle.plan_text.specs.declared.kind.Kind.{Kind}
use Rattle.plan_text.specs.declared.kind.UnknownLetter.{UnknownLetter}
use Rattle.plan_text.specs.declared.kind.Kind.TheVariants.{Time, Clearance, TimeThenTurns}

-- t, h and d
abbrev pub letter_of : Kind → ℕ
letter_of Time = 116
letter_of Clearance = 104
letter_of TimeThenTurns = 100

-- the measure that a letter names
abbrev pub kind_of : ℕ → Option Kind
kind_of c =
    cond (c == letter_of Time) (Some Time) (
    cond (c == letter_of Clearance) (Some Clearance) (
    cond (c == letter_of TimeThenTurns) (Some TimeThenTurns) None))

-- the measure that the letter names, or that it names none
abbrev pub Named : ℕ → Result Kind UnknownLetter → Type 0
Named letter r = MatchResult r (λ kind. kind_of letter ≡ Some kind) (λ e. (kind_of letter ≡ None) × (e.0 ≡ letter))
