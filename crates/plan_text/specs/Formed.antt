-- What is read of a line's values. Assumes nothing.
use Rattle.std.specs.Prelude.{◌≡◌, ℕ, ◌<◌, ◌≤◌, ◌⊎◌, List, Ok, Err, Result}
use Rattle.layout.specs.declared.refusal.Refusal.{Refusal}
use Rattle.layout.specs.declared.refusal.Refusal.TheVariants.{WrongForm, OutOfRange}
use Rattle.tokens.specs.Taken.{left}
use Rattle.plan_text.specs.declared.values.LineValues.{LineValues}

-- the bytes of the values
abbrev pub value_of : LineValues → List ℕ
value_of line = left line.values.line

-- the values of the line of that number write w; or they write none, and are of the wrong form
abbrev pub Formed : {W : Type 0} → (W → Type 0) → ℕ → Result W Refusal → Type 0
Formed Writes line (Ok w) = Writes w
Formed {W = W} Writes line (Err r) = ((w : W) → Writes w → ⊥) × (r ≡ WrongForm line)

-- the same of a number that is to be at most so large
abbrev pub FormedUpTo : ℕ → (ℕ → Type 0) → ℕ → Result ℕ Refusal → Type 0
FormedUpTo most Writes line (Ok n) = Writes n × (n ≤ most)
FormedUpTo most Writes line (Err r) =
    (((n : ℕ) → Writes n → ⊥) × (r ≡ WrongForm line)) ⊎ ((n : ℕ) × Writes n × (most < n) × (r ≡ OutOfRange line))
