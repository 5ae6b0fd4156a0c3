-- What a call of the reader leaves, by what its line does. Assumes nothing.
use Rattle.std.specs.Prelude.{◌≡◌, Ok, Err, Result}
use Rattle.layout.specs.declared.refusal.Refusal.{Refusal}
use Rattle.plan_text.specs.Heard.{Heard}
use Rattle.plan_text.specs.Told.{Outcome, Told}
use Rattle.plan_text.specs.Formed.{value_of}
use Rattle.plan_text.specs.declared.due.Due.{Due}
use Rattle.plan_text.specs.declared.values.LineValues.{LineValues}

-- the outcome of the line is what the call answers; a refused line leaves what was heard
abbrev pub Hearing : {X : Type 0} → (Outcome → Type 0) → Heard → Result X Refusal → Heard → Type 0
Hearing Does before (Ok x) after = Does (Ok after)
Hearing Does before (Err r) after = Does (Err r) × (after ≡ before)

-- a call that tells the values of the line that is due
abbrev pub Tells : {X : Type 0} → Heard → Due → LineValues → Result X Refusal → Heard → Type 0
Tells before due line r after = Hearing (Told before line.at due (value_of line)) before r after
