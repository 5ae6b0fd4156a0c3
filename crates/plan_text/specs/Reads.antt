-- How a plan is read from a text. Assumes nothing.
use Rattle.std.specs.Prelude.{◌≡◌, ℕ, zero, suc, ◌+◌, ◌<◌, ◌≤◌, ◌⊎◌, List, [], ◌++◌, length, drop, Some, None, Ok, Err, Option, ◌≢◌}
use Rattle.std.specs.Option.{option_map}
use Rattle.layout.specs.declared.refusal.Refusal.{Refusal}
use Rattle.layout.specs.declared.refusal.Refusal.TheVariants.{NotDue, NoEnd, TooLong}
use Rattle.plan.specs.Meant.{sketched}
use Rattle.tokens.specs.Cuts.{Endless, FirstLine}
use Rattle.plan_text.specs.Heard.{Heard, silence, due}
use Rattle.plan_text.specs.Told.{Says}
use Rattle.plan_text.specs.declared.due.Due.{Due}
use Rattle.plan_text.specs.declared.reading.Reading.{Reading}

-- the most bytes that a text has
abbrev pub most_bytes : ℕ
most_bytes = 65536

-- the first line of the text, the line of that number, is the one due and is accepted; `rest` comes after it
pub record Accepts (h : Heard) (line : ℕ) (text : List ℕ) (after : Heard) (rest : List ℕ) : Type 0 where
  pub which : Due
  pub is_due : due h ≡ Some which
  pub bytes : List ℕ
  pub cut : FirstLine text bytes rest
  pub says : Says h line which bytes (Ok after)

-- the line of that number is due and refused: none is left, none ends, or the first line of the text is refused
abbrev pub Refuses : Heard → ℕ → List ℕ → Refusal → Type 0
Refuses h line text r =
    (d : Due) × (due h ≡ Some d) × (
    ((text ≡ []) × (r ≡ NotDue line))
    ⊎ (((text ≢ []) × Endless text × (r ≡ NoEnd line))
    ⊎ ((bytes : List ℕ) × (rest : List ℕ) × FirstLine text bytes rest × Says h line d bytes (Err r))))

-- the text ends with `rest`
abbrev pub EndsWith : List ℕ → List ℕ → Type 0
EndsWith text rest = (front : List ℕ) × (text ≡ front ++ rest)

-- so many lines of the text, the first of that number, are accepted one after the other; `rest` comes after them
abbrev pub Lines : ℕ → Heard → ℕ → List ℕ → Heard → List ℕ → Type 0
Lines zero h line text after rest = (h ≡ after) × (text ≡ rest)
Lines (suc more) h line text after rest =
    (mid : Heard) × (left : List ℕ) × Accepts h line text mid left × Lines more mid (line + 1) left after rest

-- listening stops: all is heard, or the next line is refused
abbrev pub Halts : Type 0 → Heard → ℕ → List ℕ → Option Refusal → Type 0
Halts AllHeard h line text None = AllHeard
Halts AllHeard h line text (Some r) = Refuses h line text r

-- reading stops: the plan is whole, or the next line is refused
abbrev pub Stops : Heard → ℕ → List ℕ → Option Refusal → Type 0
Stops h line text r = Halts (due h ≡ None) h line text r

-- a text that is not too long: lines are accepted until reading stops, and the reading is what they said
pub record Taken (text : List ℕ) (r : Reading) (h : Heard) (rest : List ℕ) : Type 0 where
  pub short : length text ≤ most_bytes
  pub lines : Lines r.lines silence 1 text h rest
  pub stops : Stops h (r.lines + 1) rest r.refusal
  pub kind : r.kind ≡ h.kind
  pub draft : option_map sketched r.draft ≡ h.plant
  pub begins : drop r.rest text ≡ rest
  pub within : r.rest ≤ length text

-- a text that is too long: nothing of it is read
pub record Untaken (text : List ℕ) (r : Reading) : Type 0 where
  pub long : most_bytes < length text
  pub refusal : r.refusal ≡ Some (TooLong most_bytes)
  pub kind : r.kind ≡ None
  pub draft : option_map sketched r.draft ≡ None
  pub lines : r.lines ≡ 0
  pub rest : r.rest ≡ 0

-- the reading of a text, whatever its bytes
abbrev pub Reads : List ℕ → Reading → Type 0
Reads text r = ((h : Heard) × (rest : List ℕ) × Taken text r h rest) ⊎ Untaken text r
