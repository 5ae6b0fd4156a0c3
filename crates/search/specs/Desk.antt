-- The four tables that a search works in, as they stand. Assumes nothing.
use Rattle.std.specs.Prelude.{◌≡◌, ℕ, ◌≤◌, List, [], ◌∷◌, length}
use Rattle.search.specs.declared.slot.Slot.{Slot}
use Rattle.search.specs.declared.tables.Tables.{Tables}

-- what stands in the tables
pub record Desk (T : Type 0) : Type 0 where
  pub totals : List T
  pub came : List ℕ
  pub waiting : List (Slot T)
  pub settled : List ℕ

-- how many places the tables have, by position
abbrev pub sizes : {T : Type 0} → Desk T → List ℕ
sizes d = length d.totals ∷ length d.came ∷ length d.waiting ∷ length d.settled ∷ []

-- each table has so many places or more
pub record Roomy {T : Type 0} (n : ℕ) (d : Desk T) : Type 0 where
  pub totals : n ≤ length d.totals
  pub came : n ≤ length d.came
  pub waiting : n ≤ length d.waiting
  pub settled : n ≤ length d.settled

-- what stands in tables that were lent
abbrev pub held : {T : Type 0} → Tables T → Desk T
held t = record { totals = t.totals.now; came = t.came.now; waiting = t.waiting.now; settled = t.settled.now }

-- both have as many places
pub record AsMany {T : Type 0} (d d' : Desk T) : Type 0 where
  pub totals : length d'.totals ≡ length d.totals
  pub came : length d'.came ≡ length d.came
  pub waiting : length d'.waiting ≡ length d.waiting
  pub settled : length d'.settled ≡ length d.settled

-- both are the same lent memory
pub record SameTables {T : Type 0} (old new : Tables T) : Type 0 where
  pub totals : new.totals.ghost_name ≡ old.totals.ghost_name
  pub came : new.came.ghost_name ≡ old.came.ghost_name
  pub waiting : new.waiting.ghost_name ≡ old.waiting.ghost_name
  pub settled : new.settled.ghost_name ≡ old.settled.ghost_name
  pub as_many : AsMany (held old) (held new)
