-- What a search leaves in the tables that were handed in. Assumes nothing.
use Rattle.std.specs.Prelude.{◌≡◌, ℕ, take, drop, Some, None, Ok, Err, Option, Result, nat_lt}
use Rattle.measure.specs.Scale.{Scale}
use Rattle.layout.specs.Plant.{Plant}
use Rattle.layout.specs.Refused.{refuse_unless}
use Rattle.layout.specs.declared.refusal.Refusal.{Refusal}
use Rattle.layout.specs.declared.refusal.Refusal.TheVariants.{NoJunction}
use Rattle.walks.specs.Book.{short_table}
use Rattle.walks.specs.Net.{net, junctions}
use Rattle.walks.specs.Search.{Searched}
use Rattle.walks.specs.Tables.{tabled, Held}
use Rattle.search.specs.Desk.{Desk, sizes}

-- the search ended, with so many junctions settled, and the tables show how: totals and came-by below the junction count, with the unit and
-- 65,535 where no total was given, and the settled list; what stood past them still stands; the waiting table is free below the junction count
pub record Left {T : Type 0} (m : Scale T) (p : Plant) (start : ℕ) (goal : Option ℕ) (d d' : Desk T) (count : ℕ) : Type 0 where
  pub searched : Searched m (net m p) start goal (tabled m start (take (junctions p) d'.totals) (take (junctions p) d'.came) (take count d'.settled))
  pub held : Held m (tabled m start (take (junctions p) d'.totals) (take (junctions p) d'.came) (take count d'.settled)) (take (junctions p) d'.totals) (take (junctions p) d'.came)
  pub past_totals : drop (junctions p) d'.totals ≡ drop (junctions p) d.totals
  pub past_came : drop (junctions p) d'.came ≡ drop (junctions p) d.came
  pub past_waiting : drop (junctions p) d'.waiting ≡ drop (junctions p) d.waiting
  pub past_settled : drop count d'.settled ≡ drop count d.settled

-- why a search without a goal is refused: no such start, then the first table that is too short
abbrev pub explore_due : {T : Type 0} → Plant → ℕ → Desk T → Option Refusal
explore_due p start d = refuse_unless (nat_lt start (junctions p)) (NoJunction 1) (short_table (junctions p) 1 (sizes d))

-- what a search without a goal answers and leaves: all that walks lead to is settled; a refused one leaves every table as it was
abbrev pub Explored : {T : Type 0} → Scale T → Plant → ℕ → Desk T → Desk T → Result ℕ Refusal → Type 0
Explored m p start d d' (Ok count) = (explore_due p start d ≡ None) × Left m p start None d d' count
Explored m p start d d' (Err r) = (explore_due p start d ≡ Some r) × (d' ≡ d)
