-- What a search for a goal answers, and what it leaves. Assumes nothing.
use Rattle.std.specs.Prelude.{◌≡◌, ℕ, ◌⊎◌, List, [], ◌∷◌, ◌++◌, length, take, drop, Some, None, Ok, Err, Option, Result, nat_lt}
use Rattle.measure.specs.Scale.{Scale}
use Rattle.layout.specs.Plant.{Plant}
use Rattle.layout.specs.Refused.{refuse_unless}
use Rattle.layout.specs.declared.refusal.Refusal.{Refusal}
use Rattle.layout.specs.declared.refusal.Refusal.TheVariants.{NoJunction, NoWay}
use Rattle.walks.specs.Book.{short_table}
use Rattle.walks.specs.Net.{Net, net, junctions}
use Rattle.walks.specs.Search.{State, Settled, Traced}
use Rattle.walks.specs.Tables.{tabled}
use Rattle.walks.specs.Walk.{Walk, Leads, total, Best}
use Rattle.search.specs.Desk.{sizes}
pub use Rattle.search.specs.Desk.{Desk}
use Rattle.search.specs.Explored.{Left}
use Rattle.search.specs.declared.found.Found.{Found}

-- the state that the tables show when so many junctions were settled
abbrev pub shown : {T : Type 0} → Scale T → Plant → ℕ → Desk T → ℕ → State T
shown m p start d count = tabled m start (take (junctions p) d.totals) (take (junctions p) d.came) (take count d.settled)

-- the search for the goal ended so, with the tables d before and d' after
abbrev pub Ended : {T : Type 0} → Scale T → Plant → ℕ → ℕ → Desk T → Desk T → ℕ → Type 0
Ended m p start goal d d' count = Left m p start (Some goal) d d' count

-- why a search for a goal is refused before it begins: no such start, no such goal, then the first table that is too short
abbrev pub search_due : {T : Type 0} → Plant → ℕ → ℕ → Desk T → List ℕ → Option Refusal
search_due p start goal d way =
    refuse_unless (nat_lt start (junctions p)) (NoJunction 1) (
    refuse_unless (nat_lt goal (junctions p)) (NoJunction 2) (
    short_table (junctions p) 1 (sizes d ++ (length way ∷ []))))

-- the goal was settled in state s: its total is the best one, and the way that came-by leads back over is a best walk
pub record Reached {T : Type 0} (m : Scale T) (g : Net T) (start goal : ℕ) (s : State T) (way way' : List ℕ) (f : Found T) : Type 0 where
  pub settled : Settled s goal
  pub has_total : s.total goal ≡ Some f.total
  pub best : Best m g start goal f.total
  pub traced : Traced g s goal (take f.legs way')
  pub walk : Walk g start (take f.legs way') goal
  pub weighs : total m g (take f.legs way') ≡ f.total
  pub whole_way : length (take f.legs way') ≡ f.legs
  pub past_way : drop f.legs way' ≡ drop f.legs way

-- no walk leads to the goal: it is not settled in state s, and the way is as it was
pub record Stranded {T : Type 0} (g : Net T) (start goal : ℕ) (s : State T) (way way' : List ℕ) : Type 0 where
  pub unsettled : ¬ Settled s goal
  pub no_walk : ¬ Leads g start goal
  pub same_way : way' ≡ way

-- what is answered when the search has ended in state s with so many junctions settled
abbrev pub Told : {T : Type 0} → Scale T → Net T → ℕ → ℕ → State T → ℕ → List ℕ → List ℕ → Result (Found T) Refusal → Type 0
Told m g start goal s count way way' (Ok f) = (f.settled ≡ count) × Reached m g start goal s way way' f
Told m g start goal s count way way' (Err r) = (r ≡ NoWay count) × Stranded g start goal s way way'

-- the search was not refused, ended, and gave its answer
abbrev pub CarriedOut : {T : Type 0} → Scale T → Plant → ℕ → ℕ → Desk T → List ℕ → Desk T → List ℕ → Result (Found T) Refusal → Type 0
CarriedOut m p start goal d way d' way' r =
    (search_due p start goal d way ≡ None)
    × ((count : ℕ) × Ended m p start goal d d' count × Told m (net m p) start goal (shown m p start d' count) count way way' r)

-- what a search for a goal answers and leaves; a refusal before it begins leaves every table as it was
abbrev pub Answered : {T : Type 0} → Scale T → Plant → ℕ → ℕ → Desk T → List ℕ → Desk T → List ℕ → Result (Found T) Refusal → Type 0
Answered m p start goal d way d' way' (Ok f) = CarriedOut m p start goal d way d' way' (Ok f)
Answered m p start goal d way d' way' (Err r) =
    ((search_due p start goal d way ≡ Some r) × (d' ≡ d) × (way' ≡ way)) ⊎ CarriedOut m p start goal d way d' way' (Err r)
