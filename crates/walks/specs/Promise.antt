-- The promise to the crews. Assumes nothing.
use Rattle.std.specs.Prelude.{◌≡◌, ℕ, true, false, ◌↔◌, List, [], ◌∷◌, ◌++◌, Some}
use Rattle.measure.specs.Scale.{Scale}
use Rattle.layout.specs.Plant.{Plant, Sound}
use Rattle.layout.specs.declared.refusal.Refusal.TheVariants.{NoWay}
use Rattle.walks.specs.Net.{Net, net}
use Rattle.walks.specs.Walk.{Walk, Leads, total}
use Rattle.walks.specs.Search.{State, Settled, Searched}
use Rattle.walks.specs.Book.{Call, Book, blank, with_book, book}
use Rattle.walks.specs.Orders.{Marks, all_lapsed, Turns, Left}
use Rattle.walks.specs.Answers.{Answer, found, refused, Answered, Told, Tells, route_net}

-- What a route promises. Its search over marked legs ended in s, and it answered a; g has all open legs, and the full search, which may use
-- them all, ended in `full`.
pub record KeptPromise {T : Type 0} (m : Scale T) (g : Net T) (start goal : ℕ) (s full : State T) (a : Answer T) : Type 0 where
  -- a way that is given is a walk of open legs with the total answered, and no walk has a lower one
  pub best :
      (x : T) (n : ℕ) (way : List ℕ) → a ≡ found x n way →
      Walk g start way goal × (total m g way ≡ x) × ((es : List ℕ) → Walk g start es goal → m.below (total m g es) x ≡ false)
  -- that there is no way is answered exactly when no walk leads to the goal
  pub no_way : ((n : ℕ) × (a ≡ refused (NoWay n))) ↔ (¬ Leads g start goal)
  -- a junction that was settled at a total below the goal's is settled by the full search
  pub spared :
      (x : T) (n : ℕ) (way : List ℕ) → a ≡ found x n way →
      (v : ℕ) (y : T) → Settled s v → s.total v ≡ Some y → m.below y x ≡ true → Settled full v
  -- where there is no way, every junction that was settled is settled by the full search
  pub spared_when_refused : (n : ℕ) → a ≡ refused (NoWay n) → (v : ℕ) → Settled s v → Settled full v

-- Every list of calls leaves marks, and only one set of them.
abbrev pub MarksLeft : {T : Type 0} → Scale T → Type 0
MarksLeft m =
    (plant : Plant) → Sound plant → (calls : List Call) →
    (k : Marks) × Left m plant calls k × ((k' : Marks) → Left m plant calls k' → k' ≡ k)

-- One more call carries on from the book and the marks that the list of calls left.
abbrev pub CarriesOn : {T : Type 0} → Scale T → Type 0
CarriesOn m =
    (plant : Plant) (calls : List Call) (k : Marks) → Left m plant calls k →
    (call : Call) (k' : Marks) → Turns m plant (book plant calls) k call k' → Left m plant (calls ++ (call ∷ [])) k'

-- Every call has an answer, and only one.
abbrev pub AnsweredOnce : {T : Type 0} → Scale T → Type 0
AnsweredOnce {T = T} m =
    (plant : Plant) → Sound plant → (b : Book) (k k' : Marks) (call : Call) →
    (a : Answer T) × Answered m plant b k k' call a × ((a' : Answer T) → Answered m plant b k k' call a' → a' ≡ a)

-- So every list of calls that leaves the marks k gets answers, and only these.
abbrev pub ToldOnce : {T : Type 0} → Scale T → Type 0
ToldOnce {T = T} m =
    (plant : Plant) → Sound plant → (calls : List Call) (k : Marks) → Left m plant calls k →
    (answers : List (Answer T)) × Told m plant blank all_lapsed calls answers k
    × ((others : List (Answer T)) → Told m plant blank all_lapsed calls others k → others ≡ answers)

-- For every list of calls a route over the marks left keeps its promise on the book's layout, against the full search, which exists.
abbrev pub CrewPromise : {T : Type 0} → Scale T → Type 0
CrewPromise {T = T} m =
    (plant : Plant) → Sound plant → (calls : List Call) (k : Marks) → Left m plant calls k →
    (start goal : ℕ) (s : State T) → Searched m (route_net m plant (book plant calls) k goal) start (Some goal) s →
    (a : Answer T) → Tells (route_net m plant (book plant calls) k goal) goal s a →
    (full : State T) × Searched m (net m (with_book plant (book plant calls))) start (Some goal) full
    × KeptPromise m (net m (with_book plant (book plant calls))) start goal s full a
