-- What a route promises after a shift. Assumes nothing.
use Rattle.std.specs.Prelude.{◌≡◌, ℕ, List, Err, Result, MatchOption}
use Rattle.measure.specs.Scale.{Scale}
use Rattle.layout.specs.Plant.{Plant}
use Rattle.layout.specs.declared.refusal.Refusal.{Refusal}
use Rattle.search.specs.Answered.{shown}
use Rattle.search.specs.Desk.{Desk}
use Rattle.search.specs.declared.found.Found.{Found}
use Rattle.walks.specs.Book.{Call, book, refusal_of, route}
use Rattle.router.specs.Routing.{route_answer, settled_in, Promised}
use Rattle.shift.specs.declared.turn.Places.{Places}

-- after these calls on the commissioned plant, a route with tables of so many places is refused as the book says, or keeps its promise; d and way are its tables after it
abbrev pub KeptAfter : {T : Type 0} → Scale T → Plant → List Call → ℕ → ℕ → Places → Desk T → List ℕ → Result (Found T) Refusal → Type 0
KeptAfter m p calls start goal n d way r =
    MatchOption (refusal_of p (book p calls) (route start goal n.totals n.came n.waiting n.settled n.way))
    (Promised m p calls start goal (shown m p start d (settled_in r)) (route_answer r way))
    (λ why. r ≡ Err why)
