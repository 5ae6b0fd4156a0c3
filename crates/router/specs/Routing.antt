-- What a route answers, and what it promises to the crews. Assumes nothing.
use Rattle.std.specs.Prelude.{◌≡◌, ℕ, List, length, take, Some, None, Ok, Err, Result}
use Rattle.measure.specs.Scale.{Scale}
use Rattle.layers.specs.Day.{entered}
use Rattle.layers.specs.declared.sheet.Sheet.{Sheet}
use Rattle.layout.specs.Plant.{Plant}
use Rattle.layout.specs.Refused.{figure_of}
use Rattle.layout.specs.declared.refusal.Refusal.{Refusal}
use Rattle.marks.specs.Mark.{shown}
use Rattle.halls.specs.declared.force.HallMarks.{HallMarks}
use Rattle.walks.specs.Answers.{Answer, found, refused, route_net}
use Rattle.walks.specs.Book.{Call, with_book, book, refusal_of}
use Rattle.walks.specs.Book.{route as route_call}
use Rattle.walks.specs.Net.{net, hall_at}
use Rattle.walks.specs.Orders.{Marks, Left}
use Rattle.walks.specs.Promise.{KeptPromise}
use Rattle.walks.specs.Search.{State, Searched}
use Rattle.search.specs.Desk.{Desk}
use Rattle.search.specs.Answered.{shown as shown_state}
use Rattle.search.specs.declared.found.Found.{Found}
use Rattle.router.specs.Worked.{Worked}

-- what a route to the goal sees: the layout under the sheet, by the marks of the goal's hall
abbrev pub seen : Plant → Sheet → HallMarks → ℕ → Plant
seen p s halls goal = shown halls.marks (hall_at p goal) (entered s p)

-- the call, with the lengths of its tables
abbrev pub routing : {T : Type 0} → ℕ → ℕ → Desk T → List ℕ → Call
routing start goal d way = route_call start goal (length d.totals) (length d.came) (length d.waiting) (length d.settled) (length way)

-- the answer, with the way from its table
abbrev pub route_answer : {T : Type 0} → Result (Found T) Refusal → List ℕ → Answer T
route_answer (Ok f) way = found f.total f.settled (take f.legs way)
route_answer (Err r) way = refused r

-- how many junctions were settled: the answer has it, or the figure of its refusal
abbrev pub settled_in : {T : Type 0} → Result (Found T) Refusal → ℕ
settled_in (Ok f) = f.settled
settled_in (Err r) = figure_of r

-- After these calls the route fills its tables by the search rule on the marks that they leave, and keeps its promise on the book's layout, against the full
-- search, which exists: a way given is a best walk of open legs, 9 comes exactly when there is none, and what was settled below the goal's total, or
-- before a 9, the full search settles too.
pub record Promised {T : Type 0} (m : Scale T) (p : Plant) (calls : List Call) (start goal : ℕ) (ended : State T) (a : Answer T) : Type 0 where
  pub by_the_rule : (k : Marks) → Left m p calls k → Searched m (route_net m p (book p calls) k goal) start (Some goal) ended
  pub full : State T
  pub full_search : Searched m (net m (with_book p (book p calls))) start (Some goal) full
  pub kept : KeptPromise m (net m (with_book p (book p calls))) start goal ended full a

-- whatever the calls were that left the router so: unless the route is refused before it begins, it keeps its promise
abbrev pub KeepsPromise : {T : Type 0} → Scale T → Plant → Sheet → HallMarks → ℕ → ℕ → Desk T → List ℕ → Desk T → List ℕ → Result (Found T) Refusal → Type 0
KeepsPromise m p s halls start goal d way d' way' r =
    (calls : List Call) → Worked m p calls s halls → refusal_of p (book p calls) (routing start goal d way) ≡ None
    → Promised m p calls start goal (shown_state m (seen p s halls goal) start d' (settled_in r)) (route_answer r way')
