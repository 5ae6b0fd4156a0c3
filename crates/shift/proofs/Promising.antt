-- A route after a shift keeps its promise. Assumes nothing.
use Rattle.std.proofs.Common.{◌≡◌, ℕ, List, Some, None, Ok, Err, Option, Result, refl, ap, inl, inr, MatchOption}
use Rattle.measure.specs.Scale.{Scale}
use Rattle.layers.specs.declared.sheet.Sheet.{Sheet}
use Rattle.layout.specs.Plant.{Plant}
use Rattle.layout.specs.declared.refusal.Refusal.{Refusal}
use Rattle.halls.specs.declared.force.HallMarks.{HallMarks}
use Rattle.search.specs.Answered.{shown}
use Rattle.search.specs.Desk.{Desk}
use Rattle.search.specs.Answered.{Answered}
use Rattle.search.specs.declared.found.Found.{Found}
use Rattle.walks.specs.Book.{Call, book, refusal_of}
use Rattle.walks.proofs.Choosing.{none_some, some_same}
use Rattle.router.specs.Routing.{seen, routing, route_answer, settled_in, Promised, KeepsPromise}
use Rattle.router.specs.Worked.{Worked}
use Rattle.shift.specs.Kept.{KeptAfter}
use Rattle.shift.specs.Turns.{places_of}

module _ {T : Type 0} (m : Scale T) (p : Plant) (s : Sheet) (halls : HallMarks) (calls : List Call) (start goal : ℕ) (d d' : Desk T) (way way' : List ℕ) where
  -- a route that is refused before it begins
  refused_so : (r : Result (Found T) Refusal) (why : Refusal) → Answered m (seen p s halls goal) start goal d way d' way' r → refusal_of p (book p calls) (routing start goal d way) ≡ Some why → r ≡ Err why
  refused_so (Ok f) why (none, rest) some = absurd (none_some none some)
  refused_so (Err e) why (inl (held, same, rest)) some = ap Err (some_same held some)
  refused_so (Err e) why (inr (none, rest)) some = absurd (none_some none some)

  pub kept_after : (r : Result (Found T) Refusal) → Answered m (seen p s halls goal) start goal d way d' way' r → KeepsPromise m p s halls start goal d way d' way' r → Worked m p calls s halls
      → KeptAfter m p calls start goal (places_of d way) d' way' r
  kept_after r answered keeps worked = by (refusal_of p (book p calls) (routing start goal d way)) refl
    where
      by : (o : Option Refusal) → refusal_of p (book p calls) (routing start goal d way) ≡ o
          → MatchOption o (Promised m p calls start goal (shown m p start d' (settled_in r)) (route_answer r way')) (λ why. r ≡ Err why)
      by None free = keeps calls worked free
      by (Some why) some = refused_so r why answered some
