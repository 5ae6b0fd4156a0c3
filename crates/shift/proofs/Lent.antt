-- Calls with the tables that they are lent. Assumes nothing.
use Rattle.std.proofs.Common.{◌≡◌, ℕ, ◌-◌, min, List, length, take, drop, Ok, Err, Result, ◌∙◌, arith}
use Rattle.std.proofs.lemmas.List.{length-take-le}
use Rattle.measure.specs.Scale.{Scale}
use Rattle.layout.specs.Plant.{Plant}
use Rattle.layout.specs.declared.refusal.Refusal.{Refusal}
use Rattle.search.specs.Answered.{Desk}
use Rattle.search.specs.Answered.{Answered}
use Rattle.search.specs.declared.found.Found.{Found}
use Rattle.walks.specs.Book.{renew, route}
use Rattle.shift.specs.Turns.{WholeWay}

-- a front of a table
pub front_length : {X : Type 0} (xs : List X) (n wanted : ℕ) → n ≡ min wanted (length xs) → length (take (n - 0) (drop 0 xs)) ≡ min wanted (length xs)
front_length xs n wanted e = length-take-le (n - 0) xs (omega arith) ∙ omega arith

pub renew_same : (hall a b c d a' b' c' d' : ℕ) → a ≡ a' → b ≡ b' → c ≡ c' → d ≡ d' → renew hall a b c d ≡ renew hall a' b' c' d'
renew_same hall a b c d a' b' c' d' p q r s i = renew hall (p i) (q i) (r i) (s i)

pub route_same : (start goal a b c d e a' b' c' d' e' : ℕ) → a ≡ a' → b ≡ b' → c ≡ c' → d ≡ d' → e ≡ e' → route start goal a b c d e ≡ route start goal a' b' c' d' e'
route_same start goal a b c d e a' b' c' d' e' p q r s t i = route start goal (p i) (q i) (r i) (s i) (t i)

-- the way that a search answers stands whole in its table
pub whole_way :
    {T : Type 0} (m : Scale T) (q : Plant) (start goal : ℕ) (d d' : Desk T) (way way' : List ℕ) (r : Result (Found T) Refusal)
    → Answered m q start goal d way d' way' r → WholeWay r way'
whole_way m q start goal d d' way way' (Ok f) (none, (count, left, (settled, reached))) = reached.whole_way
whole_way m q start goal d d' way way' (Err r) answered = tt
