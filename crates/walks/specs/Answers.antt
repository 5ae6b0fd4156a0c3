-- What each call answers. Assumes nothing.
use Rattle.std.specs.Prelude.{◌≡◌, ℕ, Bool, List, [], ◌∷◌, length, Some, count_by, MatchOption}
use Rattle.std.specs.List.{range_with_len}
use Rattle.measure.specs.Scale.{Scale}
use Rattle.layout.specs.Plant.{Plant}
use Rattle.layout.specs.declared.refusal.Refusal.{Refusal}
use Rattle.layout.specs.declared.refusal.Refusal.TheVariants.{NoWay}
use Rattle.walks.specs.Net.{Net, net, only, hall_at}
use Rattle.walks.specs.Search.{State, Settled, Searched, Traced}
use Rattle.walks.specs.Book.{Call, shut, reopen, set, renew, route, Book, with_book, refusal_of, after}
use Rattle.walks.specs.Orders.{Marks, lapsing, Turns}

-- how many numbers below n pass the test
abbrev pub count_below : ℕ → (ℕ → Bool) → ℕ
count_below n test = count_by test (range_with_len 0 n)

-- the halls that lapse by an order
abbrev pub halls_lapsed : {T : Type 0} → Scale T → Plant → Book → Marks → Call → ℕ
halls_lapsed m plant b k order = count_below plant.halls (lapsing m plant b k order)

-- the legs marked for a hall
abbrev pub legs_marked : Plant → Marks → ℕ → ℕ
legs_marked plant k hall = count_below (length plant.legs) (k.marked hall)

-- what a route to the goal may use: the open legs of the book's layout that are marked for the goal's hall
abbrev pub route_net : {T : Type 0} → Scale T → Plant → Book → Marks → ℕ → Net T
route_net m plant b k goal = only (k.marked (hall_at plant goal)) (net m (with_book plant b))

pub data Answer (T : Type 0) : Type 0 where
  -- how many halls lapsed by this order
  halls : (number : ℕ) → Answer T
  -- how many legs renewing marked
  legs : (number : ℕ) → Answer T
  -- a route's total, how many junctions were settled, and the way
  found : (total : T) (settled : ℕ) (way : List ℕ) → Answer T
  refused : (refusal : Refusal) → Answer T

-- what a route answers, from the state in which its search ended: the goal's total and way, or that there is no way
pub data Tells {T : Type 0} (g : Net T) (goal : ℕ) (s : State T) : Answer T → Type 0 where
  there :
      {x : T} {way : List ℕ} → Settled s goal → s.total goal ≡ Some x → Traced g s goal way →
      Tells g goal s (found x (length s.settled) way)
  nowhere : ¬ Settled s goal → Tells g goal s (refused (NoWay (length s.settled)))

-- what a call answers that is not refused before it does anything; k are the marks before it, and k' those after it
abbrev pub CarriedOut : {T : Type 0} → Scale T → Plant → Book → Marks → Marks → Call → Answer T → Type 0
CarriedOut m plant b k k' (shut e) a = a ≡ halls (halls_lapsed m plant b k (shut e))
CarriedOut m plant b k k' (reopen e) a = a ≡ halls (halls_lapsed m plant b k (reopen e))
CarriedOut m plant b k k' (set e class clearance) a = a ≡ halls (halls_lapsed m plant b k (set e class clearance))
CarriedOut m plant b k k' (renew hall totals came waiting settled) a = a ≡ legs (legs_marked plant k' hall)
CarriedOut {T = T} m plant b k k' (route start goal totals came waiting settled way) a =
    (s : State T) × Searched m (route_net m plant b k goal) start (Some goal) s × Tells (route_net m plant b k goal) goal s a

-- what a call answers
abbrev pub Answered : {T : Type 0} → Scale T → Plant → Book → Marks → Marks → Call → Answer T → Type 0
Answered m plant b k k' call a = MatchOption (refusal_of plant b call) (CarriedOut m plant b k k' call a) (λ r. a ≡ refused r)

-- from the book b and the marks k the calls get these answers, one for each, and leave the marks k'
abbrev pub Told : {T : Type 0} → Scale T → Plant → Book → Marks → List Call → List (Answer T) → Marks → Type 0
Told m plant b k [] [] k' = k' ≡ k
Told m plant b k [] (a ∷ answers) k' = ⊥
Told m plant b k (call ∷ calls) [] k' = ⊥
Told m plant b k (call ∷ calls) (a ∷ answers) k' =
    (mid : Marks) × Turns m plant b k call mid × Answered m plant b k mid call a × Told m plant (after plant b call) mid calls answers k'
