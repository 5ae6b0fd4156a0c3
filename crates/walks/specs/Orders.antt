-- What calls do to the marks, and the marks that a list of calls leaves. Assumes nothing.
use Rattle.std.specs.Prelude.{◌≡◌, ℕ, Bool, true, false, not, ◌&&◌, ◌||◌, ◌≢◌, List, [], ◌∷◌, MatchOption}
use Rattle.measure.specs.Scale.{Scale}
use Rattle.layout.specs.Plant.{Plant}
use Rattle.walks.specs.Net.{net, leg_at, weight_of, hall_at}
use Rattle.walks.specs.Marks.{Exactly}
use Rattle.walks.specs.Book.{Call, shut, reopen, set, renew, route, Book, blank, with_book, refusal_of, entered, after}

-- which halls are in force, and the legs marked for each hall; a hall that is not in force is lapsed
pub record Marks : Type 0 where
  pub force : ℕ → Bool
  pub marked : ℕ → ℕ → Bool

-- a lapsed hall has every leg marked; at commissioning all halls are lapsed
abbrev pub all_lapsed : Marks
all_lapsed = record { force = λ h. false; marked = λ h e. true }

-- the marks after the halls that pass the test have lapsed
abbrev pub lapsed : (ℕ → Bool) → Marks → Marks
lapsed out k = record { force = λ h. k.force h && not (out h); marked = λ h e. k.marked h e || out h }

-- a set order changes the leg's weight for the worse, or for the better
abbrev pub worse : {T : Type 0} → Scale T → Plant → Book → ℕ → Call → Bool
worse m plant b e order = m.below (weight_of m (with_book plant b) e) (weight_of m (with_book plant (entered b order)) e)

abbrev pub better : {T : Type 0} → Scale T → Plant → Book → ℕ → Call → Bool
better m plant b e order = m.below (weight_of m (with_book plant (entered b order)) e) (weight_of m (with_book plant b) e)

-- an order that is carried out strikes a hall with these marks: if the hall is in force, it lapses
abbrev pub strikes : {T : Type 0} → Scale T → Plant → Book → (ℕ → Bool) → Call → Bool
strikes m plant b marked (shut e) = marked e
strikes m plant b marked (reopen e) = true
strikes m plant b marked (set e class clearance) =
    (leg_at (with_book plant b) e).is_open
    && ((worse m plant b e (set e class clearance) && marked e) || better m plant b e (set e class clearance))
strikes m plant b marked (renew hall totals came waiting settled) = false
strikes m plant b marked (route start goal totals came waiting settled way) = false

-- the halls that lapse by an order
abbrev pub lapsing : {T : Type 0} → Scale T → Plant → Book → Marks → Call → ℕ → Bool
lapsing m plant b k order h = k.force h && strikes m plant b (k.marked h) order

-- hall h has the same marks as before
pub record Stays (k k' : Marks) (h : ℕ) : Type 0 where
  pub same_force : k'.force h ≡ k.force h
  pub same_marks : (e : ℕ) → k'.marked h e ≡ k.marked h e

-- the hall is in force with exactly the marks of the definition, and the other halls stay
pub record Renewed {T : Type 0} (m : Scale T) (plant : Plant) (hall : ℕ) (k k' : Marks) : Type 0 where
  pub in_force : k'.force hall ≡ true
  pub exactly : Exactly m (net m plant) (hall_at plant) hall (k'.marked hall)
  pub others : (h : ℕ) → h ≢ hall → Stays k k' h

-- a call that is carried out turns the marks k into k'
abbrev pub Acts : {T : Type 0} → Scale T → Plant → Book → Marks → Call → Marks → Type 0
Acts m plant b k (shut e) k' = k' ≡ lapsed (lapsing m plant b k (shut e)) k
Acts m plant b k (reopen e) k' = k' ≡ lapsed (lapsing m plant b k (reopen e)) k
Acts m plant b k (set e class clearance) k' = k' ≡ lapsed (lapsing m plant b k (set e class clearance)) k
Acts m plant b k (renew hall totals came waiting settled) k' = Renewed m (with_book plant b) hall k k'
Acts m plant b k (route start goal totals came waiting settled way) k' = k' ≡ k

-- a call, carried out or refused, turns the marks k into k'
abbrev pub Turns : {T : Type 0} → Scale T → Plant → Book → Marks → Call → Marks → Type 0
Turns m plant b k call k' = MatchOption (refusal_of plant b call) (Acts m plant b k call k') (λ r. k' ≡ k)

-- from the book b and the marks k a list of calls leaves the marks k'
abbrev pub Leaves : {T : Type 0} → Scale T → Plant → Book → Marks → List Call → Marks → Type 0
Leaves m plant b k [] k' = k' ≡ k
Leaves m plant b k (call ∷ calls) k' =
    (mid : Marks) × Turns m plant b k call mid × Leaves m plant (after plant b call) mid calls k'

-- since commissioning the calls have left the marks k
abbrev pub Left : {T : Type 0} → Scale T → Plant → List Call → Marks → Type 0
Left m plant calls k = Leaves m plant blank all_lapsed calls k
