-- How far the marks of a hall have been renewed. Assumes nothing.
use Rattle.std.specs.Prelude.{◌≡◌, ℕ, ◌<◌, ◌≤◌, true, ◌≢◌, ◌⊎◌, ◌↔◌, List, [], length, MatchOption}
use Rattle.measure.specs.Scale.{Scale}
use Rattle.layout.specs.Plant.{Plant}
use Rattle.marks.specs.Mark.{is_marked}
use Rattle.marks.specs.declared.words.Marks.{Marks}
use Rattle.walks.specs.Marks.{Entry, OnBest, BothEnds}
use Rattle.walks.specs.Net.{net, junctions, hall_at}
use Rattle.walks.specs.Tables.{tabled}
use Rattle.walks.specs.Walk.{Leads, Best}

-- the tables have the best total from every junction to b; where they have none, no walk leads from there to b
pub record Distances {T : Type 0} (m : Scale T) (p : Plant) (b : ℕ) (totals : List T) (came : List ℕ) : Type 0 where
  pub all_totals : junctions p ≤ length totals
  pub all_came : junctions p ≤ length came
  pub told : (v : ℕ) → v < junctions p → MatchOption ((tabled m b totals came []).total v) (¬ Leads (net m p) v b) (λ x. Best m (net m p) v b x)

-- leg e is open and begins a best walk to b
pub record LeadsBest {T : Type 0} (m : Scale T) (p : Plant) (b e : ℕ) : Type 0 where
  pub usable : (net m p).usable e ≡ true
  pub on_best : OnBest m (net m p) e b

-- leg e is flagged, as far as it lies inside the hall or begins a best walk to an entry below k
pub record FlaggedTo {T : Type 0} (m : Scale T) (p : Plant) (hall k e : ℕ) : Type 0 where
  pub usable : (net m p).usable e ≡ true
  pub because : BothEnds (net m p) (hall_at p) hall e ⊎ ((b : ℕ) × (b < k) × Entry (net m p) (hall_at p) hall b × OnBest m (net m p) e b)

-- for the hall those of the first n legs are marked of which P holds; all other marks are as they were
pub record Written (hall n : ℕ) (P : ℕ → Type 0) (old new : Marks) : Type 0 where
  pub exactly : (e : ℕ) → e < n → (is_marked new hall e ≡ true) ↔ P e
  pub others : (h e : ℕ) → (h ≢ hall) ⊎ (n ≤ e) → is_marked new h e ≡ is_marked old h e
