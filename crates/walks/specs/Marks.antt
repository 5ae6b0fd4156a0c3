-- Entries of a hall, which legs renewing marks for it, and what marks must do for searches into it. Assumes nothing.
use Rattle.std.specs.Prelude.{◌≡◌, ℕ, Bool, true, false, ◌≢◌, ◌⊎◌, ◌↔◌}
use Rattle.measure.specs.Scale.{Scale}
use Rattle.walks.specs.Net.{Net, Finite, only}
use Rattle.walks.specs.Walk.{Leads, Best}

-- `at` gives the hall of each junction. b is an entry: it lies in the hall, and a usable leg leads to it from outside.
pub record Entry {T : Type 0} (g : Net T) (at : ℕ → ℕ) (hall b : ℕ) : Type 0 where
  pub inside : at b ≡ hall
  pub leg : ℕ
  pub usable : g.usable leg ≡ true
  pub leads : g.head leg ≡ b
  pub outside : at (g.tail leg) ≢ hall

-- leg e begins a best walk to b: its weight joined with the best total from its head is the best total from its tail
pub record OnBest {T : Type 0} (m : Scale T) (g : Net T) (e b : ℕ) : Type 0 where
  pub from_head : T
  pub from_tail : T
  pub best_head : Best m g (g.head e) b from_head
  pub best_tail : Best m g (g.tail e) b from_tail
  pub equal : m.joined (g.weight e) from_head ≡ from_tail

-- both ends of leg e lie in the hall
pub record BothEnds {T : Type 0} (g : Net T) (at : ℕ → ℕ) (hall e : ℕ) : Type 0 where
  pub tail_inside : at (g.tail e) ≡ hall
  pub head_inside : at (g.head e) ≡ hall

-- renewing marks leg e for the hall
pub record Flagged {T : Type 0} (m : Scale T) (g : Net T) (at : ℕ → ℕ) (hall e : ℕ) : Type 0 where
  pub usable : g.usable e ≡ true
  pub because : BothEnds g at hall e ⊎ ((b : ℕ) × Entry g at hall b × OnBest m g e b)

-- each flagged leg is marked, and no other
abbrev pub Exactly : {T : Type 0} → Scale T → Net T → (ℕ → ℕ) → ℕ → (ℕ → Bool) → Type 0
Exactly m g at hall marked = (e : ℕ) → (marked e ≡ true) ↔ Flagged m g at hall e

-- each flagged leg is marked, and perhaps others
abbrev pub Covers : {T : Type 0} → Scale T → Net T → (ℕ → ℕ) → ℕ → (ℕ → Bool) → Type 0
Covers m g at hall marked = (e : ℕ) → Flagged m g at hall e → marked e ≡ true

-- where a walk leads from u to v, the marked legs alone give the best total
abbrev pub Follows : {T : Type 0} → Scale T → Net T → (ℕ → Bool) → ℕ → ℕ → Type 0
Follows {T = T} m g marked u v = Leads g u v → (x : T) × Best m g u v x × Best m (only marked g) u v x

-- the marks feed the hall: they suffice for best walks to its entries, and every leg inside is marked
pub record Feeds {T : Type 0} (m : Scale T) (g : Net T) (at : ℕ → ℕ) (hall : ℕ) (marked : ℕ → Bool) : Type 0 where
  pub to_entries : (b : ℕ) → Entry g at hall b → (u : ℕ) → Follows m g marked u b
  pub inside : (e : ℕ) → g.usable e ≡ true → BothEnds g at hall e → marked e ≡ true

-- the marks serve the hall: they suffice for best walks to every junction in it
abbrev pub Serves : {T : Type 0} → Scale T → Net T → (ℕ → ℕ) → ℕ → (ℕ → Bool) → Type 0
Serves m g at hall marked = (u v : ℕ) → at v ≡ hall → Follows m g marked u v

-- h is g with legs shut or made no better, and none of these is marked
pub record Worsened {T : Type 0} (m : Scale T) (marked : ℕ → Bool) (g h : Net T) : Type 0 where
  pub same_tail : (e : ℕ) → h.tail e ≡ g.tail e
  pub same_head : (e : ℕ) → h.head e ≡ g.head e
  pub still_usable : (e : ℕ) → h.usable e ≡ true → g.usable e ≡ true
  pub no_better : (e : ℕ) → h.usable e ≡ true → m.below (h.weight e) (g.weight e) ≡ false
  pub marked_usable : (e : ℕ) → g.usable e ≡ true → marked e ≡ true → h.usable e ≡ true
  pub marked_weight : (e : ℕ) → g.usable e ≡ true → marked e ≡ true → h.weight e ≡ g.weight e

-- Marks on every flagged leg feed their hall.
abbrev pub FlagsFeed : {T : Type 0} → Scale T → Type 0
FlagsFeed {T = T} m =
    (g : Net T) (n l : ℕ) → Finite g n l → (at : ℕ → ℕ) (hall : ℕ) (marked : ℕ → Bool) →
    Covers m g at hall marked → Feeds m g at hall marked

-- Marks that feed a hall serve it.
abbrev pub FeedsServe : {T : Type 0} → Scale T → Type 0
FeedsServe {T = T} m =
    (g : Net T) (n l : ℕ) → Finite g n l → (at : ℕ → ℕ) (hall : ℕ) (marked : ℕ → Bool) →
    Feeds m g at hall marked → Serves m g at hall marked

-- Marks still feed their hall after unmarked legs were shut or made worse.
abbrev pub StillFeeds : {T : Type 0} → Scale T → Type 0
StillFeeds {T = T} m =
    (g h : Net T) (at : ℕ → ℕ) (hall : ℕ) (marked : ℕ → Bool) →
    Worsened m marked g h → Feeds m g at hall marked → Feeds m h at hall marked
