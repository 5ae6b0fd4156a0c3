-- The index that a drawn plan keeps: for each junction the chain of its legs, in number order. Assumes nothing.
use Rattle.std.specs.Prelude.{◌≡◌, ℕ, ◌+◌, ◌<◌, ◌≤◌, List, length, take, Some, None, Option, ◌≢◌, slice_index_or}
use Rattle.std.specs.List.{slice_get}
use Rattle.layout.specs.Plant.{Next}
use Rattle.plan.specs.declared.chains.Chains.TheInside.{Inside}

-- the junctions at one end of the legs, in leg order
abbrev pub ends_of : Inside → List ℕ
ends_of c = take c.count c.links.ends

-- the last place where the list has the number, or that there is none
abbrev pub Last : List ℕ → ℕ → Option ℕ → Type 0
Last ks n None = (i : ℕ) → slice_get ks i ≢ Some n
Last ks n (Some k) = (slice_get ks k ≡ Some n) × ((i : ℕ) → k < i → slice_get ks i ≢ Some n)

-- the tables hold the chains of legs that stand at the junctions `ks`, in leg order
pub record Linked (ks : List ℕ) (first last next : List (Option ℕ)) : Type 0 where
  pub firsts : (n : ℕ) → n < 256 → Next ks n 0 (slice_index_or first n None)
  pub lasts : (n : ℕ) → n < 256 → Last ks n (slice_index_or last n None)
  pub nexts : (k n : ℕ) → slice_get ks k ≡ Some n → Next ks n (k + 1) (slice_index_or next k None)
  pub wide_first : length first ≡ 256
  pub wide_last : length last ≡ 256
  pub wide_next : length next ≡ 512
  deriving IsProp as LinkedProp

-- the chains are those of the junctions, of which each has a place in the tables
pub record Chained (c : Inside) : Type 0 where
  pub few : c.count ≤ 512
  pub wide_ends : length c.links.ends ≡ 512
  pub low : (k n : ℕ) → slice_get (ends_of c) k ≡ Some n → n < 256
  pub linked : Linked (ends_of c) c.links.first c.links.last c.links.next
  deriving IsProp as ChainedProp
