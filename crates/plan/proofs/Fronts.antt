-- The places of a table that are in use. Assumes nothing.
use Rattle.std.proofs.Common.{◌≡◌, ℕ, ◌<◌, ◌≤◌, List, map, length, get_or, take, Some, None, ap, ◌∙◌, arith}
use Rattle.std.specs.Option.{option_map}
use Rattle.std.specs.List.{slice_get}
use Rattle.std.proofs.lemmas.List.{length-take, get_or-take}
use Rattle.std.proofs.lemmas.Option.{slice_get-get_or, slice_get_past}
use Rattle.layout.proofs.Listed.{nth_map}

module _ {X : Type 0} (xs : List X) (n i : ℕ) where
  pub read_front : (d : X) → i < n → n ≤ length xs → slice_get (take n xs) i ≡ Some (get_or xs i d)
  read_front d h w = slice_get-get_or (take n xs) i d (simp length-take (omega arith)) ∙ ap Some (get_or-take n xs i d h)

  pub past_front : n ≤ i → slice_get (take n xs) i ≡ None
  past_front h = slice_get_past (take n xs) i (simp length-take (omega arith))

  pub read_mapped : {Y : Type 0} (f : X → Y) (d : X) → i < n → n ≤ length xs → slice_get (map f (take n xs)) i ≡ Some (f (get_or xs i d))
  read_mapped f d h w = nth_map f (take n xs) i ∙ ap (option_map f) (read_front d h w)

  pub past_mapped : {Y : Type 0} (f : X → Y) → n ≤ i → slice_get (map f (take n xs)) i ≡ None
  past_mapped f h = nth_map f (take n xs) i ∙ ap (option_map f) (past_front h)
