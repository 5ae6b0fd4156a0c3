-- What a list has at a place, and what an option has after a map. The first and the fourth stand in std under other names, for proofs of crates above. Assumes nothing.
use Rattle.std.proofs.Common.{◌≡◌, ℕ, ◌<◌, List, map, length, Some, None, Option, sym, refl, subst}
use Rattle.std.specs.Option.{option_map}
use Rattle.std.specs.List.{slice_get}
use Rattle.std.proofs.lemmas.Option.{slice_get-map, slice_get_within, none-some, same_Some}

pub nth_map : {X Y : Type 0} (f : X → Y) (xs : List X) (i : ℕ) → slice_get (map f xs) i ≡ option_map f (slice_get xs i)
nth_map f xs i = slice_get-map f xs i

pub mapped_mapped : {X Y Z : Type 0} (f : X → Y) (g : Y → Z) (o : Option X) → option_map g (option_map f o) ≡ option_map (λ x. g (f x)) o
mapped_mapped f g None = refl
mapped_mapped f g (Some x) = refl

-- what is there after a map came from something
pub from_mapped : {X Y : Type 0} (f : X → Y) (P : Y → Type 0) (o : Option X) (y : Y) → option_map f o ≡ Some y → ((x : X) → o ≡ Some x → P (f x)) → P y
from_mapped f P None y e h = absurd (none-some y e)
from_mapped f P (Some x) y e h = subst P (same_Some (f x) y e) (h x refl)

-- what there is stands within the list
pub nth_within : {X : Type 0} (xs : List X) (i : ℕ) (x : X) → slice_get xs i ≡ Some x → i < length xs
nth_within xs i x e = slice_get_within xs i x e

pub mapped_within : {X Y : Type 0} (f : X → Y) (xs : List X) (i : ℕ) (y : Y) → Some y ≡ option_map f (slice_get xs i) → i < length xs
mapped_within f xs i y e = from_mapped f (λ _. i < length xs) (slice_get xs i) y (sym e) (λ x h. slice_get_within xs i x h)
