-- Laws of a relegged plant: what its questions answer, and when it is the plant itself. Assumes nothing.
use Rattle.std.proofs.Common.{◌≡◌, ℕ, suc, ◌+◌, ◌<◌, List, [], ◌∷◌, map, Some, None, Option, sym, refl, ap, ◌∙◌, subst, ap₂, arith}
use Rattle.std.specs.Option.{option_map}
use Rattle.std.specs.List.{slice_get}
use Rattle.layout.specs.Plant.{Leg, Plant, Sound, Next}
use Rattle.layout.proofs.Listed.{mapped_mapped, mapped_within}
use Rattle.layers.specs.Relegged.{changed_from, relegged}
use Rattle.layers.specs.Soundness.{nth_changed}

mapped_same : {X Y : Type 0} (f g : X → Y) → ((x : X) → f x ≡ g x) → (o : Option X) → option_map f o ≡ option_map g o
mapped_same f g same None = refl
mapped_same f g same (Some x) = ap Some (same x)

-- a figure of a changed element
pub figure_changed : {X Y Z : Type 0} (f : ℕ → X → Y) (g : Y → Z) (xs : List X) (i : ℕ) → option_map g (slice_get (changed_from 0 f xs) i) ≡ option_map (λ x. g (f i x)) (slice_get xs i)
figure_changed f g xs i = ap (option_map g) (nth_changed f xs i) ∙ mapped_mapped (f i) g (slice_get xs i)

-- the figure g above is a function of the figure h below
pub figure_made : {X Y Z W : Type 0} (f : ℕ → X → Y) (g : Y → Z) (h : X → W) (made : W → Z) (xs : List X) (i : ℕ)
    → ((x : X) → made (h x) ≡ g (f i x)) → (r : Option W) → r ≡ option_map h (slice_get xs i) → option_map made r ≡ option_map g (slice_get (changed_from 0 f xs) i)
figure_made f g h made xs i same r e =
    ap (option_map made) e ∙ mapped_mapped h made (slice_get xs i) ∙ mapped_same (λ x. made (h x)) (λ x. g (f i x)) same (slice_get xs i) ∙ sym (figure_changed f g xs i)

-- the list of one figure, where that figure of a changed element is h of the element
pub figures_changed : {X Y Z : Type 0} (f : ℕ → X → Y) (g : Y → Z) (h : X → Z) → ((k : ℕ) (x : X) → g (f k x) ≡ h x)
    → (k : ℕ) (xs : List X) → map g (changed_from k f xs) ≡ map h xs
figures_changed f g h same k [] = refl
figures_changed f g h same k (x ∷ xs) = ap₂ (λ y ys. y ∷ ys) (same k x) (figures_changed f g h same (suc k) xs)

-- two changes that do the same to each element
alike_from : {X Y : Type 0} (f g : ℕ → X → Y) (k : ℕ) (xs : List X) → ((i : ℕ) (x : X) → slice_get xs i ≡ Some x → f (k + i) x ≡ g (k + i) x)
    → changed_from k f xs ≡ changed_from k g xs
alike_from f g k [] alike = refl
alike_from f g k (x ∷ xs) alike =
    ap₂ (λ y ys. y ∷ ys)
    (let q : k + 0 ≡ k = omega arith in subst (λ n. f n x ≡ g n x) q (alike 0 x refl))
    (alike_from f g (suc k) xs (λ i y e. let q : k + suc i ≡ suc k + i = omega arith in subst (λ n. f n y ≡ g n y) q (alike (suc i) y e)))

kept_from : {X : Type 0} (k : ℕ) (xs : List X) → changed_from k (λ i x. x) xs ≡ xs
kept_from k [] = refl
kept_from k (x ∷ xs) = ap (λ ys. x ∷ ys) (kept_from (suc k) xs)

abbrev with_legs : Plant → List Leg → Plant
with_legs p legs = record { halls = p.halls; hall_of = p.hall_of; legs = legs }

pub relegged_alike : (f g : ℕ → Leg → Leg) (p : Plant) → ((i : ℕ) (l : Leg) → slice_get p.legs i ≡ Some l → f i l ≡ g i l) → relegged f p ≡ relegged g p
relegged_alike f g p alike =
    ap (with_legs p) (alike_from f g 0 p.legs (λ i l e. let q : i ≡ 0 + i = omega arith in subst (λ n. f n l ≡ g n l) q (alike i l e)))

-- nothing is changed where each leg stays
pub relegged_same : (f : ℕ → Leg → Leg) (p : Plant) → ((i : ℕ) (l : Leg) → slice_get p.legs i ≡ Some l → f i l ≡ l) → relegged f p ≡ p
relegged_same f p stays = relegged_alike f (λ i l. l) p stays ∙ ap (with_legs p) (kept_from 0 p.legs)

-- changed twice
twice_from : {X Y Z : Type 0} (f : ℕ → X → Y) (g : ℕ → Y → Z) (k : ℕ) (xs : List X) → changed_from k g (changed_from k f xs) ≡ changed_from k (λ i x. g i (f i x)) xs
twice_from f g k [] = refl
twice_from f g k (x ∷ xs) = ap (λ ys. g k (f k x) ∷ ys) (twice_from f g (suc k) xs)

pub relegged_twice : (f g : ℕ → Leg → Leg) (p : Plant) → relegged g (relegged f p) ≡ relegged (λ k l. g k (f k l)) p
relegged_twice f g p = ap (with_legs p) (twice_from f g 0 p.legs)

-- a leg of which there is a figure is one of at most 512
pub leg_below : {Z : Type 0} (p : Plant) → Sound p → (h : Leg → Z) (i : ℕ) (z : Z) → Some z ≡ option_map h (slice_get p.legs i) → i < 512
leg_below p s h i z e = let w = mapped_within h p.legs i z e in omega arith

-- the next leg at a junction, where the end g of a changed leg is the end h of the leg
pub next_changed : (f : ℕ → Leg → Leg) (g h : Leg → ℕ) → ((k : ℕ) (l : Leg) → g (f k l) ≡ h l)
    → (legs : List Leg) (junction from : ℕ) (r : Option ℕ) → Next (map h legs) junction from r → Next (map g (changed_from 0 f legs)) junction from r
next_changed f g h same legs junction from r = subst (λ ends. Next ends junction from r) (sym (figures_changed f g h same 0 legs))
