-- Looking for the next place of a number, and for the next leg that has an end, one after the other. Assumes nothing.
use Rattle.std.proofs.Common.{◌≡◌, ℕ, ◌+◌, ◌<◌, ◌≤◌, List, map, length, Some, None, Option, sym, ◌∙◌, subst, ⊎_elim, arith}
use Rattle.std.specs.List.{slice_get}
use Rattle.std.specs.Option.{option_map, MatchOption}
use Rattle.layout.specs.Plant.{Leg, Next}
use Rattle.std.proofs.lemmas.Option.{slice_get-map, slice_get_past}
use Rattle.std.proofs.lemmas.Bool.{cases_eq, cases_lt}
use Rattle.layout.proofs.Listed.{mapped_within}

-- the number stands nowhere from `from` to before `to`
abbrev pub Missed : List ℕ → ℕ → ℕ → ℕ → Type 0
Missed ks n from to = (i : ℕ) → from ≤ i → i < to → slice_get ks i ≡ Some n → ⊥

module _ (ks : List ℕ) (n from at : ℕ) (missed : Missed ks n from at) where
  pub missed_more : (slice_get ks at ≡ Some n → ⊥) → Missed ks n from (at + 1)
  missed_more other i low high e =
      ⊎_elim (λ here. other (subst (λ k. slice_get ks k ≡ Some n) here e)) (λ apart. missed i low (omega arith) e) (cases_eq i at)

  pub missed_all : length ks ≤ at → Next ks n from None
  missed_all past i low e =
      ⊎_elim
      (λ before. missed i low before e)
      (λ after. let none = slice_get_past ks i (omega arith) in let z : ◌≡◌ {A = ℕ} 0 1 = cc in absurd (let w : ⊥ = omega arith in w))
      (cases_lt i at)

-- leg i ends at the junction
abbrev pub EndsAt : (Leg → ℕ) → List Leg → ℕ → ℕ → Type 0
EndsAt end legs junction i = option_map end (slice_get legs i) ≡ Some junction

-- the first leg of a range that ends at the junction is the next, where the range goes to the last leg
pub next_from_first : (end : Leg → ℕ) (legs : List Leg) (junction from to : ℕ) (r : Option ℕ) → to ≡ length legs
    → MatchOption r ((k : ℕ) → from ≤ k → k < to → EndsAt end legs junction k → ⊥)
    (λ i. (from ≤ i) × (i < to) × EndsAt end legs junction i × ((k : ℕ) → from ≤ k → k < i → EndsAt end legs junction k → ⊥))
    → Next (map end legs) junction from r
next_from_first end legs junction from to None all missed = λ i low e.
    let here = sym (slice_get-map end legs i) ∙ e in
    let within = mapped_within end legs i junction (sym here) in
    missed i low (omega arith) here
next_from_first end legs junction from to (Some k) all first =
    (first.0, slice_get-map end legs k ∙ first.2, λ i low before e. first.3 i low before (sym (slice_get-map end legs i) ∙ e))
