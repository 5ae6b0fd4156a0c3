-- A list is cut at a byte in at most one way.
use Rattle.std.proofs.Common.{◌≡◌, ◌≢◌, ℕ, zero, suc, ◌+◌, ◌<◌, ◌≤◌, min, ◌⊎◌, List, [], ◌∷◌, ◌++◌, length, take, drop, Some, None, Option, sym, refl, ap, ◌∙◌, subst, inl, inr, ⊎_elim, arith, MatchOption}
use Rattle.std.specs.List.{AllByRecursion, AllWithin, HoldsAt}
use Rattle.std.proofs.ByRecursion.{All-from_get_or}
use Rattle.std.proofs.lemmas.List.{take-append-drop, drop_more, take_all, length-take, length-take-le, take-take, get_or-take, length-append}
use Rattle.std.proofs.lemmas.Bool.{cases_eq, cases_lt}
use Rattle.tokens.specs.Cuts.{Lacks, FirstAt, Cut, FirstLine, Endless}

-- what holds at each of the first n places holds of the first n bytes
all_before : (P : ℕ → Type 0) (bytes : List ℕ) (n : ℕ) → n ≤ length bytes → AllWithin P bytes 0 n → AllByRecursion P (take n bytes)
all_before P bytes n fits h =
    let long = length-take-le n bytes fits in
    All-from_get_or P (take n bytes) 0 (λ i inside.
    let before : i < n = omega arith in
    subst P (sym (get_or-take n bytes i 0 before)) (h i 0 (omega arith) before))

-- a search for the byte, one place after the other, finds where it first stands
pub first_found :
    (byte : ℕ) (bytes : List ℕ) (r : Option ℕ)
    → MatchOption r (AllWithin (λ b. b ≢ byte) bytes 0 (length bytes)) (λ i. (i < length bytes) × HoldsAt (λ b. b ≡ byte) bytes i × AllWithin (λ b. b ≢ byte) bytes 0 i)
    → MatchOption r (Lacks byte bytes) (λ place. FirstAt byte bytes place)
first_found byte bytes None lacks = All-from_get_or (λ b. b ≢ byte) bytes 0 (λ i inside. lacks i 0 (omega arith) inside)
first_found byte bytes (Some i) (inside, here, before) =
    record { within = inside; here = here 0; before = all_before (λ b. b ≢ byte) bytes i (omega arith) before }

-- the place where the byte first stands cuts the list
pub cut_at : (byte : ℕ) (bytes : List ℕ) (place : ℕ) → FirstAt byte bytes place → Cut byte bytes (take place bytes) (drop (place + 1) bytes)
cut_at byte bytes place h = record {
  whole = sym (take-append-drop place bytes) ∙ ap (λ l. take place bytes ++ l) (drop_more bytes place 0 h.within ∙ ap (λ b. b ∷ drop (place + 1) bytes) h.here);
  first = h.before;
}

-- a byte that stands first in a front of the list stands first in the list
pub first_in_front : (byte : ℕ) (bytes : List ℕ) (n place : ℕ) → n ≤ length bytes → FirstAt byte (take n bytes) place → FirstAt byte bytes place
first_in_front byte bytes n place fits h =
    let long = length-take-le n bytes fits in
    let inside : place < n = omega (arith, h.within) in
    record {
      within = omega arith;
      here = sym (get_or-take n bytes place 0 inside) ∙ h.here;
      before = subst (Lacks byte) (take-take place n bytes (omega arith)) h.before;
    }

-- where the byte divides a list, the front does not lack it
pub lacks_divided : (byte : ℕ) (front rest : List ℕ) → Lacks byte (front ++ (byte ∷ rest)) → ⊥
lacks_divided byte [] rest lacks = lacks.0 refl
lacks_divided byte (b ∷ front) rest lacks = lacks_divided byte front rest lacks.1

-- a list that lacks the byte is not cut at it
pub lacks_not_cut : (byte : ℕ) (bytes front rest : List ℕ) → Lacks byte bytes → Cut byte bytes front rest → ⊥
lacks_not_cut byte bytes front rest lacks cut = lacks_divided byte front rest (subst (Lacks byte) cut.whole lacks)

-- two fronts that lack the byte, each with the byte and a rest after it, make one list only where they are the same
pub same_halves : (byte : ℕ) (f g r s : List ℕ) → Lacks byte f → Lacks byte g → f ++ (byte ∷ r) ≡ g ++ (byte ∷ s) → (f ≡ g) × (r ≡ s)
same_halves byte [] [] r s lf lg e = (refl, cc)
same_halves byte [] (c ∷ g) r s lf lg e = absurd (lg.0 (cc))
same_halves byte (b ∷ f) [] r s lf lg e = absurd (lf.0 (cc))
same_halves byte (b ∷ f) (c ∷ g) r s lf lg e =
    let head : b ≡ c = cc in
    let tail : f ++ (byte ∷ r) ≡ g ++ (byte ∷ s) = cc in
    let same = same_halves byte f g r s lf.1 lg.1 tail in
    let fronts = same.0 in
    (cc, same.1)

-- a list is cut at a byte in one way
pub one_cut : (byte : ℕ) (bytes f g r s : List ℕ) → Cut byte bytes f r → Cut byte bytes g s → (f ≡ g) × (r ≡ s)
one_cut byte bytes f g r s one other = same_halves byte f g r s one.first other.first (sym one.whole ∙ other.whole)

-- a text has one first line
pub one_line : (text : List ℕ) (l m r s : List ℕ) → FirstLine text l r → FirstLine text m s → (l ≡ m) × (r ≡ s)
one_line text l m r s one other = one_cut 10 text l m r s one.ends other.ends

-- nor does a front that reaches to the byte lack it
front_divided : (byte n : ℕ) (front rest : List ℕ) → length front < n → Lacks byte (take n (front ++ (byte ∷ rest))) → ⊥
front_divided byte zero front rest reaches lacks = omega arith
front_divided byte (suc n) [] rest reaches lacks = lacks.0 refl
front_divided byte (suc n) (b ∷ front) rest reaches lacks = front_divided byte n front rest (omega arith) lacks.1

-- a text with a line is not endless
pub line_not_endless : (text line rest : List ℕ) → FirstLine text line rest → Endless text → ⊥
line_not_endless text line rest h endless =
    front_divided 10 41 line rest (omega (arith, h.short)) (subst (λ t. Lacks 10 (take 41 t)) h.ends.whole endless)

-- the first byte 10 among the first 41 bytes ends a line
pub line_at : (text : List ℕ) (window end : ℕ) → window ≡ min (length text) 41 → FirstAt 10 (take window text) end → FirstLine text (take end text) (drop (end + 1) text)
line_at text window end w h =
    let first = first_in_front 10 text window end (omega arith) h in
    let long = length-take-le window text (omega arith) in
    let inside : end < window = omega (arith, h.within) in
    record { ends = cut_at 10 text end first; short = omega (arith, length-take end text) }

-- where there is none there, the text is endless
pub endless_at : (text : List ℕ) (window : ℕ) → window ≡ min (length text) 41 → Lacks 10 (take window text) → Endless text
endless_at text window w lacks =
    ⊎_elim
    (λ long. let e : window ≡ 41 = omega arith in subst (λ n. Lacks 10 (take n text)) e lacks)
    (λ few. let e : window ≡ length text = omega arith in subst (Lacks 10) (take_all window text (omega arith) ∙ sym (take_all 41 text (omega arith))) lacks)
    (cases_lt 41 (length text))

-- a list lacks the byte or is cut at it
pub lacks_or_cut : (byte : ℕ) (bytes : List ℕ) → Lacks byte bytes ⊎ ((front : List ℕ) × (rest : List ℕ) × Cut byte bytes front rest)
lacks_or_cut byte [] = inl tt
lacks_or_cut byte (b ∷ bytes) =
    ⊎_elim
    (λ same. inr ([], bytes, record { whole = ap (λ c. c ∷ bytes) same; first = tt }))
    (λ apart.
    ⊎_elim
    (λ lacks. inl (apart, lacks))
    (λ cut. inr (b ∷ cut.0, cut.1, record { whole = ap (λ l. b ∷ l) cut.2.whole; first = (apart, cut.2.first) }))
    (lacks_or_cut byte bytes))
    (cases_eq b byte)

-- a line takes one byte at least
pub line_shorter : (text line rest : List ℕ) → FirstLine text line rest → length rest < length text
line_shorter text line rest h =
    let whole = ap length h.ends.whole in
    let parts = length-append line (10 ∷ rest) in
    omega arith
