-- Halls lapse one after the other. Assumes nothing.
use Rattle.std.proofs.Common.{◌≡◌, ℕ, zero, suc, ◌+◌, ◌-◌, ◌≤◌, min, Bool, true, false, not, ◌&&◌, ◌||◌, eqb, ltb, get_or, replicate, sym, refl, ap, ◌∙◌, ⊎_elim, arith}
use Rattle.std.proofs.lemmas.Bool.{cases_lt}
use Rattle.std.proofs.lemmas.Bool.Decides.{nat_tests}
use Rattle.layout.specs.Limits.{most_halls}
use Rattle.marks.specs.Mark.{is_marked}
use Rattle.walks.specs.Answers.{count_below}
use Rattle.halls.proofs.Counted.{count_yes, count_no, count_past}
use Rattle.halls.specs.Force.{in_force, struck, lapsing, Lapsed}
use Rattle.halls.specs.declared.force.HallMarks.{HallMarks}
use Rattle.halls.specs.declared.force.Strikes.{Strikes}
use Rattle.halls.specs.declared.force.Strikes.TheVariants as order

-- the halls below i that pass the test
abbrev pub Below : ℕ → (ℕ → Bool) → ℕ → Bool
Below i test h = ltb h i && test h

none_out : (f : Bool) → f ≡ (f && not false)
none_out true = refl
none_out false = refl

none_in : (a : Bool) → a ≡ (a || false)
none_in true = refl
none_in false = refl

pub lapsed_first : (test : ℕ → Bool) (m : HallMarks) → Lapsed (Below 0 test) m m
lapsed_first test m = record { force = λ h. grind (arith, nat_tests); marks = λ h e. grind (arith, nat_tests) }

-- lapsing goes by which halls pass
pub lapsed_same : (out other : ℕ → Bool) (old new : HallMarks) → ((h : ℕ) → out h ≡ other h) → Lapsed out old new → Lapsed other old new
lapsed_same out other old new same l = record { force = λ h. grind (arith, l.force h, same h); marks = λ h e. grind (arith, l.marks h e, same h) }

out_twice : (f o p : Bool) → ((f && not o) && not p) ≡ (f && not (o || p))
out_twice true true p = refl
out_twice true false p = refl
out_twice false o p = refl

in_twice : (a o p q : Bool) → ((a || (o && q)) || (p && q)) ≡ (a || ((o || p) && q))
in_twice true o p q = refl
in_twice false true true true = refl
in_twice false true true false = refl
in_twice false true false true = refl
in_twice false true false false = refl
in_twice false false p q = refl

-- some lapse, and then others
pub lapsed_then : (out more : ℕ → Bool) (old mid new : HallMarks) → Lapsed out old mid → Lapsed more mid new → Lapsed (λ h. out h || more h) old new
lapsed_then out more old mid new first then = record {
  force = λ h. grind (arith, nat_tests, first.force h, then.force h);
  marks = λ h e. grind (arith, nat_tests, first.marks h e, then.marks h e);
}

-- of another hall than i it is the same whether i is counted
below_other : (i : ℕ) (test : ℕ → Bool) (h : ℕ) → (h ≡ i → ⊥) → Below i test h ≡ Below (i + 1) test h
below_other i test h apart = grind (arith, nat_tests)

-- the hall at i passes, or it does not
pub below_yes : (i : ℕ) (test : ℕ → Bool) → test i ≡ true → (h : ℕ) → (Below i test h || eqb h i) ≡ Below (i + 1) test h
below_yes i test e h = grind (arith, nat_tests)

pub below_no : (i : ℕ) (test : ℕ → Bool) → test i ≡ false → (h : ℕ) → Below i test h ≡ Below (i + 1) test h
below_no i test e h = grind (arith, nat_tests)

struck_same : (s : Strikes) (a b : ℕ → Bool) → ((e : ℕ) → a e ≡ b e) → struck s a ≡ struck s b
struck_same order.None a b same = refl
struck_same (order.Marking leg) a b same = same leg
struck_same order.Every a b same = refl

-- a hall that has not lapsed yet is struck as it was before the others lapsed
pub struck_yet : (s : Strikes) (i : ℕ) (test : ℕ → Bool) (old mid : HallMarks) → Lapsed (Below i test) old mid → lapsing mid s i ≡ lapsing old s i
struck_yet s i test old mid l =
    let force : in_force mid.force i ≡ in_force old.force i = grind (arith, nat_tests, l.force i) in
    let marks : (e : ℕ) → is_marked mid.marks i e ≡ is_marked old.marks i e = λ e. grind (arith, nat_tests, l.marks i e) in
    ap (λ b. b && struck s (is_marked mid.marks i)) force ∙ ap (λ b. in_force old.force i && b) (struck_same s (is_marked mid.marks i) (is_marked old.marks i) marks)

-- no hall past the last that a layout can have is in force
pub none_past : (m : HallMarks) (s : Strikes) (i : ℕ) → most_halls ≤ i → lapsing m s i ≡ false
none_past m s i far = grind (arith, nat_tests)

-- the turn of a hall that is struck
pub turn_yes :
    (s : Strikes) (old mid new : HallMarks) (i count : ℕ)
    → (count ≡ count_below i (lapsing old s)) × Lapsed (Below i (lapsing old s)) old mid
    → lapsing mid s i ≡ true → Lapsed (λ h. eqb h i) mid new
    → (count + 1 ≡ count_below (i + 1) (lapsing old s)) × Lapsed (Below (i + 1) (lapsing old s)) old new
turn_yes s old mid new i count (counted, before) hit lapsed =
    let test = lapsing old s in
    let here : test i ≡ true = sym (struck_yet s i test old mid before) ∙ hit in
    (ap (λ n. n + 1) counted ∙ sym (count_yes i test here), lapsed_same _ _ old new (below_yes i test here) (lapsed_then (Below i test) (λ h. eqb h i) old mid new before lapsed))

-- the turn of one that is not
pub turn_no :
    (s : Strikes) (old mid : HallMarks) (i count : ℕ)
    → (count ≡ count_below i (lapsing old s)) × Lapsed (Below i (lapsing old s)) old mid
    → lapsing mid s i ≡ false
    → (count ≡ count_below (i + 1) (lapsing old s)) × Lapsed (Below (i + 1) (lapsing old s)) old mid
turn_no s old mid i count (counted, before) missed =
    let test = lapsing old s in
    let here : test i ≡ false = sym (struck_yet s i test old mid before) ∙ missed in
    (counted ∙ sym (count_no i test here), lapsed_same _ _ old mid (below_no i test here) before)

past : (test : ℕ → Bool) (k n : ℕ) → k ≤ n → ((i : ℕ) → k ≤ i → test i ≡ false) → (h : ℕ) → Below k test h ≡ Below n test h
past test k n le none h = grind (arith, nat_tests, none h)

-- after the last turn
pub all_turns :
    (s : Strikes) (old new : HallMarks) (halls i count : ℕ) → i ≡ min halls most_halls
    → (count ≡ count_below i (lapsing old s)) × Lapsed (Below i (lapsing old s)) old new
    → (count ≡ count_below halls (lapsing old s)) × Lapsed (Below halls (lapsing old s)) old new
all_turns s old new halls i count last (counted, lapsed) =
    let test = lapsing old s in
    ⊎_elim
    (λ few.
    let e : i ≡ halls = omega arith in
    (counted ∙ ap (λ n. count_below n test) e, lapsed_same _ _ old new (λ h. ap (λ n. Below n test h) e) lapsed))
    (λ many.
    let e : i ≡ most_halls = omega arith in
    let rest : most_halls + (halls - most_halls) ≡ halls = omega arith in (
      counted ∙ ap (λ n. count_below n test) e ∙ sym (count_past most_halls (halls - most_halls) test (none_past old s)) ∙ ap (λ n. count_below n test) rest,
      lapsed_same _ _ old new (λ h. ap (λ n. Below n test h) e ∙ past test most_halls halls many (none_past old s) h) lapsed,
    ))
    (cases_lt halls most_halls)

-- no hall is in force whose signs are all off
pub all_off : (n h : ℕ) → get_or (replicate n false) h false ≡ false
all_off zero h = refl
all_off (suc n) zero = refl
all_off (suc n) (suc h) = all_off n h
