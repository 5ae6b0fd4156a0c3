-- The refusal that an answer comes from, and what is not there: bytes in an empty text, and values of the form asked for. Assumes nothing.
use Rattle.std.proofs.Common.{◌≡◌, ℕ, true, false, eqb, List, [], ◌∷◌, length, Some, None, Err, Option, refl, ap, arith, MatchOption}
use Rattle.std.proofs.lemmas.Bool.{both_ways, eq-eqb, eqb-true}
use Rattle.std.specs.Option.{ok_or}
use Rattle.layout.specs.Refused.{answered}
use Rattle.layout.specs.declared.refusal.Refusal.{Refusal}
use Rattle.layout.specs.declared.refusal.Refusal.TheVariants.{WrongForm}
use Rattle.tokens.specs.Values.{Numbers}
use Rattle.plan_text.specs.Formed.{Formed}

-- a call that answers with a refusal was refused by its checks
pub refused_by : {X : Type 0} (o : Option Refusal) (x : X) (r : Refusal) → answered o x ≡ Err r → o ≡ Some r
refused_by None x r e = absurd (let w : ⊥ = grind arith in w)
refused_by (Some s) x r e = cc

-- a text is empty where its length is 0, and only there
pub empty_text : (text : List ℕ) → eqb (length text) 0 ≡ true → text ≡ []
empty_text [] e = refl
empty_text (b ∷ text) e = absurd (let w : ⊥ = omega (arith, eqb-true (length (b ∷ text)) 0 e) in w)

pub some_text : (text : List ℕ) → eqb (length text) 0 ≡ false → text ≡ [] → ⊥
some_text text e none = both_ways (eqb (length text) 0) e (eq-eqb (length text) 0 (ap length none))

-- where no k numbers were found, nothing is written by k numbers, and the form is wrong
pub not_formed :
    {W : Type 0} (numbers : W → List ℕ) (k : ℕ) (value : List ℕ) (line : ℕ) (found : Option (List ℕ)) (e : Refusal)
    → ((w : W) → length (numbers w) ≡ k)
    → MatchOption found ((ns : List ℕ) → length ns ≡ k → Numbers value ns → ⊥) (λ ns. (length ns ≡ k) × Numbers value ns)
    → Err e ≡ ok_or found (WrongForm line)
    → Formed (λ w. Numbers value (numbers w)) line (Err e)
not_formed numbers k value line None e long told is = ((λ w writes. told (numbers w) (long w) writes), cc)
not_formed numbers k value line (Some ns) e long told is = absurd (let w : ⊥ = grind arith in w)
