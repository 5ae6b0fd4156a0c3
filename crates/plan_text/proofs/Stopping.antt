-- Where reading stops, and where the rest begins. Assumes nothing.
use Rattle.std.proofs.Common.{◌≡◌, ℕ, true, List, ◌++◌, is_some, Some, None, Option, sym, ap, ◌∙◌, subst, append_assoc, arith}
use Rattle.layout.specs.declared.refusal.Refusal.{Refusal}
use Rattle.plan_text.specs.Heard.{Heard}
use Rattle.plan_text.specs.Reads.{Refuses, Halts, Stops, EndsWith}
pub use Rattle.plan_text.proofs.Running.{rest_begins}

-- a part that ended with a refusal: so does the reading
pub stopped_early : (o : Option Refusal) (Whole : Type 0) (h : Heard) (n m : ℕ) (rest : List ℕ) → n ≡ m → is_some o ≡ true
    → Halts Whole h n rest o → Stops h m rest o
stopped_early None Whole h n m rest e some stops = absurd (let w : ⊥ = grind arith in w)
stopped_early (Some r) Whole h n m rest e some stops = subst (λ k. Refuses h k rest r) e stops

-- a text ends with what an end of it ends with
pub ends_then : (text mid rest : List ℕ) → EndsWith text mid → EndsWith mid rest → EndsWith text rest
ends_then text mid rest (front, e) (more, f) = (front ++ more, e ∙ ap (λ t. front ++ t) f ∙ sym (append_assoc front more rest))
