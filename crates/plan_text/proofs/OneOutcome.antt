-- A line does one thing. Assumes nothing.
use Rattle.std.proofs.Common.{◌≡◌, ℕ, List, [], ◌∷◌, get_or, Option, sym, ap, ◌∙◌, subst, inl, inr}
use Rattle.std.specs.Option.{option_map}
use Rattle.layout.specs.Refused.{answered, in_line}
use Rattle.layout.specs.declared.belt.Belt.{Belt}
use Rattle.layout.specs.declared.refusal.Refusal.{Refusal}
use Rattle.tokens.specs.Values.{OneLetter}
use Rattle.tokens.proofs.Cutting.{one_cut}
use Rattle.tokens.proofs.Reading.{one_list, one_letter}
use Rattle.plan_text.specs.Heard.{Heard, key_of}
use Rattle.plan_text.specs.Told.{Outcome, Valued, One, Six, Told, Says}
use Rattle.plan_text.specs.declared.due.Due.{Due}
use Rattle.plan_text.specs.declared.due.Due.TheVariants.{Version, Measure, Halls, Points, Legs, At, Leg}

-- a value writes one number at most
one_number : (value : List ℕ) (m n : ℕ) → One value m → One value n → m ≡ n
one_number value m n one other = ap (λ ns. get_or ns 0 0) (one_list value (m ∷ []) (n ∷ []) one other)

-- a leg's ends and figures in the order of its line
abbrev pub figures : Belt → List ℕ
figures b = b.tail ∷ b.head ∷ b.metres ∷ b.class ∷ b.clearance ∷ b.turn ∷ []

abbrev belt_of : List ℕ → Belt
belt_of ns = record { tail = get_or ns 0 0; head = get_or ns 1 0; metres = get_or ns 2 0; class = get_or ns 3 0; clearance = get_or ns 4 0; turn = get_or ns 5 0 }

-- and one leg
one_belt : (value : List ℕ) (a b : Belt) → Six value a → Six value b → a ≡ b
one_belt value a b one other = ap belt_of (one_list value (figures a) (figures b) one other)

-- where a value writes one thing at most, it has one outcome
one_valued :
    {W : Type 0} (line : ℕ) (Writes : W → Type 0) (check : W → Option Refusal) (effect : W → Heard) (o p : Outcome) → ((w v : W) → Writes w → Writes v → w ≡ v)
    → Valued line Writes check effect o → Valued line Writes check effect p → o ≡ p
one_valued line Writes check effect o p one (inl (w, writes, e)) (inl (v, too, f)) =
    e ∙ ap (λ x. answered (option_map (in_line line) (check x)) (effect x)) (one w v writes too) ∙ sym f
one_valued line Writes check effect o p one (inl (w, writes, e)) (inr (none, f)) = absurd (none w writes)
one_valued line Writes check effect o p one (inr (none, e)) (inl (v, writes, f)) = absurd (none v writes)
one_valued line Writes check effect o p one (inr (none, e)) (inr (too, f)) = e ∙ sym f

one_told : (h : Heard) (line : ℕ) (d : Due) (value : List ℕ) (o p : Outcome) → Told h line d value o → Told h line d value p → o ≡ p
one_told h line Version value o p = one_valued line (One value) _ _ o p (one_number value)
one_told h line Measure value o p = one_valued line (OneLetter value) _ _ o p (one_letter value)
one_told h line Halls value o p = one_valued line (One value) _ _ o p (one_number value)
one_told h line Points value o p = one_valued line (One value) _ _ o p (one_number value)
one_told h line Legs value o p = one_valued line (One value) _ _ o p (one_number value)
one_told h line At value o p = one_valued line (One value) _ _ o p (one_number value)
one_told h line Leg value o p = one_valued line (Six value) _ _ o p (one_belt value)

-- a line that is due has one outcome
pub one_outcome : (h : Heard) (line : ℕ) (d : Due) (bytes : List ℕ) (o p : Outcome) → Says h line d bytes o → Says h line d bytes p → o ≡ p
one_outcome h line d bytes o p (inl (value, keyed, told)) (inl (other, too, tells)) =
    let same = (one_cut 61 bytes (key_of d) (key_of d) value other keyed too).1 in
    one_told h line d other o p (subst (λ v. Told h line d v o) same told) tells
one_outcome h line d bytes o p (inl (value, keyed, told)) (inr (none, f)) = absurd (none value keyed)
one_outcome h line d bytes o p (inr (none, e)) (inl (value, keyed, told)) = absurd (none value keyed)
one_outcome h line d bytes o p (inr (none, e)) (inr (too, f)) = e ∙ sym f
