-- Lines accepted one after the other. Assumes nothing.
use Rattle.std.proofs.Common.{◌≡◌, ℕ, zero, suc, ◌+◌, ◌-◌, ◌<◌, ◌≤◌, List, [], ◌∷◌, ◌++◌, length, drop, sym, refl, ap, ◌∙◌, subst, append_assoc, add-one, arith}
use Rattle.std.proofs.lemmas.List.{length-append, drop_at}
use Rattle.tokens.proofs.Cutting.{line_shorter}
use Rattle.plan_text.specs.Heard.{Heard}
use Rattle.plan_text.specs.Reads.{Accepts, Lines, EndsWith}

-- an accepted line takes a byte at least, and the text ends with what comes after it
module _ (h : Heard) (line : ℕ) (text : List ℕ) (after : Heard) (rest : List ℕ) (a : Accepts h line text after rest) where
  pub accepted_shorter : length rest < length text
  accepted_shorter = line_shorter text a.bytes rest a.cut

  pub accepted_tail : (before : List ℕ) → EndsWith before text → EndsWith before rest
  accepted_tail before (front, e) = (
    front ++ (a.bytes ++ (10 ∷ [])),
    e ∙ ap (λ t. front ++ t) a.cut.ends.whole ∙ sym (append_assoc front (a.bytes ++ (10 ∷ [])) rest ∙ ap (λ t. front ++ t) (append_assoc a.bytes (10 ∷ []) rest)),
  )

-- an accepted line under another number, or of the same text
moved : (h m : Heard) (line n : ℕ) (text other : List ℕ) (after : Heard) (rest : List ℕ) → m ≡ h → n ≡ line → other ≡ text → Accepts m n other after rest → Accepts h line text after rest
moved h m line n text other after rest e f g a =
    subst (λ x. Accepts x line text after rest) e (subst (λ x. Accepts m x text after rest) f (subst (λ x. Accepts m n x after rest) g a))

-- one line more
lines_suc : (k : ℕ) (h : Heard) (line : ℕ) (text : List ℕ) (mid : Heard) (left : List ℕ) (after : Heard) (rest : List ℕ)
    → Lines k h line text mid left → Accepts mid (line + k) left after rest → Lines (suc k) h line text after rest
lines_suc zero h line text mid left after rest (same, all) a =
    (after, rest, moved h mid line (line + 0) text left after rest (sym same) (omega arith) (sym all) a, (refl, refl))
lines_suc (suc k) h line text mid left after rest (next, more, first, others) a =
    (next, more, first, lines_suc k next (line + 1) more mid left after rest others (moved mid mid (line + 1 + k) (line + suc k) left left after rest refl (omega arith) refl a))

pub lines_more : (k : ℕ) (h : Heard) (line : ℕ) (text : List ℕ) (mid : Heard) (left : List ℕ) (after : Heard) (rest : List ℕ)
    → Lines k h line text mid left → Accepts mid (line + k) left after rest → Lines (k + 1) h line text after rest
lines_more k h line text mid left after rest ls a = subst (λ n. Lines n h line text after rest) (sym (add-one k)) (lines_suc k h line text mid left after rest ls a)

-- some lines, and then others
pub lines_then : (k j : ℕ) (h : Heard) (line : ℕ) (text : List ℕ) (mid : Heard) (left : List ℕ) (after : Heard) (rest : List ℕ)
    → Lines k h line text mid left → Lines j mid (line + k) left after rest → Lines (k + j) h line text after rest
lines_then zero j h line text mid left after rest (same, all) ls =
    let n : line + 0 ≡ line = omega arith in
    let k : j ≡ 0 + j = omega arith in
    subst (λ x. Lines x h line text after rest) k
    (subst (λ x. Lines j x line text after rest) (sym same) (subst (λ x. Lines j mid x text after rest) n (subst (λ x. Lines j mid (line + 0) x after rest) (sym all) ls)))
lines_then (suc k) j h line text mid left after rest (next, more, first, others) ls =
    let n : line + suc k ≡ line + 1 + k = omega arith in
    let m : suc (k + j) ≡ suc k + j = omega arith in
    subst (λ x. Lines x h line text after rest) m
    (next, more, first, lines_then k j next (line + 1) more mid left after rest others (subst (λ x. Lines j mid x left after rest) n ls))

-- a text ends with what comes after its accepted lines
pub lines_end : (k : ℕ) (h : Heard) (line : ℕ) (text : List ℕ) (after : Heard) (rest before : List ℕ)
    → Lines k h line text after rest → EndsWith before text → EndsWith before rest
lines_end zero h line text after rest before (same, all) ends = subst (EndsWith before) all ends
lines_end (suc k) h line text after rest before (mid, left, first, others) ends =
    lines_end k mid (line + 1) left after rest before others (accepted_tail h line text mid left first before ends)

-- what a text ends with begins where the other bytes end
pub rest_begins : (text rest : List ℕ) → EndsWith text rest → drop (length text - length rest) text ≡ rest
rest_begins text rest (front, e) =
    let long = ap length e ∙ length-append front rest in
    let place : length front ≡ length text - length rest = omega arith in
    ap (drop (length text - length rest)) e ∙ drop_at front rest (length text - length rest) place

pub ends_within : (text rest : List ℕ) → EndsWith text rest → length rest ≤ length text
ends_within text rest (front, e) = let long = ap length e ∙ length-append front rest in omega arith
