-- What the token that is due can be, and that a line has at most one next token.
use Rattle.std.proofs.Common.{◌≡◌, ℕ, ◌+◌, ◌<◌, ◌⊎◌, List, [], ◌∷◌, ◌++◌, length, get_or, take, drop, sym, refl, ap, ◌∙◌, subst, inl, inr, ⊎_elim, arith}
use Rattle.std.specs.List.{AllByRecursion}
use Rattle.std.proofs.ByRecursion.{All-weaker}
use Rattle.std.proofs.lemmas.List.{take-append-drop, drop_more}
use Rattle.tokens.specs.declared.line.Class.{Class}
use Rattle.tokens.specs.declared.line.Class.TheVariants.{Digit, Comma, Letter, Other}
use Rattle.tokens.specs.declared.line.Due.{Due}
use Rattle.tokens.specs.declared.line.Line.{Line}
use Rattle.tokens.specs.declared.line.Token.TheVariants.{Key, Value}
use Rattle.tokens.specs.Cuts.{Lacks, FirstAt, Cut, Keyless}
use Rattle.tokens.specs.Taken.{Bytes, left, Takes, Stuck, OfClass, PlainUpTo, Stray}
use Rattle.tokens.specs.Values.{Plain}
use Rattle.tokens.proofs.Cutting.{lacks_not_cut, one_cut, lacks_or_cut}

-- bytes as a part of the line's text
abbrev pub lent : Line → List ℕ → Bytes
lent line bytes = record { ref_ptr = line.rest.ref_ptr; now = bytes }

-- what is due is one of three
pub key_not_value : (d : Due) → d ≡ Due.Key → d ≡ Due.Value → ⊥
key_not_value d p q = let z : ◌≡◌ {A = ℕ} 0 1 = cc in omega arith

pub key_not_nothing : (d : Due) → d ≡ Due.Key → d ≡ Due.Nothing → ⊥
key_not_nothing d p q = let z : ◌≡◌ {A = ℕ} 0 1 = cc in omega arith

pub value_not_nothing : (d : Due) → d ≡ Due.Value → d ≡ Due.Nothing → ⊥
value_not_nothing d p q = let z : ◌≡◌ {A = ℕ} 0 1 = cc in omega arith

-- no byte of a plain part is a comma
plain_not_comma : (b : ℕ) → Plain b → b ≡ 44 → ⊥
plain_not_comma b plain e = ⊎_elim (λ digit. omega arith) (λ letter. omega arith) plain

pub plain_lacks_comma : (part : List ℕ) → AllByRecursion Plain part → Lacks 44 part
plain_lacks_comma part plain = All-weaker Plain (λ b. b ≡ 44 → ⊥) plain_not_comma part plain

-- a line without `=` gives no key
pub keyless_stuck : (line : Line) → line.due ≡ Due.Key → Keyless (left line) → Stuck line
keyless_stuck line due lacks (Key key) after takes = lacks_not_cut 61 _ _ _ lacks takes.1
keyless_stuck line due lacks (Value part) after takes = key_not_value _ due takes.0

-- a line with nothing due gives nothing
pub spent_stuck : (line : Line) → line.due ≡ Due.Nothing → Stuck line
spent_stuck line due (Key key) after takes = key_not_nothing _ takes.0 due
spent_stuck line due (Value part) after takes = value_not_nothing _ takes.0 due

-- a stray character stands in any first part
stray_in_part : (front : List ℕ) (odd : ℕ) (rest part more : List ℕ) → AllByRecursion Plain front → (Plain odd → ⊥) → (odd ≡ 44 → ⊥) → AllByRecursion Plain part → front ++ (odd ∷ rest) ≡ part ++ (44 ∷ more) → ⊥
stray_in_part [] odd rest [] more ff np nc pp e = nc (cc)
stray_in_part [] odd rest (p ∷ part) more ff np nc pp e = np (let same : p ≡ odd = cc in subst Plain same pp.0)
stray_in_part (f ∷ front) odd rest [] more ff np nc pp e = plain_not_comma f ff.0 (cc)
stray_in_part (f ∷ front) odd rest (p ∷ part) more ff np nc pp e = stray_in_part front odd rest part more ff.1 np nc pp.1 (cc)

stray_not_plain : (front : List ℕ) (odd : ℕ) (rest : List ℕ) → (Plain odd → ⊥) → AllByRecursion Plain (front ++ (odd ∷ rest)) → ⊥
stray_not_plain [] odd rest np all = np all.0
stray_not_plain (f ∷ front) odd rest np all = stray_not_plain front odd rest np all.1

-- a value with a stray character in its first part is not given
pub stray_stuck : (line : Line) → line.due ≡ Due.Value → Stray (left line) → Stuck line
stray_stuck line due stray (Key key) after takes = key_not_value _ takes.0 due
stray_stuck line due stray (Value part) after takes =
    ⊎_elim
    (λ cut. stray_in_part _ _ _ _ _ stray.plain stray.not_plain stray.not_comma takes.1 (sym stray.whole ∙ cut.0.whole))
    (λ last. stray_not_plain _ _ _ stray.not_plain (subst (AllByRecursion Plain) (sym last.0 ∙ stray.whole) takes.1))
    takes.2

-- where digits and letters end at a comma, it is the first one
pub comma_first : (bytes : List ℕ) (n : ℕ) → PlainUpTo bytes n → n < length bytes → FirstAt 44 bytes n
comma_first bytes n h inside = record { within = inside; here = h.comma inside; before = plain_lacks_comma _ h.plain }

-- a character that is no digit, letter or comma, after digits and letters
pub stray_at : (bytes : List ℕ) (n : ℕ) → n < length bytes → AllByRecursion Plain (take n bytes) → (Plain (get_or bytes n 0) → ⊥) → (get_or bytes n 0 ≡ 44 → ⊥) → Stray bytes
stray_at bytes n inside plain np nc = record {
  front = take n bytes;
  odd = get_or bytes n 0;
  rest = drop (n + 1) bytes;
  whole = sym (take-append-drop n bytes) ∙ ap (λ l. take n bytes ++ l) (drop_more bytes n 0 inside);
  plain = plain;
  not_plain = np;
  not_comma = nc;
}

-- a digit or a letter is plain
pub plain_from_class : (class : Class) (byte : ℕ) → OfClass class byte → (class ≡ Digit) ⊎ (class ≡ Letter) → Plain byte
plain_from_class Digit byte is either = inl is
plain_from_class Letter byte is either = inr is
plain_from_class Comma byte is either = absurd (let z : ◌≡◌ {A = ℕ} 0 1 = ⊎_elim (λ e. cc) (λ e. cc) either in omega arith)
plain_from_class Other byte is either = absurd (let z : ◌≡◌ {A = ℕ} 0 1 = ⊎_elim (λ e. cc) (λ e. cc) either in omega arith)

-- a value that reaches to the end of the line is not cut off at a comma
cut_not_last : (line : List ℕ) (part rest : List ℕ) → Cut 44 line part rest → AllByRecursion Plain line → ⊥
cut_not_last line part rest cut plain = lacks_not_cut 44 line part rest (plain_lacks_comma line plain) cut

-- what is left after a value, as far as it matters
pub record Alike (one other : Line) : Type 0 where
  pub due : one.due ≡ other.due
  pub bytes : one.due ≡ Due.Value → left one ≡ left other

-- a line has one next value
pub one_value : (line : Line) (p q : Bytes) (one other : Line) → Takes line (Value p) one → Takes line (Value q) other → (p.now ≡ q.now) × Alike one other
one_value line p q one other (_, pp, inl (c, d)) (_, qq, inl (e, f)) =
    let same = one_cut 44 (left line) p.now q.now (left one) (left other) c e in
    (same.0, record { due = d ∙ sym f; bytes = λ _. same.1 })
one_value line p q one other (_, pp, inl (c, d)) (_, qq, inr (e, f)) = absurd (cut_not_last (left line) _ _ c (subst (AllByRecursion Plain) (sym e) qq))
one_value line p q one other (_, pp, inr (c, d)) (_, qq, inl (e, f)) = absurd (cut_not_last (left line) _ _ e (subst (AllByRecursion Plain) (sym c) pp))
one_value line p q one other (_, pp, inr (c, d)) (_, qq, inr (e, f)) =
    (sym c ∙ e, record { due = d ∙ sym f; bytes = λ v. absurd (value_not_nothing _ v d) })

-- where the key is due, no value comes
pub key_taken_no_value : (line : Line) (key part : Bytes) (one other : Line) → Takes line (Key key) one → Takes line (Value part) other → ⊥
key_taken_no_value line key part one other k v = key_not_value _ k.0 v.0

-- a line whose key is due and that gives none has no `=`
pub stuck_keyless : (line : Line) → line.due ≡ Due.Key → Stuck line → Keyless (left line)
stuck_keyless line due stuck =
    ⊎_elim
    (λ lacks. lacks)
    (λ cut. absurd (stuck (Key (lent line cut.0)) (record { rest = lent line cut.1; due = Due.Value }) (due, cut.2, refl)))
    (lacks_or_cut 61 (left line))
