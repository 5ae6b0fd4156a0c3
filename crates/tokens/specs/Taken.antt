-- How the tokens of a line follow one another.
use Rattle.std.specs.Prelude.{◌≡◌, ℕ, ◌<◌, ◌≤◌, ◌⊎◌, List, [], ◌∷◌, ◌++◌, length, take, Some, None, Option, ◌≢◌, slice_index}
use Rattle.std.specs.Borrow.{Bor}
use Rattle.std.specs.List.{AllByRecursion}
use Rattle.std.specs.Int.{IsInRange}
use Rattle.tokens.specs.declared.line.Class.{Class}
use Rattle.tokens.specs.declared.line.Class.TheVariants.{Digit, Comma, Letter, Other}
use Rattle.tokens.specs.declared.line.Due.{Due}
use Rattle.tokens.specs.declared.line.Line.{Line}
use Rattle.tokens.specs.declared.line.Token.{Token}
use Rattle.tokens.specs.declared.line.Token.TheVariants.{Key, Value}
use Rattle.tokens.specs.Cuts.{Cut, Keyed}
use Rattle.tokens.specs.Values.{Plain, Numeral, Numbers, OneLetter}

-- a part of a text that is lent out
abbrev pub Bytes : Type 0
Bytes = Bor (List ℕ)

-- the bytes of a line that are still to be taken apart
abbrev pub left : Line → List ℕ
left line = line.rest.now

-- token is the next token of the line before, and after is the line without it
abbrev pub Takes : Line → Token → Line → Type 0
Takes before (Key key) after = (before.due ≡ Due.Key) × Keyed (left before) key.now (left after) × (after.due ≡ Due.Value)
Takes before (Value part) after =
    (before.due ≡ Due.Value) × AllByRecursion Plain part.now × ((Cut 44 (left before) part.now (left after) × (after.due ≡ Due.Value)) ⊎ ((left before ≡ part.now) × (after.due ≡ Due.Nothing)))

-- line has no next token
abbrev pub Stuck : Line → Type 0
Stuck line = (token : Token) (after : Line) → Takes line token after → ⊥

-- the next token of the line before, if there is one; without one, the line stays as it is
abbrev pub Gives : Line → Option Token → Line → Type 0
Gives before None after = Stuck before × (after ≡ before)
Gives before (Some token) after = Takes before token after

-- the next token of the line before is a value that writes n
abbrev pub TakesNumber : Line → ℕ → Line → Type 0
TakesNumber before n after = (part : Bytes) × Takes before (Value part) after × Numeral part.now n

-- what is left of the line is the values that write ns, and no more
abbrev pub LeftNumbers : Line → List ℕ → Type 0
LeftNumbers line ns = ((line.due ≡ Due.Value) × Numbers (left line) ns) ⊎ ((line.due ≡ Due.Nothing) × (ns ≡ []))

-- what is left of the line is one value, the letter
abbrev pub LeftLetter : Line → ℕ → Type 0
LeftLetter line letter = (line.due ≡ Due.Value) × OneLetter (left line) letter

-- byte is a character of the class
abbrev pub OfClass : Class → ℕ → Type 0
OfClass Digit byte = IsInRange 48 57 byte
OfClass Comma byte = byte ≡ 44
OfClass Letter byte = IsInRange 97 122 byte
OfClass Other byte = (Plain byte → ⊥) × (byte ≢ 44)

-- the first n bytes are digits and letters, and a comma or the end comes after them
pub record PlainUpTo (bytes : List ℕ) (n : ℕ) : Type 0 where
  pub within : n ≤ length bytes
  pub plain : AllByRecursion Plain (take n bytes)
  pub comma : n < length bytes → slice_index bytes n ≡ 44

-- a character that is no digit, letter or comma stands in bytes, and only digits and letters before it
pub record Stray (bytes : List ℕ) : Type 0 where
  pub front : List ℕ
  pub odd : ℕ
  pub rest : List ℕ
  pub whole : bytes ≡ front ++ (odd ∷ rest)
  pub plain : AllByRecursion Plain front
  pub not_plain : Plain odd → ⊥
  pub not_comma : odd ≡ 44 → ⊥
