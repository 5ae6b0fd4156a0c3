-- The numbers that were read are those of an order. Assumes nothing.
use Rattle.std.proofs.Common.{◌≡◌, ℕ, List, [], ◌∷◌, length, get_or, Some, refl, subst}
use Rattle.tokens.specs.Taken.{left, LeftNumbers}
use Rattle.tokens.specs.Values.{Numbers}
use Rattle.tokens.specs.declared.line.Due.{Due}
use Rattle.tokens.specs.declared.line.Line.{Line}
use Rattle.tokens.proofs.Reading.{numbers_read}
use Rattle.order_text.proofs.Spelling.{From, is_word}

-- where a value is due, the numbers that are left are those found
read_from :
    (line : Line) (k : ℕ) (found wanted : List ℕ) → line.due ≡ Due.Value → (length found ≡ k) × LeftNumbers line found
    → From found 0 wanted → Numbers (left line) wanted
read_from line k found wanted due told are =
    subst (Numbers (left line)) (is_word found wanted are) (numbers_read line k (Some found) due told).1

-- one, two or three of them
pub one_read : (line : Line) (found : List ℕ) → line.due ≡ Due.Value → (length found ≡ 1) × LeftNumbers line found → Numbers (left line) (get_or found 0 0 ∷ [])
one_read line found due told = read_from line 1 found (get_or found 0 0 ∷ []) due told (refl, told.0)

pub two_read :
    (line : Line) (found : List ℕ) → line.due ≡ Due.Value → (length found ≡ 2) × LeftNumbers line found
    → Numbers (left line) (get_or found 0 0 ∷ get_or found 1 0 ∷ [])
two_read line found due told = read_from line 2 found (get_or found 0 0 ∷ get_or found 1 0 ∷ []) due told (refl, (refl, told.0))

pub three_read :
    (line : Line) (found : List ℕ) → line.due ≡ Due.Value → (length found ≡ 3) × LeftNumbers line found
    → Numbers (left line) (get_or found 0 0 ∷ get_or found 1 0 ∷ get_or found 2 0 ∷ [])
three_read line found due told = read_from line 3 found (get_or found 0 0 ∷ get_or found 1 0 ∷ get_or found 2 0 ∷ []) due told (refl, (refl, (refl, told.0)))
