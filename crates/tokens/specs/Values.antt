-- What a value writes: numbers with a comma between, or one letter.
use Rattle.std.specs.Prelude.{◌≡◌, ℕ, ◌<◌, ◌⊎◌, List, [], ◌∷◌, ◌++◌, decimal}
use Rattle.std.specs.Int.{IsInRange}
use Rattle.std.specs.List.{AllByRecursion}

-- a digit or a small letter, a to z
abbrev pub Plain : ℕ → Type 0
Plain byte = IsInRange 48 57 byte ⊎ IsInRange 97 122 byte

-- what a text can say is below 100,000: five digits
abbrev pub Small : ℕ → Type 0
Small n = n < 100000

-- digits write n in decimal: no leading zero, and 0 as `0`
abbrev pub Numeral : List ℕ → ℕ → Type 0
Numeral digits n = Small n × (digits ≡ decimal n)

-- n and then more, in decimal with a comma between
abbrev pub written : ℕ → List ℕ → List ℕ
written n [] = decimal n
written n (m ∷ more) = decimal n ++ (44 ∷ written m more)

-- value writes the numbers ns, of which there is one at least
abbrev pub Numbers : List ℕ → List ℕ → Type 0
Numbers value [] = ⊥
Numbers value (n ∷ ns) = AllByRecursion Small (n ∷ ns) × (value ≡ written n ns)

-- value is the one small letter
abbrev pub OneLetter : List ℕ → ℕ → Type 0
OneLetter value letter = IsInRange 97 122 letter × (value ≡ letter ∷ [])
