-- How a text is cut at a byte: into lines at byte 10, a line at `=`, values at commas.
use Rattle.std.specs.Prelude.{◌≡◌, ℕ, ◌+◌, ◌<◌, ◌≤◌, List, ◌∷◌, ◌++◌, length, take, ◌≢◌, slice_index_or}
use Rattle.std.specs.List.{AllByRecursion}

-- the byte stands nowhere in bytes
abbrev pub Lacks : ℕ → List ℕ → Type 0
Lacks byte bytes = AllByRecursion (λ b. b ≢ byte) bytes

-- the byte first stands at place, counted from 0
pub record FirstAt (byte : ℕ) (bytes : List ℕ) (place : ℕ) : Type 0 where
  pub within : place < length bytes
  pub here : slice_index_or bytes place 0 ≡ byte
  pub before : Lacks byte (take place bytes)

-- the first such byte stands between front and rest
pub record Cut (byte : ℕ) (bytes front rest : List ℕ) : Type 0 where
  pub whole : bytes ≡ front ++ (byte ∷ rest)
  pub first : Lacks byte front

-- the most bytes that a line has before the byte 10 that ends it
abbrev pub longest_line : ℕ
longest_line = 40

-- line is the first line of text, and rest begins after the byte 10 that ends it
pub record FirstLine (text line rest : List ℕ) : Type 0 where
  pub ends : Cut 10 text line rest
  pub short : length line ≤ longest_line

-- text has no line: no byte 10 among its first 41 bytes, as many as the longest line has with its end
abbrev pub Endless : List ℕ → Type 0
Endless text = Lacks 10 (take (longest_line + 1) text)

-- key stands before the first `=` of line, and value after it
abbrev pub Keyed : List ℕ → List ℕ → List ℕ → Type 0
Keyed line key value = Cut 61 line key value

-- line has no `=`, and so no key
abbrev pub Keyless : List ℕ → Type 0
Keyless line = Lacks 61 line
