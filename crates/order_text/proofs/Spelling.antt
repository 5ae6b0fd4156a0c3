-- Bytes that are known one by one. Assumes nothing.
use Rattle.std.proofs.Common.{◌≡◌, ℕ, ◌+◌, ◌<◌, ◌≤◌, List, [], ◌∷◌, length, get_or, drop, ◌∙◌, arith}
use Rattle.std.proofs.lemmas.List.{drop_more, drop_all}

-- from place i on, bytes are those of the word, and no more
abbrev pub From : List ℕ → ℕ → List ℕ → Type 0
From bytes i [] = length bytes ≡ i
From bytes i (b ∷ word) = (get_or bytes i 0 ≡ b) × From bytes (i + 1) word

within : (bytes : List ℕ) (i : ℕ) (word : List ℕ) → From bytes i word → i ≤ length bytes
within bytes i [] h = omega arith
within bytes i (b ∷ word) h = let more = within bytes (i + 1) word h.1 in omega arith

rest_is : (bytes : List ℕ) (i : ℕ) (word : List ℕ) → From bytes i word → drop i bytes ≡ word
rest_is bytes i [] h = drop_all i bytes (omega arith)
rest_is bytes i (b ∷ word) h =
    let more = within bytes (i + 1) word h.1 in
    let inside : i < length bytes = omega arith in
    let here = h.0 in
    let rest = rest_is bytes (i + 1) word h.1 in
    drop_more bytes i 0 inside ∙ (λ j. here j ∷ rest j)

-- bytes that are those of the word one by one are the word
pub is_word : (bytes word : List ℕ) → From bytes 0 word → bytes ≡ word
is_word bytes word h = rest_is bytes 0 word h
