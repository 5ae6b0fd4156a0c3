-- What holds of each of six legs and of every number past them holds of every number. Assumes nothing.
use Rattle.std.proofs.Common.{ℕ, zero, suc}

-- the numbers past the legs
abbrev pub past_legs : ℕ → ℕ
past_legs l = suc (suc (suc (suc (suc (suc l)))))

pub each : (P : ℕ → Type 0) → P 0 → P 1 → P 2 → P 3 → P 4 → P 5 → ((l : ℕ) → P (past_legs l)) → (e : ℕ) → P e
each P a b c d e f h zero = a
each P a b c d e f h (suc zero) = b
each P a b c d e f h (suc (suc zero)) = c
each P a b c d e f h (suc (suc (suc zero))) = d
each P a b c d e f h (suc (suc (suc (suc zero)))) = e
each P a b c d e f h (suc (suc (suc (suc (suc zero))))) = f
each P a b c d e f h (suc (suc (suc (suc (suc (suc l)))))) = h l
