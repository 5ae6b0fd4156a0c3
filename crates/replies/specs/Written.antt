-- How replies are written. Assumes nothing.
use Rattle.std.specs.Prelude.{ℕ, List, [], ◌∷◌, ◌++◌, codes, decimal}
use Rattle.layout.specs.Refused.{refusal_written, in_line}
use Rattle.walks.specs.Answers.{Answer, halls, legs, found, refused}
use Rattle.replies.specs.declared.reply.Reply.{Reply}
use Rattle.replies.specs.declared.reply.Reply.TheVariants.{Plan, Lapsed, Marked, Refused}

-- the end of a line
abbrev pub end : List ℕ
end = 10 ∷ []

-- the bytes of a reply: one line of numbers for a plan, one number for an order, two lines for a refusal
abbrev pub written : Reply → List ℕ
written (Plan points belts rooms) = codes "plan=" ++ (decimal points ++ (codes "," ++ (decimal belts ++ (codes "," ++ (decimal rooms ++ end)))))
written (Lapsed n) = codes "lapsed=" ++ (decimal n ++ end)
written (Marked n) = codes "marked=" ++ (decimal n ++ end)
written (Refused r) = refusal_written r ++ end

-- numbers after a first one, each with its comma
abbrev pub followed : List ℕ → List ℕ
followed [] = []
followed (e ∷ es) = codes "," ++ (decimal e ++ followed es)

-- numbers with commas between them
abbrev pub listed : List ℕ → List ℕ
listed [] = []
listed (e ∷ es) = decimal e ++ followed es

-- the legs of a way, on a line
abbrev pub legs_written : List ℕ → List ℕ
legs_written way = codes "legs=" ++ (listed way ++ end)

-- a way that was found: its total, how many junctions were settled, and its legs, first leg first
abbrev pub way_written : {T : Type 0} → (T → List ℕ) → T → ℕ → List ℕ → List ℕ
way_written shows total settled way = codes "total=" ++ (shows total ++ (end ++ (codes "settled=" ++ (decimal settled ++ (end ++ legs_written way)))))

-- the answer to the order in the line of that number; totals are written as `shows` has them
abbrev pub written_answer : {T : Type 0} → (T → List ℕ) → ℕ → Answer T → List ℕ
written_answer shows line (halls n) = written (Lapsed n)
written_answer shows line (legs n) = written (Marked n)
written_answer shows line (found total settled way) = way_written shows total settled way
written_answer shows line (refused r) = written (Refused (in_line line r))

-- several replies, one after the other
abbrev pub written_all : List (List ℕ) → List ℕ
written_all [] = []
written_all (r ∷ rs) = r ++ written_all rs
