-- The bytes of a way, piece by piece. Assumes nothing.
use Rattle.std.proofs.Common.{◌≡◌, ℕ, ◌+◌, ◌<◌, ◌≤◌, List, [], ◌∷◌, ◌++◌, length, get_or, take, codes, decimal, sym, refl, ap, ◌∙◌, append_assoc, append-nil}
use Rattle.std.proofs.lemmas.List.{take_all, take_more}
use Rattle.replies.specs.Written.{end, followed, legs_written, way_written}

followed_append : (xs ys : List ℕ) → followed (xs ++ ys) ≡ followed xs ++ followed ys
followed_append [] ys = refl
followed_append (x ∷ xs) ys =
    ap (λ l. 44 ∷ (decimal x ++ l)) (followed_append xs ys) ∙ ap (λ l. 44 ∷ l) (sym (append_assoc (decimal x) (followed xs) (followed ys)))

-- one leg more, after its comma
pub one_more : (es : List ℕ) (i : ℕ) → i < length es → followed (take i es) ++ (44 ∷ decimal (get_or es i 0)) ≡ followed (take (i + 1) es)
one_more es i below =
    let x = get_or es i 0 in
    let last : 44 ∷ decimal x ≡ followed (x ∷ []) = ap (λ l. 44 ∷ l) (sym (append-nil (decimal x))) in
    ap (λ l. followed (take i es) ++ l) last ∙ sym (followed_append (take i es) (x ∷ [])) ∙ ap followed (sym (take_more es i 0 below))

-- the first leg, those after it, and the end of the line
pub all_listed :
    (way rest : List ℕ) (first n : ℕ) → way ≡ first ∷ rest → length rest ≤ n
    → ((codes "legs=" ++ decimal first) ++ followed (take n rest)) ++ end ≡ legs_written way
all_listed way rest first n is long =
    ap (λ l. ((codes "legs=" ++ decimal first) ++ followed l) ++ end) (take_all n rest long)
    ∙ regroup (codes "legs=") (decimal first) (followed rest) end ∙ ap legs_written (sym is)
  where
    regroup : (a b c d : List ℕ) → ((a ++ b) ++ c) ++ d ≡ a ++ ((b ++ c) ++ d)
    regroup a b c d = simp append_assoc

-- the line of the total and that of the settled junctions come before the legs
pub way_told :
    {T : Type 0} (shows : T → List ℕ) (total : T) (settled : ℕ) (way : List ℕ)
    → (codes "total=" ++ (shows total ++ ((10 ∷ codes "settled=") ++ (decimal settled ++ end)))) ++ legs_written way ≡ way_written shows total settled way
way_told shows total settled way = regroup (codes "total=") (shows total) (10 ∷ codes "settled=") (decimal settled) end (legs_written way)
  where
    regroup : (a b c d e l : List ℕ) → (a ++ (b ++ (c ++ (d ++ e)))) ++ l ≡ a ++ (b ++ (c ++ (d ++ (e ++ l))))
    regroup a b c d e l = simp append_assoc
