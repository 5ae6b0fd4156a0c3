-- The answers that calls get are the only ones. Assumes nothing.
use Rattle.std.proofs.Common.{◌≡◌, List, [], ◌∷◌, sym, ◌∙◌, subst}
use Rattle.measure.specs.Scale.{Scale, Lawful}
use Rattle.layout.specs.Plant.{Plant}
use Rattle.walks.specs.Book.{Call, Book, blank, after}
use Rattle.walks.specs.Orders.{Marks, all_lapsed, Leaves}
use Rattle.walks.specs.Answers.{Answer, Told}
use Rattle.walks.proofs.Left.{marks_left}
use Rattle.walks.proofs.Answering.{told_once}
use Rattle.corners.specs.Small.{small}
use Rattle.corners.specs.Corners.{Replies}
use Rattle.corners.proofs.Sound.{sound}

told_leaves :
    {T : Type 0} (m : Scale T) (plant : Plant) (calls : List Call) (answers : List (Answer T)) (b : Book) (k k' : Marks) →
    Told m plant b k calls answers k' → Leaves m plant b k calls k'
told_leaves m plant [] [] b k k' t = t
told_leaves m plant [] (a ∷ answers) b k k' t = absurd t
told_leaves m plant (call ∷ calls) [] b k k' t = absurd t
told_leaves m plant (call ∷ calls) (a ∷ answers) b k k' t =
    (t.0, t.1, told_leaves m plant calls answers (after plant b call) t.0 k' t.3)

pub replies :
    {T : Type 0} {m : Scale T} → Lawful m → (calls : List Call) (answers : List (Answer T)) (k : Marks) →
    Told m small blank all_lapsed calls answers k → Replies m calls answers
replies {T} {m} laws calls answers k told = record { left = k; told = told; only = only }
  where
    only : (others : List (Answer T)) (k' : Marks) → Told m small blank all_lapsed calls others k' → others ≡ answers
    only others k' t =
        let left = marks_left laws small sound calls in
        let here = told_leaves m small calls answers blank all_lapsed k told in
        let same : k' ≡ k = left.2 k' (told_leaves m small calls others blank all_lapsed k' t) ∙ sym (left.2 k here) in
        let once = told_once laws small sound calls k here in
        once.2 others (subst (Told m small blank all_lapsed calls others) same t) ∙ sym (once.2 answers told)
