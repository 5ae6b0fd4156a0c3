-- Orders by time once hall 1 is renewed. Assumes nothing.
use Rattle.std.proofs.Common.{ℕ, Bool, true, [], ◌∷◌, refl, ap}
use Rattle.measure.specs.Kinds.{time_scale}
use Rattle.measure.specs.Lawfulness.{time_lawful}
use Rattle.walks.specs.Book.{set, blank, with_book, put}
use Rattle.walks.specs.Orders.{Marks, all_lapsed, lapsed, lapsing, Renewed}
use Rattle.walks.specs.Answers.{halls, legs}
use Rattle.walks.proofs.Entries.{put_other}
use Rattle.corners.specs.Small.{small}
use Rattle.corners.specs.Corners.{among, Replies, renew_hall}
use Rattle.corners.proofs.Times.{by_time}
use Rattle.corners.proofs.Replying.{replies}

abbrev flagged : ℕ → Bool
flagged = among (0 ∷ 1 ∷ 4 ∷ 5 ∷ [])

-- the marks that renewing hall 1 leaves
abbrev marks : Marks
marks = record { force = put 1 true all_lapsed.force; marked = put 1 flagged all_lapsed.marked }

renewed : Renewed time_scale (with_book small blank) 1 all_lapsed marks
renewed = record {
  in_force = refl;
  exactly = by_time;
  others = λ h n. record {
    same_force = put_other 1 true all_lapsed.force h n;
    same_marks = λ e. ap (λ f. f e) (put_other 1 flagged all_lapsed.marked h n);
  };
}

-- and those after leg 3 is set to another class
abbrev marks_after : ℕ → Marks
marks_after class = lapsed (lapsing time_scale small blank marks (set 3 class 80)) marks

pub slower : Replies time_scale (renew_hall 1 ∷ set 3 0 80 ∷ []) (legs 4 ∷ halls 0 ∷ [])
slower =
    replies time_lawful (renew_hall 1 ∷ set 3 0 80 ∷ []) (legs 4 ∷ halls 0 ∷ []) (marks_after 0)
    (marks, renewed, refl, (marks_after 0, refl, refl, refl))

pub faster : Replies time_scale (renew_hall 1 ∷ set 3 7 80 ∷ []) (legs 4 ∷ halls 1 ∷ [])
faster =
    replies time_lawful (renew_hall 1 ∷ set 3 7 80 ∷ []) (legs 4 ∷ halls 1 ∷ []) (marks_after 7)
    (marks, renewed, refl, (marks_after 7, refl, refl, refl))
