use Rattle.std.proofs.Common.{refl, inr}
use Rattle.std.proofs.lemmas.Result.{IfOk-weaker}
use Rattle.replies.proofs.board.Board.answer_line.Goals as goal

pub returns-in-Err-clause-line : goal.returns-in-Err-clause-line
returns-in-Err-clause-line g c =
    IfOk-weaker c.say.result _ _
    (λ x wrote. inr (record { why = c.in-Err.refusal; reads = c.in-Err.ensures; wrote = wrote; same_sheet = refl; same_halls = refl }))
    c.say.ensures
