use Rattle.replies.proofs.OneAnswer.{replies_agree}
use Rattle.replies.proofs.agreeing.replies_agree.Goals as goal

pub returns : goal.returns
returns c = replies_agree
