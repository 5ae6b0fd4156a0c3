use Rattle.plan_text.proofs.OneReading.{readings_agree}
use Rattle.plan_text.proofs.agreeing.readings_agree.Goals as goal

pub returns : goal.returns
returns c = readings_agree
