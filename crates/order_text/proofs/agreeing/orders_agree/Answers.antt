use Rattle.order_text.proofs.OneOrder.{orders_agree, answers_agree}
use Rattle.order_text.proofs.agreeing.orders_agree.Goals as goal

pub returns : goal.returns
returns c = record { orders = orders_agree; answers = answers_agree }
