use Rattle.replies.proofs.answering.answer_by_kind.Goals as goal

pub returns-in-Time : goal.returns-in-Time
returns-in-Time g c = rw c.in-Time.is c.answer_by.ensures

pub returns-in-Clearance : goal.returns-in-Clearance
returns-in-Clearance g c = rw c.in-Clearance.is c.answer_by-in-Clearance.ensures

pub returns-in-TimeThenTurns : goal.returns-in-TimeThenTurns
returns-in-TimeThenTurns g c = rw c.in-TimeThenTurns.is c.answer_by-in-TimeThenTurns.ensures
