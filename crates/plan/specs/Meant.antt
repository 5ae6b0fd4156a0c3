-- What a draft and a plan mean: what was entered. Assumes nothing.
use Rattle.layout.specs.Plant.{Plant}
use Rattle.plan.specs.Drawn.{drawn}
use Rattle.plan.specs.declared.draft.Draft.{Draft}
use Rattle.plan.specs.declared.draft.Plan.{Plan}

-- what was entered into a draft so far
abbrev pub sketched : Draft → Plant
sketched d = drawn d.drawing

-- what a plan means
abbrev pub planned : Plan → Plant
planned p = drawn p.drawing
