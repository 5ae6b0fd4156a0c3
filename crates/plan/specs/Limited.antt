-- The limits hold of every draft and of every plan. Assumes nothing.
use Rattle.layout.specs.Plant.{Sound}
use Rattle.plan.specs.Meant.{sketched, planned}
use Rattle.plan.specs.declared.draft.Draft.{Draft}
use Rattle.plan.specs.declared.draft.Plan.{Plan}

pub sketch_sound : (d : Draft) → Sound (sketched d)
sketch_sound d = d.drawing.sound

pub plan_sound : (p : Plan) → Sound (planned p)
plan_sound p = p.drawing.sound
