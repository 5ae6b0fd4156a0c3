use Rattle.search.proofs.Slots.{place_found}
use Rattle.search.proofs.queue.Queue.place.Goals as goal

pub returns : goal.returns
returns g c = rw c.place_of.ensures (place_found c.args.self.now.used c.args.self.now.slots.now c.args.number c.args.self.now.fits)
