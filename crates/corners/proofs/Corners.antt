-- The eight corners together. Assumes nothing.
use Rattle.measure.proofs.Stops.{both_stop}
use Rattle.measure.specs.Kinds.{time_scale}
use Rattle.corners.specs.Corners.{Corners}
use Rattle.corners.proofs.Flags.{none_0}
use Rattle.corners.proofs.Times.{by_time, inside_only}
use Rattle.corners.proofs.Heights.{by_clearance}
use Rattle.corners.proofs.Routes.{high_way, fast_way}
use Rattle.corners.proofs.Renewing.{slower, faster}

pub corners : Corners
corners = record {
  by_time = by_time;
  by_clearance = by_clearance;
  high_way = high_way;
  fast_way = fast_way;
  slower = slower;
  faster = faster;
  no_entry = (none_0 time_scale, inside_only);
  both_stop = both_stop;
}
