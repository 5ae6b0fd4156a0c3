-- Only digits and letters stand before the place that the loop has come to.
use Rattle.std.proofs.Common.{take}
use Rattle.std.specs.List.{AllByRecursion}
use Rattle.tokens.specs.Values.{Plain}
use Rattle.tokens.proofs.line.value_length.Given as goal

abbrev pub invariant-loop-place : goal.invariant-loop-place
invariant-loop-place l = AllByRecursion Plain (take l.place l.bytes)
