-- The hop table, bridge by bridge: before each the labels and the table are those over the bridges before it. Each turn is a
-- law of proofs/Bridged.antt.
use mathlib.Core.Path.{◌≡◌}
use Rattle.find_routes.specs.Crossings.{tabled, labelled, label_over, hop_over}
use Rattle.find_routes.proofs.hops.hops.Given as goal

abbrev pub invariant-loop-k : goal.invariant-loop-k
invariant-loop-k l = (l.labels ≡ labelled (label_over l.t l.k)) × (l.h ≡ tabled (hop_over l.t l.k))
