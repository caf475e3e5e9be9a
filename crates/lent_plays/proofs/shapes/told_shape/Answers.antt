-- The type says it of a parameter.
use Rattle.network.proofs.OfType.{of_type}
use Rattle.lent_plays.proofs.shapes.told_shape.Goals as goal

pub returns : goal.returns
returns c = of_type c.args.s _ c.well_formed.0
