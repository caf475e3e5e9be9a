-- `back_or` tells what its definition tells.
use Rattle.read_events.specs.Frames.{back_or}
use Rattle.base.proofs.Cases.{cases}
use Rattle.read_events.proofs.sights.back_or.Goals as goal

pub returns-then-is_master : goal.returns-then-is_master
unfolding back_or
returns-then-is_master c = search cases

pub returns-else-is_master : goal.returns-else-is_master
unfolding back_or
returns-else-is_master c = search cases
