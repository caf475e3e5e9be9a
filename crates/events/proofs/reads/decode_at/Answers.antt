-- `decode_at` reads record i of a block.
-- The idea: its first byte stands eight bytes a record from the start (`first_byte`).
use mathlib.Core.Path.{◌∙◌}
use Rattle.events.specs.Reads.{read_at}
use Rattle.events.proofs.Reading.{first_byte}
use Rattle.events.proofs.reads.decode_at.Goals as goal

pub returns : goal.returns
unfolding read_at
returns c = c.read_as.ensures ∙ rw (c.record_at.ensures, first_byte)
