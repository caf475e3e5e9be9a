-- The label at one place of the ladder, from the places before it.
-- `label_made` of proofs/Levels.antt; the places looked up are before it by `first_before` and `second_before`.
use native.Mathlib.Omega.{arith}
use Rattle.check_tables.proofs.Levels.{first_level, label_made}
use Rattle.check_tables.proofs.labels.label.Goals as goal

pub returns-then-i-lt16 : goal.returns-then-i-lt16
returns-then-i-lt16 c = first_level c.args.t c.args.i (omega arith)

pub returns : goal.returns
returns c =
    rw c.relabelled-r.ensures
    (label_made c.args.t c.requires.0 c.args.i (omega arith) c.requires.1 c.args.l.now c.requires.2)
