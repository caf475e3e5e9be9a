-- No bridge joins two buses that those below it join.
-- A loop that bridge k closes stays: `closes_for_good` of proofs/Levels.antt.
use mathlib.Core.Path.{sym, ◌∙◌}
use native.Mathlib.Omega.{arith}
use borrow.Author.Rules.{rules}
use Rattle.base.proofs.Cases.{cases}
use Rattle.chassis.proofs.Counts.{counts}
use Rattle.check_tables.proofs.Levels.{first_low, second_low, closes_for_good, closes_not}
use Rattle.check_tables.proofs.tables.loop_free.Goals as goal

pub share_label-requires : goal.share_label-requires
share_label-requires c =
    let s = c in
    let k = s.loop-k.k in
    (omega (arith, counts s.args.t s.requires.0.counts), first_low s.args.t s.requires.0 k (search rules), second_low s.args.t s.requires.0 k (search rules))

pub returns-then-share_label : goal.returns-then-share_label
returns-then-share_label c = closes_for_good c.args.t c.requires.0 c.args.l.now c.requires.1 c.loop-k.k (search rules) (search cases)

pub loop-k-preserved : goal.loop-k-preserved
loop-k-preserved c = sym (closes_not c.args.t c.requires.0 c.args.l.now c.requires.1 c.loop-k.k (search rules) (search cases)) ∙ c.loop-k.invariant
