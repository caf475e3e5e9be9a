-- Every bus has the label of bus 0 over all bridges.
-- What is left to test, tested from here, is the whole; labels are components by `joined_by_labels`.
use mathlib.Core.Path.{sym, ◌∙◌}
use native.Mathlib.Omega.{arith}
use borrow.Author.Rules.{rules}
use Rattle.base.proofs.Loops.{all_from_stop, all_from_on, all_from_over}
use Rattle.chassis.specs.Numbers.{bus}
use Rattle.check_tables.specs.Ladders.{share_label}
use Rattle.chassis.proofs.Counts.{counts}
use Rattle.check_tables.proofs.Levels.{joined_by_labels}
use Rattle.base.proofs.Cases.{by_call}
use Rattle.check_tables.proofs.tables.all_joined.Goals as goal

pub share_label-requires : goal.share_label-requires
share_label-requires c =
    let k = counts c.args.t c.requires.0.counts in
    (omega arith, omega arith, omega arith)

pub returns-then-not-share_label : goal.returns-then-not-share_label
returns-then-not-share_label c =
    let s = c in
    let l = c.loop-a in
    all_from_stop (λ b. share_label s.args.l.now s.args.t.bridges (bus b) (bus 0)) s.args.t.buses l.a (search rules) (by_call _ _ _ c.share_label.ensures c.if-not-share_label.true)
    ∙ l.invariant ∙ joined_by_labels s.args.t s.requires.0 s.args.l.now s.requires.1

pub loop-a-preserved : goal.loop-a-preserved
loop-a-preserved c =
    let s = c in
    let l = c.loop-a in
    all_from_on (λ b. share_label s.args.l.now s.args.t.bridges (bus b) (bus 0)) s.args.t.buses l.a (search rules) (by_call _ _ _ c.share_label.ensures c.if-not-share_label.false)
    ∙ l.invariant

pub returns : goal.returns
returns c =
    let s = c in
    let l = c.loop-a in
    sym (all_from_over (λ b. share_label s.args.l.now s.args.t.bridges (bus b) (bus 0)) s.args.t.buses l.a (search rules))
    ∙ l.invariant ∙ joined_by_labels s.args.t s.requires.0 s.args.l.now s.requires.1
