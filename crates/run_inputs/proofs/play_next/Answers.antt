-- `play_next` does with the next bytes what the definition does.
-- The idea: `is_end` says which of the two they are.
use mathlib.Core.Path.{sym, ◌∙◌}
use borrow.Author.Rules.{rules}
use Rattle.run_inputs.proofs.Going.{end_later}
use Rattle.run_inputs.proofs.Places.{goes_early}
use Rattle.run_inputs.proofs.play_next.Goals as goal

pub entries_left-requires : goal.entries_left-requires
entries_left-requires c =
    let st = c in
    st.requires.1 (end_later st.args.place _ (sym c.is_end.ensures ∙ c.if-is_end.true))

pub returns-clause-place_bound : goal.returns-clause-place_bound
returns-clause-place_bound c =
    let is = sym c.is_end.ensures ∙ c.if-is_end.false in
    let early = goes_early c.args.place c.args.b.now (search rules) (search rules) in
    λ g. early (rw is (sym c.run_block.ensures.going_value ∙ g))
