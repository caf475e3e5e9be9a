-- 16 in front.
use mathlib.Core.Path.{sym, ◌∙◌}
use Rattle.lent_plays.proofs.Stepped.{unsound_on, sound_on}
use Rattle.lent_plays.proofs.steps.step_on.Goals as goal

pub returns-then-not-is_sound_in : goal.returns-then-not-is_sound_in
returns-then-not-is_sound_in c = unsound_on c.args.s c.args.x.event (sym c.is_sound_in.ensures ∙ c.if-not-is_sound_in.true)

pub returns : goal.returns
returns c = c.inner_step.ensures ∙ sound_on c.args.s c.args.x.event (sym c.is_sound_in.ensures ∙ c.if-not-is_sound_in.false)
