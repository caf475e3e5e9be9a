-- What judging a record says: why it is refused, or its frame, its next place and its plan.
use Rattle.std.specs.Prelude.{None, Some, Result, Err}
use Rattle.base.specs.declared.Refusal.{Refusal}
use Rattle.base.specs.declared.Refusal.TheVariants.{UnfitRecord}
use Rattle.base.specs.Grounds.{refusal, answer}
use Rattle.network.specs.Nets.{Net}
use Rattle.events.specs.Records.{Decoded}
use Rattle.events.specs.Grounds.{grounds}
use Rattle.read_events.specs.Frames.{own_frame, next_of}
use Rattle.judge_events.specs.Plans.{accepted_plan}
use Rattle.lent_plays.specs.declared.Judged.{Judged}

unfoldable pub judged_of : Net → Decoded → Result Judged Refusal
judged_of s None = Err UnfitRecord
judged_of s (Some e) = answer (refusal (grounds s e)) (record { frame = own_frame e; next = next_of s e; plan = accepted_plan s e })
