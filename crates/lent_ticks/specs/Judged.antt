-- What judging a record leaves: why it is refused alone, or its turn.
use Rattle.std.specs.Prelude.{None, Some, Result, Err}
use Rattle.base.specs.declared.Refusal.{Refusal}
use Rattle.base.specs.declared.Refusal.TheVariants.{UnfitRecord}
use Rattle.base.specs.Grounds.{refusal, answer}
use Rattle.network.specs.Nets.{Net}
use Rattle.events.specs.Records.{Decoded}
use Rattle.events.specs.Grounds.{grounds}
use Rattle.play_ticks.specs.declared.Turn.{Turn}
use Rattle.play_ticks.specs.Turns.{turn}

unfoldable pub turn_told : Net → Decoded → Result Turn Refusal
turn_told s None = Err UnfitRecord
turn_told s (Some e) = answer (refusal (grounds s e)) (turn s e)
