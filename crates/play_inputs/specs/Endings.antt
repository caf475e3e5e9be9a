-- How playing an input may end.
use Rattle.std.specs.Prelude.{Bool, true, false, not, Result, Ok, Err}
use Rattle.play_inputs.specs.declared.PlayError.{PlayError}
use Rattle.play_inputs.specs.declared.PlayError.TheVariants.{Differs, ReadFailed, WriteFailed, Cut}

-- only a log that is compared differs, only one that is written fails to be written, and no input is cut by the loop's bound
abbrev pub can_end : Bool → Result Unit PlayError → Bool
can_end compare (Ok u) = true
can_end compare (Err Differs) = compare
can_end compare (Err ReadFailed) = true
can_end compare (Err WriteFailed) = not compare
can_end compare (Err Cut) = false
