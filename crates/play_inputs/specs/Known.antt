-- What is known of an input and its log, where the reader says which bytes it has left and the writer which it holds.
use Rattle.std.specs.Prelude.{◌≡◌, ℕ, ◌<◌, Bool, true, false, List, take, length, ⊤, Option, Some, None, Result, Ok, Err}
use Rattle.std.specs.Io.{StartsWith}
use Rattle.std.specs.Io.KnownBytes.{Appends, Consumes, IsAtEnd, Keeps}
use Rattle.logs.specs.Logs.{log}
use Rattle.play_inputs.specs.declared.Log.{Log}
use Rattle.play_inputs.specs.declared.Log.TheVariants.{Written, Compared}
use Rattle.play_inputs.specs.declared.PlayError.{PlayError}

-- one read brought what the reader had next, and no byte only at its end or where there was no room; a failed one took none
abbrev pub PartRead : Option (List ℕ) → Option (List ℕ) → Option ℕ → List ℕ → Type 0
PartRead old new (Some n) part = Consumes old new (take n part) × (n ≡ 0 → 0 < length part → IsAtEnd new)
PartRead old new None part = Keeps old new

-- the reads of a block brought what the reader had next, and fewer bytes than there was room for only at its end
abbrev pub BlockRead : Option (List ℕ) → Option (List ℕ) → Option ℕ → List ℕ → Type 0
BlockRead old new (Some n) block = Consumes old new (take n block) × (n < length block → IsAtEnd new)
BlockRead old new None block = ⊤

-- one write took the text's beginning; a failed one took nothing
abbrev pub PartWritten : Option (List ℕ) → Option (List ℕ) → Option ℕ → List ℕ → Type 0
PartWritten old new (Some n) part = Appends old new (take n part)
PartWritten old new None part = Keeps old new

-- a text was written, or as much of it as could be
abbrev pub TextWritten : Option (List ℕ) → Option (List ℕ) → Result Unit PlayError → List ℕ → Type 0
TextWritten old new (Ok u) text = Appends old new text
TextWritten old new (Err e) text = (bs : List ℕ) × Appends old new bs × StartsWith text bs

module _ {W S : Type 0} where
  -- the log is compared, not written
  abbrev pub is_compared : Log W S → Bool
  is_compared (Written w) = false
  is_compared (Compared s) = true

  module _ (contents : W → Option (List ℕ)) (remaining : S → Option (List ℕ)) where
    -- a log that is written gets these bytes; of one that is compared they were what came next
    abbrev pub Took : Log W S → Log W S → List ℕ → Type 0
    Took (Written w) (Written v) bs = Appends (contents w) (contents v) bs
    Took (Written w) (Compared r) bs = ⊥
    Took (Compared s) (Written v) bs = ⊥
    Took (Compared s) (Compared r) bs = Consumes (remaining s) (remaining r) bs

    -- nothing is left of a log that is compared
    abbrev pub IsOver : Log W S → Type 0
    IsOver (Written w) = ⊤
    IsOver (Compared s) = IsAtEnd (remaining s)

    -- a log that is written gets no byte but those of the text's beginning
    abbrev pub TookPart : Log W S → Log W S → List ℕ → Type 0
    TookPart (Written w) (Written v) text = (bs : List ℕ) × Appends (contents w) (contents v) bs × StartsWith text bs
    TookPart (Written w) (Compared r) text = ⊥
    TookPart (Compared s) (Written v) text = ⊥
    TookPart (Compared s) (Compared r) text = ⊤

    -- a part of the log was handed on, or as much of it as could be
    abbrev pub HandedOn : Result Unit PlayError → Log W S → Log W S → List ℕ → Type 0
    HandedOn (Ok u) old new text = Took old new text
    HandedOn (Err e) old new text = TookPart old new text

    -- how a log ended: of a text that was played to its end all was taken and nothing is left; and whatever went wrong, nothing
    -- was written but the text's beginning
    abbrev pub EndedAs : Result Unit PlayError → Log W S → Log W S → List ℕ → Type 0
    EndedAs (Ok u) old new text = Took old new text × IsOver new
    EndedAs (Err e) old new text = TookPart old new text

    -- an input ended so, and the text is its log
    abbrev pub EndedWithLog : Result Unit PlayError → Log W S → Log W S → List ℕ → Type 0
    EndedWithLog played old new input = EndedAs played old new (log input)
