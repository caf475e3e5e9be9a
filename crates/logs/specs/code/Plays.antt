-- The `e` lines of a block of single steps, from its records and from the refusals and values that playing them left.
use Rattle.std.specs.Prelude.{ℕ, zero, suc, ◌*◌, List, [], ◌++◌, get_or}
use Rattle.blocks.specs.Blocks.{byte}
use Rattle.events.specs.Reads.{Read, block_of, place_of, kind_byte}
use Rattle.lines.specs.Lines.{Line, e, text}

-- the lines of k records from place i on
unfoldable pub step_texts : ℕ → List ℕ → List ℕ → List ℕ → ℕ → ℕ → List ℕ
step_texts block r refusals values zero i = []
step_texts block r refusals values (suc k) i =
    text (e block i (byte r (8 * i)) (get_or refusals i 0) (get_or values i 0)) ++ step_texts block r refusals values k (suc i)

-- the line of a record, by what was read of it
abbrev pub read_line : Read → ℕ → ℕ → Line
read_line x refusal value = e (block_of x) (place_of x) (kind_byte x) refusal value
