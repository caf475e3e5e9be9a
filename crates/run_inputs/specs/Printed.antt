-- A text printed into a buffer of any length.
use Rattle.std.specs.Prelude.{List, ◌++◌, ℕ, length, take, drop}

-- the buffer gets as much of the text as it holds; what stood behind the text stays
abbrev pub printed_into : List ℕ → List ℕ → List ℕ
printed_into buffer text = take (length buffer) text ++ drop (length text) buffer
