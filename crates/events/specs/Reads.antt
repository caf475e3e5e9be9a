-- A record as a block holds it: an event in its step record, or, of a record that is none, what its line needs.
use Rattle.std.specs.Prelude.{ℕ, List, None, Some, Result, Ok, Err}
use Rattle.events.specs.declared.Step.{Step}
use Rattle.events.specs.declared.Unfit.{Unfit}
use Rattle.events.specs.Records.{Decoded, byte, decoded, kind_number}

abbrev pub Read : Type 0
Read = Result Step Unfit

abbrev pub read_as : ℕ → ℕ → ℕ → Decoded → Read
read_as block place kind (Some e) = Ok (record { block = block; place = place; event = e })
read_as block place kind None = Err (record { block = block; place = place; kind = kind })

-- the eight bytes of record `place` of a block
unfoldable pub read_at : ℕ → ℕ → List ℕ → Read
read_at block place b = read_as block place (byte b 0) (decoded b)

-- what it says, and its block, its place and its kind
abbrev pub decoded_of : Read → Decoded
decoded_of (Ok s) = Some s.event
decoded_of (Err u) = None

abbrev pub block_of : Read → ℕ
block_of (Ok s) = s.block
block_of (Err u) = u.block

abbrev pub place_of : Read → ℕ
place_of (Ok s) = s.place
place_of (Err u) = u.place

abbrev pub kind_byte : Read → ℕ
kind_byte (Ok s) = kind_number s.event
kind_byte (Err u) = u.kind
