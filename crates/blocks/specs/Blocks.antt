-- A block's bytes, its check, its grounds in order, the table and the records that it holds.
use Rattle.std.specs.Prelude.{ℕ, suc, ◌+◌, ◌*◌, Bool, cond, not, ◌&&◌, ◌||◌, List, [], ◌∷◌, map, length, take, drop, get_or, leb, eqb}
use Rattle.std.proofs.Math.Seq.{slice}
use Rattle.base.specs.Lists.{all, parts}
use Rattle.base.specs.Grounds.{Ground, ◌when◌}
use Rattle.base.specs.declared.Refusal.TheVariants.{NotABlock, WrongCheck, WrongHead, UnusedByte}
use Rattle.chassis.specs.declared.Bridge.{Bridge}
use Rattle.chassis.specs.declared.Table.{Table}
use Rattle.chassis.specs.Numbers.{bus}
use Rattle.chassis.specs.Tables.{table_grounds}
use Rattle.chassis.specs.Capacities.{most_records}

-- byte i
abbrev pub byte : List ℕ → ℕ → ℕ
byte b i = get_or b i 0

-- two bytes and four bytes, low byte first
abbrev pub two_bytes : List ℕ → ℕ → ℕ
two_bytes b i = byte b i + 256 * byte b (i + 1)

abbrev pub four_bytes : List ℕ → ℕ → ℕ
four_bytes b i = two_bytes b i + 65536 * two_bytes b (i + 2)

-- byte 0 kind, byte 1 record count, bytes 2 and 3 the block's place in the input
abbrev pub block_kind : List ℕ → ℕ
block_kind b = byte b 0

abbrev pub record_count : List ℕ → ℕ
record_count b = byte b 1

abbrev pub block_place : List ℕ → ℕ
block_place b = two_bytes b 2

-- the sum over places of (place + 1) times the byte there; weights count from w
unfoldable pub weighed : ℕ → List ℕ → ℕ
weighed w [] = 0
weighed w (x ∷ xs) = w * x + weighed (suc w) xs

-- bytes 508 to 511 hold the check: the sum over places i from 0 to 507 of (i + 1) times byte i
unfoldable pub check_is_right : List ℕ → Bool
check_is_right b = eqb (weighed 1 (take 508 b)) (four_bytes b 508)

unfoldable pub all_zero : List ℕ → Bool
all_zero l = all (λ x. eqb x 0) l

-- table: place 0 only, count 0; single steps and a tick: later places, count 0 to 63
unfoldable pub kind_place_count_are_right : ℕ → List ℕ → Bool
kind_place_count_are_right place b =
    eqb (block_place b) place
    && cond (eqb (block_kind b) 1)
    (eqb place 0 && eqb (record_count b) 0)
    ((eqb (block_kind b) 2 || eqb (block_kind b) 3) && not (eqb place 0) && leb (record_count b) most_records)

-- pairs of bytes as bridge records
unfoldable pub bridge_records : List ℕ → List Bridge
bridge_records [] = []
bridge_records (x ∷ []) = []
bridge_records (x ∷ y ∷ l) = record { first = bus x; second = bus y } ∷ bridge_records l

-- bytes 4 to 9 are buses, bridges, agents, and the limits for P, R, C; 16 to 45 the bridges' bus pairs; 48 to 79 the
-- agents' buses
unfoldable pub table_of : List ℕ → Table
table_of b = record {
  buses = byte b 4;
  bridges = byte b 5;
  agents = byte b 6;
  limits = slice 7 10 b;
  pairs = bridge_records (slice 16 46 b);
  homes = map bus (slice 48 80 b);
}

-- all else is 0 (unused bridges and agents are `unused_are_zero` of the table)
unfoldable pub stray_in_table : List ℕ → Bool
stray_in_table b = not (all_zero (slice 10 16 b) && all_zero (slice 46 48 b) && all_zero (slice 80 508 b))

-- 24 of an event block looks only behind the last record
unfoldable pub stray_behind_records : List ℕ → Bool
stray_behind_records b = not (all_zero (slice (4 + 8 * record_count b) 508 b))

-- the records of a block begin at its byte 4, eight bytes each
unfoldable pub record_bytes : List ℕ → List ℕ
record_bytes b = take (8 * record_count b) (drop 4 b)

unfoldable pub block_records : List ℕ → List (List ℕ)
block_records b = parts (record_count b) 8 (record_bytes b)

-- tables 23 to 27, event blocks 24 only
unfoldable pub content_grounds : List ℕ → List Ground
content_grounds b =
    cond (eqb (block_kind b) 1) (table_grounds (table_of b) (stray_in_table b)) (UnusedByte when stray_behind_records b ∷ [])

unfoldable pub block_grounds : ℕ → List ℕ → List Ground
block_grounds place b =
    NotABlock when not (eqb (length b) 512)
    ∷ WrongCheck when not (check_is_right b)
    ∷ WrongHead when not (kind_place_count_are_right place b)
    ∷ content_grounds b
