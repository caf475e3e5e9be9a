-- A block's bytes, one turn of a loop over them each; and each record of a block by its place.
-- The idea: what a loop has still to do from place i on is what the byte at i adds, and what it has to do from i + 1 on.
use Prim.Native.Nat.{ℕ, suc, ◌+◌, ◌*◌, ◌<◌, ◌≤◌}
use mathlib.Core.Path.{◌≡◌}
use mathlib.Core.List.{List, [], ◌∷◌, map}
use native.Mathlib.Numerals.{add-one}
use native.Mathlib.Nat.{mul-le-mul}
use native.Mathlib.Omega.{arith}
use lib.ListN.{length, get_or, take, drop}
use lib.Seq.{drop-cons, slice, slice-cons}
use Rattle.base.proofs.Writing.{length_parts, part_at}
use Rattle.chassis.specs.Numbers.{bus}
use Rattle.blocks.specs.Blocks.{weighed, bridge_records, record_count, record_bytes, block_records}

pub weighed_turn : (w i : ℕ) (l : List ℕ) → i < length l → weighed w (drop i l) ≡ w * get_or l i 0 + weighed (w + 1) (drop (i + 1) l)
unfolding weighed
weighed_turn w i l h = rw (drop-cons l i 0, add-one w, add-one i)

-- what one byte adds to the check
pub weight_small : (w x : ℕ) → w ≤ 508 → x ≤ 255 → w * x ≤ 129540
weight_small w x h g = mul-le-mul h g

module _ (l : List ℕ) (n i : ℕ) where
  pub homes_turn : i < n → n ≤ length l → map bus (slice i n l) ≡ bus (get_or l i 0) ∷ map bus (slice (i + 1) n l)
  homes_turn h k = rw (slice-cons i n l 0, add-one)

  pub bridges_turn : i + 1 < n → n ≤ length l
      → bridge_records (slice i n l) ≡ record { first = bus (get_or l i 0); second = bus (get_or l (i + 1) 0) } ∷ bridge_records (slice (i + 2) n l)
  unfolding bridge_records
  bridges_turn h k =
      let a : i < n = omega arith in
      let b : suc i < n = omega arith in
      let e : i + 1 ≡ suc i = omega arith in
      let f : i + 2 ≡ suc (suc i) = omega arith in
      rw (slice-cons i n l 0, slice-cons (suc i) n l 0, e, f)

-- "The records of a block begin at its byte 4, eight bytes each"
pub count_of_records : (b : List ℕ) → length (block_records b) ≡ record_count b
unfolding block_records
count_of_records b = length_parts (record_count b) 8 (record_bytes b)

pub record_of_block : (b : List ℕ) (i : ℕ) → i < record_count b → get_or (block_records b) i [] ≡ take 8 (drop (8 * i) (record_bytes b))
unfolding block_records
record_of_block b i h = part_at (record_count b) 8 (record_bytes b) i h
