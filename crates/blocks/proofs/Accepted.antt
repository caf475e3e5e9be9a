-- What a block's answer says of its grounds, and what an accepted block is sure of: 512 bytes, at most 63 records, its kind.
-- The idea: accepted is that no ground holds.
use Prim.Native.Nat.{ℕ, ◌*◌, ◌≤◌}
use mathlib.Core.Path.{◌≡◌}
use mathlib.Core.Bool.{true, not, ◌&&◌, ◌||◌}
use mathlib.Core.List.{List}
use Rattle.std.specs.Prelude.{None, Some, Ok, Err}
use native.Mathlib.Omega.{arith}
use lib.ListN.{length, length-take, length-drop}
use lib.Dec.{eqb}
use borrow.Author.Tests.{eqb-true, leb-true, not-false}
use Rattle.base.specs.declared.Refusal.{Refusal}
use Rattle.base.specs.Grounds.{refusal, number_or_0}
use Rattle.base.proofs.Logic.{split, and_true}
use Rattle.base.proofs.Grounds.{clear, numbered, answered_ok, answered_err}
use Rattle.chassis.specs.Capacities.{most_records}
use Rattle.blocks.specs.declared.BlockKind.{BlockKind}
use Rattle.blocks.specs.Blocks.{block_kind, block_place, record_count, kind_place_count_are_right, block_grounds, record_bytes}
use Rattle.blocks.specs.Answers.{block_number, accepted_as, block_answer}

module _ (place : ℕ) (b : List ℕ) where
  pub refused_block : (n : Refusal) → block_answer place b ≡ Err n → refusal (block_grounds place b) ≡ Some n
  unfolding block_answer
  refused_block n e = answered_err (accepted_as b) (refusal (block_grounds place b)) e

  pub accepted_block : (k : BlockKind) → block_answer place b ≡ Ok k → (refusal (block_grounds place b) ≡ None) × (accepted_as b ≡ k)
  unfolding block_answer
  accepted_block k e =
      let n = answered_ok (accepted_as b) (refusal (block_grounds place b)) e in
      (n, cc)

  module _ (h : refusal (block_grounds place b) ≡ None) where
    pub accepted_length : length b ≡ 512
    unfolding block_grounds
    accepted_length = eqb-true (length b) 512 (not-false _ (clear (block_grounds place b) h).0)

    pub frame_is_right : kind_place_count_are_right place b ≡ true
    unfolding block_grounds
    frame_is_right = not-false _ (clear (block_grounds place b) h).1.1.0

    pub accepted_count : record_count b ≤ most_records
    unfolding kind_place_count_are_right
    accepted_count =
        let r = (and_true (eqb (block_place b) place) _ frame_is_right).1 in
        split (eqb (block_kind b) 1)
        (λ t. omega (arith, eqb-true (record_count b) 0 (and_true (eqb place 0) _ (rw t at r)).1))
        (λ f. leb-true (record_count b) most_records (and_true ((eqb (block_kind b) 2 || eqb (block_kind b) 3) && not (eqb place 0)) _ (rw f at r)).1)

-- so the record bytes are whole records
pub length_record_bytes : (b : List ℕ) → length b ≡ 512 → record_count b ≤ most_records → length (record_bytes b) ≡ 8 * record_count b
unfolding record_bytes
length_record_bytes b h k = rw (length-take, length-drop) (omega arith)

-- an answer's number is that of the first ground that holds, and 0 where none does
pub block_numbered : (place : ℕ) (b : List ℕ) → block_number (block_answer place b) ≡ number_or_0 (refusal (block_grounds place b))
unfolding block_answer
block_numbered place b = numbered (accepted_as b) (refusal (block_grounds place b))
