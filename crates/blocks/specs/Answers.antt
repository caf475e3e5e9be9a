-- What a block's check answers, with document 01's number for each answer.
use Rattle.std.specs.Prelude.{ℕ, cond, List, eqb, Result}
use Rattle.base.specs.declared.Refusal.{Refusal}
use Rattle.base.specs.Grounds.{refusal, answer, number}
use Rattle.blocks.specs.declared.BlockKind.{BlockKind}
use Rattle.blocks.specs.declared.BlockKind.TheVariants.{Network, Steps, Tick}
use Rattle.blocks.specs.Blocks.{block_kind, content_grounds, block_grounds}

-- document 01's number for each answer: 0 where the block is accepted
abbrev pub block_number : Result BlockKind Refusal → ℕ
block_number a = number a

-- what an accepted block is
abbrev pub accepted_as : List ℕ → BlockKind
accepted_as b = cond (eqb (block_kind b) 1) Network (cond (eqb (block_kind b) 2) Steps Tick)

-- by the grounds of a block's content alone
unfoldable pub content_answer : List ℕ → Result BlockKind Refusal
content_answer b = answer (refusal (content_grounds b)) (accepted_as b)

unfoldable pub block_answer : ℕ → List ℕ → Result BlockKind Refusal
block_answer place b = answer (refusal (block_grounds place b)) (accepted_as b)
