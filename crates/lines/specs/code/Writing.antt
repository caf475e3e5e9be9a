-- What a writer does to the buffer that it is lent.
use Rattle.std.specs.Prelude.{ℕ, ◌+◌, ◌≡◌, List, length}
use Rattle.std.proofs.lemmas.List.Edits.{sets}

-- `bytes` stand in the buffer from `at` on, all else is as before, and `end` is the place behind them
pub record Written (before : List ℕ) (at : ℕ) (bytes after : List ℕ) (end : ℕ) : Type 0 where
  pub behind : end ≡ at + length bytes
  pub stored : after ≡ sets before at bytes
