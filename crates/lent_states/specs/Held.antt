-- How many entries all channels hold together.
use Rattle.std.specs.Prelude.{ℕ, ◌+◌, List, [], ◌∷◌}
use Rattle.queue.specs.declared.Channel.{Channel}

unfoldable pub held : List Channel → ℕ
held [] = 0
held (c ∷ cs) = c.count + held cs
