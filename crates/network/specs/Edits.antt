-- What events do to a state is made of three edits.
use Rattle.std.specs.Prelude.{◌+◌, Bool, List, [], ◌∷◌, ◌++◌}
use Rattle.base.specs.Lists.{alter, modify}
use Rattle.chassis.specs.declared.Agent.{Agent}
use Rattle.chassis.specs.declared.Chan.{Chan}
use Rattle.queue.specs.declared.Entry.{Entry}
use Rattle.network.specs.Nets.{Net}

pub data Edit : Type 0 where
  -- new entries go behind all others
  add : Chan → Entry → Edit
  -- the oldest that passes gives way; a removal closes the gap
  change : Chan → (Entry → Bool) → (Entry → List Entry) → Edit
  -- the agent's count rises
  raise : Agent → Edit

unfoldable pub edit : Edit → Net → Net
edit (add N x) s = record { table = s.table; chans = modify s.chans N.0 (λ l. l ++ (x ∷ [])); begins = s.begins }
edit (change N p f) s = record { table = s.table; chans = modify s.chans N.0 (alter p f); begins = s.begins }
edit (raise a) s = record { table = s.table; chans = s.chans; begins = modify s.begins a.0 (λ n. n + 1) }

-- one after the other
unfoldable pub edits : List Edit → Net → Net
edits [] s = s
edits (d ∷ ds) s = edits ds (edit d s)
