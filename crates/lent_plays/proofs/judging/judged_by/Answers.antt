-- The lent hop table finds every next place of the state's table.
use Rattle.lent_plays.proofs.judging.judged_by.Goals as goal

pub judged_in-requires-clause-finds : goal.judged_in-requires-clause-finds
judged_in-requires-clause-finds c = λ N a h i. ((c.requires.1, h, i), λ x e. e.3)
