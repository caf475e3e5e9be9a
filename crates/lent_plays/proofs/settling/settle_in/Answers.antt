-- A plan is carried out act by act, then the count.
use Rattle.lent_plays.specs.Asks.{settled}
use Rattle.lent_plays.proofs.settling.settle_in.Goals as goal

pub returns : goal.returns
unfolding settled
returns c = rw (c.put_count.ensures, c.raised.ensures, c.count_in-count.ensures, c.act_at-3.ensures, c.act_at-2.ensures, c.act_at.ensures)
