-- What the channels answer, put together.
use Rattle.lent_plays.specs.Asks.{plan_seen}
use Rattle.lent_plays.proofs.judging.plan_in.Goals as goal

pub returns : goal.returns
unfolding plan_seen
returns c =
    rw (c.judge.ensures, c.count_in-count.ensures, c.is_full-full.ensures, c.is_some.ensures, c.first_c_at-oldest.ensures, c.look_at-answer.ensures, c.look_at-waits.ensures, c.filling_at-filled.ensures, c.asks_of-k.ensures)
