-- No more streams differ than were played, and there are as many as names.
use Rattle.std.proofs.Common.{◌+◌, ◌≤◌}
use Rattle.replay.proofs.main.Given as goal

abbrev pub invariant-loop-name : goal.invariant-loop-name
invariant-loop-name l = (goal.iterator-loop-name.can_next l.name-iterator)
    × (goal.iterator-loop-name.is_finite l.name-iterator)
    × (l.differ + goal.iterator-loop-name.remaining l.name-iterator ≤ l.streams)
