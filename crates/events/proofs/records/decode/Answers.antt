-- `decode` reads off a record what its definition reads.
-- The idea: each return is a case of the definition, by the bytes that the branch has tested.
use Rattle.events.specs.Records.{decoded}
use Rattle.base.proofs.Cases.{cases}
use Rattle.events.proofs.records.decode.Goals as goal

pub returns-then-not-begin_unused_zero : goal.returns-then-not-begin_unused_zero
unfolding decoded
returns-then-not-begin_unused_zero c = search cases

pub returns-then-kind-lt4 : goal.returns-then-kind-lt4
unfolding decoded
returns-then-kind-lt4 c = search cases

pub returns-then-not-other_unused_zero : goal.returns-then-not-other_unused_zero
unfolding decoded
returns-then-not-other_unused_zero c = search cases

pub returns : goal.returns
unfolding decoded
returns c = search cases
