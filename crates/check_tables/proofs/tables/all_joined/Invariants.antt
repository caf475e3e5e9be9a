-- Every bus has the label of bus 0 over all bridges.
-- What is left to test, tested from here, is the whole; labels are components by `joined_by_labels`.
use Prim.Native.Nat.{◌-◌}
use mathlib.Core.Path.{◌≡◌}
use Rattle.base.specs.Lists.{all, from_to}
use Rattle.chassis.specs.Numbers.{bus}
use Rattle.check_tables.specs.Ladders.{share_label}
use Rattle.check_tables.proofs.tables.all_joined.Given as goal

abbrev pub invariant-loop-a : goal.invariant-loop-a
invariant-loop-a l =
    all (λ b. share_label l.l l.k (bus b) (bus 0)) (from_to l.a (l.n - l.a)) ≡ all (λ b. share_label l.l l.k (bus b) (bus 0)) (from_to 0 l.n)
