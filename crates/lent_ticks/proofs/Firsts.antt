-- What a tick asks first, of what it looks at, is what its grounds say: a ground refuses it, and where none holds it is admitted.
use Prim.Native.Nat.{ℕ}
use mathlib.Core.Path.{◌≡◌}
use mathlib.Core.List.{List}
use Rattle.std.specs.Prelude.{Ok, Err}
use lib.ListN.{length}
use Rattle.base.specs.declared.Refusal.{Refusal}
use Rattle.base.specs.Grounds.{refusal}
use Rattle.base.proofs.Grounds.{answered_ok, answered_err}
use Rattle.network.specs.declared.State.{State}
use Rattle.network.specs.Soundness.{sound}
use Rattle.ticks.specs.declared.TickRefusal.TheVariants.{Refused}
use Rattle.ticks.specs.Ticks.{held, tick_grounds, tick}
use Rattle.ticks.proofs.TickGrounds.{Admitted, no_tick_ground}
use Rattle.ticks.proofs.RefusedTicks.{refused_at_once}
use Rattle.lent_ticks.specs.Firsts.{tick_first}

module _ (s : State) (b out : List ℕ) where
  pub refused_first : {g : Refusal} → tick_first (sound s) (length b) (length out) ≡ Err g → tick s b out ≡ held s out (Refused g 0)
  unfolding tick_first tick_grounds
  refused_first {g} h = refused_at_once s b out g (answered_err tt (refusal (tick_grounds s b out)) h)

  pub admitted : tick_first (sound s) (length b) (length out) ≡ Ok tt → Admitted s b out
  unfolding tick_first tick_grounds
  admitted h = (no_tick_ground s b out).0 (answered_ok tt (refusal (tick_grounds s b out)) h)
