-- Where a record leads on a table that passes: the next place is the target or a bridge channel, and every channel that is looked at
-- is one of those that a state has.
use Rattle.std.specs.Prelude.{Option, None, Some}
use Prim.Native.Nat.{◌<◌}
use mathlib.Core.Path.{◌≡◌, refl}
use mathlib.Core.Bool.{true, false}
use native.Mathlib.Omega.{arith}
use borrow.Author.Tests.{ltb-true}
use Rattle.base.proofs.Logic.{split}
use Rattle.chassis.specs.declared.Agent.{Agent}
use Rattle.chassis.specs.declared.Chan.{Chan}
use Rattle.chassis.specs.declared.Table.{Table}
use Rattle.chassis.specs.declared.NextPlace.{NextPlace}
use Rattle.chassis.specs.declared.NextPlace.TheVariants.{Target, Through}
use Rattle.chassis.specs.Channels.{has_chan, chan_count, is_master}
use Rattle.chassis.specs.Routes.{next_place}
use Rattle.chassis.specs.Tables.{table_passes}
use Rattle.chassis.specs.Capacities.{most_channels}
use Rattle.chassis.proofs.Counts.{counts}
use Rattle.chassis.proofs.Passing.{passed}
use Rattle.chassis.proofs.Hops.{opposing}
use Rattle.chassis.proofs.OnTheWay.{next}
use Rattle.queue.specs.declared.Look.{Look}
use Rattle.events.specs.declared.Event.{Event}
use Rattle.events.specs.Accounts.{account}
use Rattle.read_events.specs.Frames.{ahead_or, answer_or, back_or}
use Rattle.read_events.specs.Sights.{small}
use Rattle.read_events.specs.Sights.{next_told}

-- the next place is the target, or a channel
pub by_place : {A : Type 0} (n : NextPlace) → (n ≡ Target → A) → ((X : Chan) → n ≡ Through X → A) → A
by_place Target f g = f refl
by_place (Through X) f g = g X refl

module _ (T : Table) (ok : table_passes T ≡ true) where
  pub chan_low : (N : Chan) → has_chan T N ≡ true → N.0 < most_channels
  chan_low N h =
      let c = counts T (passed T ok).counts in
      let a = c.agents.1 in
      let b = c.bridges.1 in
      let k = ltb-true N.0 (chan_count T) h in
      omega arith

  -- N1 is the target, or a bridge channel of the table
  abbrev pub Onward : NextPlace → Type 0
  Onward Target = Unit {0}
  Onward (Through X) = (has_chan T X ≡ true) × (is_master T X ≡ false)

  pub next_onward : (N : Chan) (a : Agent) → has_chan T N ≡ true → Onward (next_place T N a)
  next_onward N a h =
      by_place (next_place T N a) (λ e. rw e tt)
      (λ X e. rw e (let r = next T ok N a X h e in (r.there, r.no_master)))

  pub told_onward : (e : Event) (N : Chan) (l : Option Look) → has_chan T N ≡ true → Onward (next_told T e N l)
  told_onward e N None h = split (account e).moves (λ m. rw m tt) (λ m. rw m tt)
  told_onward e N (Some l) h = split (account e).moves (λ m. rw m (next_onward N l.entry.target h)) (λ m. rw m tt)

  pub onward_small : (n : NextPlace) → Onward n → small n
  onward_small Target o = tt
  onward_small (Through X) o = let k = chan_low X o.0 in omega arith

  pub ahead_there : (N : Chan) (n : NextPlace) → has_chan T N ≡ true → Onward n → has_chan T (ahead_or N n) ≡ true
  ahead_there N Target h o = h
  ahead_there N (Through X) h o = o.0

  pub answer_there : (N : Chan) (n : NextPlace) → has_chan T N ≡ true → Onward n → has_chan T (answer_or T N n) ≡ true
  answer_there N Target h o = h
  answer_there N (Through X) h o = (opposing T X o.0 o.1).there

  pub back_there : (N : Chan) → has_chan T N ≡ true → has_chan T (back_or T N) ≡ true
  unfolding back_or
  back_there N h = split (is_master T N) (λ m. rw m h) (λ m. rw m (opposing T N h m).there)
