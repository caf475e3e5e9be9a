-- Good, what a sound state says of its lists: from a sound state to its view, from a good net to a sound state, and the empty network.
-- Lists need no bound where a place that is not there is read as empty, or as 0.
use Prim.Native.Nat.{ℕ, ◌-◌, ◌<◌, ◌≤◌}
use mathlib.Core.Path.{◌≡◌, refl, ap, subst⁻¹, ◌∙◌}
use mathlib.Core.Bool.{true, false}
use mathlib.Core.List.{List, []}
use native.Mathlib.Omega.{arith}
use borrow.Author.Tests.{ltb-true, ltb-false}
use lib.ListN.{get_or, length, replicate, length-append, length-replicate, length-map, get_or-eq_default}
use lib.Dec.{ltb}
use Rattle.base.specs.Lists.{count}
use Rattle.base.proofs.Logic.{split}
use Rattle.base.proofs.Cells.{In, in_none, cell_map}
use Rattle.chassis.specs.declared.Agent.{Agent}
use Rattle.chassis.specs.declared.Chan.{Chan}
use Rattle.chassis.specs.declared.Table.{Table}
use Rattle.chassis.specs.Numbers.{chan}
use Rattle.chassis.specs.Channels.{has_agent}
use Rattle.chassis.specs.Tables.{table_passes}
use Rattle.chassis.specs.Capacities.{most_agents, most_channels}
use Rattle.queue.specs.declared.Entry.{Entry}
use Rattle.queue.specs.declared.Channel.{Channel}
use Rattle.queue.specs.Entries.{zero_entry}
use Rattle.queue.specs.Queues.{filling}
use Rattle.queue.specs.Packing.{live, packed, channel_places}
use Rattle.network.specs.declared.State.{State}
use Rattle.network.specs.Nets.{Net, view, pack, empty_net, waiting, begun}
use Rattle.network.specs.Soundness.{sound}
use Rattle.network.specs.Shapes.{no_channel, Shaped}
use Rattle.network.proofs.Rules.{Rules, rules, rules_kept, within_its_places}
use Rattle.network.proofs.Packing.{sound_opened, sound_pack, empty_waits, empty_begun}

pub record Good (s : Net) : Type 0 where
  pub rules : Rules s
  pub channels : length s.chans ≡ most_channels
  pub counts : length s.begins ≡ most_agents
  pub absent : (a : Agent) → has_agent s.table a ≡ false → begun s a ≡ 0
  pub most : (a : Agent) → begun s a ≤ 65535

-- ---- and sound

pub good_is_sound : (s : Net) → Good s → sound (pack s) ≡ true
good_is_sound s g = sound_pack s (rules_kept s g.rules) g.absent

most_of : (l : List ℕ) → length l ≡ most_agents → ((a : ℕ) → a < most_agents → get_or l a 0 ≤ 65535) → (a : ℕ) → get_or l a 0 ≤ 65535
most_of l e h a =
    split (ltb a most_agents) (λ t. h a (ltb-true a most_agents t))
    (λ f. omega (arith, get_or-eq_default l 0 {n = a} (omega (arith, ltb-false a most_agents f))))

pub sound_is_good : (s : State) → Shaped s → sound s ≡ true → Good (view s)
unfolding view
sound_is_good s w h =
    let o = sound_opened s h in
    record {
      rules = rules (view s) o.rules;
      channels = length-map s.channels live ∙ w.channels;
      counts = w.begins;
      absent = o.absent;
      most = λ a. most_of s.begins w.begins w.counts a.0;
    }

-- in a sound state nowhere more wait than there are places
pub sound_within_its_places : (s : State) → sound s ≡ true → (N : Chan) → length (waiting (view s) N) ≤ channel_places
sound_within_its_places s h = within_its_places (view s) (rules (view s) (sound_opened s h).rules)

-- the table's arrays have their lengths
pub record Arrays (T : Table) : Type 0 where
  pub limits : length T.limits ≡ 3
  pub pairs : length T.pairs ≡ 15
  pub homes : length T.homes ≡ most_agents

packed_length : (l : List Entry) → length l ≤ channel_places → length (packed l).entries ≡ channel_places
packed_length l h = omega (arith, length-append l (replicate (channel_places - length l) zero_entry), length-replicate (channel_places - length l) zero_entry)

pub good_is_shaped : (s : Net) → Arrays s.table → Good s → Shaped (pack s)
unfolding pack
good_is_shaped s t g = record {
  channels = length-map s.chans packed ∙ g.channels;
  begins = g.counts;
  entries = λ i k.
      ap (λ (c : Channel). length c.entries) (cell_map packed s.chans i [] no_channel (omega (arith, g.channels)))
      ∙ packed_length (waiting s (chan i)) (within_its_places s g.rules (chan i));
  counts = λ a _. g.most (record { 0 = a });
  limits = t.limits;
  pairs = t.pairs;
  homes = t.homes;
}

-- ---- the empty network

pub empty_is_good : (T : Table) → table_passes T ≡ true → Good (empty_net T)
unfolding empty_net count
empty_is_good T h = record {
  rules = record {
    passes = h;
    limits = λ N r i. subst⁻¹ (λ (l : List Entry). filling r.holds l ≤ r.most) (empty_waits T N) (omega arith);
    fits = λ N x i. in_none (subst⁻¹ (λ (l : List Entry). In x l → In x []) (empty_waits T N) (λ j. j) i);
  };
  channels = refl;
  counts = refl;
  absent = λ a _. empty_begun T a;
  most = λ a. omega (arith, empty_begun T a);
}

pub empty_is_sound : (T : Table) → table_passes T ≡ true → sound (pack (empty_net T)) ≡ true
empty_is_sound T h = good_is_sound (empty_net T) (empty_is_good T h)

pub empty_is_shaped : (T : Table) → Arrays T → table_passes T ≡ true → Shaped (pack (empty_net T))
unfolding empty_net
empty_is_shaped T t h = good_is_shaped (empty_net T) t (empty_is_good T h)
