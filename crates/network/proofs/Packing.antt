-- A sound state is packed from what is viewed of it, and what is packed is viewed as it was; a state that keeps the rules packs to a sound one.
-- Channel by channel: behind a channel's number all is zero, so the number and the entries before it say everything.
use Prim.Native.Nat.{ℕ, ◌≤◌}
use mathlib.Core.Path.{◌≡◌, refl, sym, ap, ◌∙◌}
use mathlib.Core.Bool.{Bool, true, false, ◌&&◌, ◌||◌}
use mathlib.Core.List.{List, [], map}
use native.Mathlib.Omega.{arith}
use borrow.Author.Tests.{eqb-true, eq-eqb, leb-true, le-leb}
use lib.ListN.{get_or, length, drop}
use lib.Dec.{leb, ltb, eqb}
use Rattle.base.specs.Lists.{all, all_from}
use Rattle.base.proofs.Logic.{split, and_true, true_and}
use Rattle.base.proofs.Cells.{all_cell, cell_all, from_cell, cell_from, all_map, from_map, map_back}
use Rattle.base.proofs.Made.{replicate_at}
use Rattle.chassis.specs.declared.Agent.{Agent}
use Rattle.chassis.specs.declared.Chan.{Chan}
use Rattle.chassis.specs.declared.Table.{Table}
use Rattle.chassis.specs.Numbers.{agent, chan}
use Rattle.chassis.specs.Channels.{chan_count, has_agent}
use Rattle.chassis.specs.Capacities.{most_agents, most_channels}
use Rattle.queue.specs.declared.Entry.{Entry}
use Rattle.queue.specs.declared.Channel.{Channel}
use Rattle.queue.specs.Entries.{is_zero_entry}
use Rattle.queue.specs.Packing.{live, packed, channel_places}
use Rattle.queue.proofs.Packed.{live_packed, packed_live, unused_of_packed}
use Rattle.network.specs.declared.State.{State}
use Rattle.network.specs.Nets.{Net, view, pack, empty_net, waiting, begun}
use Rattle.network.specs.Soundness.{counts_fit, keeps_the_rules, unused_are_zero, sound}
use Rattle.network.specs.Shapes.{no_channel, Shaped}
use Rattle.network.proofs.Fits.{beyond_is_empty}
use Rattle.network.proofs.Rules.{rules, within_its_places}

-- ---- soundness, as facts of each channel and count

-- a count that is above the table's, or 0
within_or_zero : (i n m : ℕ) → ltb i m || eqb n 0 ≡ true → ltb i m ≡ false → n ≡ 0
within_or_zero i n m h f = eqb-true n 0 (rw f at h)

zero_or_within : (i n m : ℕ) → (ltb i m ≡ false → n ≡ 0) → ltb i m || eqb n 0 ≡ true
zero_or_within i n m h = split (ltb i m) (λ t. rw t) (λ f. rw f (eq-eqb n 0 (h f)))

pub record Sound (s : State) : Type 0 where
  pub fitting : (i : ℕ) → (get_or s.channels i no_channel).count ≤ channel_places
  pub rules : keeps_the_rules (view s) ≡ true
  pub zeros : (i : ℕ) → all is_zero_entry (drop (get_or s.channels i no_channel).count (get_or s.channels i no_channel).entries) ≡ true
  pub absent : (a : Agent) → has_agent s.table a ≡ false → get_or s.begins a.0 0 ≡ 0

pub sound_opened : (s : State) → sound s ≡ true → Sound s
unfolding sound counts_fit unused_are_zero all
sound_opened s h =
    let zero_behind : Channel → Bool = λ c. all is_zero_entry (drop c.count c.entries) in
    let in_table : ℕ → Channel → Bool = λ n c. ltb n (chan_count s.table) || eqb c.count 0 in
    let has_count : ℕ → ℕ → Bool = λ a n. ltb a s.table.agents || eqb n 0 in
    let r = and_true (counts_fit s && keeps_the_rules (view s)) (unused_are_zero s) h in
    let q = and_true (counts_fit s) (keeps_the_rules (view s)) r.0 in
    let u = and_true (all zero_behind s.channels && all_from 0 in_table s.channels) (all_from 0 has_count s.begins) r.1 in
    let v = and_true (all zero_behind s.channels) (all_from 0 in_table s.channels) u.0 in
    record {
      fitting = λ i. leb-true (get_or s.channels i no_channel).count channel_places (all_cell (λ (c : Channel). leb c.count channel_places) s.channels no_channel q.0 refl i);
      rules = q.1;
      zeros = all_cell zero_behind s.channels no_channel v.0 refl;
      absent = λ a. within_or_zero a.0 (get_or s.begins a.0 0) s.table.agents
          (from_cell has_count s.begins 0 u.1 (λ j. zero_or_within j 0 s.table.agents (λ _. refl)) a.0);
    }

-- ---- there and back

state_path : (s : State) (l : List Channel) → l ≡ s.channels → s ≡ record { table = s.table; channels = l; begins = s.begins }
state_path s l p = λ i. record { table = s.table; channels = sym p i; begins = s.begins }

pub sound_is_packed : (s : State) → Shaped s → sound s ≡ true → s ≡ pack (view s)
unfolding pack view
sound_is_packed s w h =
    let o = sound_opened s h in
    state_path s (map packed (map live s.channels))
    (map_back live packed s.channels no_channel
    (λ i k. sym (packed_live (get_or s.channels i no_channel) (w.entries i (omega (arith, w.channels))) (o.fitting i) (o.zeros i))))

net_path : (n : Net) (l : List (List Entry)) → l ≡ n.chans → ◌≡◌ {A = Net} (record { table = n.table; chans = l; begins = n.begins }) n
net_path n l p = λ i. record { table = n.table; chans = p i; begins = n.begins }

pub view_pack : (n : Net) → view (pack n) ≡ n
unfolding pack view
view_pack n = net_path n (map live (map packed n.chans)) (map_back packed live n.chans [] (λ i _. live_packed (get_or n.chans i [])))

-- ---- what packs to a sound state

module _ (n : Net) (k : keeps_the_rules n ≡ true) where
  packed_counts : counts_fit (pack n) ≡ true
  unfolding counts_fit pack
  packed_counts =
      all_map packed (λ (c : Channel). leb c.count channel_places) n.chans
      ∙ cell_all (λ (l : List Entry). leb (length l) channel_places) n.chans [] (λ j. le-leb (length (waiting n (chan j))) channel_places (within_its_places n (rules n k) (chan j)))

  pub sound_pack : ((a : Agent) → has_agent n.table a ≡ false → begun n a ≡ 0) → sound (pack n) ≡ true
  unfolding sound unused_are_zero pack
  sound_pack absent =
      let zeros : Channel → Bool = λ c. all is_zero_entry (drop c.count c.entries) in
      let in_table : ℕ → Channel → Bool = λ i c. ltb i (chan_count n.table) || eqb c.count 0 in
      let has_count : ℕ → ℕ → Bool = λ a m. ltb a n.table.agents || eqb m 0 in
      let q = map packed n.chans in
      true_and (counts_fit (pack n) && keeps_the_rules (view (pack n))) (unused_are_zero (pack n))
      (true_and (counts_fit (pack n)) (keeps_the_rules (view (pack n))) packed_counts (ap keeps_the_rules (view_pack n) ∙ k))
      (true_and (all zeros q && all_from 0 in_table q) (all_from 0 has_count n.begins)
      (true_and (all zeros q) (all_from 0 in_table q)
      (all_map packed zeros n.chans ∙ cell_all (λ (l : List Entry). zeros (packed l)) n.chans [] (λ j. unused_of_packed (waiting n (chan j)) (within_its_places n (rules n k) (chan j))))
      (from_map packed in_table 0 n.chans
      ∙ cell_from (λ i (l : List Entry). in_table i (packed l)) n.chans []
      (λ j. zero_or_within j (length (waiting n (chan j))) (chan_count n.table) (λ f. ap length (beyond_is_empty n (rules n k) (chan j) f)))))
      (cell_from has_count n.begins 0 (λ a. zero_or_within a (begun n (agent a)) n.table.agents (absent (agent a)))))

pub empty_waits : (T : Table) (N : Chan) → waiting (empty_net T) N ≡ []
unfolding empty_net
empty_waits T N = replicate_at most_channels N.0 []

pub empty_begun : (T : Table) (a : Agent) → begun (empty_net T) a ≡ 0
unfolding empty_net
empty_begun T a = replicate_at most_agents a.0 0
