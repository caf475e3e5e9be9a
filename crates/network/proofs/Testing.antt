-- The tests that the code makes are the soundness of document 01: channel by channel what the definition says clause by clause.
-- Tests over all channels are drawn together into one test of each.
use Prim.Native.Nat.{ℕ, suc, ◌-◌}
use mathlib.Core.Path.{◌≡◌, refl, sym, ap, ◌∙◌}
use mathlib.Core.Bool.{Bool, false, ◌&&◌, ◌||◌}
use mathlib.Core.List.{List, [], ◌∷◌}
use lib.ListN.{drop}
use lib.Dec.{leb, ltb, eqb}
use Rattle.base.specs.Lists.{all, all_from}
use Rattle.base.proofs.Logic.{and_assoc, and_swap}
use Rattle.base.proofs.Cells.{all_is_from, both_from, all_map, from_map}
use Rattle.chassis.specs.declared.Table.{Table}
use Rattle.chassis.specs.Numbers.{chan}
use Rattle.chassis.specs.Channels.{chan_count}
use Rattle.std.specs.Prelude.{Result, Ok, Err}
use Rattle.std.proofs.lemmas.Grind.{common_steps}
use native.Mathlib.Omega.{arith}
use borrow.Author.Tests.{ltb-true, ltb-false}
use Rattle.base.proofs.Logic.{split}
use Rattle.std.specs.Result.{is_ok}
use Rattle.base.specs.declared.Refusal.{Refusal}
use Rattle.chassis.specs.Answers.{table_answer}
use Rattle.check_tables.proofs.Asking.{answered_passes, answered_refused}
use Rattle.chassis.specs.Tables.{table_passes}
use Rattle.queue.specs.declared.Channel.{Channel}
use Rattle.queue.specs.Entries.{is_zero_entry}
use Rattle.queue.specs.Packing.{live, channel_places}
use Rattle.network.specs.declared.State.{State}
use Rattle.network.specs.Nets.{view}
use Rattle.network.specs.Soundness.{counts_fit, within_limits, fit, keeps_the_rules, unused_are_zero, sound}
use Rattle.network.specs.code.Testing.{counting, sound_channel, sound_count, tested}

-- ---- all channels

-- the clauses in another order
order : (a t l f z b g : Bool) → ((a && (t && l && f)) && (z && b && g)) ≡ (t && (a && l && f && z && b) && g)
order a t l f z b g = simp and_assoc (and_swap a t (l && (f && (z && (b && g)))))

-- five tests of each channel are one
module _ (T : Table) (begins : List ℕ) (cs : List Channel) where
  abbrev few : ℕ → Channel → Bool
  few n c = leb c.count channel_places

  abbrev limited : ℕ → Channel → Bool
  limited n c = within_limits T (live c)

  abbrev fitting : ℕ → Channel → Bool
  fitting n c = all (fit (counting T begins) (chan n)) (live c)

  abbrev zeros : ℕ → Channel → Bool
  zeros n c = all is_zero_entry (drop c.count c.entries)

  abbrev there : ℕ → Channel → Bool
  there n c = ltb n (chan_count T) || eqb c.count 0

  channel-by-channel :
      (all_from 0 few cs && all_from 0 limited cs && all_from 0 fitting cs && all_from 0 zeros cs && all_from 0 there cs)
      ≡ all_from 0 (sound_channel T begins) cs
  unfolding sound_channel
  channel-by-channel =
      rw (both_from few limited 0 cs)
      (rw (both_from (λ n c. few n c && limited n c) fitting 0 cs)
      (rw (both_from (λ n c. few n c && limited n c && fitting n c) zeros 0 cs)
      (both_from (λ n c. few n c && limited n c && fitting n c && zeros n c) there 0 cs)))

pub sound_is_tested : (s : State) → sound s ≡ tested s
unfolding tested sound counts_fit keeps_the_rules unused_are_zero view fit
sound_is_tested s =
    let T = s.table in
    let b = s.begins in
    let cs = s.channels in
    let each : (ℕ → Channel → Bool) → Bool = λ p. all_from 0 p cs in
    let last = all_from 0 (sound_count T) b in
    rw (all_is_from (few T b cs 0) 0 cs, all_map live (within_limits T) cs, all_is_from (limited T b cs 0) 0 cs, from_map live (λ n l. all (fit (view s) (chan n)) l) 0 cs, all_is_from (zeros T b cs 0) 0 cs)
    (order (each (few T b cs)) (table_passes T) (each (limited T b cs)) (each (fitting T b cs)) (each (zeros T b cs)) (each (there T b cs)) last
    ∙ ap (λ d. table_passes T && d && last) (channel-by-channel T b cs))

-- ---- the counts

none_behind : (m i : ℕ) (l : List ℕ) → all (λ n. eqb n 0) (drop (m - i) l) ≡ all_from i (λ a n. ltb a m || eqb n 0) l
unfolding all all_from
none_behind m i [] = grind (arith, common_steps)
none_behind m i (n ∷ l) =
    split (ltb i m)
    (λ t. let k : m - i ≡ suc (m - suc i) = omega (arith, ltb-true i m t) in rw (t, k) (none_behind m (suc i) l))
    (λ f.
    let k : m - i ≡ 0 = omega (arith, ltb-false i m f) in
    let j : m - suc i ≡ 0 = omega arith in
    rw (f, k) (ap (λ r. eqb n 0 && r) (rw j at (none_behind m (suc i) l))))

-- those of the agents that are there are passed over
pub unused_counts : (T : Table) (l : List ℕ) → all (λ n. eqb n 0) (drop T.agents l) ≡ all_from 0 (sound_count T) l
unused_counts T l = let z : T.agents - 0 ≡ T.agents = omega arith in rw z at (none_behind T.agents 0 l)

-- ---- the table

-- the check's answer, as a test
passes_by : (T : Table) (r : Result Unit Refusal) → table_answer T false ≡ r → is_ok r ≡ table_passes T
passes_by T (Ok tt) h = sym (answered_passes T h)
passes_by T (Err n) h = sym (answered_refused T h)

pub checked_is_passes : (T : Table) → is_ok (table_answer T false) ≡ table_passes T
checked_is_passes T = passes_by T (table_answer T false) refl
