-- What is said of tables and entries in a sound state, as facts of each channel and each entry, both ways; so every entry of a channel has its place.
-- Each entry takes a room, and the rooms together hold no more (proofs/Rooms.antt).
use Prim.Native.Nat.{ℕ, ◌≤◌}
use mathlib.Core.Path.{◌≡◌}
use mathlib.Core.Bool.{Bool, true, not, ◌&&◌, ◌||◌}
use mathlib.Core.List.{List, []}
use native.Mathlib.Omega.{arith}
use borrow.Author.Tests.{leb-true, le-leb}
use lib.ListN.{get_or, length}
use Rattle.base.specs.Lists.{all, count, all_from}
use Rattle.base.proofs.Logic.{and_true, true_and}
use Rattle.base.proofs.Cells.{In, in_none, all_in, in_all, all_cell, cell_all, from_cell, cell_from}
use Rattle.base.proofs.Totals.{total_more, covered}
use Rattle.chassis.specs.declared.Chan.{Chan}
use Rattle.chassis.specs.declared.Table.{Table}
use Rattle.chassis.specs.Numbers.{chan, same_agent}
use Rattle.chassis.specs.Channels.{has_agent}
use Rattle.chassis.specs.Tables.{within, table_passes}
use Rattle.queue.specs.declared.Entry.{Entry}
use Rattle.queue.specs.Entries.{P, R, C, is_kind}
use Rattle.queue.specs.Queues.{filling}
use Rattle.queue.specs.Packing.{channel_places}
use Rattle.network.specs.Rooms.{Room, rooms, is_kept}
use Rattle.network.specs.Nets.{Net, waiting, begun}
use Rattle.network.specs.Soundness.{within_limits, stands_right, fit, keeps_the_rules}
use Rattle.network.proofs.Rooms.{takes_one, rooms_within_places}

-- ---- one entry

-- an entry of channel N, by table and counts
pub record Fit (T : Table) (begins : List ℕ) (N : Chan) (x : Entry) : Type 0 where
  pub known : within P C x.kind ≡ true
  pub posted : (not (is_kind P x) || x.write) ≡ true
  pub master : has_agent T x.transaction.master ≡ true
  pub target : has_agent T x.target ≡ true
  pub differ : not (same_agent x.transaction.master x.target) ≡ true
  pub number : within 1 (get_or begins x.transaction.master.0 0) x.transaction.number ≡ true
  pub place : stands_right T N x ≡ true
  pub mark : (is_kind R x || not x.committed) ≡ true

eight : (a b c d e f g h : Bool) → (a && b && c && d && e && f && g && h) ≡ true
    → (a ≡ true) × (b ≡ true) × (c ≡ true) × (d ≡ true) × (e ≡ true) × (f ≡ true) × (g ≡ true) × (h ≡ true)
eight a b c d e f g h p =
    let r7 = and_true (a && b && c && d && e && f && g) h p in
    let r6 = and_true (a && b && c && d && e && f) g r7.0 in
    let r5 = and_true (a && b && c && d && e) f r6.0 in
    let r4 = and_true (a && b && c && d) e r5.0 in
    let r3 = and_true (a && b && c) d r4.0 in
    let r2 = and_true (a && b) c r3.0 in
    let r1 = and_true a b r2.0 in
    (r1.0, r1.1, r2.1, r3.1, r4.1, r5.1, r6.1, r7.1)

pub fit_opened : (s : Net) (N : Chan) (x : Entry) → fit s N x ≡ true → Fit s.table s.begins N x
unfolding fit
fit_opened s N x h =
    let r = eight
    (within P C x.kind) (not (is_kind P x) || x.write) (has_agent s.table x.transaction.master) (has_agent s.table x.target)
    (not (same_agent x.transaction.master x.target)) (within 1 (begun s x.transaction.master) x.transaction.number)
    (stands_right s.table N x) (is_kind R x || not x.committed) h in
    record { known = r.0; posted = r.1; master = r.2; target = r.3; differ = r.4; number = r.5; place = r.6; mark = r.7 }

pub fit_closed : (s : Net) (N : Chan) (x : Entry) → Fit s.table s.begins N x → fit s N x ≡ true
unfolding fit
fit_closed s N x f = rw (f.known, f.posted, f.master, f.target, f.differ, f.number, f.place, f.mark)

-- ---- every channel

pub record Rules (s : Net) : Type 0 where
  pub passes : table_passes s.table ≡ true
  pub limits : (N : Chan) (r : Room) → In r (rooms s.table) → filling r.holds (waiting s N) ≤ r.most
  pub fits : (N : Chan) (x : Entry) → In x (waiting s N) → Fit s.table s.begins N x

-- an empty channel keeps every rule
empty_within : (T : Table) → within_limits T [] ≡ true
unfolding within_limits count
empty_within T = in_all (λ r. is_kept r []) (rooms T) (λ r _. le-leb 0 r.most (omega arith))

pub rules : (s : Net) → keeps_the_rules s ≡ true → Rules s
unfolding keeps_the_rules within_limits
rules s h =
    let T = s.table in
    let fits_at : ℕ → List Entry → Bool = λ n l. all (fit s (chan n)) l in
    let r = and_true (table_passes T && all (within_limits T) s.chans) (all_from 0 fits_at s.chans) h in
    let q = and_true (table_passes T) (all (within_limits T) s.chans) r.0 in
    record {
      passes = q.0;
      limits = λ N r i.
          leb-true (filling r.holds (waiting s N)) r.most
          (all_in (λ j. is_kept j (waiting s N)) (rooms T) (all_cell (within_limits T) s.chans [] q.1 (empty_within T) N.0) i);
      fits = λ N x i.
          fit_opened s N x (all_in (fit s N) (waiting s N) (from_cell fits_at s.chans [] r.1 (λ n. in_all (fit s (chan n)) [] (λ y j. in_none j)) N.0) i);
    }

pub rules_kept : (s : Net) → Rules s → keeps_the_rules s ≡ true
unfolding keeps_the_rules within_limits
rules_kept s r =
    let T = s.table in
    let fits_at : ℕ → List Entry → Bool = λ n l. all (fit s (chan n)) l in
    true_and (table_passes T && all (within_limits T) s.chans) (all_from 0 fits_at s.chans)
    (true_and (table_passes T) (all (within_limits T) s.chans) r.passes
    (cell_all (within_limits T) s.chans []
    (λ n. in_all (λ q. is_kept q (waiting s (chan n))) (rooms T) (λ q i. le-leb (filling q.holds (waiting s (chan n))) q.most (r.limits (chan n) q i)))))
    (cell_from fits_at s.chans []
    (λ n. in_all (fit s (chan n)) (waiting s (chan n)) (λ x i. fit_closed s (chan n) x (r.fits (chan n) x i))))

-- ---- a place for each

module _ (s : Net) (r : Rules s) where
  pub within_its_places : (N : Chan) → length (waiting s N) ≤ channel_places
  within_its_places N =
      omega (
        arith,
        covered (λ (q : Room). q.holds) (waiting s N) (rooms s.table) (λ x i. takes_one s.table x (r.fits N x i).known),
        total_more (λ q. filling q.holds (waiting s N)) (λ q. q.most) (rooms s.table) (r.limits N),
        rooms_within_places s.table r.passes,
      )
