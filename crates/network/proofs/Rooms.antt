-- Rooms: the one that holds an entry is the entry's own, none looks at the mark, and together they hold no more than a channel has places for.
-- Each kind has one room, and no limit is above 8.
use Prim.Native.Nat.{ℕ, zero, suc, ◌-◌, ◌≤◌}
use native.Mathlib.Omega.{arith}
use mathlib.Core.Path.{◌≡◌, refl, ap, sym, subst, subst⁻¹, ◌∙◌}
use mathlib.Core.Bool.{true, false}
use mathlib.Core.Logic.{⊎_elim}
use mathlib.Core.List.{List, [], ◌∷◌, ◌++◌}
use borrow.Author.Tests.{leb-true, eqb-true, eq-eqb}
use lib.ListN.{get_or}
use lib.Dec.{leb}
use Rattle.base.specs.Lists.{all, any}
use Rattle.base.proofs.Logic.{and_true, equal?}
use Rattle.base.proofs.Lists.{count_past}
use Rattle.base.proofs.Cells.{In, first, later, in_any, in_map, of_map}
use Rattle.base.proofs.Totals.{total}
use Rattle.chassis.specs.declared.Agent.{Agent}
use Rattle.chassis.specs.declared.Table.{Table}
use Rattle.chassis.specs.Channels.{limit}
use Rattle.chassis.specs.Tables.{within, table_passes}
use Rattle.chassis.proofs.Counts.{counts}
use Rattle.chassis.proofs.Passing.{passed}
use Rattle.queue.specs.declared.Entry.{Entry}
use Rattle.queue.specs.Entries.{P, R, C, kinds, is_kind}
use Rattle.queue.specs.Packing.{channel_places}
use Rattle.queue.proofs.Marks.{Blind, kind_blind}
use Rattle.network.specs.Rooms.{Room, room_of, room_for, rooms, is_full}

-- a known kind is one of the three
kind_is : (k : ℕ) → within P C k ≡ true → In k kinds
kind_is k h =
    let r = and_true (leb P k) (leb k C) h in
    let a = leb-true P k r.0 in
    let b = leb-true k C r.1 in
    ⊎_elim (λ (e : k ≡ P). rw e first)
    (λ (n : k ≡ P → ⊥). ⊎_elim (λ (e : k ≡ R). rw e (later first)) (λ (m : k ≡ R → ⊥). let e : k ≡ C = omega arith in rw e (later (later first))) (equal? k R))
    (equal? k P)

below_8 : (l : List ℕ) → all (within 1 8) l ≡ true → (i : ℕ) → get_or l i 0 ≤ 8
unfolding all
below_8 [] h i = omega arith
below_8 (n ∷ l) h zero = leb-true n 8 (and_true (leb 1 n) (leb n 8) (and_true (within 1 8 n) (all (within 1 8) l) h).0).1
below_8 (n ∷ l) h (suc i) = below_8 l (and_true (within 1 8 n) (all (within 1 8) l) h).1 i

module _ (T : Table) where
  -- a known entry takes a room, and the room that holds it is the one that it takes
  pub takes_one : (x : Entry) → within P C x.kind ≡ true → any (λ r. r.holds x) (rooms T) ≡ true
  unfolding rooms
  takes_one x h = in_any (λ r. r.holds x) (rooms T) (in_map (room_of T) (kind_is x.kind h)) (eq-eqb x.kind x.kind refl)

  pub its_room : (x : Entry) (r : Room) → In r (rooms T) → r.holds x ≡ true → r ≡ room_for T x.kind x.transaction.master
  unfolding rooms room_for
  its_room x r i h =
      let q = of_map (room_of T) kinds i in
      let k : is_kind q.0 x ≡ true = subst (λ (o : Room). o.holds x ≡ true) q.2 h in
      q.2 ∙ ap (room_of T) (sym (eqb-true x.kind q.0 k))

  -- each kind has room of its own: an entry of another kind, wherever it stands, takes none of it
  pub other_kinds_take_no_room : (k : ℕ) (m : Agent) (us : List Entry) (x : Entry) (vs : List Entry) → is_kind k x ≡ false
      → is_full (room_for T k m) (us ++ (x ∷ vs)) ≡ is_full (room_for T k m) (us ++ vs)
  unfolding room_for
  other_kinds_take_no_room k m us x vs h = ap (leb (limit T k)) (count_past (is_kind k) us x vs h)

  -- no room looks at the mark
  pub rooms_blind : (r : Room) → In r (rooms T) → Blind r.holds
  unfolding rooms
  rooms_blind r i = let q = of_map (room_of T) kinds i in subst⁻¹ (λ (o : Room). Blind o.holds) q.2 (kind_blind q.0)

  pub room_blind : (k : ℕ) (m : Agent) → Blind (room_for T k m).holds
  unfolding room_for
  room_blind k m = kind_blind k

  -- all of them together
  pub rooms_within_places : table_passes T ≡ true → total (λ r. r.most) (rooms T) ≤ channel_places
  unfolding rooms
  rooms_within_places h =
      let low : (k : ℕ) → limit T k ≤ 8 = λ k. below_8 T.limits (counts T (passed T h).counts).limits (k - 1) in
      omega (arith, low P, low R, low C)
