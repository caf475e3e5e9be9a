-- Two events that are accepted alone and do not conflict: after either one the other is as it was, and both orders end in the same state.
-- No edit of the one breaks a guard of the other, so its account holds again; and the edits of both change places.
use mathlib.Core.Path.{◌≡◌, sym, ap, subst, subst⁻¹, ◌∙◌}
use mathlib.Core.Bool.{true, false}
use mathlib.Core.List.{List}
use Rattle.base.proofs.Orders.{All, all_map, all_both}
use Rattle.chassis.specs.declared.Table.{Table}
use Rattle.chassis.specs.Tables.{table_passes}
use Rattle.network.specs.Nets.{Net}
use Rattle.network.specs.Edits.{Edit, edits}
use Rattle.events.specs.declared.Event.{Event}
use Rattle.events.specs.Grounds.{Accepted}
use Rattle.events.specs.Effects.{after}
use Rattle.events.proofs.SoundStays.{table_stays}
use Rattle.ticks.specs.Footings.{Footing, footing}
use Rattle.ticks.specs.Conflicts.{clash, conflict}
use Rattle.ticks.proofs.Guards.{Holds, Safe, Apart, Crosswise, done, keeps_all, crossed}
use Rattle.ticks.proofs.Rights.{Peace, no_clash, in_peace, peace_back, Does, Asks, deeds_apart, guard_safe}
use Rattle.ticks.proofs.Begins.{Again, Account}
use Rattle.ticks.proofs.Accounts.{account}

-- ---- by their accounts

module _ (s : Net) (e f : Event) (A : Account s e) (B : Account s f) where
  -- f after e
  still : Peace (footing s f) (footing s e) → Again s (after s e) f
  unfolding after
  still n =
      B.piece.again (after s e) (table_stays s e)
      (subst (λ (ds : List Edit). All (Holds (edits ds s)) B.piece.guards) A.done
      (all_both (Asks s (footing s f)) (Holds s) (Holds (done A.deeds s)) B.piece.guards
      (λ g o h. keeps_all s g A.deeds
      (all_map (Does s (footing s e)) (λ a. Safe g a.0) A.deeds (λ a d. guard_safe s (footing s f) (footing s e) g a n o d) A.piece.mine) h)
      B.piece.own B.piece.held))

  crosswise : Peace (footing s e) (footing s f) → Crosswise A.deeds B.deeds
  crosswise n =
      all_map (Does s (footing s e)) (λ a. All (Apart a) B.deeds) A.deeds
      (λ a d. all_map (Does s (footing s f)) (Apart a) B.deeds (λ b c. deeds_apart s (footing s e) (footing s f) a b n d c) B.piece.mine)
      A.piece.mine

same_end : (s : Net) (e f : Event) (A : Account s e) (B : Account s f) → Peace (footing s e) (footing s f) → after (after s e) f ≡ after (after s f) e
unfolding after
same_end s e f A B n =
    ap (λ (ds : List Edit). edits ds (after s e)) ((still s e f A B (peace_back (footing s e) (footing s f) n)).does ∙ sym B.done)
    ∙ ap (λ (ds : List Edit). done B.deeds (edits ds s)) (sym A.done)
    ∙ crossed s A.deeds B.deeds (crosswise s e f A B n) A.inwards B.inwards A.piece.ready B.piece.ready
    ∙ ap (λ (ds : List Edit). done A.deeds (edits ds s)) B.done
    ∙ ap (λ (ds : List Edit). edits ds (after s f)) (A.done ∙ sym (still s f e B A n).does)

-- ---- in every state whose table passes

-- no conflict between the two
abbrev pub Peaceful : Net → Event → Event → Type 0
Peaceful s e f = conflict s e f ≡ false

pub peaceful_back : (s : Net) (e f : Event) → Peaceful s e f → Peaceful s f e
unfolding conflict
peaceful_back s e f n = in_peace (footing s f) (footing s e) (peace_back (footing s e) (footing s f) (no_clash (footing s e) (footing s f) n))

pub record Diamond (s : Net) (e f : Event) : Type 0 where
  -- f is after e as it is alone
  pub still : Again s (after s e) f
  -- and both orders end in the same state
  pub end : after (after s e) f ≡ after (after s f) e

pub diamond : (s : Net) → table_passes s.table ≡ true → (e f : Event) → Accepted s e → Accepted s f → Peaceful s e f → Diamond s e f
unfolding conflict
diamond s h e f a b n =
    let A = account s h e a in
    let B = account s h f b in
    let p = no_clash (footing s e) (footing s f) n in
    record { still = still s e f A B (peace_back (footing s e) (footing s f) p); end = same_end s e f A B p }

-- the table passes after an event too
pub still_passes : (s : Net) (e : Event) → table_passes s.table ≡ true → table_passes (after s e).table ≡ true
still_passes s e h = subst⁻¹ (λ (T : Table). table_passes T ≡ true) (table_stays s e) h

-- two that stand as they did conflict no more than they did
pub still_peaceful : (s u : Net) (f g : Event) → Again s u f → Again s u g → Peaceful s f g → Peaceful u f g
unfolding conflict
still_peaceful s u f g p q n = ap (λ (a : Footing). clash a (footing u g)) p.stands ∙ ap (clash (footing s f)) q.stands ∙ n
