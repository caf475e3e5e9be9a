-- What an account of an event is, and the account of a begin, one for the three kinds.
-- A begin rests on room in its master's channel and on the master's count, and touches nothing else.
use Prim.Native.Nat.{ℕ, ◌+◌}
use mathlib.Core.Path.{◌≡◌, refl, sym, ap, subst⁻¹, ◌∙◌}
use mathlib.Core.Logic.{◌≢◌}
use mathlib.Core.List.{List, [], ◌∷◌, ◌++◌}
use mathlib.Core.Bool.{Bool, false, not, ◌&&◌}
use lib.Dec.{leb}
use borrow.Author.Tests.{not-false}
use Rattle.base.proofs.Logic.{and_true}
use Rattle.base.proofs.Grounds.{Clear, clear, unclear}
use Rattle.chassis.specs.declared.Agent.{Agent}
use Rattle.chassis.specs.declared.Table.{Table}
use Rattle.chassis.specs.Channels.{has_agent, master_channel, in_bus}
use Rattle.queue.specs.Entries.{C, zero_entry}
use Rattle.network.specs.Nets.{Net, begun, full}
use Rattle.network.specs.Edits.{raise}
use Rattle.events.specs.declared.Event.{Event}
use Rattle.events.specs.Grounds.{begin_grounds, grounds, Accepted}
use Rattle.events.specs.Effects.{next_number, new_entry, begins, effects, value}
use Rattle.ticks.specs.Footings.{Footing, begins_at, footing}
use Rattle.ticks.proofs.Guards.{Deed, Inwards, edits_of}
use Rattle.ticks.proofs.Rights.{Gives, by_begin}
use Rattle.ticks.proofs.Pieces.{Piece, joined, so, adding, adding_piece, raising_piece, no_answers}

-- f is in u as it is in s
pub record Again (s u : Net) (f : Event) : Type 0 where
  pub accepted : Accepted u f
  pub does : effects u f ≡ effects s f
  pub says : value u f ≡ value s f
  pub stands : footing u f ≡ footing s f

pub record Account (s : Net) (f : Event) : Type 0 where
  pub deeds : List Deed
  pub piece : Piece s (footing s f) deeds (λ u. Again s u f)
  pub inwards : Inwards deeds
  pub done : edits_of deeds ≡ effects s f

-- ---- begins

module _ (f : Event) (k : ℕ) (write : Bool) (m a : Agent) (no_C : k ≢ C)
    (gr : (u : Net) → grounds u f ≡ begin_grounds u k m a)
    (ef : (u : Net) → effects u f ≡ begins u k write m a)
    (va : (u : Net) → value u f ≡ next_number u m)
    (fo : (u : Net) → footing u f ≡ begins_at m) where
  begin_clear : (s u : Net) → u.table ≡ s.table → full u k m (master_channel m) ≡ false → begun u m ≡ begun s m
      → Clear (begin_grounds s k m a) → Clear (begin_grounds u k m a)
  unfolding begin_grounds
  begin_clear s u q r b c = (
    subst⁻¹ (λ (T : Table). not (has_agent T m && has_agent T a) ≡ false) q c.0,
    (c.1.0, (subst⁻¹ (λ (n : ℕ). leb 65535 n ≡ false) b c.1.1.0, (r, tt))),
  )

  same_begins : (s u : Net) → begun u m ≡ begun s m → begins u k write m a ≡ begins s k write m a
  unfolding new_entry
  same_begins s u b = rw b

  begin_again : (s u : Net) → u.table ≡ s.table → full u k m (master_channel m) ≡ false → begun u m ≡ begun s m → Clear (begin_grounds s k m a) → Again s u f
  begin_again s u q r b c = record {
    accepted = rw (gr u) (unclear (begin_grounds u k m a) (begin_clear s u q r b c));
    does = ef u ∙ same_begins s u b ∙ sym (ef s);
    says = va u ∙ ap (λ (n : ℕ). n + 1) b ∙ sym (va s);
    stands = fo u ∙ sym (fo s);
  }

  begin_gives : (s : Net) → Clear (begin_grounds s k m a) → Gives s (begins_at m) (master_channel m)
  unfolding begin_grounds in_bus
  begin_gives s c =
      let h = (and_true (has_agent s.table m) (has_agent s.table a) (not-false (has_agent s.table m && has_agent s.table a) c.0)).0 in
      by_begin m refl refl (rw h)

  pub begin_account : (s : Net) → Accepted s f → Account s f
  unfolding begin_grounds new_entry
  begin_account s ok =
      let c = clear (begin_grounds s k m a) (rw (gr s) at ok) in
      let x = new_entry s k write m a in
      let e = begins_at m in
      record {
        deeds = adding (master_channel m) x ++ ((raise m, zero_entry) ∷ []);
        piece = subst⁻¹ (λ (e : Footing). Piece s e (adding (master_channel m) x ++ ((raise m, zero_entry) ∷ [])) (λ u. Again s u f)) (fo s)
            (so s e
            (joined s e (adding (master_channel m) x) ((raise m, zero_entry) ∷ [])
            (adding_piece s e k m (master_channel m) x (begin_gives s c) (no_answers s (master_channel m) x k refl no_C) c.1.1.1.0)
            (raising_piece s e m refl))
            (λ u q h. begin_again s u q h.0 h.1 c));
        inwards = ((tt, tt), (tt, tt));
        done = sym (ef s);
      }
