-- No model invents begin numbers: the value of an accepted begin is its master's count + 1, in every state; after it the count is that value,
-- other counts stay, and the new entry carries it. So numbers run 1, 2, 3 .. for each master by itself.
use Prim.Native.Nat.{ℕ, ◌+◌}
use native.Mathlib.Omega.{arith}
use mathlib.Core.Path.{◌≡◌, refl, sym, ap, subst⁻¹, ◌∙◌}
use mathlib.Core.Bool.{Bool, true, false, ◌&&◌}
use mathlib.Core.List.{List, [], ◌∷◌, ◌++◌}
use Rattle.std.specs.Prelude.{None, Some, Ok}
use borrow.Author.Tests.{ltb-true, not-false}
use Rattle.base.specs.Grounds.{refusal}
use Rattle.base.proofs.Logic.{and_true}
use Rattle.base.proofs.Grounds.{clear}
use Rattle.base.proofs.Cells.{modify_here}
use Rattle.base.proofs.Queues.{getD_modify_other}
use Rattle.chassis.specs.declared.Agent.{Agent}
use Rattle.chassis.specs.Channels.{has_agent, master_channel}
use Rattle.chassis.proofs.Counts.{counts}
use Rattle.chassis.proofs.Passing.{passed}
use Rattle.queue.specs.declared.Entry.{Entry}
use Rattle.queue.specs.Entries.{P, R}
use Rattle.network.specs.declared.State.{State}
use Rattle.network.specs.Nets.{Net, view, waiting, begun}
use Rattle.network.specs.Edits.{edit, edits}
use Rattle.network.proofs.Packing.{view_pack}
use Rattle.network.proofs.Good.{Good, sound_is_good}
use Rattle.events.specs.declared.Event.{Event}
use Rattle.events.specs.declared.Event.TheVariants.{BeginPosted, BeginRead, BeginWrite}
use Rattle.events.specs.declared.Outcome.{Outcome}
use Rattle.events.specs.Records.{decoded, Decoded}
use Rattle.events.specs.Grounds.{begin_grounds, grounds, Accepted}
use Rattle.events.specs.Effects.{next_number, new_entry, begins, effects, value, after}
use Rattle.events.proofs.WrongModels.{Model, Handed, MeetsStep}
use Rattle.events.proofs.TakenSteps.{taken}

-- e is a begin of m, with target a
pub data BeginOf (m a : Agent) : Event → Type 0 where
  posted : BeginOf m a (BeginPosted m a)
  read : BeginOf m a (BeginRead m a)
  written : BeginOf m a (BeginWrite m a)

-- v is the number of m's begin that leads from s to t
pub record Numbered (s : Net) (m : Agent) (v : ℕ) (t : Net) : Type 0 where
  pub number : v ≡ begun s m + 1
  pub count : begun t m ≡ v
  pub others : (a : Agent) → (a.0 ≡ m.0 → ⊥) → begun t a ≡ begun s a
  pub entry : Entry
  pub enters : waiting t (master_channel m) ≡ waiting s (master_channel m) ++ (entry ∷ [])
  pub carries : entry.transaction ≡ record { master = m; number = v }

-- ---- one law for the three begins

module _ (s : Net) (g : Good s) (m : Agent) where
  begin_numbers : (k : ℕ) (write : Bool) (a : Agent) → refusal (begin_grounds s k m a) ≡ None → Numbered s m (next_number s m) (edits (begins s k write m a) s)
  unfolding begin_grounds edits edit new_entry
  begin_numbers k write a ok =
      let r = clear (begin_grounds s k m a) ok in
      let q = and_true (has_agent s.table m) (has_agent s.table a) (not-false (has_agent s.table m && has_agent s.table a) r.0) in
      let l = ltb-true m.0 s.table.agents q.0 in
      let w = (counts s.table (passed s.table g.rules.passes).counts).agents.1 in
      record {
        number = refl;
        count = modify_here s.begins m.0 (λ n. n + 1) 0 (omega (arith, g.counts));
        others = λ b n. getD_modify_other s.begins m.0 b.0 (λ n. n + 1) 0 (λ e. n (sym e));
        entry = new_entry s k write m a;
        enters = modify_here s.chans m.0 (λ l. l ++ (new_entry s k write m a ∷ [])) [] (omega (arith, g.channels));
        carries = refl;
      }

  pub its_number : (a : Agent) (e : Event) → BeginOf m a e → Accepted s e → Numbered s m (value s e) (after s e)
  unfolding grounds effects value after
  its_number a _ posted ok = begin_numbers P true a ok
  its_number a _ read ok = begin_numbers R false a ok
  its_number a _ written ok = begin_numbers R true a ok

-- ---- of every model

known_once : (d : Decoded) (e f : Event) → d ≡ Some e → d ≡ Some f → f ≡ e
known_once d e f p q = cc

pub no_model_invents_numbers : (f : Model) → MeetsStep f → (s : State) (b : List ℕ) (m a : Agent) (e : Event) (v : ℕ) → Handed s b → decoded b ≡ Some e → BeginOf m a e
    → (f s b).answer ≡ Ok v → Numbered (view s) m v (view (f s b).state)
no_model_invents_numbers f meets s b m a e v w d k h =
    let p = meets s b w in
    let t = taken s b v (ap (λ (o : Outcome). o.answer) (sym p) ∙ h) in
    let x = known_once (decoded b) e t.event d t.read in
    let n = its_number (view s) (sound_is_good s w.shaped t.is_sound) m a t.event (subst⁻¹ (BeginOf m a) x k) t.accepted in
    let z : view (f s b).state ≡ after (view s) t.event = ap (λ (o : Outcome). view o.state) p ∙ ap view t.next ∙ view_pack (after (view s) t.event) in
    subst⁻¹ (λ (u : Net). Numbered (view s) m v u) z (subst⁻¹ (λ (n : ℕ). Numbered (view s) m n (after (view s) t.event)) t.valued n)
