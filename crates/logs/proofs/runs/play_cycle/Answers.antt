-- `play_cycle` plays a tick block and prints its lines.
-- The idea: the tick does not depend on how many places are lent, and its values stand at the front of them (`Ticking`).
use mathlib.Core.Path.{◌≡◌, ap, sym, ◌∙◌}
use native.Mathlib.Omega.{arith}
use Prim.Native.Nat.{ℕ}
use lib.ListN.{length, get_or, replicate}
use Rattle.base.proofs.Made.{replicate_at}
use Rattle.network.proofs.OfType.{of_type}
use Rattle.events.proofs.SoundStays.{Right}
use Rattle.blocks.proofs.Accepted.{length_record_bytes}
use Rattle.lines.proofs.Texts.{written_on, written_length}
use Rattle.logs.proofs.Ticking.{same_state, refused_texts, accepted_texts}
use Rattle.chassis.specs.Capacities.{most_records}
use Rattle.base.proofs.Walks.{owned}
use Rattle.logs.proofs.runs.play_cycle.Goals as goal
use Rattle.logs.proofs.runs.play_cycle.Goals.{then-is_ok, else-is_ok}

zeros : (j : ℕ) → get_or {A = ℕ} (replicate most_records 0) j 0 ≡ 0
zeros j = replicate_at most_records j 0

pub play_tick-q-requires : goal.play_tick-q-requires
play_tick-q-requires c =
    let s = c in
    let k = ap length c.record_bytes-r.ensures in
    let l = length_record_bytes s.args.b.now s.requires.1 s.requires.2 in
    let few = s.requires.2 in
    (s.requires.0, omega arith, omega arith, omega arith)

pub put_steps-end-requires : goal.put_steps-end-requires
put_steps-end-requires c =
    let k = ap length c.record_bytes-r.ensures in
    let l = length_record_bytes c.args.b.now c.requires.1 c.requires.2 in
    let m = written_length c.put_t-end.ensures.written in
    (omega arith, omega arith, omega arith, omega arith, search owned)

pub returns-clause-state_value : goal.returns-clause-state_value
returns-clause-state_value c =
    let a = c.args in
    let right : Right a.s = record { shaped = of_type a.s _ c.well_formed.0; is_sound = c.requires.0 } in
    (rw c.record_bytes-r.ensures at c.play_tick-q.ensures.state_value) ∙ same_state a.place a.s right a.b.now _ c.requires.1 c.requires.2 c.requires.2

pub returns-clause-written : goal.returns-clause-written
returns-clause-written c =
    let a = c.args in
    let right : Right a.s = record { shaped = of_type a.s _ c.well_formed.0; is_sound = c.requires.0 } in
    let rb = c.record_bytes-r.ensures in
    let q = c.play_tick-q in
    let said = rw rb at q.ensures.answer_value in
    let first = rw (c.tick_number.ensures, c.tick_record.ensures, c.tick_other.ensures) at c.put_t-end.ensures.written in
    elim c.if-is_ok.branch [
      | then-is_ok w ↦
          let yes = sym c.is_ok.ensures.value ∙ w.if-is_ok.true in
          let e = accepted_texts a.place a.s right a.b.now _ c.requires.1 c.requires.2 c.requires.2 q.result.answer said yes _ _ zeros (rw rb at q.ensures.answers_after) in
          rw (w.out-is, w.end-is, e) (written_on first (rw rb at w.put_steps-end.ensures.written))
      | else-is_ok w ↦
          let no = sym c.is_ok.ensures.value ∙ w.if-is_ok.false in
          let e = refused_texts a.place a.s right a.b.now _ c.requires.1 c.requires.2 c.requires.2 q.result.answer said no in
          rw (w.out-is, w.end-is, e) first
    ]
