-- `play_steps` plays a block of single steps and prints its lines.
-- The idea: what `play` leaves in the two lists is what the definition prints (`block_stepped`).
use Rattle.events.proofs.SoundStays.{Right}
use Rattle.logs.proofs.Stepping.{block_stepped}
use Rattle.blocks.proofs.Accepted.{length_record_bytes}
use Rattle.network.proofs.OfType.{of_type}
use mathlib.Core.Path.{ap, sym, ◌∙◌}
use lib.ListN.{length}
use native.Mathlib.Omega.{arith}
use borrow.Author.Rules.{rules}
use Rattle.logs.proofs.runs.play_steps.Goals as goal

pub play-state-requires : goal.play-state-requires
play-state-requires c =
    let st = c in
    let k = ap length c.record_bytes-r.ensures in
    let l = length_record_bytes st.args.b.now st.requires.1 st.requires.2 in
    (st.requires.0, omega arith, omega arith)

pub put_steps-end-requires : goal.put_steps-end-requires
put_steps-end-requires c =
    let st = c in
    let k = ap length c.record_bytes-r.ensures in
    let l = length_record_bytes st.args.b.now st.requires.1 st.requires.2 in
    let p = st.requires.2 in
    let q = st.requires.3 in
    (search rules, search rules, omega arith, search rules, search rules)

pub returns : goal.returns
returns c =
    let a = c.args in
    let rb = c.record_bytes-r.ensures in
    let right : Right a.s = record { shaped = of_type a.s _ c.well_formed.0; is_sound = c.requires.0 } in
    let q = block_stepped a.place a.b.now _ _ _ _ a.s right c.requires.1 c.requires.2 (rw rb at c.play-state.ensures.refusals_after) (rw rb at c.play-state.ensures.values_after) in
    let end = c.put_steps-end.ensures.upper_bound in
    let few = c.requires.2 in
    record {
      state_value = (rw rb at c.play-state.ensures.value) ∙ sym q.0;
      written = rw q.1 (rw rb at c.put_steps-end.ensures.written);
      end_bound = omega arith;
    }
