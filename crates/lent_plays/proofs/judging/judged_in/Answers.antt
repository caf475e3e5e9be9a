-- What a record's frame, its look and its next place are makes its plan the event's own.
use mathlib.Core.Path.{◌≡◌, ◌∙◌}
use borrow.Author.Rules.{rules}
use Rattle.std.specs.Prelude.{Err}
use Rattle.events.proofs.SoundStays.{Right}
use Rattle.lent_plays.proofs.Answered.{frames}
use Rattle.lent_plays.proofs.Stepped.{frame_is, judged_unframed, there_and_aimed, low, next_small, in_place, was_refused, was_planned}
use Rattle.lent_plays.proofs.judging.judged_in.Goals as goal

pub returns-in_err-frame : goal.returns-in_err-frame
returns-in_err-frame g c =
    let e : c.from_residual.result ≡ Err c.in_err-frame.field-0.0 = search rules in
    e ∙ judged_unframed c.args.s.now c.args.d (frame_is c.args.s.now c.args.d c.record_frame.ensures c.table_in-t.ensures c.in_err-frame.was)

pub look_at-look-requires : goal.look_at-look-requires
look_at-look-requires g c =
    let s = c.args.s.now in
    let r : Right s = record { shaped = c.shape_in.ensures; is_sound = c.requires.is_sound } in
    (frames s r c.args.d c.in_ok-frame.frame (frame_is s c.args.d c.record_frame.ensures c.table_in-t.ensures c.in_ok-frame.was)).at

pub next_of-next-requires-clause-is_there : goal.next_of-next-requires-clause-is_there
next_of-next-requires-clause-is_there g c =
    let s = c.args.s.now in
    let r : Right s = record { shaped = c.shape_in.ensures; is_sound = c.requires.is_sound } in
    let k = frame_is s c.args.d c.record_frame.ensures c.table_in-t.ensures c.in_ok-frame.was in
    there_and_aimed s r c.args.d c.in_ok-frame.frame k c.table_in-t.ensures (c.look_at-look.ensures ∙ rw c.sought_for.ensures)

pub next_of-next-requires-clause-finds : goal.next_of-next-requires-clause-finds
next_of-next-requires-clause-finds g c = rw c.table_in-t.ensures c.requires.finds

pub beside-n-requires : goal.beside-n-requires
beside-n-requires g c =
    let s = c.args.s.now in
    let r : Right s = record { shaped = c.shape_in.ensures; is_sound = c.requires.is_sound } in
    let k = frame_is s c.args.d c.record_frame.ensures c.table_in-t.ensures c.in_ok-frame.was in (
      low s r c.args.d c.in_ok-frame.frame k c.table_in-t.ensures (c.look_at-look.ensures ∙ rw c.sought_for.ensures),
      next_small s r c.args.d c.in_ok-frame.frame k c.table_in-t.ensures (c.look_at-look.ensures ∙ rw c.sought_for.ensures) c.next_of-next.ensures,
    )

pub plan_in-requires : goal.plan_in-requires
plan_in-requires g c =
    let s = c.args.s.now in
    let r : Right s = record { shaped = c.shape_in.ensures; is_sound = c.requires.is_sound } in
    let k = frame_is s c.args.d c.record_frame.ensures c.table_in-t.ensures c.in_ok-frame.was in
    in_place s r c.args.d c.in_ok-frame.frame k c.table_in-t.ensures (c.look_at-look.ensures ∙ rw c.sought_for.ensures) c.next_of-next.ensures c.beside-n.ensures

pub returns-in_err-plan : goal.returns-in_err-plan
returns-in_err-plan g c =
    let s = c.args.s.now in
    let r : Right s = record { shaped = c.shape_in.ensures; is_sound = c.requires.is_sound } in
    let k = frame_is s c.args.d c.record_frame.ensures c.table_in-t.ensures c.in_ok-frame.was in
    let e : c.from_residual-in_err-plan.result ≡ Err c.in_err-plan.field-0.0 = search rules in
    e ∙ was_refused s r c.args.d c.in_ok-frame.frame k c.table_in-t.ensures (c.look_at-look.ensures ∙ rw c.sought_for.ensures) c.next_of-next.ensures c.beside-n.ensures c.plan_in.ensures c.in_err-plan.was

pub returns : goal.returns
returns g c =
    let s = c.args.s.now in
    let r : Right s = record { shaped = c.shape_in.ensures; is_sound = c.requires.is_sound } in
    let k = frame_is s c.args.d c.record_frame.ensures c.table_in-t.ensures c.in_ok-frame.was in
    was_planned s r c.args.d c.in_ok-frame.frame k c.table_in-t.ensures (c.look_at-look.ensures ∙ rw c.sought_for.ensures) c.next_of-next.ensures c.beside-n.ensures c.plan_in.ensures c.in_ok-plan.plan c.in_ok-plan.was
