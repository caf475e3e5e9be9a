-- What a judge says from what it is told, kind by kind. That it is the plan of the state it was told of: play_events/proofs/Told.antt.
use Rattle.std.specs.Prelude.{ℕ, ◌+◌, Bool, true, false, cond, not, ◌&&◌, leb, Option, None, Some, Result, Ok, Err}
use Rattle.base.specs.declared.Refusal.{Refusal}
use Rattle.base.specs.declared.Refusal.TheVariants.{AllBegun, NoRoom, NoSuchEntry, InMaster, AlreadyCommitted, BehindPosted, AlreadyLatched, AtTarget, NoAnswer, OldestAnswer, AnswerBehind}
use Rattle.base.specs.Lists.{is_some}
use Rattle.chassis.specs.declared.Agent.{Agent}
use Rattle.chassis.specs.declared.Chan.{Chan}
use Rattle.chassis.specs.declared.Table.{Table}
use Rattle.chassis.specs.declared.NextPlace.{NextPlace}
use Rattle.chassis.specs.declared.NextPlace.TheVariants.{Target, Through}
use Rattle.chassis.specs.Channels.{is_master, master_channel, opposite}
use Rattle.queue.specs.declared.Look.{Look}
use Rattle.queue.specs.declared.Change.TheVariants.{Add, TakeOut, TakeMatching, Mark}
use Rattle.queue.specs.Entries.{P, R, as_kind}
use Rattle.network.specs.declared.Act.{Act}
use Rattle.events.specs.declared.Event.{Event}
use Rattle.events.specs.declared.Event.TheVariants.{BeginPosted, BeginRead, BeginWrite, Commit, Post, Latch, Complete, DropRequest, DropCompletion}
use Rattle.read_events.specs.declared.Sight.{Sight}
use Rattle.judge_events.specs.declared.Plan.{Plan}
use Rattle.judge_events.specs.Plans.{at_channel, no_act, does, entering, answer_entering}

abbrev pub Verdict : Type 0
Verdict = Result Plan Refusal

-- 4, 5
abbrev pub begin_verdict : ℕ → Bool → ℕ → Bool → Agent → Agent → Verdict
begin_verdict count full k write m a =
    cond (leb 65535 count) (Err AllBegun)
    (cond full (Err NoRoom)
    (Ok (record {
      value = count + 1;
      raises = true;
      first = at_channel (master_channel m) (Add (record {
        transaction = record { master = m; number = count + 1 };
        kind = k;
        target = a;
        write = write;
        committed = false;
      }));
      second = no_act;
      third = no_act;
    })))

-- 6, 8, 9
abbrev pub commit_verdict : Chan → Option Look → Verdict
commit_verdict N None = Err NoSuchEntry
commit_verdict N (Some l) =
    cond l.entry.committed (Err AlreadyCommitted)
    (cond l.behind (Err BehindPosted)
    (Ok (does (at_channel N (Mark l.entry)) no_act no_act)))

-- 6, 9, 5
abbrev pub post_verdict : Chan → Option Look → NextPlace → Bool → Verdict
post_verdict N None next full = Err NoSuchEntry
post_verdict N (Some l) next full =
    cond l.behind (Err BehindPosted)
    (cond full (Err NoRoom)
    (Ok (does (at_channel N (TakeOut l.entry)) (entering next l.entry) no_act)))

-- 6, 11, 9, 10, 5
abbrev pub latch_verdict_on : Chan → Look → Chan → Sight → Verdict
latch_verdict_on N l X g =
    cond l.behind (Err BehindPosted)
    (cond g.waits (Err AlreadyLatched)
    (cond (is_some g.answer) (Err AlreadyLatched)
    (cond g.full (Err NoRoom)
    (Ok (does (at_channel N (Mark l.entry)) (at_channel X (Add (as_kind R l.entry))) no_act)))))

abbrev pub latch_verdict_to : Chan → Look → NextPlace → Sight → Verdict
latch_verdict_to N l Target g = Err AtTarget
latch_verdict_to N l (Through X) g = latch_verdict_on N l X g

abbrev pub latch_verdict : Chan → Option Look → NextPlace → Sight → Verdict
latch_verdict N None next g = Err NoSuchEntry
latch_verdict N (Some l) next g = latch_verdict_to N l next g

-- 6, 9, 12, 14, 5
abbrev pub answer_verdict : Chan → Look → Act → Act → Bool → Verdict
answer_verdict N l taken given full =
    cond full (Err NoRoom) (Ok (does (at_channel N (TakeOut l.entry)) taken given))

abbrev pub complete_verdict_on : Table → Chan → Look → Chan → Act → Bool → Option Look → Verdict
complete_verdict_on T N l X given full None = Err NoAnswer
complete_verdict_on T N l X given full (Some a) =
    cond (not a.entry.write && a.behind) (Err AnswerBehind)
    (answer_verdict N l (at_channel (opposite T X) (TakeMatching l.entry)) given full)

abbrev pub complete_verdict_to : Table → Chan → Look → NextPlace → Sight → Verdict
complete_verdict_to T N l Target g = answer_verdict N l no_act (answer_entering T N l.entry) g.full
complete_verdict_to T N l (Through X) g = complete_verdict_on T N l X (answer_entering T N l.entry) g.full g.answer

abbrev pub complete_verdict : Table → Chan → Option Look → NextPlace → Sight → Verdict
complete_verdict T N None next g = Err NoSuchEntry
complete_verdict T N (Some l) next g = cond l.behind (Err BehindPosted) (complete_verdict_to T N l next g)

-- 6, 7, 8
abbrev pub drop_request_verdict : Table → Chan → Option Look → Verdict
drop_request_verdict T N None = Err NoSuchEntry
drop_request_verdict T N (Some l) =
    cond (is_master T N) (Err InMaster)
    (cond l.entry.committed (Err AlreadyCommitted)
    (Ok (does (at_channel N (TakeOut l.entry)) no_act no_act)))

-- 6, 13
abbrev pub drop_completion_verdict : Chan → Option Look → Bool → Verdict
drop_completion_verdict N None oldest = Err NoSuchEntry
drop_completion_verdict N (Some l) oldest =
    cond oldest (Err OldestAnswer)
    (Ok (does (at_channel N (TakeOut l.entry)) no_act no_act))

unfoldable pub verdict : Table → Event → ℕ → Option Look → NextPlace → Sight → Verdict
verdict T (BeginPosted m a) count l next g = begin_verdict count g.full P true m a
verdict T (BeginRead m a) count l next g = begin_verdict count g.full R false m a
verdict T (BeginWrite m a) count l next g = begin_verdict count g.full R true m a
verdict T (Commit N t) count l next g = commit_verdict N l
verdict T (Post N t) count l next g = post_verdict N l next g.full
verdict T (Latch N t) count l next g = latch_verdict N l next g
verdict T (Complete N t) count l next g = complete_verdict T N l next g
verdict T (DropRequest N t) count l next g = drop_request_verdict T N l
verdict T (DropCompletion N t) count l next g = drop_completion_verdict N l g.oldest
