-- What a record's own channel shows and where to look next; and the plan of a judge that was told what stands there. That it is the
-- state's own plan: proofs/Reading.antt.
use Rattle.std.specs.Prelude.{ℕ, ◌≡◌, true, List, Option, None, Some}
use Rattle.chassis.specs.declared.Agent.{Agent}
use Rattle.chassis.specs.declared.Chan.{Chan}
use Rattle.chassis.specs.declared.Table.{Table}
use Rattle.chassis.specs.declared.NextPlace.{NextPlace}
use Rattle.chassis.specs.Channels.{has_agent, has_chan}
use Rattle.chassis.specs.Routes.{next_place}
use Rattle.queue.specs.declared.Entry.{Entry}
use Rattle.queue.specs.declared.Look.{Look}
use Rattle.queue.specs.code.Changes.{look_of}
use Rattle.events.specs.Accounts.{account}
use Rattle.read_events.specs.declared.Frame.{Frame}
use Rattle.play_events.specs.declared.Notice.{Notice}
use Rattle.read_events.specs.Frames.{ahead_or, answer_or, back_or}
use Rattle.read_events.specs.Sights.{entry_in, next_told, sight_told}
use Rattle.judge_events.specs.Verdicts.{Verdict, verdict}

abbrev pub look_told : Frame → List Entry → Option Look
look_told f here = look_of (account f.event).kind (account f.event).name here

-- an entry that is found is bound for an agent of the table
abbrev pub Aimed : Table → Option Look → Type 0
Aimed T None = Unit {0}
Aimed T (Some l) = has_agent T l.entry.target ≡ true

-- what finds the next place of every channel and agent of the table; pre and post say when it may be called, and what it then gives
abbrev pub FindsNext : (Table → Chan → Agent → Type 0) → (Table → Chan → Agent → NextPlace → Type 0) → Table → Type 0
FindsNext pre post T =
    (N : Chan) (a : Agent) → has_chan T N ≡ true → has_agent T a ≡ true → pre T N a × ((x : NextPlace) → post T N a x → x ≡ next_place T N a)

abbrev pub beside : Table → Frame → Option Look → NextPlace → Notice
beside T f l next = record {
  look = l;
  next = next;
  ahead = ahead_or f.at next;
  answer = answer_or T f.at next;
  back = back_or T f.at;
}

unfoldable pub notice : Table → Frame → List Entry → Notice
notice T f here = beside T f (look_told f here) (next_told T f.event f.at (look_told f here))

unfoldable pub told_plan : Table → Frame → ℕ → Notice → List Entry → List Entry → List Entry → List Entry → Verdict
told_plan T f count n here ahead answer back =
    verdict T f.event count n.look n.next (sight_told T n.next (entry_in n.look) here ahead answer back f.event)
