-- What is read off a sound state for a record: every place that is looked at is there, and the plan of a judge that was told what
-- stands in those places is the event's own plan.
use Prim.Native.Nat.{◌<◌}
use mathlib.Core.Path.{◌≡◌, refl, ap, sym, subst, ◌∙◌}
use mathlib.Core.Bool.{true}
use mathlib.Core.List.{List}
use Rattle.std.specs.Prelude.{Option, Some, Ok}
use native.Mathlib.Omega.{arith}
use lib.ListN.{get_or}
use Rattle.chassis.specs.declared.Agent.{Agent}
use Rattle.chassis.specs.declared.Chan.{Chan}
use Rattle.chassis.specs.declared.NextPlace.{NextPlace}
use Rattle.chassis.specs.declared.Table.{Table}
use Rattle.chassis.specs.Channels.{has_agent, has_chan}
use Rattle.chassis.specs.Tables.{table_passes}
use Rattle.chassis.specs.Capacities.{most_agents, most_channels}
use Rattle.find_routes.proofs.Places.{agent_low}
use Rattle.queue.specs.declared.Entry.{Entry}
use Rattle.queue.specs.declared.Look.{Look}
use Rattle.queue.specs.Packing.{live}
use Rattle.network.specs.declared.State.{State}
use Rattle.network.specs.Nets.{view}
use Rattle.network.specs.code.Acts.{channel_at}
use Rattle.events.specs.Records.{Decoded}
use Rattle.events.specs.declared.Event.{Event}
use Rattle.events.specs.Accounts.{account}
use Rattle.events.proofs.SoundStays.{Right}
use Rattle.read_events.specs.declared.Frame.{Frame}
use Rattle.read_events.specs.declared.Sight.{Sight}
use Rattle.play_events.specs.declared.Notice.{Notice}
use Rattle.judge_events.specs.declared.Plan.{Plan}
use Rattle.read_events.specs.Frames.{own_frame, event_frame, frame, ahead_or, answer_or, back_or}
use Rattle.judge_events.specs.Plans.{plan}
use Rattle.read_events.specs.Sights.{small, entry_in, next_told, sight_told}
use Rattle.judge_events.specs.Verdicts.{Verdict, verdict}
use Rattle.play_events.specs.Notices.{look_told, Aimed, beside, notice, told_plan}
use Rattle.play_events.proofs.Shown.{knows, plan_right}
use Rattle.read_events.proofs.Onward.{chan_low, Onward, onward_small, ahead_there, answer_there, back_there}
use Rattle.play_events.proofs.There.{plan_there, master_there}
use Rattle.play_events.proofs.Carried.{table_of, target_is}

-- a record's frame in s
pub record Framed (s : State) (d : Decoded) (f : Frame) : Type 0 where
  pub is : d ≡ Some f.event
  pub own : f ≡ own_frame f.event
  pub passes : table_passes s.table ≡ true
  pub has_at : has_chan s.table f.at ≡ true
  pub named : has_chan s.table (account f.event).channel ≡ true
  pub at : f.at.0 < most_channels
  pub number : (account f.event).channel.0 < 255
  pub master : f.master.0 < most_agents
  pub aimed : Aimed s.table (look_told f (live (channel_at s f.at)))

-- the channels beside its own
pub record Noticed (n : Notice) : Type 0 where
  pub ahead : n.ahead.0 < most_channels
  pub answer : n.answer.0 < most_channels
  pub back : n.back.0 < most_channels
  pub next : small n.next

-- the channels that a plan changes
pub record Planned (p : Plan) : Type 0 where
  pub first : p.first.at.0 < most_channels
  pub second : p.second.at.0 < most_channels
  pub third : p.third.at.0 < most_channels

module _ (s : State) (r : Right s) where
  abbrev T : Table
  T = s.table

  abbrev ok : table_passes T ≡ true
  ok = table_of s r

  pub framed : (d : Decoded) (f : Frame) → frame T d ≡ Ok f → Framed s d f
  framed d f isf =
      let k = knows T d f isf in
      let p = k.pointed in
      let low = chan_low T ok (account f.event).channel p.has_at in
      let at : f.at ≡ (account f.event).channel = ap (λ (x : Frame). x.at) p.own in
      let same : f.at.0 ≡ (account f.event).channel.0 = ap (λ (x : Chan). x.0) at in
      record {
        is = k.is;
        own = p.own;
        passes = ok;
        has_at = subst (λ (x : Chan). has_chan T x ≡ true) (sym at) p.has_at;
        named = p.has_at;
        at = omega arith;
        number = omega arith;
        master = agent_low T ok f.master (subst (λ (x : Agent). has_agent T x ≡ true) (sym (ap (λ (x : Frame). x.master) p.own)) p.has_master);
        aimed = target_is s r f.at (account f.event).kind (account f.event).name;
      }

  module _ (N : Chan) (h : has_chan T N ≡ true) (f : Frame) (at : f.at ≡ N) (l : Option Look) (next : NextPlace) (onward : Onward T ok next) where
    pub beside_there : Noticed (beside T f l next)
    beside_there =
        let has : has_chan T f.at ≡ true = subst (λ (x : Chan). has_chan T x ≡ true) (sym at) h in
        record {
          ahead = chan_low T ok (ahead_or f.at next) (ahead_there T ok f.at next has onward);
          answer = chan_low T ok (answer_or T f.at next) (answer_there T ok f.at next has onward);
          back = chan_low T ok (back_or T f.at) (back_there T ok f.at has);
          next = onward_small T ok next onward;
        }

  pub planned : (e : Event) {p : Plan} → plan (view s) e ≡ Ok p → Planned p
  unfolding view
  planned e {p} isp =
      let q = plan_there (view s) ok e isp in
      record { first = chan_low T ok p.first.at q.first; second = chan_low T ok p.second.at q.second; third = chan_low T ok p.third.at q.third }

  pub mastered : (e : Event) {p : Plan} → plan (view s) e ≡ Ok p → (account e).name.master.0 < most_agents
  unfolding view
  mastered e isp = agent_low T ok (account e).name.master (master_there (view s) ok e isp)

-- ---- what a judge is told of a frame's channels makes the event's own plan

module _ (s : State) where
  abbrev at : Chan → List Entry
  at N = live (channel_at s N)

  abbrev here : Frame → Option Look
  here x = look_told x (at x.at)

  abbrev next : Frame → NextPlace
  next x = next_told s.table x.event x.at (here x)

  abbrev sees : Frame → Sight
  sees x = sight_told s.table (next x) (entry_in (here x)) (at x.at) (at (ahead_or x.at (next x))) (at (answer_or s.table x.at (next x))) (at (back_or s.table x.at)) x.event

  -- the plan of a judge that is told what stands in a frame's own channel and in those beside it
  abbrev pub plan_told : Frame → Verdict
  plan_told f =
      told_plan s.table f (get_or s.begins f.master.0 0) (notice s.table f (at f.at)) (at f.at)
      (at (notice s.table f (at f.at)).ahead) (at (notice s.table f (at f.at)).answer) (at (notice s.table f (at f.at)).back)

  -- which is its verdict
  pub by_verdict : (f : Frame) → plan_told f ≡ verdict s.table f.event (get_or s.begins f.master.0 0) (here f) (next f) (sees f)
  unfolding told_plan notice
  by_verdict f = refl

  module _ (f : Frame) (own : f ≡ own_frame f.event) (isf : event_frame s.table f.event ≡ Ok f) where
    pub own_plan : plan_told f ≡ plan (view s) f.event
    own_plan =
        by_verdict f
        ∙ subst (λ (x : Frame). verdict s.table x.event (get_or s.begins x.master.0 0) (here x) (next x) (sees x) ≡ plan (view s) x.event) (sym own)
        (plan_right s f.event (here (own_frame f.event)) refl (next (own_frame f.event)) refl (sees (own_frame f.event)) refl isf)
