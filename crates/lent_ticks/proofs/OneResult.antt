-- Two results that the statements of `tick`, `play_tick` and `judge_all_in` allow are one: the outcome and the lent answer list, the answer
-- and the turns.
use Prim.Native.Nat.{ℕ}
use mathlib.Core.Path.{◌≡◌}
use mathlib.Core.List.{List}
use Rattle.base.proofs.Logic.{one_result}
use Rattle.network.specs.declared.State.{State}
use Rattle.ticks.specs.declared.TickOutcome.{TickOutcome}
use Rattle.ticks.specs.Ticks.{Ticked, TickAnswer}
use Rattle.play_ticks.specs.declared.Turn.{Turn}
use Rattle.play_ticks.specs.declared.Turns.{Turns}

-- what the three clauses say of an outcome and of the list at the end
pub record Gives (t : Ticked) (q : TickOutcome) (answers : List ℕ) : Type 0 where
  pub answer : q.answer ≡ t.answer
  pub state : q.state ≡ t.state
  pub at_the_end : answers ≡ t.answers

same_outcome : {a b : TickAnswer} {s u : State} → a ≡ b → s ≡ u → ◌≡◌ {A = TickOutcome} (record { answer = a; state = s }) (record { answer = b; state = u })
same_outcome p q = rw (p, q)

pub tick_once : {t : Ticked} {q u : TickOutcome} {l m : List ℕ} → Gives t q l → Gives t u m → (q ≡ u) × (l ≡ m)
tick_once g h = (same_outcome (one_result _ _ g.answer h.answer) (one_result _ _ g.state h.state), one_result _ _ g.at_the_end h.at_the_end)

same_turns : {l m : List Turn} → l ≡ m → ◌≡◌ {A = Turns} (record { all = l }) (record { all = m })
same_turns p = rw p

pub judged_once : {a q u : TickAnswer} {ts : List Turn} {l m : Turns} → q ≡ a → l.all ≡ ts → u ≡ a → m.all ≡ ts → (q ≡ u) × (l ≡ m)
judged_once a ts b us = (one_result _ _ a b, same_turns (one_result _ _ ts us))
