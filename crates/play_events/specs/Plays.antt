-- Records taken one by one, each in the state that those before it reached: the end state, the refusals and the values.
use Rattle.std.specs.Prelude.{ℕ, List, [], ◌∷◌}
use Rattle.network.specs.declared.State.{State}
use Rattle.events.specs.Records.{Decoded}
use Rattle.events.specs.Steps.{record_step, refusal_number, answer_value}

unfoldable pub played_state : State → List Decoded → State
played_state s [] = s
played_state s (d ∷ ds) = played_state (record_step s d).state ds

unfoldable pub played_refusals : State → List Decoded → List ℕ
played_refusals s [] = []
played_refusals s (d ∷ ds) = refusal_number (record_step s d).answer ∷ played_refusals (record_step s d).state ds

unfoldable pub played_values : State → List Decoded → List ℕ
played_values s [] = []
played_values s (d ∷ ds) = answer_value (record_step s d).answer ∷ played_values (record_step s d).state ds
