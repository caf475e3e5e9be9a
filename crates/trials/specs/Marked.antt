-- Every trial that document 01 marks with *, as a row of one table. That each gives what its row says is proved in proofs/MarkedTrials.antt.
use Rattle.std.specs.Prelude.{ℕ, List, [], ◌∷◌, ◌++◌}
use Rattle.network.specs.declared.State.{State}
use Rattle.network.specs.Opening.{zero_state}
use Rattle.lines.specs.Lines.{Line, net, e, t, stop, end}
use Rattle.logs.specs.Logs.{Ran}
use Rattle.trials.specs.Streams.{with_check, Layout, T-with, table_bytes, network, rec, steps_at, tick_at, posted, committed_read, read_completion, state_with}

-- an input, what the program prints for it, and the state in which it ends
pub record Row : Type 0 where
  pub input : List ℕ
  pub lines : List Line
  pub state : State

abbrev pub outcome : Row → Ran
outcome r = record { lines = r.lines; state = r.state }

-- ---- the inputs

-- T's own block: its check is 134
unfoldable pub T : List ℕ
T = with_check 134 (table_bytes (T-with 2 1 1))

-- 1 bus, 0 bridges, 1 agent
unfoldable pub one_bus : Layout
one_bus = record { numbers = 1 ∷ 0 ∷ 1 ∷ 2 ∷ 1 ∷ 1 ∷ []; pairs = []; homes = 0 ∷ [] }

-- 2 buses, 0 bridges
unfoldable pub no_bridge_at_all : Layout
no_bridge_at_all = record { numbers = 2 ∷ 0 ∷ 2 ∷ 2 ∷ 1 ∷ 1 ∷ []; pairs = []; homes = 0 ∷ 1 ∷ [] }

-- two bridges (0, 1) with 2 buses
unfoldable pub bridged_twice : Layout
bridged_twice = record { numbers = 2 ∷ 2 ∷ 2 ∷ 2 ∷ 1 ∷ 1 ∷ []; pairs = 0 ∷ 1 ∷ 0 ∷ 1 ∷ []; homes = 0 ∷ 1 ∷ [] }

-- a refused table stops the program at block 0, and its state is the all-zero state
abbrev pub refused_table : Layout → ℕ → Row
refused_table L n = record { input = network L; lines = stop 0 n ∷ []; state = zero_state }

-- limit P 1: one P in channel 0, another in channel 2
unfoldable pub posted_twice : List ℕ
posted_twice = network (T-with 1 1 1) ++ steps_at 1 (rec 1 0 0 1 0 ∷ rec 5 0 0 0 1 ∷ rec 1 0 0 1 0 ∷ [])

unfoldable pub posted_twice_lines : List Line
posted_twice_lines = net 2 1 2 ∷ e 1 0 1 0 1 ∷ e 1 1 5 0 0 ∷ e 1 2 1 0 2 ∷ []

-- ---- the table

unfoldable pub rows : List Row
rows =
    -- the ten records
    record {
      input = T ++ steps_at 1 (
          rec 1 0 0 1 0
          ∷ rec 2 0 0 1 0
          ∷ rec 6 0 0 0 2
          ∷ rec 5 0 0 0 1
          ∷ rec 6 0 0 0 2
          ∷ rec 7 2 0 0 2
          ∷ rec 5 2 0 0 1
          ∷ rec 7 2 0 0 2
          ∷ rec 7 0 0 0 2
          ∷ rec 7 0 0 0 2
          ∷ []);
      lines =
          net 2 1 2
          ∷ e 1 0 1 0 1
          ∷ e 1 1 2 0 2
          ∷ e 1 2 6 9 0
          ∷ e 1 3 5 0 0
          ∷ e 1 4 6 0 0
          ∷ e 1 5 7 9 0
          ∷ e 1 6 5 0 0
          ∷ e 1 7 7 0 0
          ∷ e 1 8 7 0 0
          ∷ e 1 9 7 6 0
          ∷ end 0
          ∷ [];
      state = state_with (T-with 2 1 1) [] (2 ∷ []);
    }
    -- 1 bus, 0 bridges, 1 agent: accepted
    ∷ record { input = network one_bus; lines = net 1 0 1 ∷ end 0 ∷ []; state = state_with one_bus [] [] }
    -- 2 buses, 0 bridges: 27
    ∷ refused_table no_bridge_at_all 27
    -- two bridges (0, 1) with 2 buses: 27
    ∷ refused_table bridged_twice 27
    -- limit 0 or 9: 23
    ∷ refused_table (T-with 0 1 1) 23
    ∷ refused_table (T-with 9 1 1) 23
    ∷ refused_table (T-with 2 0 1) 23
    ∷ refused_table (T-with 2 9 1) 23
    ∷ refused_table (T-with 2 1 0) 23
    ∷ refused_table (T-with 2 1 9) 23
    -- an empty tick is accepted and changes nothing, with a P in channel 0
    ∷ record {
      input = T ++ steps_at 1 (rec 1 0 0 1 0 ∷ []) ++ tick_at 2 [];
      lines = net 2 1 2 ∷ e 1 0 1 0 1 ∷ t 2 0 0 0 ∷ end 1 ∷ [];
      state = state_with (T-with 2 1 1) ((0, posted 1 ∷ []) ∷ []) (1 ∷ []);
    }
    -- T with limit C and R of 2; two reads of agent 0 completed into channel 3; complete (channel 0, first) and drop
    -- completion (channel 3, second): 15
    ∷ record {
      input =
          network (T-with 2 2 2)
          ++ steps_at 1 (rec 2 0 0 1 0 ∷ rec 2 0 0 1 0 ∷ rec 6 0 0 0 1 ∷ rec 6 0 0 0 2 ∷ rec 7 2 0 0 1 ∷ rec 7 2 0 0 2 ∷ [])
          ++ tick_at 2 (rec 7 0 0 0 1 ∷ rec 9 3 0 0 2 ∷ []);
      lines =
          net 2 1 2
          ∷ e 1 0 2 0 1
          ∷ e 1 1 2 0 2
          ∷ e 1 2 6 0 0
          ∷ e 1 3 6 0 0
          ∷ e 1 4 7 0 0
          ∷ e 1 5 7 0 0
          ∷ t 2 15 0 1
          ∷ end 4
          ∷ [];
      state =
          state_with (T-with 2 2 2)
          ((0, committed_read 1 ∷ committed_read 2 ∷ []) ∷ (3, read_completion 1 ∷ read_completion 2 ∷ []) ∷ [])
          (2 ∷ []);
    }
    -- two begins of agent 0: 15
    ∷ record {
      input = T ++ tick_at 1 (rec 1 0 0 1 0 ∷ rec 2 0 0 1 0 ∷ []);
      lines = net 2 1 2 ∷ t 1 15 0 1 ∷ end 0 ∷ [];
      state = state_with (T-with 2 1 1) [] [];
    }
    -- T with one P in channel 0, a begin of agent 0 and the post of that P: accepted
    ∷ record {
      input = T ++ steps_at 1 (rec 1 0 0 1 0 ∷ []) ++ tick_at 2 (rec 1 0 0 1 0 ∷ rec 5 0 0 0 1 ∷ []);
      lines = net 2 1 2 ∷ e 1 0 1 0 1 ∷ t 2 0 0 0 ∷ e 2 0 1 0 2 ∷ e 2 1 5 0 0 ∷ end 2 ∷ [];
      state = state_with (T-with 2 1 1) ((0, posted 2 ∷ []) ∷ (2, posted 1 ∷ []) ∷ []) (2 ∷ []);
    }
    -- limit P 1, a tick of both posts, channel 0 first: 5 at record 0
    ∷ record {
      input = posted_twice ++ tick_at 2 (rec 5 0 0 0 2 ∷ rec 5 2 0 0 1 ∷ []);
      lines = posted_twice_lines ++ (t 2 5 0 0 ∷ end 2 ∷ []);
      state = state_with (T-with 1 1 1) ((0, posted 2 ∷ []) ∷ (2, posted 1 ∷ []) ∷ []) (2 ∷ []);
    }
    -- channel 2 first: 5 at record 1, since both are judged in the starting state
    ∷ record {
      input = posted_twice ++ tick_at 2 (rec 5 2 0 0 1 ∷ rec 5 0 0 0 2 ∷ []);
      lines = posted_twice_lines ++ (t 2 5 1 0 ∷ end 2 ∷ []);
      state = state_with (T-with 1 1 1) ((0, posted 2 ∷ []) ∷ (2, posted 1 ∷ []) ∷ []) (2 ∷ []);
    }
    -- by single steps the one order passes
    ∷ record {
      input = posted_twice ++ steps_at 2 (rec 5 2 0 0 1 ∷ rec 5 0 0 0 2 ∷ []);
      lines = posted_twice_lines ++ (e 2 0 5 0 0 ∷ e 2 1 5 0 0 ∷ end 1 ∷ []);
      state = state_with (T-with 1 1 1) ((2, posted 2 ∷ []) ∷ []) (2 ∷ []);
    }
    -- and the other does not
    ∷ record {
      input = posted_twice ++ steps_at 2 (rec 5 0 0 0 2 ∷ rec 5 2 0 0 1 ∷ []);
      lines = posted_twice_lines ++ (e 2 0 5 5 0 ∷ e 2 1 5 0 0 ∷ end 1 ∷ []);
      state = state_with (T-with 1 1 1) ((0, posted 2 ∷ []) ∷ []) (2 ∷ []);
    }
    ∷ []
