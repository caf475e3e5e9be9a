-- What the grounds test, each under a name of its own. N is the named channel, t the named transaction, r the request so named, N1 the next place.
use Rattle.std.specs.Prelude.{ℕ, Bool, true, false, not, ◌&&◌, ◌||◌, List}
use Rattle.chassis.specs.declared.Agent.{Agent}
use Rattle.chassis.specs.declared.Chan.{Chan}
use Rattle.chassis.specs.declared.NextPlace.{NextPlace}
use Rattle.chassis.specs.declared.NextPlace.TheVariants.{Target, Through}
use Rattle.chassis.specs.Channels.{is_master, opposite}
use Rattle.chassis.specs.Routes.{next_place}
use Rattle.queue.specs.declared.Transaction.{Transaction}
use Rattle.queue.specs.declared.Entry.{Entry}
use Rattle.queue.specs.Entries.{R, C, is_named, matches}
use Rattle.queue.specs.Queues.{stands, the, has_matching, the_matching, behind_P, first_C}
use Rattle.network.specs.Nets.{Net, waiting, full}

-- the named entry of kind k in N
abbrev pub entry_at : Net → ℕ → Chan → Transaction → Entry
entry_at s k N t = the k t (waiting s N)

-- its next place N1
abbrev pub ahead : Net → ℕ → Chan → Transaction → NextPlace
ahead s k N t = next_place s.table N (entry_at s k N t).target

-- N1 is the target agent
abbrev pub is_target : NextPlace → Bool
is_target Target = true
is_target (Through X) = false

-- N1 is a bridge channel, and passes
abbrev pub is_channel_with : (Chan → Bool) → NextPlace → Bool
is_channel_with p Target = false
is_channel_with p (Through X) = p X

-- 5, where an entry of kind k and master m goes on to N1: there is no room for it
abbrev pub full_ahead : Net → ℕ → Agent → NextPlace → Bool
full_ahead s k m N1 = is_channel_with (full s k m) N1

-- 5, of a complete: in a bridge channel a C is to enter the opposite of N
abbrev pub answer_full : Net → Agent → Chan → Bool
answer_full s m N = not (is_master s.table N) && full s C m (opposite s.table N)

-- 6
abbrev pub no_such_entry : Net → ℕ → Chan → Transaction → Bool
no_such_entry s k N t = not (stands k t (waiting s N))

-- 8
abbrev pub is_committed : Net → Chan → Transaction → Bool
is_committed s N t = (entry_at s R N t).committed

-- 9
abbrev pub behind_a_P : Net → ℕ → Chan → Transaction → Bool
behind_a_P s k N t = behind_P (is_named k t) (waiting s N)

-- the opposite of X holds the C that matches r
abbrev pub answered : Net → Entry → Chan → Bool
answered s r X = has_matching C r (waiting s (opposite s.table X))

-- 10: N1 holds this transaction's R, or its opposite holds its C
abbrev pub latched_already : Net → Entry → NextPlace → Bool
latched_already s r N1 = is_channel_with (λ X. has_matching R r (waiting s X) || answered s r X) N1

-- 12: N1 is a bridge channel and its opposite has no matching C
abbrev pub unanswered : Net → Entry → NextPlace → Bool
unanswered s r N1 = is_channel_with (λ X. not (answered s r X)) N1

-- 13
abbrev pub is_oldest_C : Net → Chan → Transaction → Bool
is_oldest_C s N t = first_C t (waiting s N)

-- the C that matches r is a read's and has an older P before it; a write's C may pass P
abbrev pub read_answer_waits : Entry → List Entry → Bool
read_answer_waits r l = not (the_matching C r l).write && behind_P (matches C r) l

-- 14: so it is in the opposite of N1
abbrev pub read_answer_behind_P : Net → Entry → NextPlace → Bool
read_answer_behind_P s r N1 = is_channel_with (λ X. read_answer_waits r (waiting s (opposite s.table X))) N1
