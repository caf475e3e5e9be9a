-- The lines of the log, and their text as bytes (ASCII), each ended by a line feed.
use Rattle.std.specs.Prelude.{ℕ, zero, suc, ◌+◌, ◌/◌, ◌%◌, true, false, List, [], ◌∷◌, ◌++◌, ltb}

pub data Line : Type 0 where
  -- net BUSES BRIDGES AGENTS
  net : ℕ → ℕ → ℕ → Line
  -- e BLOCK RECORD KIND REFUSAL VALUE
  e : ℕ → ℕ → ℕ → ℕ → ℕ → Line
  -- t BLOCK REFUSAL RECORD OTHER
  t : ℕ → ℕ → ℕ → ℕ → Line
  -- stop BLOCK NUMBER
  stop : ℕ → ℕ → Line
  -- end ENTRIES
  end : ℕ → Line

-- the last digits of n, as many as it has but at most k
unfoldable pub digits : ℕ → ℕ → List ℕ
digits zero n = []
digits (suc k) n = elim (ltb n 10) [ true ↦ (48 + n) ∷ [] | false ↦ digits k (n / 10) ++ ((48 + n % 10) ∷ []) ]

-- n in decimal: a number has fewer digits than n + 1
abbrev pub decimal : ℕ → List ℕ
decimal n = digits (suc n) n

-- a space and the number, for each
unfoldable pub numbers : List ℕ → List ℕ
numbers [] = []
numbers (n ∷ ns) = (32 ∷ decimal n) ++ numbers ns

-- a word, its numbers, a line feed
abbrev pub line_of : List ℕ → List ℕ → List ℕ
line_of word ns = word ++ numbers ns ++ (10 ∷ [])

unfoldable pub text : Line → List ℕ
text (net buses bridges agents) = line_of (110 ∷ 101 ∷ 116 ∷ []) (buses ∷ bridges ∷ agents ∷ [])
text (e block place kind refusal value) = line_of (101 ∷ []) (block ∷ place ∷ kind ∷ refusal ∷ value ∷ [])
text (t block refusal first other) = line_of (116 ∷ []) (block ∷ refusal ∷ first ∷ other ∷ [])
text (stop block number) = line_of (115 ∷ 116 ∷ 111 ∷ 112 ∷ []) (block ∷ number ∷ [])
text (end entries) = line_of (101 ∷ 110 ∷ 100 ∷ []) (entries ∷ [])

unfoldable pub texts : List Line → List ℕ
texts [] = []
texts (l ∷ ls) = text l ++ texts ls
