-- A channel of the table is an agent's or one of a bridge's two; a bridge channel and its opposite are each other's.
-- The numbers A + 2g and A + 2g + 1 are taken apart again by / 2 and % 2.
use Prim.Native.Nat.{ℕ, ◌+◌, ◌-◌, ◌*◌, ◌/◌, ◌%◌, ◌<◌, ◌≤◌}
use mathlib.Core.Path.{◌≡◌, refl, sym}
use mathlib.Core.Bool.{Bool, true, false}
use mathlib.Core.List.{List, [], ◌∷◌, map}
use native.Mathlib.Omega.{arith}
use borrow.Author.Tests.{ltb-true, lt-ltb, le-ltb, eqb-true, eqb-false, eq-eqb, ne_eqb}
use Rattle.base.specs.Lists.{any}
use Rattle.base.proofs.Logic.{split}
use Rattle.chassis.specs.declared.Chan.{Chan}
use Rattle.chassis.specs.declared.Table.{Table}
use Rattle.chassis.specs.Numbers.{same_chan}
use Rattle.chassis.specs.Channels.{has_chan, bridge_of, goes_forth, out_bus, opposite}
use Rattle.chassis.specs.Ways.{Hop, hop, to}
use Rattle.chassis.specs.Routes.{channel_of, among}
use Rattle.chassis.specs.Tables.{table_passes}
use Rattle.chassis.proofs.Counts.{Counts, counts}
use Rattle.chassis.proofs.Passing.{passed}

pub few : (T : Table) → table_passes T ≡ true → Counts T
few T ok = counts T (passed T ok).counts

module _ (T : Table) (N : Chan) where
  pub bridge_there : has_chan T N ≡ true → T.agents ≤ N.0 → bridge_of T N < T.bridges
  bridge_there h m =
      let l : N.0 < T.agents + 2 * T.bridges = ltb-true N.0 (T.agents + 2 * T.bridges) h in
      omega arith

  -- the first number goes forth
  pub not_first : goes_forth T N ≡ false → 1 ≤ N.0
  not_first h =
      let n : (N.0 - T.agents) % 2 ≡ 0 → ⊥ = eqb-false ((N.0 - T.agents) % 2) 0 h in
      omega arith

-- ---- the channel in which a bridge is crossed

module _ (T : Table) where
  pub out_bus_of : (g : ℕ) (d : Bool) → out_bus T (channel_of T (hop g d)) ≡ to T (hop g d)
  unfolding out_bus
  out_bus_of g true =
      let m = le-ltb (T.agents + 2 * g) T.agents (omega arith) in
      let f = eq-eqb ((T.agents + 2 * g - T.agents) % 2) 0 (omega arith) in
      let n : (T.agents + 2 * g - T.agents) / 2 ≡ g = omega arith in
      rw (m, f, n)
  out_bus_of g false =
      let m = le-ltb (T.agents + 2 * g + 1) T.agents (omega arith) in
      let f = ne_eqb ((T.agents + 2 * g + 1 - T.agents) % 2) 0 (λ e. omega arith) in
      let n : (T.agents + 2 * g + 1 - T.agents) / 2 ≡ g = omega arith in
      rw (m, f, n)

  pub chan_there : (g : ℕ) (d : Bool) → g < T.bridges → has_chan T (channel_of T (hop g d)) ≡ true
  chan_there g true h = lt-ltb (T.agents + 2 * g) (T.agents + 2 * T.bridges) (omega arith)
  chan_there g false h = lt-ltb (T.agents + 2 * g + 1) (T.agents + 2 * T.bridges) (omega arith)

  pub past_agents : (h : Hop) → T.agents ≤ (channel_of T h).0
  past_agents (hop g true) = omega arith
  past_agents (hop g false) = omega arith

  -- ---- opposites

  -- the other of a bridge's two channels
  data Pair (N X : Chan) : Type 0 where
    up : (N.0 - T.agents) % 2 ≡ 0 → X.0 ≡ N.0 + 1 → Pair N X
    down : (N.0 - T.agents) % 2 ≡ 1 → X.0 ≡ N.0 - 1 → Pair N X

  pair : (N : Chan) → Pair N (opposite T N)
  unfolding opposite
  pair N =
      split (goes_forth T N)
      (λ t. up (eqb-true ((N.0 - T.agents) % 2) 0 t) (rw t))
      (λ f. let n = eqb-false ((N.0 - T.agents) % 2) 0 f in down (omega arith) (rw f))

  past : (N X : Chan) → T.agents ≤ N.0 → Pair N X → T.agents ≤ X.0
  past N X h (up m e) = omega arith
  past N X h (down m e) = omega arith

  turned : (N X Y Z : Chan) → T.agents ≤ N.0 → T.agents ≤ X.0 → Pair X Y → Pair N Z → N.0 ≡ Y.0 → Z.0 ≡ X.0
  turned N X Y Z h i (up m e) (up n f) p = absurd (omega arith)
  turned N X Y Z h i (up m e) (down n f) p = omega arith
  turned N X Y Z h i (down m e) (up n f) p = omega arith
  turned N X Y Z h i (down m e) (down n f) p = absurd (omega arith)

  -- N is X's opposite exactly where N's opposite is X
  pub opposite_swaps : (N X : Chan) → T.agents ≤ N.0 → T.agents ≤ X.0 → same_chan N (opposite T X) ≡ same_chan (opposite T N) X
  opposite_swaps N X h i =
      split (same_chan (opposite T N) X)
      (λ t. rw t (eq-eqb N.0 (opposite T X).0 (sym (turned X N (opposite T N) (opposite T X) i h (pair N) (pair X) (sym (eqb-true (opposite T N).0 X.0 t))))))
      (λ f. rw f (ne_eqb N.0 (opposite T X).0 (λ p. eqb-false (opposite T N).0 X.0 f (turned N X (opposite T X) (opposite T N) h i (pair X) (pair N) p))))

  pub opposed_past : (N : Chan) → T.agents ≤ N.0 → (hops : List Hop) → any (λ X. same_chan N (opposite T X)) (map (channel_of T) hops) ≡ among (opposite T N) (map (channel_of T) hops)
  unfolding any
  opposed_past N h [] = refl
  opposed_past N h (g ∷ hops) = rw (opposite_swaps N (channel_of T g) h (past_agents g), opposed_past N h hops)

  -- ---- no master channel is a bridge channel, nor the opposite of one

  never : (N : Chan) → N.0 < T.agents → (f : Chan → Chan) → ((h : Hop) → T.agents ≤ (f (channel_of T h)).0) → (hops : List Hop) → any (λ X. same_chan N (f X)) (map (channel_of T) hops) ≡ false
  unfolding any
  never N l f p [] = refl
  never N l f p (h ∷ hops) =
      rw (ne_eqb N.0 (f (channel_of T h)).0 (λ e. omega (arith, p h)), never N l f p hops)

  pub crossed_master : (N : Chan) → N.0 < T.agents → (hops : List Hop) → among N (map (channel_of T) hops) ≡ false
  crossed_master N l = never N l (λ X. X) past_agents

  pub opposed_master : (N : Chan) → N.0 < T.agents → (hops : List Hop) → any (λ X. same_chan N (opposite T X)) (map (channel_of T) hops) ≡ false
  opposed_master N l =
      never N l (opposite T) (λ h. past (channel_of T h) (opposite T (channel_of T h)) (past_agents h) (pair (channel_of T h)))
