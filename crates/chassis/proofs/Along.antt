-- The channels along a way, one by one: each one's next place is the one after it, the last one's is the target; none comes twice, nor does the opposite of one.
-- What is left to go from channel i is the way less its first i bridges, so channels differ in how much is left.
use Prim.Native.Nat.{ℕ, zero, suc, ◌≤◌, ◌<◌}
use native.Mathlib.Omega.{arith}
use mathlib.Core.Path.{◌≡◌, refl, sym, ap, subst, ◌∙◌}
use mathlib.Core.Bool.{true, false, not}
use mathlib.Core.List.{List, [], ◌∷◌, map}
use lib.ListN.{length, drop, length-map, length-drop}
use Rattle.base.proofs.Logic.{both, some_same}
use Rattle.chassis.specs.declared.Agent.{Agent}
use Rattle.chassis.specs.declared.Bus.{Bus}
use Rattle.chassis.specs.declared.Chan.{Chan}
use Rattle.chassis.specs.declared.Table.{Table}
use Rattle.chassis.specs.declared.NextPlace.TheVariants.{Target, Through}
use Rattle.chassis.specs.Channels.{home, has_agent, has_chan, is_master, master_channel, bridge_of, out_bus, opposite}
use Rattle.chassis.specs.Ways.{Hop, hop, Onward}
use Rattle.chassis.specs.Routes.{way, channel_of, first_place, next_place, bridges_between, way_channels, nth}
use Rattle.chassis.specs.Tables.{table_passes}
use Rattle.chassis.proofs.Steps.{way_step}
use Rattle.chassis.proofs.Hops.{hop_has_chan, hop_out, hop_bridge, hop_opposite, opposing}
use Rattle.chassis.proofs.OnTheWay.{home_there, out_there, next, master_there, master_out}

module _ (T : Table) where
  first_drop : (hops : List Hop) (i : ℕ) → i < length hops → first_place T (drop i hops) ≡ Through (nth (map (channel_of T) hops) i)
  first_drop [] i h = absurd (omega arith)
  first_drop (h ∷ hops) zero l = refl
  first_drop (h ∷ hops) (suc i) l = first_drop hops i (omega arith)

  no_drop : (hops : List Hop) → first_place T (drop (length hops) hops) ≡ Target
  no_drop [] = refl
  no_drop (h ∷ hops) = no_drop hops

module _ (T : Table) (ok : table_passes T ≡ true) (m a : Agent) (has : has_agent T m ≡ true) where
  abbrev hops : List Hop
  hops = way T (home T m) (home T a)

  abbrev w : List Chan
  w = way_channels T m a

  abbrev k : ℕ
  k = bridges_between T m a

  long : k ≡ length hops
  long = length-map hops (channel_of T)

  -- ---- channel i, and what is left from there

  record Left (v : List Chan) (i : ℕ) (rest : List Hop) : Type 0 where
    there : has_chan T (nth v i) ≡ true
    left : way T (out_bus T (nth v i)) (home T a) ≡ rest

  follow : (N : Chan) → has_chan T N ≡ true → (hs : List Hop) → way T (out_bus T N) (home T a) ≡ hs → (i : ℕ) → i ≤ length hs
      → Left (N ∷ map (channel_of T) hs) i (drop i hs)
  follow N h hs e zero l = record { there = h; left = e }
  follow N h [] e (suc i) l = absurd (omega arith)
  follow N h (hop g d ∷ hs) e (suc i) l =
      let st = way_step T ok (out_bus T N) (home T a) (out_there T ok N h, home_there T ok a) g d hs e in
      let r = follow (channel_of T (hop g d)) (hop_has_chan T g d st.there) hs (rw (hop_out T g d) st.nearer) i (omega arith) in
      record { there = r.there; left = r.left }

  at_place : (i : ℕ) → i ≤ k → Left w i (drop i hops)
  at_place i l =
      follow (master_channel m) (master_there T ok m has) hops (ap (λ (b : Bus). way T b (home T a)) (master_out T ok m has)) i (omega (arith, long))

  -- as much is left from two places as from one place
  as_far : (i j : ℕ) → i ≤ k → j ≤ k → drop i hops ≡ drop j hops → i ≡ j
  as_far i j l r p = omega (arith, long, ap length p, length-drop i hops, length-drop j hops)

  pub nth_there : (i : ℕ) → i ≤ k → has_chan T (nth w i) ≡ true
  nth_there i l = (at_place i l).there

  pub nth_next : (i : ℕ) → i < k → next_place T (nth w i) a ≡ Through (nth w (suc i))
  unfolding next_place
  nth_next i l = ap (first_place T) (at_place i (omega arith)).left ∙ first_drop T hops i (omega (arith, long))

  pub last_next : next_place T (nth w k) a ≡ Target
  unfolding next_place
  last_next = ap (first_place T) (at_place k (omega arith)).left ∙ ap (λ (n : ℕ). first_place T (drop n hops)) long ∙ no_drop T hops

  -- none comes twice
  pub nth_once : (i j : ℕ) → i ≤ k → j ≤ k → nth w i ≡ nth w j → i ≡ j
  nth_once i j l r e =
      as_far i j l r (sym (at_place i l).left ∙ ap (λ (N : Chan). way T (out_bus T N) (home T a)) e ∙ (at_place j r).left)

  -- ---- their opposites

  pub nth_no_master : (i : ℕ) → i < k → is_master T (nth w (suc i)) ≡ false
  nth_no_master i l = (next T ok (nth w i) a (nth w (suc i)) (nth_there i (omega arith)) (nth_next i l)).no_master

  pub opposite_there : (i : ℕ) → i < k → has_chan T (opposite T (nth w (suc i))) ≡ true
  opposite_there i l = (opposing T (nth w (suc i)) (nth_there (suc i) (omega arith)) (nth_no_master i l)).there

  pub opposite_once : (i j : ℕ) → i < k → j < k → opposite T (nth w (suc i)) ≡ opposite T (nth w (suc j)) → i ≡ j
  opposite_once i j l r e =
      let q = nth_once (suc i) (suc j) (omega arith) (omega arith) (sym (back i l) ∙ ap (opposite T) e ∙ back j r) in
      omega arith
    where
      back : (i : ℕ) → i < k → opposite T (opposite T (nth w (suc i))) ≡ nth w (suc i)
      back i l = (opposing T (nth w (suc i)) (nth_there (suc i) (omega arith)) (nth_no_master i l)).back

  -- it leads back to the bus before
  pub opposite_out : (i : ℕ) → i < k → out_bus T (opposite T (nth w (suc i))) ≡ out_bus T (nth w i)
  opposite_out i l =
      let n = next T ok (nth w i) a (nth w (suc i)) (nth_there i (omega arith)) (nth_next i l) in
      some_same _ _ (sym (opposing T (nth w (suc i)) n.there n.no_master).out ∙ n.into)

  -- two channels that follow each other are of two bridges
  two_bridges : (j : ℕ) → suc j < k → nth w (suc j) ≡ opposite T (nth w (suc (suc j))) → ⊥
  two_bridges j l e =
      let n = next T ok (nth w j) a (nth w (suc j)) (nth_there j (omega arith)) (nth_next j (omega arith)) in
      let q = next T ok (nth w (suc j)) a (nth w (suc (suc j))) (nth_there (suc j) (omega arith)) (nth_next (suc j) l) in
      let st = way_step T ok (out_bus T (nth w j)) (home T a) (out_there T ok (nth w j) (nth_there j (omega arith)), home_there T ok a) n.bridge n.forth n.rest n.begins in
      let f : Onward n.bridge (hop q.bridge q.forth ∷ q.rest) = subst (Onward n.bridge) (sym n.nearer ∙ q.begins) st.onward in
      f (sym (hop_bridge T n.bridge n.forth) ∙ ap (bridge_of T) (sym n.is ∙ e ∙ ap (opposite T) q.is ∙ hop_opposite T q.bridge q.forth) ∙ hop_bridge T q.bridge (not q.forth))

  turned_at : (j : ℕ) → j < k → nth w j ≡ opposite T (nth w (suc j)) → ⊥
  turned_at zero l e =
      both (is_master T (nth w 0)) has
      (ap (is_master T) e ∙ (opposing T (nth w 1) (nth_there 1 l) (nth_no_master 0 l)).no_master)
  turned_at (suc j) l e = two_bridges j l e

  -- none of the channels before is it: the way does not turn back
  pub never_turned : (i j : ℕ) → i ≤ j → j < k → nth w i ≡ opposite T (nth w (suc j)) → ⊥
  never_turned i j h l e =
      let q = as_far i j (omega arith) (omega arith)
      (sym (at_place i (omega arith)).left ∙ ap (λ (b : Bus). way T b (home T a)) (ap (out_bus T) e ∙ opposite_out j l) ∙ (at_place j (omega arith)).left) in
      turned_at j l (subst (λ (n : ℕ). nth w n ≡ opposite T (nth w (suc j))) q e)
