-- Channels of bridges: a hop over a bridge is crossed in one bridge channel, and every bridge channel is some hop's.
-- So whatever is said of bridge channels, opposites too, is read off the hop: its bridge and which way it goes.
use Prim.Native.Nat.{ℕ, ◌+◌, ◌-◌, ◌*◌, ◌%◌, ◌<◌}
use mathlib.Core.Path.{◌≡◌, refl, ap, subst⁻¹}
use mathlib.Core.Bool.{Bool, true, false, not, cond}
use Rattle.std.specs.Prelude.{Some}
use native.Mathlib.Omega.{arith}
use borrow.Author.Tests.{ltb-true, ltb-false, lt-ltb, le-ltb, eqb-true, eqb-false, eq-eqb, ne_eqb}
use Rattle.base.proofs.Logic.{split}
use Rattle.chassis.specs.declared.Agent.{Agent}
use Rattle.chassis.specs.declared.Chan.{Chan}
use Rattle.chassis.specs.declared.Table.{Table}
use Rattle.chassis.specs.Channels.{chan_count, has_chan, is_master, bridge_of, goes_forth, out_bus, in_bus, opposite, first_bus, second_bus}
use Rattle.chassis.specs.Ways.{hop, from, to}
use Rattle.chassis.specs.Routes.{channel_of}

pub chan_path : {M N : Chan} → M.0 ≡ N.0 → M ≡ N
chan_path p = λ i. record { 0 = p i }

pub agent_path : {a b : Agent} → a.0 ≡ b.0 → a ≡ b
agent_path p = λ i. record { 0 = p i }

-- ---- the channel of a hop

module _ (T : Table) where
  pub hop_has_chan : (g : ℕ) (d : Bool) → g < T.bridges → has_chan T (channel_of T (hop g d)) ≡ true
  hop_has_chan g true h = lt-ltb (T.agents + 2 * g) (chan_count T) (omega arith)
  hop_has_chan g false h = lt-ltb (T.agents + 2 * g + 1) (chan_count T) (omega arith)

  pub hop_no_master : (g : ℕ) (d : Bool) → is_master T (channel_of T (hop g d)) ≡ false
  hop_no_master g true = le-ltb (T.agents + 2 * g) T.agents (omega arith)
  hop_no_master g false = le-ltb (T.agents + 2 * g + 1) T.agents (omega arith)

  pub hop_bridge : (g : ℕ) (d : Bool) → bridge_of T (channel_of T (hop g d)) ≡ g
  hop_bridge g true = omega arith
  hop_bridge g false = omega arith

  pub hop_forth : (g : ℕ) (d : Bool) → goes_forth T (channel_of T (hop g d)) ≡ d
  hop_forth g true = eq-eqb ((T.agents + 2 * g - T.agents) % 2) 0 (omega arith)
  hop_forth g false = ne_eqb ((T.agents + 2 * g + 1 - T.agents) % 2) 0 (λ (e : (T.agents + 2 * g + 1 - T.agents) % 2 ≡ 0). omega arith)

  by_way : (b : Bool) (g : ℕ) → (cond b (second_bus T g) (first_bus T g) ≡ to T (hop g b)) × (cond b (first_bus T g) (second_bus T g) ≡ from T (hop g b))
  by_way true g = (refl, refl)
  by_way false g = (refl, refl)

  pub hop_out : (g : ℕ) (d : Bool) → out_bus T (channel_of T (hop g d)) ≡ to T (hop g d)
  unfolding out_bus
  hop_out g d = rw (hop_no_master g d, hop_forth g d, hop_bridge g d) (by_way d g).0

  pub hop_in : (g : ℕ) (d : Bool) → in_bus T (channel_of T (hop g d)) ≡ Some (from T (hop g d))
  unfolding in_bus
  hop_in g d = rw (hop_no_master g d, hop_forth g d, hop_bridge g d) (ap Some (by_way d g).1)

  pub hop_opposite : (g : ℕ) (d : Bool) → opposite T (channel_of T (hop g d)) ≡ channel_of T (hop g (not d))
  unfolding opposite
  hop_opposite g true = rw (hop_forth g true)
  hop_opposite g false = rw (hop_forth g false) (chan_path (omega arith))

  -- ---- the hop of a bridge channel

  -- N is the channel of bridge g, crossed that way
  pub record Crossing (N : Chan) : Type 0 where
    pub bridge : ℕ
    pub forth : Bool
    pub there : bridge < T.bridges
    pub is : N ≡ channel_of T (hop bridge forth)

  pub crossing : (N : Chan) → has_chan T N ≡ true → is_master T N ≡ false → Crossing N
  crossing N h m =
      let a = ltb-true N.0 (chan_count T) h in
      let b = ltb-false N.0 T.agents m in
      split (goes_forth T N)
      (λ f.
      let e = eqb-true ((N.0 - T.agents) % 2) 0 f in
      record { bridge = bridge_of T N; forth = true; there = omega arith; is = chan_path (omega arith) })
      (λ f.
      let e : ((N.0 - T.agents) % 2 ≡ 0) → ⊥ = eqb-false ((N.0 - T.agents) % 2) 0 f in
      record { bridge = bridge_of T N; forth = false; there = omega arith; is = chan_path (omega arith) })

  -- the other channel of the bridge, with the buses turned about
  pub record Opposing (N : Chan) : Type 0 where
    pub back : opposite T (opposite T N) ≡ N
    pub there : has_chan T (opposite T N) ≡ true
    pub no_master : is_master T (opposite T N) ≡ false
    pub out : in_bus T N ≡ Some (out_bus T (opposite T N))
    pub into : in_bus T (opposite T N) ≡ Some (out_bus T N)

  pub turned : (g : ℕ) (d : Bool) → (hop g (not (not d)) ≡ hop g d) × (to T (hop g (not d)) ≡ from T (hop g d)) × (from T (hop g (not d)) ≡ to T (hop g d))
  turned g true = (refl, refl, refl)
  turned g false = (refl, refl, refl)

  pub opposing_hop : (g : ℕ) (d : Bool) → g < T.bridges → Opposing (channel_of T (hop g d))
  opposing_hop g d h =
      let o = hop_opposite g d in
      let r = turned g d in
      record {
        back = rw (o, hop_opposite g (not d), r.0);
        there = rw o (hop_has_chan g (not d) h);
        no_master = rw o (hop_no_master g (not d));
        out = rw (o, hop_in g d, hop_out g (not d), r.1);
        into = rw (o, hop_in g (not d), hop_out g d, r.2);
      }

  pub opposing : (N : Chan) → has_chan T N ≡ true → is_master T N ≡ false → Opposing N
  opposing N h m =
      let c = crossing N h m in
      subst⁻¹ Opposing c.is (opposing_hop c.bridge c.forth c.there)
