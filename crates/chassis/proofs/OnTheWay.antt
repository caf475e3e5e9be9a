-- On a table that passes, the next place of a channel on the way is on the way, a bridge channel of the table, one bridge nearer.
-- The rest of a way is itself the way from there, so what the next place finds first is already among the way's hops.
use Prim.Native.Nat.{ℕ, suc, ◌+◌, ◌-◌, ◌<◌}
use mathlib.Core.Path.{◌≡◌, refl, sym, ap, subst, subst⁻¹, ◌∙◌}
use mathlib.Core.Bool.{Bool, true, false}
use mathlib.Core.Logic.{⊎_elim, ◌↔◌}
use Rattle.std.specs.Prelude.{Some}
use mathlib.Core.List.{List, [], ◌∷◌}
use native.Mathlib.Omega.{arith}
use borrow.Author.Tests.{ltb-true, ltb-false, lt-ltb, eqb-true, eq-eqb}
use lib.ListN.{drop, length}
use lib.Seq.{get_or-drop}
use Rattle.base.specs.Lists.{all}
use Rattle.base.proofs.Logic.{split, and_true}
use Rattle.base.proofs.Lists.{all_take}
use Rattle.base.proofs.Cells.{or_true, true_or, In, first, later, in_none, in_any, any_in, all_cell, in_map, of_map}
use Rattle.chassis.specs.declared.Agent.{Agent}
use Rattle.chassis.specs.declared.Bus.{Bus}
use Rattle.chassis.specs.declared.Chan.{Chan}
use Rattle.chassis.specs.declared.Table.{Table}
use Rattle.chassis.specs.declared.NextPlace.TheVariants.{Target, Through}
use Rattle.chassis.specs.Numbers.{bus, same_chan}
use Rattle.chassis.specs.Channels.{home, chan_count, has_agent, has_bus, has_chan, is_master, master_channel, out_bus, in_bus, opposite}
use Rattle.chassis.specs.Ways.{Hop, hop, to, Way}
use Rattle.chassis.specs.Routes.{way, channel_of, first_place, next_place, bridge_channels, among, on_the_way, opposes_the_way}
use Rattle.chassis.specs.Tables.{bridges_of, homes_of, is_zero_bus, is_zero_bridge, has_both_buses, unused_are_zero, buses_are_there, table_passes}
use Rattle.chassis.proofs.Trees.{the_way}
use Rattle.chassis.proofs.Counts.{counts}
use Rattle.chassis.proofs.Passing.{passed}
use Rattle.chassis.proofs.Steps.{Step, way_step, way_ends, way_here, is_the_way, to_there, ends_of}
use Rattle.chassis.proofs.Hops.{chan_path, hop_has_chan, hop_no_master, hop_out, hop_in, Opposing, crossing, opposing_hop}

same_chan_yes : (M N : Chan) → same_chan M N ≡ true → M ≡ N
same_chan_yes M N h = chan_path (eqb-true M.0 N.0 h)

same_chan_one : (N : Chan) → same_chan N N ≡ true
same_chan_one N = eq-eqb N.0 N.0 refl

-- ---- every bus asked for is there

module _ (T : Table) (ok : table_passes T ≡ true) where
  -- also of an agent that the table does not have: its place is zero
  pub home_there : (a : Agent) → (home T a).0 < T.buses
  unfolding buses_are_there unused_are_zero
  home_there a =
      let z = (counts T (passed T ok).counts).buses.0 in
      let u = (and_true (all is_zero_bridge (drop T.bridges T.pairs)) (all is_zero_bus (drop T.agents T.homes)) (passed T ok).unused).1 in
      let b = (and_true (all (has_both_buses T) (bridges_of T)) (all (has_bus T) (homes_of T)) (passed T ok).buses).1 in
      split (has_agent T a)
      (λ h. ltb-true (home T a).0 T.buses (all_take (has_bus T) T.agents T.homes (bus 0) b (lt-ltb 0 T.buses z) a.0 (ltb-true a.0 T.agents h)))
      (λ h.
      let l = ltb-false a.0 T.agents h in
      let e : T.agents + (a.0 - T.agents) ≡ a.0 = omega arith in
      let i = all_cell is_zero_bus (drop T.agents T.homes) (bus 0) u refl (a.0 - T.agents) in
      let j = eqb-true (home T a).0 0 (rw (get_or-drop T.agents T.homes (a.0 - T.agents) (bus 0), e) at i) in
      omega arith)

  pub out_there : (N : Chan) → has_chan T N ≡ true → (out_bus T N).0 < T.buses
  unfolding out_bus
  out_there N h =
      split (is_master T N)
      (λ m. rw m (home_there (record { 0 = N.0 })))
      (λ m.
      let c = crossing T N h m in
      rw (c.is, hop_out T c.bridge c.forth) (to_there T (ends_of T ok) c.bridge c.forth c.there))

  -- ---- the next place

  -- the way found first: its first hop, and the rest
  found_first : (hops : List Hop) (X : Chan) → first_place T hops ≡ Through X → (g : ℕ) × (d : Bool) × (rest : List Hop) × (hops ≡ hop g d ∷ rest) × (X ≡ channel_of T (hop g d))
  found_first [] X h = let z : ◌≡◌ {A = ℕ} 0 1 = cc in absurd (omega arith)
  found_first (hop g d ∷ rest) X h = (g, d, rest, refl, (cc))

  found_none : (hops : List Hop) → first_place T hops ≡ Target → hops ≡ []
  found_none [] h = refl
  found_none (hop g d ∷ rest) h = let z : ◌≡◌ {A = ℕ} 0 1 = cc in absurd (omega arith)

  -- N's next place on the way to t is X
  pub record Next (N : Chan) (t : Agent) (X : Chan) : Type 0 where
    pub bridge : ℕ
    pub forth : Bool
    pub rest : List Hop
    pub crossed : bridge < T.bridges
    pub is : X ≡ channel_of T (hop bridge forth)
    pub begins : way T (out_bus T N) (home T t) ≡ hop bridge forth ∷ rest
    pub nearer : way T (out_bus T X) (home T t) ≡ rest
    pub there : has_chan T X ≡ true
    pub no_master : is_master T X ≡ false
    pub into : in_bus T X ≡ Some (out_bus T N)

  next_by : (N : Chan) (t : Agent) (X : Chan) (g : ℕ) (d : Bool) (rest : List Hop) → X ≡ channel_of T (hop g d)
      → way T (out_bus T N) (home T t) ≡ hop g d ∷ rest → Step T ok (out_bus T N) (home T t) g d rest → Next N t X
  next_by N t X g d rest e p w = record {
    bridge = g;
    forth = d;
    rest = rest;
    crossed = w.there;
    is = e;
    begins = p;
    nearer = rw (e, hop_out T g d) w.nearer;
    there = rw e (hop_has_chan T g d w.there);
    no_master = rw e (hop_no_master T g d);
    into = rw (e, hop_in T g d) (ap Some w.starts);
  }

  pub next : (N : Chan) (t : Agent) (X : Chan) → has_chan T N ≡ true → next_place T N t ≡ Through X → Next N t X
  unfolding next_place
  next N t X h p =
      let f = found_first (way T (out_bus T N) (home T t)) X p in
      next_by N t X f.0 f.1 f.2 f.4 f.3
      (way_step T ok (out_bus T N) (home T t) (out_there N h, home_there t) f.0 f.1 f.2 f.3)

  pub one_bridge_nearer : (N : Chan) (t : Agent) (X : Chan) → has_chan T N ≡ true → next_place T N t ≡ Through X
      → length (way T (out_bus T N) (home T t)) ≡ suc (length (way T (out_bus T X) (home T t)))
  one_bridge_nearer N t X h p = let n = next N t X h p in ap length n.begins ∙ sym (ap (λ (l : List Hop). suc (length l)) n.nearer)

  pub next_is_target : (N : Chan) (t : Agent) → has_chan T N ≡ true → (next_place T N t ≡ Target) ↔ (out_bus T N ≡ home T t)
  unfolding next_place
  next_is_target N t h = (
    λ p. way_ends T ok (out_bus T N) (home T t) (out_there N h, home_there t) (found_none (way T (out_bus T N) (home T t)) p),
    λ e. ap (first_place T) (ap (λ (b : Bus). way T b (home T t)) e ∙ way_here T ok (home T t) (home_there t)),
  )

  -- ---- on the way

  abbrev over : Hop → ℕ
  over (hop g d) = g

  -- from any hop of a way the rest is a way, and its bridge is there
  rest_of : (k : ℕ) (a b : Bus) (hops : List Hop) → Way T k a b hops → {h : Hop} → In h hops
      → (rest : List Hop) × Way T k (to T h) b rest × ((x : Hop) → In x rest → In x hops) × (over h < k)
  rest_of k a b [] w i = in_none i
  rest_of k a b (hop c e ∷ hops) w first = (hops, w.3, λ x j. later j, w.0)
  rest_of k a b (hop c e ∷ hops) w (later i) =
      let r = rest_of k (to T (hop c e)) b hops w.3 i in
      (r.0, r.1, λ x j. later (r.2 x j), r.3)

  -- the hops of the way from m to t
  abbrev pub hops_of : Agent → Agent → List Hop
  hops_of m t = way T (home T m) (home T t)

  led : (m t : Agent) → Way T T.bridges (home T m) (home T t) (hops_of m t)
  led m t = the_way T (passed T ok).ways (home T m) (home T t) (home_there m) (home_there t)

  -- where a channel on the way stands: first of all, or in a hop of the way
  pub data Place (m t : Agent) (N : Chan) : Type 0 where
    starts : N ≡ master_channel m → Place m t N
    crosses : (g : ℕ) (d : Bool) → In (hop g d) (hops_of m t) → N ≡ channel_of T (hop g d) → Place m t N

  pub among_hops : (m t : Agent) (N : Chan) → among N (bridge_channels T m t) ≡ true → (h : Hop) × In h (hops_of m t) × (N ≡ channel_of T h)
  among_hops m t N h =
      let r = any_in (same_chan N) (bridge_channels T m t) h in
      let q = of_map (channel_of T) (hops_of m t) r.1 in
      (q.0, q.1, same_chan_yes N r.0 r.2 ∙ q.2)

  pub hops_among : (m t : Agent) (h : Hop) → In h (hops_of m t) → among (channel_of T h) (bridge_channels T m t) ≡ true
  hops_among m t h i =
      in_any (same_chan (channel_of T h)) (bridge_channels T m t) (in_map (channel_of T) i) (same_chan_one (channel_of T h))

  by_hop : (m t : Agent) (N : Chan) (h : Hop) → In h (hops_of m t) → N ≡ channel_of T h → Place m t N
  by_hop m t N (hop g d) i e = crosses g d i e

  pub place : (m t : Agent) (N : Chan) → on_the_way T m t N ≡ true → Place m t N
  unfolding on_the_way
  place m t N h =
      ⊎_elim
      (λ e. starts (same_chan_yes N (master_channel m) e))
      (λ e. let r = among_hops m t N e in by_hop m t N r.0 r.1 r.2)
      (or_true (same_chan N (master_channel m)) (among N (bridge_channels T m t)) h)

  pub among_on_way : (m t : Agent) (N : Chan) → among N (bridge_channels T m t) ≡ true → on_the_way T m t N ≡ true
  unfolding on_the_way
  among_on_way m t N h = true_or (same_chan N (master_channel m)) (among N (bridge_channels T m t)) h

  pub start_on_way : (m t : Agent) → on_the_way T m t (master_channel m) ≡ true
  unfolding on_the_way
  start_on_way m t = rw (same_chan_one (master_channel m))

  pub master_there : (m : Agent) → has_agent T m ≡ true → has_chan T (master_channel m) ≡ true
  master_there m a = lt-ltb m.0 (chan_count T) (omega (arith, ltb-true m.0 T.agents a))

  place_there : (m t : Agent) (N : Chan) → has_agent T m ≡ true → Place m t N → has_chan T N ≡ true
  place_there m t N a (starts e) = rw e (master_there m a)
  place_there m t N a (crosses g d i e) =
      rw e (hop_has_chan T g d (rest_of T.bridges (home T m) (home T t) (hops_of m t) (led m t) i).3)

  pub on_way_there : (m t : Agent) (N : Chan) → has_agent T m ≡ true → on_the_way T m t N ≡ true → has_chan T N ≡ true
  on_way_there m t N a h = place_there m t N a (place m t N h)

  pub master_out : (m : Agent) → has_agent T m ≡ true → out_bus T (master_channel m) ≡ home T m
  unfolding out_bus
  master_out m a = rw a

  -- the hop that the next place finds is one of the way's
  next_hop : (m t : Agent) (N : Chan) (h : Hop) (rest : List Hop) → has_agent T m ≡ true → Place m t N → way T (out_bus T N) (home T t) ≡ h ∷ rest → In h (hops_of m t)
  next_hop m t N h rest a (starts e) p =
      subst⁻¹ (In h) (ap (λ (b : Bus). way T b (home T t)) (sym (ap (out_bus T) e ∙ master_out m a)) ∙ p) first
  next_hop m t N h rest a (crosses g d i e) p =
      let r = rest_of T.bridges (home T m) (home T t) (hops_of m t) (led m t) i in
      let q = is_the_way T ok (to T (hop g d)) (home T t) (to_there T (ends_of T ok) g d r.3, home_there t) r.0 r.1 in
      r.2 h (subst⁻¹ (In h) (q ∙ ap (λ (b : Bus). way T b (home T t)) (sym (ap (out_bus T) e ∙ hop_out T g d)) ∙ p) first)

  pub next_among : (m t : Agent) (N X : Chan) → has_agent T m ≡ true → on_the_way T m t N ≡ true → next_place T N t ≡ Through X → among X (bridge_channels T m t) ≡ true
  next_among m t N X a h p =
      let n = next N t X (on_way_there m t N a h) p in
      let i = next_hop m t N (hop n.bridge n.forth) n.rest a (place m t N h) n.begins in
      subst⁻¹ (λ (Y : Chan). among Y (bridge_channels T m t) ≡ true) n.is (hops_among m t (hop n.bridge n.forth) i)

  pub next_on_way : (m t : Agent) (N X : Chan) → has_agent T m ≡ true → on_the_way T m t N ≡ true → next_place T N t ≡ Through X → on_the_way T m t X ≡ true
  next_on_way m t N X a h p = among_on_way m t X (next_among m t N X a h p)

  -- ---- the opposites of the way's bridge channels

  opposing_at : (m t : Agent) (h : Hop) → In h (hops_of m t) → Opposing T (channel_of T h)
  opposing_at m t (hop g d) i = opposing_hop T g d (rest_of T.bridges (home T m) (home T t) (hops_of m t) (led m t) i).3

  place_among : (m t : Agent) (N : Chan) → has_agent T m ≡ true → is_master T N ≡ false → Place m t N → among N (bridge_channels T m t) ≡ true
  place_among m t N a b (starts e) = absurd (omega (arith, ap (λ (M : Chan). M.0) e, ltb-false N.0 T.agents b, ltb-true m.0 T.agents a))
  place_among m t N a b (crosses g d i e) = rw e (hops_among m t (hop g d) i)

  -- a bridge channel on the way is one of the way's bridge channels
  pub on_way_among : (m t : Agent) (N : Chan) → has_agent T m ≡ true → is_master T N ≡ false → on_the_way T m t N ≡ true → among N (bridge_channels T m t) ≡ true
  on_way_among m t N a b h = place_among m t N a b (place m t N h)

  pub opposite_opposes : (m t : Agent) (N : Chan) → has_agent T m ≡ true → is_master T N ≡ false → on_the_way T m t N ≡ true → opposes_the_way T m t (opposite T N) ≡ true
  unfolding opposes_the_way
  opposite_opposes m t N a b h =
      let r = any_in (same_chan N) (bridge_channels T m t) (on_way_among m t N a b h) in
      let e = same_chan_yes N r.0 r.2 in
      in_any (λ X. same_chan (opposite T N) (opposite T X)) (bridge_channels T m t) r.1
      (subst (λ (X : Chan). same_chan (opposite T N) (opposite T X) ≡ true) e (same_chan_one (opposite T N)))

  -- so they are bridge channels of the table
  pub opposes_there : (m t : Agent) (N : Chan) → opposes_the_way T m t N ≡ true → (has_chan T N ≡ true) × (is_master T N ≡ false)
  unfolding opposes_the_way
  opposes_there m t N h =
      let r = any_in (λ X. same_chan N (opposite T X)) (bridge_channels T m t) h in
      let q = of_map (channel_of T) (hops_of m t) r.1 in
      let o = opposing_at m t q.0 q.1 in
      let e : N ≡ opposite T (channel_of T q.0) = same_chan_yes N (opposite T r.0) r.2 ∙ ap (opposite T) q.2 in
      subst⁻¹ (λ (M : Chan). (has_chan T M ≡ true) × (is_master T M ≡ false)) e (o.there, o.no_master)
