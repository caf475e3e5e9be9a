-- A transaction is at one stage: two courses that fit one state are at the same one.
-- What stands furthest says how far it has come, and which target it has.
use Prim.Native.Nat.{ℕ, suc, ◌≤◌, ◌<◌}
use native.Mathlib.Omega.{arith}
use mathlib.Core.Path.{◌≡◌, refl, sym, ap, subst, ◌∙◌}
use mathlib.Core.Bool.{Bool, true, false, not}
use Rattle.base.proofs.Logic.{split, both}
use Rattle.chassis.specs.declared.Agent.{Agent}
use Rattle.chassis.specs.declared.Chan.{Chan}
use Rattle.chassis.specs.declared.Table.{Table}
use Rattle.chassis.specs.Channels.{has_agent, opposite}
use Rattle.chassis.specs.Routes.{bridges_between, way_channels, nth}
use Rattle.chassis.proofs.Along.{nth_once, opposite_once}
use Rattle.queue.specs.declared.Transaction.{Transaction}
use Rattle.queue.specs.declared.Entry.{Entry}
use Rattle.queue.specs.Entries.{P, R}
use Rattle.network.specs.Nets.{Net}
use Rattle.network.proofs.Good.{Good}
use Rattle.events.specs.Tests.{entry_at}
use Rattle.courses.specs.Stages.{Stage, unbegun, posted, asked, answered, ended, has_begun, Fits}
use Rattle.courses.specs.Courses.{Course, entry_of, OnCourse}
use Rattle.courses.proofs.Edited.{At}
use Rattle.courses.proofs.Placed.{R-is, AtR, last, before, behind, AtC, back, AtP, only, at_R, at_C, at_P, posted_stands, asked_stands, answered_stands, answer_stands}
use Rattle.courses.proofs.Reaching.{not_begun, begun_there}

module _ (s : Net) (g : Good s) (t : Transaction) (has : has_agent s.table t.master ≡ true) where
  abbrev T : Table
  T = s.table

  abbrev m : Agent
  m = t.master

  module _ (a a' : Agent) (b b' : Bool) where
    -- one entry, one target
    one_agent : (k : ℕ) (N : Chan) (c c' : Bool) → entry_at s k N t ≡ entry_of t a b k c → entry_at s k N t ≡ entry_of t a' b' k c' → a' ≡ a
    one_agent k N c c' y z = ap (λ (y : Entry). y.target) (sym z ∙ y)

    same_place : (i j : ℕ) → a' ≡ a → i ≤ bridges_between T m a → j ≤ bridges_between T m a' → nth (way_channels T m a) i ≡ nth (way_channels T m a') j → i ≡ j
    same_place i j e l r q =
        nth_once T g.rules.passes m a has i j l (subst (λ (a : Agent). j ≤ bridges_between T m a) e r)
        (subst (λ (a' : Agent). nth (way_channels T m a) i ≡ nth (way_channels T m a') j) e q)

    same_opposite : (i j : ℕ) → a' ≡ a → i < bridges_between T m a → j < bridges_between T m a'
        → opposite T (nth (way_channels T m a) (suc i)) ≡ opposite T (nth (way_channels T m a') (suc j)) → i ≡ j
    same_opposite i j e l r q =
        opposite_once T g.rules.passes m a has i j l (subst (λ (a : Agent). j < bridges_between T m a) e r)
        (subst (λ (a' : Agent). opposite T (nth (way_channels T m a) (suc i)) ≡ opposite T (nth (way_channels T m a') (suc j))) e q)

    by_P : (N : Chan) {h h' : Stage} → Fits (bridges_between T m a) h → Fits (bridges_between T m a') h' → AtP s t a b N h → AtP s t a' b' N h' → h ≡ h'
    by_P N f f' (only i e y) (only j e' y') = ap posted (same_place i j (one_agent P N false false y y') f f' (sym e ∙ e'))

    -- the R's of one lie within the other's
    within : (N : Chan) (j : ℕ) (c : Bool) (n : ℕ) → AtR s t a b N (asked j c) → N ≡ nth (way_channels T m a') n → a' ≡ a → j ≤ bridges_between T m a → n ≤ bridges_between T m a' → n ≤ j
    within N j c n (last _ _ e y) p q f f' = let z = same_place j n q f f' (sym e ∙ p) in omega arith
    within N j c n (before _ _ i l e y) p q f f' = let z = same_place i n q (omega arith) f' (sym e ∙ p) in omega arith

    by_R : (N : Chan) (j : ℕ) (c : Bool) {h' : Stage} → At T t a b s (asked j c) → At T t a' b' s h' → Fits (bridges_between T m a) (asked j c) → Fits (bridges_between T m a') h'
        → N ≡ nth (way_channels T m a) j → entry_at s R N t ≡ entry_of t a b R c → AtR s t a' b' N h' → asked j c ≡ h'
    by_R N j c o o' f f' e y (last j' c' e' y') =
        let q : c ≡ c' = ap (λ (y : Entry). y.committed) (sym y ∙ y') in
        let p = same_place j j' (one_agent R N c c' y y') f f' (sym e ∙ e') in
        λ i. asked (p i) (q i)
    by_R N j c o o' f f' e y (before j' c' n l e' y') =
        let q = one_agent R N c true y y' in
        let N' = nth (way_channels T m a') j' in
        let r = at_R s t a b N' (asked j c) o (ap not (asked_stands s t a' b' j' j' c' o' (omega arith) f')) in
        let z = within N' j c j' r refl q f f' in
        let u = same_place j n q f (omega arith) (sym e ∙ e') in
        absurd (omega arith)
    by_R N j c o o' f f' e y (behind j' n l e' y') =
        elim (at_C s t a b (opposite T (nth (way_channels T m a') (suc j'))) (asked j c) o (ap not (answer_stands s t a' b' j' o'))) [ ]

    by_C : (N : Chan) {h h' : Stage} → a' ≡ a → Fits (bridges_between T m a) h → Fits (bridges_between T m a') h' → AtC s t a b N h → AtC s t a' b' N h' → h ≡ h'
    by_C N q f f' (back j e) (back j' e') = ap answered (same_opposite j j' q f f' (sym e ∙ e'))

  -- where an R of the first stands in its first channel, one of the second's stands there too
  AtR-first : (a a' : Agent) (b b' : Bool) (j : ℕ) (h' : Stage) → At T t a b s (answered j) → At T t a' b' s h' → j < bridges_between T m a → a' ≡ a
  AtR-first a a' b b' j h' o o' f =
      let N = nth (way_channels T m a) 0 in
      let y = ap not (answered_stands s t a b j 0 o (omega arith) f) in
      let r = R-is s t a b N (at_R s t a b N (answered j) o y) in
      let r' = R-is s t a' b' N (at_R s t a' b' N h' o' y) in
      one_agent a a' b b' R N r.0 r'.0 r.1 r'.1

  module _ (a a' : Agent) (b b' : Bool) where
    -- nothing stands of one that has ended
    over : (h' : Stage) → At T t a b s ended → At T t a' b' s h' → Fits (bridges_between T m a') h' → has_begun h' ≡ true → h' ≡ ended
    over unbegun o o' f' y = absurd (both true refl (sym y))
    over (posted i) o o' f' y =
        elim (at_P s t a b (nth (way_channels T m a') i) ended o (ap not (posted_stands s t a' b' i o'))) [ ]
    over (asked j c) o o' f' y =
        elim (at_R s t a b (nth (way_channels T m a') j) ended o (ap not (asked_stands s t a' b' j j c o' (omega arith) f'))) [ ]
    over (answered j) o o' f' y =
        elim (at_C s t a b (opposite T (nth (way_channels T m a') (suc j))) ended o (ap not (answer_stands s t a' b' j o'))) [ ]
    over ended o o' f' y = refl

    stage_by : (h h' : Stage) → At T t a b s h → At T t a' b' s h' → Fits (bridges_between T m a) h → Fits (bridges_between T m a') h'
        → has_begun h ≡ true → has_begun h' ≡ true → h ≡ h'
    stage_by unbegun h' o o' f f' y y' = absurd (both true refl (sym y))
    stage_by (posted i) h' o o' f f' y y' =
        let N = nth (way_channels T m a) i in
        let z = ap not (posted_stands s t a b i o) in
        by_P a a' b b' N f f' (at_P s t a b N (posted i) o z) (at_P s t a' b' N h' o' z)
    stage_by (asked j c) h' o o' f f' y y' =
        let N = nth (way_channels T m a) j in
        let z = ap not (asked_stands s t a b j j c o (omega arith) f) in
        by_R a a' b b' N j c o o' f f' refl (last_entry j c f (at_R s t a b N (asked j c) o z)) (at_R s t a' b' N h' o' z)
      where
        last_entry : (j : ℕ) (c : Bool) → j ≤ bridges_between T m a → AtR s t a b (nth (way_channels T m a) j) (asked j c) → entry_at s R (nth (way_channels T m a) j) t ≡ entry_of t a b R c
        last_entry j c f (last _ _ e y) = y
        last_entry j c f (before _ _ n l e y) = let u = nth_once T g.rules.passes m a has j n f (omega arith) e in absurd (omega arith)
    stage_by (answered j) h' o o' f f' y y' =
        let N = opposite T (nth (way_channels T m a) (suc j)) in
        let z = ap not (answer_stands s t a b j o) in
        by_C a a' b b' N (AtR-first a a' b b' j h' o o' f) f f' (at_C s t a b N (answered j) o z) (at_C s t a' b' N h' o' z)
    stage_by ended h' o o' f f' y y' = sym (over h' o o' f' y')

pub one_stage : (s : Net) → Good s → (t : Transaction) (c d : Course) → OnCourse s t c → OnCourse s t d → c.stage ≡ d.stage
one_stage s g t c d o p =
    let e : has_begun c.stage ≡ has_begun d.stage = sym o.number ∙ p.number in
    split (has_begun c.stage)
    (λ y. stage_by s g t (begun_there s g t c o y) c.target d.target c.write d.write c.stage d.stage o.stands p.stands o.fits p.fits y (sym e ∙ y))
    (λ n. not_begun c.stage n ∙ sym (not_begun d.stage (sym e ∙ n)))
