-- Two posted writes of one master in one channel: how the later comes to stand behind the earlier, where ground 9 holds it back.
-- What begins or is posted on is added behind all others, and nothing of its name stood there before.
use Prim.Native.Nat.{ℕ, suc, ◌+◌, ◌<◌}
use native.Mathlib.Omega.{arith}
use mathlib.Core.Path.{◌≡◌, refl, sym, ap, subst, ◌∙◌}
use mathlib.Core.Bool.{true, false}
use mathlib.Core.List.{List, [], ◌∷◌, ◌++◌}
use borrow.Author.Tests.{ltb-true}
use Rattle.base.specs.Lists.{only, modify, alter}
use Rattle.base.proofs.Logic.{split, both}
use Rattle.base.proofs.Grounds.{clear}
use Rattle.base.proofs.Cells.{modify_here, length_modify}
use Rattle.base.proofs.Sifted.{only_append, only_one, only_first}
use Rattle.base.proofs.Queues.{getD_modify_other}
use Rattle.chassis.specs.declared.Agent.{Agent}
use Rattle.chassis.specs.declared.Chan.{Chan}
use Rattle.chassis.specs.declared.NextPlace.TheVariants.{Through}
use Rattle.chassis.specs.Channels.{has_agent, chan_count, master_channel}
use Rattle.chassis.specs.Routes.{bridges_between, way_channels, nth}
use Rattle.chassis.specs.Tables.{within}
use Rattle.chassis.proofs.Counts.{counts}
use Rattle.chassis.proofs.Passing.{passed}
use Rattle.chassis.proofs.Hops.{chan_path}
use Rattle.chassis.proofs.Along.{nth_once, nth_there}
use Rattle.queue.specs.declared.Transaction.{Transaction}
use Rattle.queue.specs.declared.Entry.{Entry}
use Rattle.queue.specs.Entries.{P, is_of, is_named, gone}
use Rattle.queue.specs.Queues.{behind_P}
use Rattle.queue.proofs.Plainly.{named_is_its_own}
use Rattle.queue.proofs.Names.{one_is_same, is_named_so, is_either, of_second, held_back}
use Rattle.network.specs.Nets.{Net, waiting, begun}
use Rattle.network.specs.Edits.{Edit, edit, edits}
use Rattle.network.proofs.Good.{Good}
use Rattle.events.specs.declared.Event.TheVariants.{BeginPosted, Post}
use Rattle.events.specs.Grounds.{named_grounds, grounds, Accepted}
use Rattle.events.specs.Effects.{after}
use Rattle.events.specs.Reached.{Reached}
use Rattle.events.proofs.SoundStays.{reached_is_good}
use Rattle.events.proofs.BeginNumbers as numbers
use Rattle.events.proofs.BeginNumbers.{its_number}
use Rattle.courses.specs.Stages.{posted}
use Rattle.courses.specs.Courses.{pieces, course, transaction_of}
use Rattle.courses.proofs.Held.{held_one, held_no}
use Rattle.courses.proofs.Placed.{at_P, P-is}
use Rattle.courses.proofs.Advanced.{ahead_on, post_effects}
use Rattle.courses.proofs.Reaching.{every_transaction_is_on_course, next_is_not, begun_there}
use Rattle.courses.proofs.Once.{nothing_yet}
use Rattle.courses.proofs.Came.{PostedAt, the_P}

-- ---- the two in one channel

line_up : (t u : Transaction) (l : List Entry) (x z : Entry) → only (is_of t) l ≡ x ∷ [] → only (is_of u) l ≡ [] → is_of u z ≡ true → only (is_either t u) (l ++ (z ∷ [])) ≡ x ∷ z ∷ []
line_up t u l x z h k y =
    only_append (is_either t u) l (z ∷ [])
    ∙ rw (only_first (is_of t) (is_of u) l k ∙ h, only_one (is_either t u) z (of_second t u z y))

module _ (s : Net) (g : Good s) (u : Transaction) (a : Agent) (j : ℕ) (o : PostedAt s u a j) (l : j < bridges_between s.table u.master a) where
  abbrev w : List Chan
  w = way_channels s.table u.master a

  has_master : has_agent s.table u.master ≡ true
  has_master = begun_there s g u (course a true (posted j)) o refl

  -- the next channel is another
  another : (nth w (suc j)).0 ≡ (nth w j).0 → ⊥
  another e =
      let z = nth_once s.table g.rules.passes u.master a has_master (suc j) j l (omega arith) (chan_path e) in
      omega arith

  not_there_yet : only (is_of u) (waiting s (nth w (suc j))) ≡ []
  unfolding pieces
  not_there_yet = o.stands (nth w (suc j)) ∙ held_no (nth w (suc j)) (nth w j) (the_P u a) another

  -- posted on, it stands there behind all others
  posted_behind : Accepted s (Post (nth w j) u) → waiting (after s (Post (nth w j) u)) (nth w (suc j)) ≡ waiting s (nth w (suc j)) ++ (the_P u a ∷ [])
  unfolding grounds named_grounds after edits edit
  posted_behind ok =
      let X = nth w (suc j) in
      let N = nth w j in
      let y = P-is s u a true N (at_P s u a true N (posted j) o.stands (clear (grounds s (Post N u)) ok).1.0) in
      let f = alter (is_named P u) gone in
      let there = nth_there s.table g.rules.passes u.master a has_master (suc j) l in
      let c = counts s.table (passed s.table g.rules.passes).counts in
      let h = ltb-true X.0 (chan_count s.table) there in
      ap (λ (ds : List Edit). waiting (edits ds s) X) (post_effects s g u a true has_master N (Through X) (the_P u a) (ahead_on s g u a true has_master j l P false y) y)
      ∙ modify_here (modify s.chans N.0 f) X.0 (λ r. r ++ (the_P u a ∷ [])) [] (omega (arith, length_modify s.chans N.0 f, g.channels, c.agents.1, c.bridges))
      ∙ ap (◌++ (the_P u a ∷ [])) (getD_modify_other s.chans N.0 X.0 f [] (λ e. another (sym e)))

-- ---- in every state reached

head_same : {x y : Entry} {l m : List Entry} → x ∷ l ≡ y ∷ m → x ≡ y
head_same e = cc

-- the transaction of the same master with number n
abbrev pub number_of : Transaction → ℕ → Transaction
number_of t n = record { master = t.master; number = n }

-- t's P, to a, stands in N, and u's, to a', behind it
abbrev pub Behind : (t u : Transaction) (a a' : Agent) → Net → Chan → Type 0
Behind t u a a' s N = only (is_either t u) (waiting s N) ≡ the_P t a ∷ the_P u a' ∷ []

-- ground 9
pub blocked : (t u : Transaction) (a a' : Agent) → (t ≡ u → ⊥) → (s : Net) (N : Chan) → Accepted s (Post N u) → Behind t u a a' s N → ⊥
unfolding grounds named_grounds
blocked t u a a' differ s N ok h =
    both (behind_P (is_named P u) (waiting s N))
    (held_back t u (the_P t a) (the_P u a') refl not_its_name (is_named_so u (the_P u a') P refl refl) (waiting s N) h)
    (clear (grounds s (Post N u)) ok).1.1.0
  where
    not_its_name : is_named P u (the_P t a) ≡ false
    not_its_name = split (is_named P u (the_P t a)) (λ y. absurd (differ (named_is_its_own P u (the_P t a) y).1)) (λ z. z)

-- t to a, and one of the same master with number n to a'
module _ (t : Transaction) (n : ℕ) (a a' : Agent) where
  abbrev u : Transaction
  u = number_of t n

  abbrev m : Agent
  m = t.master

  -- u begins in t's channel
  pub begin_line : (s : Net) → Reached s → Accepted s (BeginPosted m a') → transaction_of s (BeginPosted m a') ≡ u → PostedAt s t a 0
      → PostedAt (after s (BeginPosted m a')) u a' 0 → Behind t u a a' (after s (BeginPosted m a')) (master_channel m)
  unfolding pieces
  begin_line s r ok e o p =
      let g = reached_is_good s r in
      let N = master_channel m in
      let r' = its_number s g m a' (BeginPosted m a') numbers.posted ok in
      let z = r'.entry in
      let y : n ≡ begun s m + 1 = ap (λ (t : Transaction). t.number) (sym e) in
      let v : z.transaction ≡ u = r'.carries ∙ ap (λ (k : ℕ). record { master = m; number = k }) (r'.number ∙ sym y) in
      let d = every_transaction_is_on_course s r u in
      let nothing = nothing_yet s g u d.0 d.1 (ap (within 1 (begun s m)) y ∙ next_is_not (begun s m)) N in
      let mine : is_of u z ≡ true = one_is_same v in
      let alone : only (is_of u) (waiting s N ++ (z ∷ [])) ≡ z ∷ [] = only_append (is_of u) (waiting s N) (z ∷ []) ∙ rw (nothing, only_one (is_of u) z mine) in
      let same : z ≡ the_P u a' =
      head_same (sym alone ∙ ap (only (is_of u)) (sym r'.enters) ∙ p.stands N ∙ held_one N (the_P u a')) in
      ap (only (is_either t u)) r'.enters
      ∙ line_up t u (waiting s N) (the_P t a) z (o.stands N ∙ held_one N (the_P t a)) nothing mine
      ∙ ap (λ (z : Entry). the_P t a ∷ z ∷ []) same

  -- u is posted into t's channel
  pub post_line : (s : Net) (g : Good s) (i j : ℕ) → (l : j < bridges_between s.table m a') → Accepted s (Post (nth (way_channels s.table m a') j) u)
      → nth (way_channels s.table m a) i ≡ nth (way_channels s.table m a') (suc j)
      → PostedAt s t a i → PostedAt s u a' j
      → Behind t u a a' (after s (Post (nth (way_channels s.table m a') j) u)) (nth (way_channels s.table m a) i)
  unfolding pieces
  post_line s g i j l ok e o p =
      let X = nth (way_channels s.table m a) i in
      let e' = nth (way_channels s.table m a') (suc j) in
      ap (λ (M : Chan). only (is_either t u) (waiting (after s (Post (nth (way_channels s.table m a') j) u)) M)) e
      ∙ ap (only (is_either t u)) (posted_behind s g u a' j p l ok)
      ∙ line_up t u (waiting s e') (the_P t a) (the_P u a')
      (subst (λ (M : Chan). only (is_of t) (waiting s M) ≡ the_P t a ∷ []) e (o.stands X ∙ held_one X (the_P t a)))
      (not_there_yet s g u a' j p l)
      (one_is_same {t = u} refl)
