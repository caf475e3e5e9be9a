-- What an accepted event rests on is made of a few pieces: an entry named, one added where there is room, a C taken, nothing latched yet.
-- A piece lists its guards and deeds with the rights to them, and says what is so in every state with that table where its guards hold.
use Prim.Native.Nat.{ℕ, ◌<◌}
use native.Mathlib.Omega.{arith}
use mathlib.Core.Path.{◌≡◌, refl, sym, ap, subst⁻¹, ◌∙◌}
use mathlib.Core.Logic.{◌≢◌}
use mathlib.Core.List.{List, [], ◌∷◌, ◌++◌}
use mathlib.Core.Bool.{Bool, true, false, not, ◌&&◌, ◌||◌}
use Rattle.std.specs.Prelude.{Option, None, Some}
use borrow.Author.Tests.{lt-leb, not-false}
use Rattle.base.specs.Lists.{find, is_some, passes, or_else}
use Rattle.base.proofs.Logic.{split, both, or_false, none_some}
use Rattle.base.proofs.Lists.{found_passes, is_there, is_none}
use Rattle.base.proofs.Orders.{All, all_append, all_parts}
use Rattle.chassis.specs.declared.Agent.{Agent}
use Rattle.chassis.specs.declared.Chan.{Chan}
use Rattle.chassis.specs.declared.Table.{Table}
use Rattle.chassis.specs.declared.NextPlace.{NextPlace}
use Rattle.chassis.specs.declared.NextPlace.TheVariants.{Target, Through}
use Rattle.chassis.specs.Channels.{has_chan, is_master, out_bus, opposite}
use Rattle.chassis.specs.Routes.{next_place}
use Rattle.chassis.specs.Tables.{table_passes}
use Rattle.chassis.proofs.Hops.{opposing}
use Rattle.chassis.proofs.OnTheWay.{next}
use Rattle.queue.specs.declared.Transaction.{Transaction}
use Rattle.queue.specs.declared.Entry.{Entry}
use Rattle.queue.specs.Entries.{P, R, C, is_kind, is_named, matches, marked, as_kind, zero_entry, gone}
use Rattle.queue.specs.Queues.{oldest, stands, behind_P, filling}
use Rattle.queue.proofs.Marks.{Blind, named_blind}
use Rattle.queue.proofs.Matching.{matches_its_name}
use Rattle.network.specs.Rooms.{Room, room_for, is_full}
use Rattle.network.specs.Nets.{Net, waiting, begun, full}
use Rattle.network.specs.Edits.{add, change, raise}
use Rattle.network.proofs.Rooms.{room_blind}
use Rattle.network.proofs.Kept.{not_full}
use Rattle.events.specs.Tests.{entry_at, full_ahead, answer_full, no_such_entry, behind_a_P, latched_already, unanswered, read_answer_behind_P}
use Rattle.events.specs.Effects.{leaves}
use Rattle.ticks.specs.Footings.{Name, Footing}
use Rattle.ticks.proofs.Guards.{Guard, has, absent, room, counted, Holds, Deed, Ready}
use Rattle.ticks.proofs.Rights.{Change, takes_out, Uses, on_bus, Gives, into_bus, Answers, Does, adds, changes, raises, Asks, of_name, none_ahead, no_answer, of_room, of_count}

pub P≢C : P ≢ C
P≢C h = omega arith

pub R≢C : R ≢ C
R≢C h = omega arith

pub record Piece (s : Net) (e : Footing) (deeds : List Deed) (Says : Net → Type 0) : Type 0 where
  pub guards : List Guard
  pub held : All (Holds s) guards
  pub own : All (Asks s e) guards
  pub ready : All (Ready s) deeds
  pub mine : All (Does s e) deeds
  pub again : (u : Net) → u.table ≡ s.table → All (Holds u) guards → Says u

module _ (s : Net) (e : Footing) where
  pub no_piece : Piece s e [] (λ u. Unit {0})
  no_piece = record { guards = []; held = tt; own = tt; ready = tt; mine = tt; again = λ u q g. tt }

  pub joined : {A B : Net → Type 0} (ds es : List Deed) → Piece s e ds A → Piece s e es B → Piece s e (ds ++ es) (λ u. A u × B u)
  joined ds es p q = record {
    guards = p.guards ++ q.guards;
    held = all_append (Holds s) p.guards q.guards p.held q.held;
    own = all_append (Asks s e) p.guards q.guards p.own q.own;
    ready = all_append (Ready s) ds es p.ready q.ready;
    mine = all_append (Does s e) ds es p.mine q.mine;
    again = λ u t g. let r = all_parts (Holds u) p.guards q.guards g in (p.again u t r.0, q.again u t r.1);
  }

  pub so : {A B : Net → Type 0} {ds : List Deed} → Piece s e ds A → ((u : Net) → u.table ≡ s.table → A u → B u) → Piece s e ds B
  so p f = record {
    guards = p.guards;
    held = p.held;
    own = p.own;
    ready = p.ready;
    mine = p.mine;
    again = λ u t g. f u t (p.again u t g);
  }

-- ---- an entry named, with no older P before it

abbrev pub P-or : (Entry → Bool) → Entry → Bool
P-or p x = is_kind P x || p x

P-or-blind : (k : ℕ) (t : Transaction) → Blind (P-or (is_named k t))
unfolding marked is_named
P-or-blind k t x = refl

pub record Named (s : Net) (k : ℕ) (N : Chan) (t : Transaction) (x : Entry) : Type 0 where
  pub first : find (P-or (is_named k t)) (waiting s N) ≡ Some x
  pub named : is_named k t x ≡ true
  pub found : oldest k t (waiting s N) ≡ Some x

passing : (p : Entry → Bool) (o : Option Entry) → not (passes p o) ≡ false → (x : Entry) × (o ≡ Some x) × (p x ≡ true)
passing p None h = absurd (both true refl h)
passing p (Some x) h = (x, refl, not-false (p x) h)

-- the oldest that is P or passes, if it passes, is the oldest that passes
unblocked : (p : Entry → Bool) (l : List Entry) (x : Entry) → find (P-or p) l ≡ Some x → p x ≡ true → find p l ≡ Some x
unfolding find
unblocked p [] x h t = absurd (none_some {a = x} refl h)
unblocked p (y ∷ l) x h t =
    split (P-or p y)
    (λ b. let z : y ≡ x = cc (rw b at h) in let w : p y ≡ true = cc in rw w (ap Some z))
    (λ b. rw (or_false (is_kind P y) (p y) b).1 (unblocked p l x (rw b at h) t))

module _ (k : ℕ) (N : Chan) (t : Transaction) where
  named_by : (s : Net) (x : Entry) → find (P-or (is_named k t)) (waiting s N) ≡ Some x → is_named k t x ≡ true → Named s k N t x
  named_by s x h n = record { first = h; named = n; found = unblocked (is_named k t) (waiting s N) x h n }

  pub not_behind : (s : Net) → no_such_entry s k N t ≡ false → behind_a_P s k N t ≡ false → (x : Entry) × Named s k N t x
  unfolding behind_P
  not_behind s there h =
      let here : stands k t (waiting s N) ≡ true = not-false (stands k t (waiting s N)) there in
      let q = passing (is_named k t) (find (P-or (is_named k t)) (waiting s N)) (rw here at h) in
      (q.0, named_by s q.0 q.1 q.2)

  pub still_not_behind : (s : Net) (x : Entry) → Named s k N t x → behind_a_P s k N t ≡ false
  unfolding behind_P
  still_not_behind s x a = rw (a.found, a.first, a.named)

  abbrev name : Name
  name = record { channel = N; kind = k; transaction = t }

  pub named_piece : (s : Net) (e : Footing) (f : Entry → List Entry) (x : Entry) → Change f → Uses s e name → Named s k N t x
      → Piece s e ((change N (is_named k t) f, x) ∷ []) (λ u. Named u k N t x)
  named_piece s e f x c v a = record {
    guards = has N (P-or (is_named k t)) x ∷ [];
    held = (a.first, tt);
    own = (of_name name v a.named (P-or-blind k t), tt);
    ready = (a.found, tt);
    mine = (changes name v c a.named, tt);
    again = λ u q g. named_by u x g.0 a.named;
  }

  -- where older P do not matter
  pub found_piece : (s : Net) (e : Footing) (x : Entry) → Uses s e name → oldest k t (waiting s N) ≡ Some x
      → Piece s e ((leaves k N t, x) ∷ []) (λ u. oldest k t (waiting u N) ≡ Some x)
  found_piece s e x v h =
      let n = found_passes (is_named k t) (waiting s N) h in
      record {
        guards = has N (is_named k t) x ∷ [];
        held = (h, tt);
        own = (of_name name v n (named_blind k t), tt);
        ready = (h, tt);
        mine = (changes name v takes_out n, tt);
        again = λ u q g. g.0;
      }

-- ---- one added where there is room

abbrev pub adding : Chan → Entry → List Deed
adding X x = (add X x, x) ∷ []

still_room : (r q : Room) (l : List Entry) → q ≡ r → filling r.holds l < r.most → is_full q l ≡ false
still_room r q l e h = rw e (lt-leb r.most (filling r.holds l) h)

pub adding_piece : (s : Net) (e : Footing) (k : ℕ) (m : Agent) (X : Chan) (x : Entry) → Gives s e X → Answers s X x → full s k m X ≡ false
    → Piece s e (adding X x) (λ u. full u k m X ≡ false)
adding_piece s e k m X x v o h = record {
  guards = room X (room_for s.table k m) ∷ [];
  held = (not_full s k m X h, tt);
  own = (of_room v (room_blind s.table k m), tt);
  ready = (tt, tt);
  mine = (adds v o, tt);
  again = λ u q g. still_room (room_for s.table k m) (room_for u.table k m) (waiting u X) (ap (λ (T : Table). room_for T k m) q) g.0;
}

-- the agent's count is as before, and rises
pub raising_piece : (s : Net) (e : Footing) (m : Agent) → e.beginner ≡ Some m → Piece s e ((raise m, zero_entry) ∷ []) (λ u. begun u m ≡ begun s m)
raising_piece s e m b = record {
  guards = counted m (begun s m) ∷ [];
  held = (refl, tt);
  own = (of_count b, tt);
  ready = (tt, tt);
  mine = (raises b, tt);
  again = λ u q g. g.0;
}

-- at N1, if that is a channel
abbrev pub entering : NextPlace → Entry → List Deed
entering Target x = []
entering (Through X) x = adding X x

-- no C answers nothing
pub no_answers : (s : Net) (X : Chan) (x : Entry) (k : ℕ) → x.kind ≡ k → k ≢ C → Answers s X x
no_answers s X x k q n c = absurd (n (sym q ∙ c))

pub entering_piece : (s : Net) (e : Footing) (k : ℕ) (m : Agent) (N1 : NextPlace) (x : Entry) → ((X : Chan) → N1 ≡ Through X → Gives s e X) → x.kind ≡ k → k ≢ C
    → full_ahead s k m N1 ≡ false → Piece s e (entering N1 x) (λ u. full_ahead u k m N1 ≡ false)
entering_piece s e k m Target x v q n h = so s e (no_piece s e) (λ u t g. refl)
entering_piece s e k m (Through X) x v q n h = adding_piece s e k m X x (v X refl) (no_answers s X x k q n) h

-- in the opposite of N, if N is no master channel
abbrev pub giving : Table → Bool → Chan → Entry → List Deed
giving T true N x = []
giving T false N x = adding (opposite T N) (as_kind C x)

-- ---- nothing of the transaction is at N1 yet, nor comes back from there

-- as a test tells it: one that names the transaction, or one that matches the request
abbrev Free : (ℕ → Entry → Bool) → Chan → Net → Type 0
Free q X s = (is_some (find (q R) (waiting s X)) || is_some (find (q C) (waiting s (opposite s.table X)))) ≡ false

free_by_name : (s : Net) (e : Footing) (t : Transaction) (X : Chan) → Gives s e X → opposite s.table (opposite s.table X) ≡ X
    → Free (λ k. is_named k t) X s → Piece s e [] (Free (λ k. is_named k t) X)
free_by_name s e t X v back h =
    let r = or_false (stands R t (waiting s X)) (stands C t (waiting s (opposite s.table X))) h in
    let none-R = is_none (oldest R t (waiting s X)) r.0 in
    record {
      guards = absent X (is_named R t) ∷ absent (opposite s.table X) (is_named C t) ∷ [];
      held = (none-R, (is_none (oldest C t (waiting s (opposite s.table X))) r.1, tt));
      own = (
        none_ahead v (named_blind R t),
        (no_answer (opposite s.table X) t (subst⁻¹ (λ (Y : Chan). oldest R t (waiting s Y) ≡ None) back none-R), tt),
      );
      ready = tt;
      mine = tt;
      again = λ u q g. nothing u q g.0 g.1.0;
    }
  where
    nothing : (u : Net) → u.table ≡ s.table → oldest R t (waiting u X) ≡ None → oldest C t (waiting u (opposite s.table X)) ≡ None
        → Free (λ k. is_named k t) X u
    nothing u q a b =
        subst⁻¹ (λ (Y : Chan). (stands R t (waiting u X) || stands C t (waiting u Y)) ≡ false) (ap (λ (T : Table). opposite T X) q) (rw (a, b))

pub free_piece : (s : Net) (e : Footing) (r : Entry) (X : Chan) → Gives s e X → opposite s.table (opposite s.table X) ≡ X
    → latched_already s r (Through X) ≡ false → Piece s e [] (λ u. latched_already u r (Through X) ≡ false)
free_piece s e r X v back =
    subst⁻¹ (λ (q : ℕ → Entry → Bool). Free q X s → Piece s e [] (Free q X)) (λ i k. matches_its_name k r i) (free_by_name s e r.transaction X v back)

-- ---- the matching C, found as the oldest of its name or, a read's, as the oldest of its name or P

and_not : (a b : Bool) → b ≡ false → (a && b) ≡ false
and_not true b h = h
and_not false b h = refl

module _ (q : Entry → Bool) where
  -- neither 12 nor 14 holds of the opposite Y of N1
  record Takes (s : Net) (Y : Chan) : Type 0 where
    there : not (is_some (find q (waiting s Y))) ≡ false
    in_turn : (not (or_else zero_entry (find q (waiting s Y))).write && behind_P q (waiting s Y)) ≡ false

  -- it, and what is left to be said of it
  record Taking (s : Net) (e : Footing) (Y : Chan) : Type 0 where
    entry : Entry
    passes : q entry ≡ true
    piece : Piece s e ((change Y q gone, entry) ∷ []) (λ u. Takes u Y)

module _ (t : Transaction) where
  abbrev pub the_C : Chan → Name
  the_C Y = record { channel = Y; kind = C; transaction = t }

  taking_by_name : (s : Net) (e : Footing) (Y : Chan) → Uses s e (the_C Y) → Takes (is_named C t) s Y → Taking (is_named C t) s e Y
  taking_by_name s e Y v h =
      let q = is_there (oldest C t (waiting s Y)) (not-false (stands C t (waiting s Y)) h.there) in
      split q.0.write
      (λ w. record {
        entry = q.0;
        passes = found_passes (is_named C t) (waiting s Y) q.1;
        piece = so s e (found_piece C Y t s e q.0 v q.1) (λ u _ k. record { there = rw k; in_turn = rw (k, w) });
      })
      (λ w.
      let r = not_behind C Y t s h.there (rw (q.1, w) at h.in_turn) in
      record {
        entry = r.0;
        passes = r.1.named;
        piece = so s e (named_piece C Y t s e gone r.0 takes_out v r.1)
            (λ u _ k. record {
              there = rw k.found;
              in_turn = and_not (not (entry_at u C Y t).write) (behind_a_P u C Y t) (still_not_behind C Y t u r.0 k);
            });
      })

taking : (r : Entry) (s : Net) (e : Footing) (Y : Chan) → Uses s e (the_C r.transaction Y) → Takes (matches C r) s Y → Taking (matches C r) s e Y
taking r s e Y v = subst⁻¹ (λ (q : Entry → Bool). Takes q s Y → Taking q s e Y) (matches_its_name C r) (taking_by_name r.transaction s e Y v)

-- ---- the matching C is taken out of the opposite of N1, if N1 is a channel

abbrev pub bringing_deeds : Table → NextPlace → Entry → Entry → List Deed
bringing_deeds T Target r c = []
bringing_deeds T (Through X) r c = (change (opposite T X) (matches C r) gone, c) ∷ []

-- neither 12 nor 14 holds
pub record Brings (s : Net) (r : Entry) (N1 : NextPlace) : Type 0 where
  pub there : unanswered s r N1 ≡ false
  pub in_turn : read_answer_behind_P s r N1 ≡ false

pub record Bringing (s : Net) (e : Footing) (r : Entry) (N1 : NextPlace) : Type 0 where
  pub entry : Entry
  pub matched : (X : Chan) → N1 ≡ Through X → matches C r entry ≡ true
  pub piece : Piece s e (bringing_deeds s.table N1 r entry) (λ u. Brings u r N1)

pub bringing : (s : Net) (e : Footing) (r : Entry) (N1 : NextPlace) → ((X : Chan) → N1 ≡ Through X → Uses s e (the_C r.transaction (opposite s.table X)))
    → unanswered s r N1 ≡ false → read_answer_behind_P s r N1 ≡ false → Bringing s e r N1
bringing s e r Target v h k = record {
  entry = zero_entry;
  matched = λ X q. let z : ◌≡◌ {A = ℕ} 0 1 = cc in absurd (omega arith);
  piece = so s e (no_piece s e) (λ u q _. record { there = refl; in_turn = refl });
}
bringing s e r (Through X) v h k =
    let w = taking r s e (opposite s.table X) (v X refl) (record { there = h; in_turn = k }) in
    record {
      entry = w.entry;
      matched = λ _ _. w.passes;
      piece = so s e w.piece
          (λ u q k.
          let j = subst⁻¹ (λ (Y : Chan). Takes (matches C r) u Y) (ap (λ (T : Table). opposite T X) q) k in
          record { there = j.there; in_turn = j.in_turn });
    }

-- ---- on the event's bus: what goes on to N1, what comes back from there, and what N gives back

module _ (s : Net) (ok : table_passes s.table ≡ true) (e : Footing) (N : Chan) (there : has_chan s.table N ≡ true)
    (bus : e.bus ≡ Some (out_bus s.table N)) where
  pub gives_ahead : (a : Agent) (X : Chan) → next_place s.table N a ≡ Through X → Gives s e X
  gives_ahead a X h = into_bus (out_bus s.table N) bus (next s.table ok N a X there h).into

  pub ahead_and_back : (a : Agent) (X : Chan) → next_place s.table N a ≡ Through X → opposite s.table (opposite s.table X) ≡ X
  ahead_and_back a X h = let n = next s.table ok N a X there h in (opposing s.table X n.there n.no_master).back

  pub uses_answer : (a : Agent) (X : Chan) (t : Transaction) → next_place s.table N a ≡ Through X → e.takes ≡ Some (opposite s.table X)
      → Uses s e (record { channel = opposite s.table X; kind = C; transaction = t })
  uses_answer a X t h c =
      let n = next s.table ok N a X there h in
      let o = opposing s.table X n.there n.no_master in
      on_bus (bus ∙ sym n.into ∙ o.out) (λ (k : C ≡ R). absurd (omega arith)) (λ _. c)

  pub giving_piece : (b : Bool) (m : Agent) (x : Entry) → is_master s.table N ≡ b → oldest R x.transaction (waiting s N) ≡ Some x → answer_full s m N ≡ false
      → Piece s e (giving s.table b N x) (λ u. answer_full u m N ≡ false)
  unfolding as_kind
  giving_piece true m x i h r = so s e (no_piece s e) (λ u q _. masters u q)
    where
      masters : (u : Net) → u.table ≡ s.table → answer_full u m N ≡ false
      masters u q = subst⁻¹ (λ (T : Table). (not (is_master T N) && is_full (room_for T C m) (waiting u (opposite T N))) ≡ false) q (rw i)
  giving_piece false m x i h r =
      let o = opposing s.table N there i in
      so s e
      (adding_piece s e C m (opposite s.table N) (as_kind C x) (into_bus (out_bus s.table N) bus o.into)
      (λ _. (x, subst⁻¹ (λ (Y : Chan). oldest R x.transaction (waiting s Y) ≡ Some x) o.back h))
      (rw i at r))
      (λ u q f. and_not (not (is_master u.table N)) (full u C m (opposite u.table N))
      (subst⁻¹ (λ (Y : Chan). full u C m Y ≡ false) (ap (λ (T : Table). opposite T N) q) f))
