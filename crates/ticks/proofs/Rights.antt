-- Events that do not conflict do not meet: no edit of the one breaks a guard of the other, and their edits can change places.
-- One law for all pairs of kinds: each guard and edit names the right by which an event touches it, and a right that two share is a case (a) to (e).
use Prim.Native.Nat.{ℕ}
use native.Mathlib.Omega.{arith}
use mathlib.Core.Path.{◌≡◌, refl, sym, ap, subst, ◌∙◌}
use mathlib.Core.Logic.{◌≢◌, ◌⊎◌, inl, inr, ⊎_elim}
use mathlib.Core.List.{List}
use mathlib.Core.Bool.{Bool, true, false, ◌&&◌, ◌||◌}
use Rattle.std.specs.Prelude.{Option, None, Some}
use lib.Dec.{eqb}
use borrow.Author.Tests.{eqb-true, eq-eqb}
use Rattle.base.specs.Lists.{find}
use Rattle.base.proofs.Logic.{split, both, and_true, or_false, none_some, equal?}
use Rattle.base.proofs.Lists.{found_passes}
use Rattle.chassis.specs.declared.Agent.{Agent}
use Rattle.chassis.specs.declared.Bus.{Bus}
use Rattle.chassis.specs.declared.Chan.{Chan}
use Rattle.chassis.specs.Numbers.{same_agent, same_bus, same_chan}
use Rattle.chassis.specs.Channels.{master_channel, out_bus, in_bus, opposite}
use Rattle.chassis.proofs.Hops.{chan_path}
use Rattle.queue.specs.declared.Transaction.{Transaction}
use Rattle.queue.specs.declared.Entry.{Entry}
use Rattle.queue.specs.Entries.{R, C, is_kind, is_named, same_transaction, marked, gone, marking}
use Rattle.queue.proofs.Plainly.{same_is_one, named_is_its_own}
use Rattle.queue.proofs.Marks.{Blind, kind_blind, named_blind, gone_counts_less, marked_counts_alike}
use Rattle.network.specs.Rooms.{Room}
use Rattle.network.specs.Nets.{Net, waiting}
use Rattle.network.specs.Edits.{add, change, raise}
use Rattle.ticks.specs.Footings.{Name, Footing}
use Rattle.ticks.specs.Conflicts.{alike, same_name, is_C_of, drops_the_tried, drops_where_taken, clash}
use Rattle.ticks.proofs.Guards.{Guard, has, absent, room, counted, Quiet, Calm, Elsewhere, Safe, Deed, Apart}

-- ---- no clash, line by line

pub record Peace (e f : Footing) : Type 0 where
  pub buses : alike same_bus e.bus f.bus ≡ false
  pub beginners : alike same_agent e.beginner f.beginner ≡ false
  pub dropped : drops_the_tried e f ≡ false
  pub tried : drops_the_tried f e ≡ false
  pub emptied : drops_where_taken e f ≡ false
  pub taken : drops_where_taken f e ≡ false
  pub drops : alike same_name e.drops f.drops ≡ false

pub no_clash : (e f : Footing) → clash e f ≡ false → Peace e f
unfolding clash
no_clash e f h =
    let a = alike same_bus e.bus f.bus in
    let b = alike same_agent e.beginner f.beginner in
    let c = drops_the_tried e f || drops_the_tried f e in
    let d = drops_where_taken e f || drops_where_taken f e in
    let r4 = or_false (a || b || c || d) (alike same_name e.drops f.drops) h in
    let r3 = or_false (a || b || c) d r4.0 in
    let r2 = or_false (a || b) c r3.0 in
    let r1 = or_false a b r2.0 in
    let q = or_false (drops_the_tried e f) (drops_the_tried f e) r2.1 in
    let p = or_false (drops_where_taken e f) (drops_where_taken f e) r3.1 in
    record { buses = r1.0; beginners = r1.1; dropped = q.0; tried = q.1; emptied = p.0; taken = p.1; drops = r4.1 }

pub in_peace : (e f : Footing) → Peace e f → clash e f ≡ false
unfolding clash
in_peace e f n = rw (n.buses, n.beginners, n.dropped, n.tried, n.emptied, n.taken, n.drops)

-- ---- names

abbrev pub is_name : Name → Entry → Bool
is_name K = is_named K.kind K.transaction

name_path : (K L : Name) → K.channel ≡ L.channel → K.kind ≡ L.kind → K.transaction ≡ L.transaction → K ≡ L
name_path K L a b c = λ i. record { channel = a i; kind = b i; transaction = c i }

same_name_is : (K L : Name) → same_name K L ≡ true → K ≡ L
same_name_is K L h =
    let r = and_true (same_chan K.channel L.channel && eqb K.kind L.kind) (same_transaction K.transaction L.transaction) h in
    let q = and_true (same_chan K.channel L.channel) (eqb K.kind L.kind) r.0 in
    name_path K L
    (chan_path (eqb-true K.channel.0 L.channel.0 q.0))
    (eqb-true K.kind L.kind q.1)
    (same_is_one K.transaction L.transaction r.1)

same_number : (n : ℕ) → eqb n n ≡ true
same_number n = eq-eqb n n refl

same_name_one : (K : Name) → same_name K K ≡ true
same_name_one K =
    simp (same_number K.channel.0, same_number K.kind, same_number K.transaction.master.0, same_number K.transaction.number)

-- two names in one channel that fit one entry are one name
one_name : (K L : Name) (x : Entry) → K.channel ≡ L.channel → is_name K x ≡ true → is_name L x ≡ true → K ≡ L
one_name K L x e h k =
    let a = named_is_its_own K.kind K.transaction x h in
    let b = named_is_its_own L.kind L.transaction x k in
    name_path K L e (sym a.0 ∙ b.0) (sym a.1 ∙ b.1)

-- ---- both are there and alike, either way round

meets : {A B : Type 0} (same : A → B → Bool) {o : Option A} {q : Option B} {x : A} {y : B} → o ≡ Some x → q ≡ Some y → same x y ≡ true
    → alike same o q ≡ false → ⊥
unfolding alike
meets same {x = x} {y = y} p q t h = both (same x y) t (rw (p, q) at h)

alike_back : {A : Type 0} (same : A → A → Bool) → ((x y : A) → same x y ≡ true → same y x ≡ true) → (o q : Option A)
    → alike same o q ≡ false → alike same q o ≡ false
unfolding alike
alike_back same t None None h = refl
alike_back same t None (Some y) h = refl
alike_back same t (Some x) None h = refl
alike_back same t (Some x) (Some y) h = split (same y x) (λ k. absurd (both (same x y) (t y x k) h)) (λ k. k)

number_back : (m n : ℕ) → eqb m n ≡ true → eqb n m ≡ true
number_back m n h = eq-eqb n m (sym (eqb-true m n h))

pub peace_back : (e f : Footing) → Peace e f → Peace f e
peace_back e f n = record {
  buses = alike_back same_bus (λ a b. number_back a.0 b.0) e.bus f.bus n.buses;
  beginners = alike_back same_agent (λ a b. number_back a.0 b.0) e.beginner f.beginner n.beginners;
  dropped = n.tried;
  tried = n.dropped;
  emptied = n.taken;
  taken = n.emptied;
  drops = alike_back same_name (λ K L h. subst (λ (M : Name). same_name M K ≡ true) (same_name_is K L h) (same_name_one K)) e.drops f.drops n.drops;
}

-- ---- the rights

-- a change that takes out or marks
pub data Change : (Entry → List Entry) → Type 0 where
  takes_out : Change gone
  marks : Change marking

pub quiet : (p : Entry → Bool) {f : Entry → List Entry} → Blind p → Change f → Quiet p f
unfolding find
quiet p b takes_out x h = refl
quiet p b marks x h = let k : p (marked x) ≡ false = b x ∙ h in rw k

calm : (p : Entry → Bool) {f : Entry → List Entry} → Blind p → Change f → Calm p f
calm p b takes_out x = gone_counts_less p x
calm p b marks x = marked_counts_alike p x b

module _ (s : Net) where
  -- K is a C, and another C is older
  pub record Younger (K : Name) : Type 0 where
    pub is_C : K.kind ≡ C
    pub oldest : Entry
    pub there : find (is_kind C) (waiting s K.channel) ≡ Some oldest
    pub other : is_name K oldest ≡ false

  -- who may rest on the entry named K, or change it: on its bus, or dropping it
  pub data Uses (e : Footing) (K : Name) : Type 0 where
    on_bus : e.bus ≡ Some (out_bus s.table K.channel) → (K.kind ≡ R → e.tries ≡ Some K) → (K.kind ≡ C → e.takes ≡ Some K.channel)
        → Uses e K
    by_drop : e.drops ≡ Some K → (K.kind ≡ R) ⊎ Younger K → Uses e K

  -- who may add to channel X: its master, or who occurs on its in-bus
  pub data Gives (e : Footing) (X : Chan) : Type 0 where
    by_begin : (m : Agent) → e.beginner ≡ Some m → X ≡ master_channel m → in_bus s.table X ≡ None → Gives e X
    into_bus : (b : Bus) → e.bus ≡ Some b → in_bus s.table X ≡ Some b → Gives e X

  -- a C that is added answers an R in the opposite channel
  abbrev pub Answers : Chan → Entry → Type 0
  Answers X x = x.kind ≡ C → (y : Entry) × (find (is_named R x.transaction) (waiting s (opposite s.table X)) ≡ Some y)

  pub data Does (e : Footing) : Deed → Type 0 where
    adds : {X : Chan} {x y : Entry} → Gives e X → Answers X x → Does e (add X x, y)
    changes : (K : Name) {f : Entry → List Entry} {x : Entry} → Uses e K → Change f → is_name K x ≡ true → Does e (change K.channel (is_name K) f, x)
    raises : {a : Agent} {y : Entry} → e.beginner ≡ Some a → Does e (raise a, y)

  pub data Asks (e : Footing) : Guard → Type 0 where
    of_name : (K : Name) {p : Entry → Bool} {x : Entry} → Uses e K → is_name K x ≡ true → Blind p → Asks e (has K.channel p x)
    of_oldest : (K : Name) {x : Entry} → e.drops ≡ Some K → K.kind ≡ C → find (is_kind C) (waiting s K.channel) ≡ Some x
        → Asks e (has K.channel (is_kind C) x)
    none_ahead : {X : Chan} {p : Entry → Bool} → Gives e X → Blind p → Asks e (absent X p)
    no_answer : (X : Chan) (t : Transaction) → find (is_named R t) (waiting s (opposite s.table X)) ≡ None → Asks e (absent X (is_named C t))
    of_room : {X : Chan} {r : Room} → Gives e X → Blind r.holds → Asks e (room X r)
    of_count : {a : Agent} {n : ℕ} → e.beginner ≡ Some a → Asks e (counted a n)

  -- ---- no right is shared

  -- what is dropped is neither tried nor taken
  dropped_alone : (e f : Footing) (K : Name) → drops_the_tried e f ≡ false → drops_where_taken e f ≡ false
      → (K.kind ≡ R → f.tries ≡ Some K) → (K.kind ≡ C → f.takes ≡ Some K.channel) → e.drops ≡ Some K → (K.kind ≡ R) ⊎ Younger K → ⊥
  dropped_alone e f K n m t c d (inl k) = meets same_name d (t k) (same_name_one K) n
  dropped_alone e f K n m t c d (inr y) =
      meets is_C_of d (c y.is_C) (rw (eq-eqb K.kind C y.is_C) (same_number K.channel.0)) m

  use_alone : (e f : Footing) (K : Name) → Peace e f → Uses e K → Uses f K → ⊥
  use_alone e f K n (on_bus b t c) (on_bus b2 t2 c2) = meets same_bus b b2 (same_number (out_bus s.table K.channel).0) n.buses
  use_alone e f K n (on_bus b t c) (by_drop d k) = dropped_alone f e K n.tried n.taken t c d k
  use_alone e f K n (by_drop d k) (on_bus b t c) = dropped_alone e f K n.dropped n.emptied t c d k
  use_alone e f K n (by_drop d k) (by_drop d2 k2) = meets same_name d d2 (same_name_one K) n.drops

  give_alone : (e f : Footing) (X Y : Chan) → Peace e f → Gives e X → Gives f Y → X ≢ Y
  give_alone e f X Y n (by_begin m b x i) (by_begin m2 b2 y j) d =
      meets same_agent b b2 (eq-eqb m.0 m2.0 (ap (λ (N : Chan). N.0) (sym x ∙ d ∙ y))) n.beginners
  give_alone e f X Y n (by_begin m b x i) (into_bus c q j) d = none_some {a = c} (rw d at i) j
  give_alone e f X Y n (into_bus c q i) (by_begin m b x j) d = none_some {a = c} j (rw d at i)
  give_alone e f X Y n (into_bus b q i) (into_bus c p j) d =
      meets same_bus q p (eq-eqb b.0 c.0 (same_bus_number b c (sym (rw d at i) ∙ j))) n.buses
    where
      same_bus_number : (a b : Bus) → Some a ≡ Some b → a.0 ≡ b.0
      same_bus_number a b h = let k : a ≡ b = cc in ap (λ (c : Bus). c.0) k

  begin_alone : (e f : Footing) (a b : Agent) → Peace e f → e.beginner ≡ Some a → f.beginner ≡ Some b → a ≢ b
  begin_alone e f a b n p q d = meets same_agent p q (eq-eqb a.0 b.0 (ap (λ (m : Agent). m.0) d)) n.beginners

  -- another channel, or not: then what would follow does not
  elsewhere : (X Y : Chan) (b : Bool) → (X ≡ Y → b ≡ true → ⊥) → Elsewhere X Y (b ≡ false)
  elsewhere X Y b k =
      ⊎_elim
      (λ e. split b (λ t. absurd (k (chan_path e) t)) (λ f. inr f))
      (λ n. inl (λ e. n (ap (λ (N : Chan). N.0) e)))
      (equal? X.0 Y.0)

  -- the entry named K is not what is named L
  entry_alone : (e f : Footing) (K L : Name) (x : Entry) → Peace e f → Uses e K → Uses f L → is_name K x ≡ true
      → Elsewhere K.channel L.channel (is_name L x ≡ false)
  entry_alone e f K L x n u v h =
      elsewhere K.channel L.channel (is_name L x)
      (λ c t. use_alone e f L n (subst (Uses e) (one_name K L x c h t) u) v)

  two_ways : {X Y : Chan} {B D : Type 0} → Elsewhere X Y B → Elsewhere Y X D → Elsewhere X Y (B × D)
  two_ways (inl a) d = inl a
  two_ways (inr b) (inl c) = inl (λ e. c (sym e))
  two_ways (inr b) (inr d) = inr (b, d)

  pub deeds_apart : (e f : Footing) (a b : Deed) → Peace e f → Does e a → Does f b → Apart a b
  deeds_apart e f a b n (adds {X = X} v o) (adds {X = Y} v2 o2) = give_alone e f X Y n v v2
  deeds_apart e f a b n (adds v o) (changes L u c h) = tt
  deeds_apart e f a b n (adds v o) (raises d) = tt
  deeds_apart e f a b n (changes K u c h) (adds v o) = tt
  deeds_apart e f a b n (changes K {x = x} u c h) (changes L {x = y} v d k) = (
    quiet (is_name K) (named_blind K.kind K.transaction) d,
    quiet (is_name L) (named_blind L.kind L.transaction) c,
    two_ways (entry_alone e f K L x n u v h) (entry_alone f e L K y (peace_back e f n) v u k),
  )
  deeds_apart e f a b n (changes K u c h) (raises d) = tt
  deeds_apart e f a b n (raises d) (adds v o) = tt
  deeds_apart e f a b n (raises d) (changes L u c h) = tt
  deeds_apart e f a b n (raises {a = x} d) (raises {a = y} d2) = begin_alone e f x y n d d2

  -- ---- guards of f, edits of e

  -- the oldest C of a channel that f drops a C of is not what e changes
  oldest_alone : (f e : Footing) (K L : Name) (x : Entry) → Peace f e → f.drops ≡ Some K → K.kind ≡ C
      → find (is_kind C) (waiting s K.channel) ≡ Some x → K.channel ≡ L.channel → is_name L x ≡ true → L.kind ≡ C → Uses e L → ⊥
  oldest_alone f e K L x n d k h q t j (on_bus b r c) =
      meets is_C_of d (c j) (rw (eq-eqb K.kind C k, q) (same_number L.channel.0)) n.emptied
  oldest_alone f e K L x n d k h q t j (by_drop p (inl r)) = omega arith
  oldest_alone f e K L x n d k h q t j (by_drop p (inr y)) =
      let w : find (is_kind C) (waiting s L.channel) ≡ Some x = subst (λ (X : Chan). find (is_kind C) (waiting s X) ≡ Some x) q h in
      both (is_name L x) t (subst (λ (c : Entry). is_name L c ≡ false) (same_found y.there w) y.other)
    where
      same_found : {o : Option Entry} {a b : Entry} → o ≡ Some a → o ≡ Some b → a ≡ b
      same_found p q = cc

  -- what is named L and is the oldest C is a C
  named_C : (N : Chan) (L : Name) (x : Entry) → find (is_kind C) (waiting s N) ≡ Some x → is_name L x ≡ true → L.kind ≡ C
  named_C N L x h t = sym (named_is_its_own L.kind L.transaction x t).0 ∙ eqb-true x.kind C (found_passes (is_kind C) (waiting s N) h)

  pub guard_safe : (f e : Footing) (g : Guard) (a : Deed) → Peace f e → Asks f g → Does e a → Safe g a.0
  guard_safe f e g a n (of_name K u h b) (adds v o) = tt
  guard_safe f e g a n (of_name K {p = p} {x = x} u h b) (changes L v c k) = (quiet p b c, entry_alone f e K L x n u v h)
  guard_safe f e g a n (of_name K u h b) (raises d) = tt
  guard_safe f e g a n (of_oldest K d k h) (adds v o) = tt
  guard_safe f e g a n (of_oldest K {x = x} d k h) (changes L v c j) = (
    quiet (is_kind C) (kind_blind C) c,
    elsewhere K.channel L.channel (is_name L x) (λ q t. oldest_alone f e K L x n d k h q t (named_C K.channel L x h t) v),
  )
  guard_safe f e g a n (of_oldest K d k h) (raises q) = tt
  guard_safe f e g a n (none_ahead {X = X} v b) (adds {X = Y} w o) = inl (give_alone f e X Y n v w)
  guard_safe f e g a n (none_ahead {p = p} v b) (changes L u c h) = quiet p b c
  guard_safe f e g a n (none_ahead v b) (raises d) = tt
  guard_safe f e g a n (no_answer X t h) (adds {X = Y} {x = x} v o) =
      elsewhere X Y (is_named C t x)
      (λ c k.
      let q = named_is_its_own C t x k in
      let y = o q.0 in
      none_some (subst (λ (Z : Chan). find (is_named R t) (waiting s (opposite s.table Z)) ≡ None) c h)
      (subst (λ (u : Transaction). find (is_named R u) (waiting s (opposite s.table Y)) ≡ Some y.0) q.1 y.1))
  guard_safe f e g a n (no_answer X t h) (changes L u c k) = quiet (is_named C t) (named_blind C t) c
  guard_safe f e g a n (no_answer X t h) (raises d) = tt
  guard_safe f e g a n (of_room {X = X} v b) (adds {X = Y} w o) = give_alone f e X Y n v w
  guard_safe f e g a n (of_room {r = r} v b) (changes L u c h) = calm r.holds b c
  guard_safe f e g a n (of_room v b) (raises d) = tt
  guard_safe f e g a n (of_count d) (adds v o) = tt
  guard_safe f e g a n (of_count d) (changes L u c h) = tt
  guard_safe f e g a n (of_count {a = x} d) (raises {a = y} d2) = begin_alone f e x y n d d2
