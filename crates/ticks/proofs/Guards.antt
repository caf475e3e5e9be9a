-- What an event asks of a state is four sorts of guard: which edits keep a guard, and which edits can change places, in every state.
-- A guard looks at one channel or one count, an edit changes one, and what is asked of the two is little even where these are the same.
use Prim.Native.Nat.{ℕ, ◌<◌, ◌≤◌}
use native.Mathlib.Omega.{arith}
use mathlib.Core.Path.{◌≡◌, refl, sym, ap, ◌∙◌}
use mathlib.Core.Logic.{◌≢◌, ◌⊎◌, inl, inr, ⊎_elim}
use mathlib.Core.List.{List, [], ◌∷◌, map}
use mathlib.Core.Bool.{Bool, false}
use Rattle.std.specs.Prelude.{None, Some}
use lib.ListN.{get_or}
use Rattle.base.specs.Lists.{find, modify}
use Rattle.base.proofs.Logic.{equal?}
use Rattle.base.proofs.Queues.{find_add, none_add, find_alter, none_alter, count_alter, alter_add, alter_comm, modify_comm, modify_same, modify_keeps, getD_modify_other}
use Rattle.base.proofs.Orders.{All, all_both}
use Rattle.chassis.specs.declared.Agent.{Agent}
use Rattle.chassis.specs.declared.Chan.{Chan}
use Rattle.chassis.proofs.Hops.{chan_path, agent_path}
use Rattle.queue.specs.declared.Entry.{Entry}
use Rattle.queue.specs.Queues.{filling}
use Rattle.network.specs.Rooms.{Room}
use Rattle.network.specs.Nets.{Net, waiting, begun}
use Rattle.network.specs.Edits.{Edit, add, change, raise, edit, edits}

pub data Guard : Type 0 where
  -- the oldest that passes is this one
  has : Chan → (Entry → Bool) → Entry → Guard
  -- none passes
  absent : Chan → (Entry → Bool) → Guard
  -- there is room for one more
  room : Chan → Room → Guard
  -- the agent's count
  counted : Agent → ℕ → Guard

abbrev pub Holds : Net → Guard → Type 0
Holds s (has X p x) = find p (waiting s X) ≡ Some x
Holds s (absent X p) = find p (waiting s X) ≡ None
Holds s (room X r) = filling r.holds (waiting s X) < r.most
Holds s (counted a n) = begun s a ≡ n

-- ---- which edits keep a guard

-- f makes nothing that passes p of what does not
abbrev pub Quiet : (Entry → Bool) → (Entry → List Entry) → Type 0
Quiet p f = (x : Entry) → p x ≡ false → find p (f x) ≡ None

-- f makes no more that pass p
abbrev pub Calm : (Entry → Bool) → (Entry → List Entry) → Type 0
Calm p f = (x : Entry) → filling p (f x) ≤ filling p (x ∷ [])

-- another channel, or something else
abbrev pub Elsewhere : Chan → Chan → Type 0 → Type 0
Elsewhere X Y B = (X ≢ Y) ⊎ B

abbrev pub Safe : Guard → Edit → Type 0
Safe (has X p x) (add Y y) = Unit {0}
Safe (has X p x) (change Y q f) = Quiet p f × Elsewhere X Y (q x ≡ false)
Safe (has X p x) (raise b) = Unit {0}
Safe (absent X p) (add Y y) = Elsewhere X Y (p y ≡ false)
Safe (absent X p) (change Y q f) = Quiet p f
Safe (absent X p) (raise b) = Unit {0}
Safe (room X r) (add Y y) = X ≢ Y
Safe (room X r) (change Y q f) = Calm r.holds f
Safe (room X r) (raise b) = Unit {0}
Safe (counted a n) (add Y y) = Unit {0}
Safe (counted a n) (change Y q f) = Unit {0}
Safe (counted a n) (raise b) = a ≢ b

-- a cell other than the one changed, or the one changed
cell : {A : Type 0} (P : A → Type 0) (l : List A) (i j : ℕ) (f : A → A) (d : A)
    → (i ≡ j → P (get_or l j d) → P (f (get_or l j d))) → P (get_or l i d) → P (get_or (modify l j f) i d)
cell P l i j f d k h =
    ⊎_elim
    (λ e. rw e (modify_keeps P l j f d (k e) (rw e at h)))
    (λ n. rw (getD_modify_other l j i f d (λ e. n (sym e))) h)
    (equal? i j)

pub at_one : {X Y : Chan} {B : Type 0} → Elsewhere X Y B → X.0 ≡ Y.0 → B
at_one (inl n) e = absurd (n (chan_path e))
at_one (inr b) e = b

none_in : (p : Entry → Bool) (x : Entry) → p x ≡ false → find p (x ∷ []) ≡ None
unfolding find
none_in p x h = rw h

pub keeps : (s : Net) (g : Guard) (d : Edit) → Safe g d → Holds s g → Holds (edit d s) g
unfolding edit
keeps s (has X p x) (add Y y) w h = cell (λ l. find p l ≡ Some x) s.chans X.0 Y.0 _ [] (λ _ k. find_add p (waiting s Y) (y ∷ []) k) h
keeps s (has X p x) (change Y q f) w h =
    cell (λ l. find p l ≡ Some x) s.chans X.0 Y.0 _ [] (λ c k. find_alter p q f w.0 (waiting s Y) k (at_one w.1 c)) h
keeps s (has X p x) (raise b) w h = h
keeps s (absent X p) (add Y y) w h =
    cell (λ l. find p l ≡ None) s.chans X.0 Y.0 _ [] (λ c k. none_add p (waiting s Y) (y ∷ []) k ∙ none_in p y (at_one w c)) h
keeps s (absent X p) (change Y q f) w h = cell (λ l. find p l ≡ None) s.chans X.0 Y.0 _ [] (λ c k. none_alter p q f w (waiting s Y) k) h
keeps s (absent X p) (raise b) w h = h
keeps s (room X r) (add Y y) w h = cell (λ l. filling r.holds l < r.most) s.chans X.0 Y.0 _ [] (λ c _. absurd (w (chan_path c))) h
keeps s (room X r) (change Y q f) w h =
    cell (λ l. filling r.holds l < r.most) s.chans X.0 Y.0 _ [] (λ c j. omega (arith, count_alter r.holds q f w (waiting s Y))) h
keeps s (room X r) (raise b) w h = h
keeps s (counted a n) (add Y y) w h = h
keeps s (counted a n) (change Y q f) w h = h
keeps s (counted a n) (raise b) w h = cell (λ m. m ≡ n) s.begins a.0 b.0 _ 0 (λ c _. absurd (w (agent_path c))) h

-- ---- which edits can change places

-- an edit, with the entry that it changes (where it changes none, any)
abbrev pub Deed : Type 0
Deed = Edit × Entry

-- what a deed relies on: the entry that it changes is the oldest that passes
abbrev pub Ready : Net → Deed → Type 0
Ready s (add X x, e) = Unit {0}
Ready s (change X p f, e) = find p (waiting s X) ≡ Some e
Ready s (raise a, e) = Unit {0}

-- two deeds that do not meet
abbrev pub Apart : Deed → Deed → Type 0
Apart (add X x, e) (add Y y, d) = X ≢ Y
Apart (add X x, e) (change Y q g, d) = Unit {0}
Apart (add X x, e) (raise b, d) = Unit {0}
Apart (change X p f, e) (add Y y, d) = Unit {0}
Apart (change X p f, e) (change Y q g, d) = Quiet p g × Quiet q f × Elsewhere X Y ((q e ≡ false) × (p d ≡ false))
Apart (change X p f, e) (raise b, d) = Unit {0}
Apart (raise a, e) (add Y y, d) = Unit {0}
Apart (raise a, e) (change Y q g, d) = Unit {0}
Apart (raise a, e) (raise b, d) = a ≢ b

-- two changes of cells
two : {A : Type 0} (l : List A) (i j : ℕ) (f g : A → A) (d : A) → (i ≡ j → f (g (get_or l j d)) ≡ g (f (get_or l j d)))
    → modify (modify l j g) i f ≡ modify (modify l i f) j g
two l i j f g d k = ⊎_elim (λ e. rw e (modify_same l j f g d (k e))) (λ n. modify_comm l i j f g n) (equal? i j)

abbrev with_chans : Net → List (List Entry) → Net
with_chans s c = record { table = s.table; chans = c; begins = s.begins }

pub swap : (s : Net) (a b : Deed) → Ready s a → Ready s b → Apart a b → edit a.0 (edit b.0 s) ≡ edit b.0 (edit a.0 s)
unfolding edit
swap s (add X x, e) (add Y y, d) ra rb w = ap (with_chans s) (two s.chans X.0 Y.0 _ _ [] (λ c. absurd (w (chan_path c))))
swap s (add X x, e) (change Y q g, d) ra rb w =
    ap (with_chans s) (two s.chans X.0 Y.0 _ _ [] (λ c. sym (alter_add q g (waiting s Y) (x ∷ []) rb)))
swap s (add X x, e) (raise b, d) ra rb w = refl
swap s (change X p f, e) (add Y y, d) ra rb w =
    ap (with_chans s) (two s.chans X.0 Y.0 _ _ [] (λ c. alter_add p f (waiting s Y) (y ∷ []) (rw c at ra)))
swap s (change X p f, e) (change Y q g, d) ra rb w =
    ap (with_chans s)
    (two s.chans X.0 Y.0 _ _ []
    (λ c. let k = at_one w.2 c in alter_comm p q f g (waiting s Y) (rw c at ra) rb k.0 k.1 (w.1 e k.0) (w.0 d k.1)))
swap s (change X p f, e) (raise b, d) ra rb w = refl
swap s (raise a, e) (add Y y, d) ra rb w = refl
swap s (raise a, e) (change Y q g, d) ra rb w = refl
swap s (raise a, e) (raise b, d) ra rb w =
    ap (λ c. record { table = s.table; chans = s.chans; begins = c }) (modify_comm s.begins a.0 b.0 _ _ (λ c. w (agent_path c)))

flipped : {X Y : Chan} {B D : Type 0} → Elsewhere X Y (B × D) → Elsewhere Y X (D × B)
flipped (inl n) = inl (λ e. n (sym e))
flipped (inr b) = inr (b.1, b.0)

pub apart_back : (a b : Deed) → Apart a b → Apart b a
apart_back (add X x, e) (add Y y, d) w = λ c. w (sym c)
apart_back (add X x, e) (change Y q g, d) w = tt
apart_back (add X x, e) (raise b, d) w = tt
apart_back (change X p f, e) (add Y y, d) w = tt
apart_back (change X p f, e) (change Y q g, d) w = (w.1, w.0, flipped w.2)
apart_back (change X p f, e) (raise b, d) w = tt
apart_back (raise a, e) (add Y y, d) w = tt
apart_back (raise a, e) (change Y q g, d) w = tt
apart_back (raise a, e) (raise b, d) w = λ c. w (sym c)

first_of : {X Y : Chan} {B D : Type 0} → Elsewhere X Y (B × D) → Elsewhere X Y B
first_of (inl n) = inl n
first_of (inr b) = inr b.0

pub ready_after : (s : Net) (a b : Deed) → Apart a b → Ready s a → Ready (edit b.0 s) a
ready_after s (add X x, e) b w r = tt
ready_after s (change X p f, e) (add Y y, d) w r = keeps s (has X p e) (add Y y) tt r
ready_after s (change X p f, e) (change Y q g, d) w r = keeps s (has X p e) (change Y q g) (w.0, first_of w.2) r
ready_after s (change X p f, e) (raise b, d) w r = keeps s (has X p e) (raise b) tt r
ready_after s (raise a, e) b w r = tt

-- ---- lists of deeds

abbrev pub edits_of : List Deed → List Edit
edits_of us = map (λ d. d.0) us

-- what the deeds leave of a state
abbrev pub done : List Deed → Net → Net
done us s = edits (edits_of us) s

-- every deed of the one list and every deed of the other
abbrev pub Crosswise : List Deed → List Deed → Type 0
Crosswise us vs = All (λ a. All (Apart a) vs) us

-- the deeds of one list among themselves
abbrev pub Inwards : List Deed → Type 0
Inwards [] = Unit {0}
Inwards (a ∷ us) = All (Apart a) us × Inwards us

all_ready_after : (s : Net) (b : Deed) (us : List Deed) → All (Apart b) us → All (Ready s) us → All (Ready (edit b.0 s)) us
all_ready_after s b us w r =
    all_both (Apart b) (Ready s) (Ready (edit b.0 s)) us (λ a v q. ready_after s a b (apart_back b a v) q) w r

-- one deed past a list, and a list past a list
past : (s : Net) (a : Deed) (vs : List Deed) → All (Apart a) vs → Inwards vs → Ready s a → All (Ready s) vs
    → done vs (edit a.0 s) ≡ edit a.0 (done vs s)
unfolding edits
past s a [] w i r rs = refl
past s a (b ∷ vs) w i r rs =
    ap (done vs) (sym (swap s a b r rs.0 w.0))
    ∙ past (edit b.0 s) a vs w.1 i.1 (ready_after s a b w.0 r) (all_ready_after s b vs i.0 rs.1)

pub crossed : (s : Net) (us vs : List Deed) → Crosswise us vs → Inwards us → Inwards vs → All (Ready s) us → All (Ready s) vs
    → done vs (done us s) ≡ done us (done vs s)
unfolding edits
crossed s [] vs w i j ra rb = refl
crossed s (a ∷ us) vs w i j ra rb =
    crossed (edit a.0 s) us vs w.1 i.1 j (all_ready_after s a us i.0 ra.1) (all_ready_after s a vs w.0 rb)
    ∙ ap (done us) (past s a vs w.0 j ra.0 rb)

-- a guard past a list of deeds
pub keeps_all : (s : Net) (g : Guard) (us : List Deed) → All (λ a. Safe g a.0) us → Holds s g → Holds (done us s) g
unfolding edits
keeps_all s g [] w h = h
keeps_all s g (a ∷ us) w h = keeps_all (edit a.0 s) g us w.1 (keeps s g a.0 w.0 h)
