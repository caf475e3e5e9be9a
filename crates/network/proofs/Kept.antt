-- Good stays good under one edit: an entry added where there is room and it fits, entries taken out or marked, a count raised.
-- One law for each edit; a change by which an entry gives way to no more, and to none that does not fit, keeps the room too.
use Prim.Native.Nat.{ℕ, ◌+◌, ◌<◌, ◌≤◌}
use mathlib.Core.Path.{◌≡◌, subst⁻¹, ◌∙◌}
use mathlib.Core.Bool.{Bool, true, false}
use mathlib.Core.Logic.{⊎_elim}
use mathlib.Core.List.{List, [], ◌∷◌, ◌++◌}
use native.Mathlib.Omega.{arith}
use native.Mathlib.Nat.{le_refl}
use borrow.Author.Tests.{leb-false, eq-eqb}
use lib.ListN.{get_or}
use Rattle.base.specs.Lists.{alter, count, modify}
use Rattle.base.proofs.Logic.{split, both}
use Rattle.base.proofs.Cells.{In, in_none, in_one, in_append, of_alter, length_modify, modify_every}
use Rattle.base.proofs.Queues.{count_add, count_alter}
use Rattle.chassis.specs.declared.Agent.{Agent}
use Rattle.chassis.specs.declared.Chan.{Chan}
use Rattle.chassis.specs.declared.Table.{Table}
use Rattle.chassis.specs.Numbers.{agent, chan}
use Rattle.chassis.specs.Channels.{has_agent}
use Rattle.queue.specs.declared.Transaction.{Transaction}
use Rattle.queue.specs.declared.Entry.{Entry}
use Rattle.queue.specs.Entries.{R, is_named, gone, marking}
use Rattle.queue.specs.Queues.{filling}
use Rattle.queue.proofs.Plainly.{named_is_its_own}
use Rattle.queue.proofs.Marks.{Blind, gone_counts_less, marked_counts_alike}
use Rattle.network.specs.Rooms.{Room, room_for, rooms}
use Rattle.network.specs.Nets.{Net, waiting, begun, full}
use Rattle.network.specs.Edits.{add, change, raise, edit}
use Rattle.network.proofs.Rooms.{its_room, rooms_blind, room_blind}
use Rattle.network.proofs.Rules.{Fit}
use Rattle.network.proofs.Fits.{fit_marked, fit_raised}
use Rattle.network.proofs.Good.{Good}

-- a channel's part of being good
record Held (T : Table) (begins : List ℕ) (n : ℕ) (l : List Entry) : Type 0 where
  limits : (r : Room) → In r (rooms T) → filling r.holds l ≤ r.most
  fits : (x : Entry) → In x l → Fit T begins (chan n) x

held : (s : Net) → Good s → (n : ℕ) → Held s.table s.begins n (get_or s.chans n [])
held s g n = record { limits = g.rules.limits (chan n); fits = g.rules.fits (chan n) }

-- good where one channel's entries have changed
one_channel : (s : Net) (N : Chan) (f : List Entry → List Entry) → Good s
    → (Held s.table s.begins N.0 (waiting s N) → Held s.table s.begins N.0 (f (waiting s N)))
    → Good (record { table = s.table; chans = modify s.chans N.0 f; begins = s.begins })
one_channel s N f g k =
    let h = modify_every (Held s.table s.begins) s.chans N.0 f [] k (held s g) in
    record {
      rules = record { passes = g.rules.passes; limits = λ M. (h M.0).limits; fits = λ M. (h M.0).fits };
      channels = length_modify s.chans N.0 f ∙ g.channels;
      counts = g.counts;
      absent = g.absent;
      most = g.most;
    }

-- ---- an entry added

-- room in N for one more of kind k and master m
abbrev pub HasRoom : Net → ℕ → Agent → Chan → Type 0
HasRoom s k m N = let r = room_for s.table k m in filling r.holds (waiting s N) < r.most

pub not_full : (s : Net) (k : ℕ) (m : Agent) (N : Chan) → full s k m N ≡ false → HasRoom s k m N
not_full s k m N h = let r = room_for s.table k m in leb-false r.most (filling r.holds (waiting s N)) h

filled : (s : Net) (N : Chan) (x : Entry) (r : Room) → In r (rooms s.table) → HasRoom s x.kind x.transaction.master N
    → filling r.holds (waiting s N) ≤ r.most → filling r.holds (waiting s N ++ (x ∷ [])) ≤ r.most
unfolding count
filled s N x r i h k =
    let l = waiting s N in
    split (r.holds x)
    (λ t.
    let q = subst⁻¹ (λ (o : Room). filling o.holds l < o.most) (its_room s.table x r i t) h in
    let c = rw t at (count_add r.holds l (x ∷ [])) in
    omega arith)
    (λ f. let c = rw f at (count_add r.holds l (x ∷ [])) in omega arith)

pub good_add : (s : Net) (N : Chan) (x : Entry) → Good s → HasRoom s x.kind x.transaction.master N → Fit s.table s.begins N x → Good (edit (add N x) s)
unfolding edit
good_add s N x g r f =
    one_channel s N (λ l. l ++ (x ∷ [])) g
    (λ h. record {
      limits = λ q i. filled s N x q i r (h.limits q i);
      fits = λ y i. ⊎_elim (λ j. h.fits y j) (λ j. subst⁻¹ (Fit s.table s.begins N) (in_one j) f) (in_append (waiting s N) (x ∷ []) i);
    })

-- ---- entries taken out or marked

-- what passes p gives way, by f, to no more that a test counts which does not look at the mark, and to none that does not fit
pub record Tame (p : Entry → Bool) (f : Entry → List Entry) : Type 0 where
  pub fewer : (q : Entry → Bool) → Blind q → (x : Entry) → filling q (f x) ≤ filling q (x ∷ [])
  pub still : (T : Table) (begins : List ℕ) (N : Chan) (x y : Entry) → p x ≡ true → In y (f x) → Fit T begins N x → Fit T begins N y

fewer_left : {p : Entry → Bool} {f : Entry → List Entry} → Tame p f → (q : Entry → Bool) → Blind q → (l : List Entry) → filling q (alter p f l) ≤ filling q l
fewer_left {p} {f} t q b l = count_alter q p f (t.fewer q b) l

pub good_change : (s : Net) (N : Chan) (p : Entry → Bool) (f : Entry → List Entry) → Tame p f → Good s → Good (edit (change N p f) s)
unfolding edit alter
good_change s N p f t g =
    one_channel s N (alter p f) g
    (λ h. record {
      limits = λ r i. omega (arith, fewer_left t r.holds (rooms_blind s.table r i) (waiting s N), h.limits r i);
      fits = λ y i. ⊎_elim (λ j. h.fits y j) (λ w. t.still s.table s.begins N w.0 y w.2 w.3 (h.fits w.0 w.1)) (of_alter p f (waiting s N) i);
    })

pub room_stays : (s : Net) (N : Chan) (p : Entry → Bool) (f : Entry → List Entry) → Tame p f → (k : ℕ) (m : Agent) (M : Chan) → HasRoom s k m M → HasRoom (edit (change N p f) s) k m M
unfolding edit
room_stays s N p f t k m M r =
    let q = (room_for s.table k m).holds in
    let le = modify_every (λ n l. filling q l ≤ filling q (get_or s.chans n [])) s.chans N.0 (alter p f) [] (λ _. fewer_left t q (room_blind s.table k m) (waiting s N)) (λ n. le_refl (filling q (get_or s.chans n []))) M.0 in
    omega arith

pub tame_gone : (p : Entry → Bool) → Tame p gone
tame_gone p = record { fewer = λ q b x. gone_counts_less q x; still = λ T b N x y h i f. in_none i }

pub tame_marking : (t : Transaction) → Tame (is_named R t) marking
tame_marking t = record {
  fewer = λ q b x. marked_counts_alike q x b;
  still = λ T b N x y h i f.
      subst⁻¹ (Fit T b N) (in_one i) (fit_marked T b N x f (eq-eqb x.kind R (named_is_its_own R t x h).0));
}

-- ---- a count raised

abbrev up : ℕ → ℕ
up n = n + 1

none_falls : (l : List ℕ) (i j : ℕ) → get_or l j 0 ≤ get_or (modify l i up) j 0
none_falls l i = modify_every (λ n m. get_or l n 0 ≤ m) l i up 0 (λ _. omega arith) (λ n. le_refl (get_or l n 0))

pub good_raise : (s : Net) (a : Agent) → Good s → has_agent s.table a ≡ true → begun s a < 65535 → Good (edit (raise a) s)
unfolding edit
good_raise s a g h m = record {
  rules = record {
    passes = g.rules.passes;
    limits = g.rules.limits;
    fits = λ N x i. fit_raised s.table s.begins N x (g.rules.fits N x i) (modify s.begins a.0 up) (none_falls s.begins a.0);
  };
  channels = g.channels;
  counts = length_modify s.begins a.0 up ∙ g.counts;
  absent = λ b. modify_every (λ j n. has_agent s.table (agent j) ≡ false → n ≡ 0) s.begins a.0 up 0
      (λ _ n. absurd (both (has_agent s.table a) h n)) (λ j. g.absent (agent j)) b.0;
  most = λ b. modify_every (λ j n. n ≤ 65535) s.begins a.0 up 0 (λ _. omega arith) (λ j. g.most (agent j)) b.0;
}
