-- A channel that packs a list: what it holds, and that each change of the channel is that change of its list, packed.
-- The entries are the list and its filling; a change happens before the seam, or moves it by one place.
use Prim.Native.Nat.{ℕ, suc, ◌-◌, ◌≤◌, ◌<◌}
use native.Mathlib.Omega.{arith}
use mathlib.Core.Path.{◌≡◌, refl, ap, sym, ◌∙◌}
use mathlib.Core.Bool.{Bool, true}
use mathlib.Core.List.{List, [], ◌∷◌, ◌++◌}
use borrow.Author.Tests.{eqb-true, not-true, lt-ltb}
use lib.ListN.{length, get_or, take, drop, set, replicate, length-append, length-take, length-drop, length-set, take-append-drop, get_or-append}
use lib.Seq.{take-append_seam, drop-append_seam, set_split}
use Rattle.std.specs.Prelude.{Option, None, Some, position}
use Rattle.base.specs.Lists.{all, alter}
use Rattle.base.proofs.Logic.{and_true}
use Rattle.base.proofs.Padded.{without, length_without, gap_pad, add_pad, set_pad, all_filled, filled_all}
use Rattle.chassis.specs.Numbers.{agent}
use Rattle.queue.specs.declared.Entry.{Entry}
use Rattle.queue.specs.declared.Channel.{Channel}
use Rattle.queue.specs.declared.Change.{Change}
use Rattle.queue.specs.declared.Change.TheVariants.{Nothing, Add, TakeOut, TakeMatching, Mark}
use Rattle.queue.specs.Entries.{C, is_named, matches, marked, gone, marking, zero_entry, is_zero_entry}
use Rattle.queue.specs.Packing.{live, packed, zero_channel, channel_places}
use Rattle.queue.specs.code.Changes.{changes}
use Rattle.queue.specs.code.Methods.{place_of, place_of_matching, added_to, removed_at, marked_at, at_place, changed_to}
use Rattle.queue.proofs.Placed.{first_at, none_at, placed, not_placed}

pub live_packed : (l : List Entry) → live (packed l) ≡ l
live_packed l = rw take-append_seam

pub zero_is_packed : zero_channel ≡ packed []
zero_is_packed = refl

entry_path : {m m' n n' k k' g g' : ℕ} {w w' d d' : Bool} → m ≡ m' → n ≡ n' → k ≡ k' → g ≡ g' → w ≡ w' → d ≡ d'
    → ◌≡◌ {A = Entry}
    (record { transaction = record { master = agent m; number = n }; kind = k; target = agent g; write = w; committed = d })
    (record { transaction = record { master = agent m'; number = n' }; kind = k'; target = agent g'; write = w'; committed = d' })
entry_path m n k g w d = λ i. record { transaction = record { master = agent (m i); number = n i }; kind = k i; target = agent (g i); write = w i; committed = d i }

pub zero_entry_is : (x : Entry) → is_zero_entry x ≡ true → x ≡ zero_entry
unfolding is_zero_entry
zero_entry_is x h =
    let r₅ = and_true _ _ h in
    let r₄ = and_true _ _ r₅.0 in
    let r₃ = and_true _ _ r₄.0 in
    let r₂ = and_true _ _ r₃.0 in
    let r₁ = and_true _ _ r₂.0 in
    entry_path
    (eqb-true _ 0 r₁.0)
    (eqb-true _ 0 r₁.1)
    (eqb-true _ 0 r₂.1)
    (eqb-true _ 0 r₃.1)
    (not-true _ r₄.1)
    (not-true _ r₅.1)

pub channel_path : {e e' : List Entry} {n n' : ℕ} → e ≡ e' → n ≡ n' → ◌≡◌ {A = Channel} (record { entries = e; count = n }) (record { entries = e'; count = n' })
channel_path p q = λ i. record { entries = p i; count = q i }

pub packed_live : (c : Channel) → length c.entries ≡ channel_places → c.count ≤ channel_places → all is_zero_entry (drop c.count c.entries) ≡ true → c ≡ packed (live c)
packed_live c long few zeros =
    let held : length (live c) ≡ c.count = simp length-take (omega arith) in
    let rest : length (drop c.count c.entries) ≡ channel_places - length (live c) = rw held (simp length-drop (omega arith)) in
    let filling = all_filled is_zero_entry zero_entry zero_entry_is (drop c.count c.entries) zeros in
    channel_path
    (sym (take-append-drop c.count c.entries) ∙ ap (live c ++◌) (filling ∙ ap (λ n. replicate n zero_entry) rest))
    (sym held)

pub unused_of_packed : (l : List Entry) → length l ≤ channel_places → all is_zero_entry (drop (packed l).count (packed l).entries) ≡ true
unfolding is_zero_entry
unused_of_packed l h = rw drop-append_seam (filled_all is_zero_entry zero_entry refl (channel_places - length l))

added_packed : (x : Entry) (l : List Entry) → length l < channel_places → added_to (packed l) x ≡ packed (l ++ (x ∷ []))
unfolding added_to
added_packed x l h = rw (lt-ltb (length l) channel_places h) (channel_path (add_pad zero_entry channel_places l x h) (sym (length-append l (x ∷ []))))

removed_packed : (l : List Entry) (i : ℕ) → i < length l → length l ≤ channel_places → removed_at (packed l) i ≡ packed (without i l)
unfolding removed_at
removed_packed l i h k = channel_path (gap_pad zero_entry channel_places l i h k) (sym (length_without l i h))

marked_packed : (l : List Entry) (i : ℕ) → i < length l → marked_at (packed l) i ≡ packed (set l i (marked (get_or l i zero_entry)))
unfolding marked_at
marked_packed l i h = rw get_or-append (channel_path (set_pad zero_entry channel_places l i (marked (get_or l i zero_entry)) h) (sym (length-set l i (marked (get_or l i zero_entry)))))

-- a change at the place that is found is the alteration of the first that passes
at_packed : (p : Entry → Bool) (f : Entry → List Entry) (to : Channel → ℕ → Channel) (l : List Entry)
    → ((i : ℕ) → i < length l → to (packed l) i ≡ packed (take i l ++ (f (get_or l i zero_entry) ++ drop (suc i) l)))
    → (o : Option ℕ) → position p l ≡ o → at_place o (packed l) (to (packed l)) ≡ packed (alter p f l)
at_packed p f to l h None e = ap packed (sym (not_placed p f l (none_at p l e)))
at_packed p f to l h (Some j) e =
    let r = first_at p l e in
    h j r.0 ∙ ap packed (sym (placed p f l j r))

pub changed_packed : (ch : Change) (l : List Entry) → length l ≤ channel_places → length (changes ch l) ≤ channel_places → changed_to (packed l) ch ≡ packed (changes ch l)
unfolding changed_to changes place_of place_of_matching
changed_packed Nothing l h k = refl
changed_packed (Add x) l h k = added_packed x l (omega (arith, simp length-append at k))
changed_packed (TakeOut x) l h k =
    rw (live_packed l) (at_packed (is_named x.kind x.transaction) gone removed_at l (λ i b. removed_packed l i b h) _ refl)
changed_packed (TakeMatching r) l h k = rw (live_packed l) (at_packed (matches C r) gone removed_at l (λ i b. removed_packed l i b h) _ refl)
changed_packed (Mark x) l h k =
    rw (live_packed l) (at_packed (is_named x.kind x.transaction) marking marked_at l (λ i b. marked_packed l i b ∙ ap packed (set_split l i (marked (get_or l i zero_entry)) b)) _ refl)
