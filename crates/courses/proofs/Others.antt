-- An event leaves every transaction but its own where it is.
-- What stands of another is untouched; and its number stays begun or not, since a begin raises its own master's count by one, to its own number.
use Prim.Native.Nat.{ℕ, ◌+◌}
use native.Mathlib.Omega.{arith}
use mathlib.Core.Path.{◌≡◌, refl, sym, ap, subst⁻¹, ◌∙◌}
use mathlib.Core.Bool.{◌&&◌}
use mathlib.Core.Logic.{⊎_elim}
use mathlib.Core.List.{List}
use borrow.Author.Tests.{leb-true, leb-false, le-leb, lt-leb}
use lib.Dec.{leb}
use lib.ListN.{get_or}
use Rattle.base.proofs.Logic.{split, equal?}
use Rattle.chassis.specs.declared.Agent.{Agent}
use Rattle.chassis.specs.declared.Table.{Table}
use Rattle.chassis.specs.Routes.{bridges_between}
use Rattle.chassis.specs.Tables.{within}
use Rattle.chassis.proofs.Hops.{agent_path}
use Rattle.queue.specs.declared.Transaction.{Transaction}
use Rattle.queue.specs.Entries.{is_of}
use Rattle.queue.proofs.Plainly.{transaction_path}
use Rattle.queue.proofs.Names.{of_another}
use Rattle.network.specs.Nets.{Net, begun}
use Rattle.network.proofs.Good.{Good}
use Rattle.events.specs.declared.Event.{Event}
use Rattle.events.specs.Grounds.{Accepted}
use Rattle.events.specs.Effects.{next_number, after}
use Rattle.events.proofs.SoundStays.{table_stays}
use Rattle.events.proofs.BeginNumbers.{BeginOf, posted, read, written, its_number}
use Rattle.courses.specs.Stages.{Fits, has_begun}
use Rattle.courses.specs.Courses.{Course, standing, is_begun, OnCourse, transaction_of}
use Rattle.courses.proofs.Edited.{Shows}
use Rattle.courses.proofs.EachEdit.{untouched, counts_stay, begin?}

within_raised : (c n : ℕ) → (n ≡ c + 1 → ⊥) → within 1 (c + 1) n ≡ within 1 c n
within_raised c n h =
    ap (leb 1 n &&◌)
    (split (leb n c)
    (λ t. rw t (le-leb n (c + 1) (omega (arith, leb-true n c t))))
    (λ f. rw f (lt-leb n (c + 1) (omega (arith, leb-false n c f)))))

its_new : (s : Net) (m a : Agent) (e : Event) → BeginOf m a e → transaction_of s e ≡ record { master = m; number = next_number s m }
its_new s m a _ posted = refl
its_new s m a _ read = refl
its_new s m a _ written = refl

module _ (s : Net) (t : Transaction) where
  -- t is begun after e exactly if it was before
  abbrev pub Stays : Event → Type 0
  Stays e = is_begun (after s e) t ≡ is_begun s t

  pub quiet_stays : (e : Event) → Accepted s e → ((m a : Agent) → BeginOf m a e → ⊥) → Stays e
  quiet_stays e ok n = ap (λ (b : List ℕ). within 1 (get_or b t.master.0 0) t.number) (counts_stay s e ok n)

  begin_stays : Good s → (m a : Agent) (e : Event) → BeginOf m a e → Accepted s e → (transaction_of s e ≡ t → ⊥) → Stays e
  begin_stays g m a e b ok n =
      let r = its_number s g m a e b ok in
      ⊎_elim
      (λ p.
      let q : t.master ≡ m = agent_path p in
      let c : begun (after s e) t.master ≡ begun s t.master + 1 = ap (begun (after s e)) q ∙ r.count ∙ r.number ∙ ap (λ (x : Agent). begun s x + 1) (sym q) in
      ap (λ (c : ℕ). within 1 c t.number) c
      ∙ within_raised (begun s t.master) t.number
      (λ h. n (its_new s m a e b ∙ sym (transaction_path p (h ∙ ap (λ (x : Agent). begun s x + 1) q)))))
      (λ p. ap (λ (c : ℕ). within 1 c t.number) (r.others t.master p))
      (equal? t.master.0 m.0)

  number_stays : Good s → (e : Event) → Accepted s e → (transaction_of s e ≡ t → ⊥) → Stays e
  number_stays g e ok n = ⊎_elim (λ b. begin_stays g b.0 b.1 e b.2 ok n) (quiet_stays e ok) (begin? e)

  -- ---- all of it

  -- in the state after e, from what is said with the table before
  pub on_course : (c : Course) (e : Event) → Shows (after s e) t (standing s.table t c)
      → Fits (bridges_between s.table t.master c.target) c.stage
      → is_begun (after s e) t ≡ has_begun c.stage
      → OnCourse (after s e) t c
  on_course c e w f n = record {
    stands = subst⁻¹ (λ (T : Table). Shows (after s e) t (standing T t c)) (table_stays s e) w;
    fits = subst⁻¹ (λ (T : Table). Fits (bridges_between T t.master c.target) c.stage) (table_stays s e) f;
    number = n;
  }

  pub others_stay : Good s → (c : Course) → OnCourse s t c → (e : Event) → Accepted s e → (transaction_of s e ≡ t → ⊥) → OnCourse (after s e) t c
  others_stay g c o e ok n =
      on_course c e
      (λ N. untouched (is_of t) s e ok (λ x h. of_another t x (λ p. n (sym h ∙ p))) N ∙ o.stands N)
      o.fits
      (number_stays g e ok n ∙ o.number)
