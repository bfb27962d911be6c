-- How near the end of a wait is, of the machine's lists over a store.
use Rattle.std.proofs.Common.{◌≡◌, ℕ, ◌≤◌, List, [], ◌∷◌, ◌++◌, length, Bool, true, false, ◌||◌, Option, None, Some, refl, sym, ◌∙◌, ap, subst, arith}
use Rattle.std.specs.List.{list_any}
use Rattle.page_homes.specs.declared.homes.Home.{Home}
use Rattle.page_contracts.specs.declared.answers.Need.{Need}
use Rattle.page_contracts.specs.declared.answers.Need.TheVariants.{Page, Frame}
use Rattle.page_contracts.specs.Stores.{Ends, Transfer, arrives, same_need, without}
use Rattle.page_contracts.proofs.Sharing.{queue_frames}
use Rattle.page_waits.specs.Systems.{SystemMeaning, IsHoused}
use Rattle.page_waits.specs.Waits.{ListsMeaning, AreStanding, Wakes, woken}
use Rattle.page_waits.specs.Nearing.{NearsEnd, wait_left}
use Rattle.page_waits.proofs.Nearing.{ahead_few, nears_ended, nears_stays}

module _ {S L : Type 0} (means : SystemMeaning S) (lists : ListsMeaning L) where
  -- whose page is waited for is on its way
  pub arrival_queued : (s : S) (l : L) → AreStanding means lists s l → (seat : ℕ) (home : Home) → lists.waiting l seat ≡ Some (Page home) → list_any (arrives home.0) (means.store.queue s) ≡ true
  arrival_queued s l a seat home is = by (list_any (arrives home.0) (means.store.queue s)) (ap (λ us. list_any (arrives home.0) (means.store.queue s) || list_any (same_need (Page home)) us) (sym a.told) ∙ a.awaited.pages seat home is)
    where
      by : (b : Bool) → (b || false) ≡ true → b ≡ true
      by true e = refl
      by false e = e

  pub left_few : (s : S) (l : L) (seat : ℕ) → AreStanding means lists s l → IsHoused means.store s → wait_left (means.store.queue s) (lists.waiting l seat) ≤ means.store.frames s
  left_few s l seat a housed = by (lists.waiting l seat) refl
    where
      most : length (means.store.queue s) ≤ means.store.frames s
      most = queue_frames means.store s housed.sound

      some : (q : List Transfer) → (q ≡ [] → ⊥) → 1 ≤ length q
      some [] not_empty = absurd (not_empty refl)
      some (t ∷ q) not_empty = omega arith

      by : (w : Option Need) → lists.waiting l seat ≡ w → wait_left (means.store.queue s) w ≤ means.store.frames s
      by None is = omega arith
      by (Some Frame) is = omega (arith, some (means.store.queue s) (λ empty. a.awaited.frames seat is empty a.told), most)
      by (Some (Page home)) is = omega (arith, ahead_few home.0 (means.store.queue s) (arrival_queued s l a seat home is), most)

  pub ended_nears : (s s' : S) (l l' : L) (told : Need) (seat : ℕ) → Ends means.store told s s' → Wakes lists told l l' → NearsEnd 1 (means.store.queue s) (means.store.queue s') (lists.waiting l seat) (lists.waiting l' seat)
  ended_nears s s' l l' told seat e w =
      subst (λ q. NearsEnd 1 q (means.store.queue s') (lists.waiting l seat) (lists.waiting l' seat)) (sym e.oldest)
      (subst (λ v. NearsEnd 1 (e.transfer ∷ means.store.queue s') (means.store.queue s') (lists.waiting l seat) v) (sym (w.waiting seat ∙ ap (λ n. woken n (lists.waiting l seat)) e.told))
      (nears_ended e.transfer (means.store.queue s') (lists.waiting l seat)))

  pub stays_near : (s s' : S) (l l' : L) (gone : Transfer → Bool) (more : List Transfer) (seat : ℕ) → AreStanding means lists s l → means.store.queue s' ≡ without gone (means.store.queue s) ++ more → lists.waiting l' seat ≡ lists.waiting l seat
      → ((home : Home) (t : Transfer) → lists.waiting l seat ≡ Some (Page home) → arrives home.0 t ≡ true → gone t ≡ false) → NearsEnd 0 (means.store.queue s) (means.store.queue s') (lists.waiting l seat) (lists.waiting l' seat)
  stays_near s s' l l' gone more seat a queue same kept =
      subst (λ q. NearsEnd 0 (means.store.queue s) q (lists.waiting l seat) (lists.waiting l' seat)) (sym queue)
      (subst (λ v. NearsEnd 0 (means.store.queue s) (without gone (means.store.queue s) ++ more) (lists.waiting l seat) v) (sym same)
      (nears_stays gone (means.store.queue s) more (lists.waiting l seat) (arrival_queued s l a seat) kept))
