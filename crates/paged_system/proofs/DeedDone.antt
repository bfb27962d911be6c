-- What a deed leaves of a system over pages, by what the system below tells of an event and of a part of a character; and what a task needs first.
use Rattle.std.proofs.Common.{◌≡◌, ℕ, List, Bool, true, false, None, refl, sym, ◌∙◌, ap, subst, arith}
use Rattle.script_texts.specs.declared.event.Event.{Event}
use Rattle.script_texts.specs.declared.event.Step.TheVariants as step
use Rattle.plain_model.specs.Run.{apply}
use Rattle.plain_model.specs.State.{PlainState}
use Rattle.page_contracts.specs.DrumWords.{DrumWords}
use Rattle.page_contracts.specs.Pages.{AreHoused}
use Rattle.page_contracts.specs.Stores.{IsNeeded}
use Rattle.page_contracts.specs.declared.answers.Need.{Need}
use Rattle.page_contracts.specs.declared.answers.Need.TheVariants.{Page}
use Rattle.page_homes.specs.declared.homes.Home.{Home}
use Rattle.event_deeds.specs.Deeds.{IsPart, IsTold, Task, deed, entries_of}
use Rattle.event_deeds.specs.declared.answer.Answer.{Answer}
use Rattle.event_deeds.specs.declared.answer.Showing.{Showing}
use Rattle.event_deeds.specs.declared.answer.Showing.TheVariants.{Echo, Reply, Told}
use Rattle.event_deeds.specs.declared.deed.Deed.{Deed}
use Rattle.event_deeds.specs.declared.deed.Deed.TheVariants.{Begin, End, Kill, Outer, Typed}
use Rattle.step_shown.specs.declared.reply.Reply.{Reply as AReply}
use Rattle.monitor_typing.specs.Deeds.{Does, FitsAnswer, FitsPart}
use Rattle.monitor_core.specs.Needing.{CanShow}
use Rattle.monitor_core.specs.Systems.{Did, FitsPages, IsWithin, Waits}
use Rattle.page_waits.specs.Seats.{has}
use Rattle.page_waits.specs.Systems.{DidDeed, FitsShowing, Needs, StaysState, most_framed}
use Rattle.paged_system.specs.declared.paged.Paged.{Paged}
use Rattle.paged_system.specs.Paging.{gives_in, paged, store_of, wants_of}
use Rattle.paged_system.proofs.Over.{needed, planned}
use Rattle.paged_system.proofs.Staying.{state_stays}

-- an event that is one deed leaves and shows what the step does, and nothing comes next
outer_state : (s : PlainState) (e : Event) → (apply s (step.Outer e)).state ≡ (deed s (Outer e)).state
unfolding apply deed
outer_state s e = refl

outer_items : (s : PlainState) (e : Event) → (apply s (step.Outer e)).items ≡ (deed s (Outer e)).items
unfolding apply deed
outer_items s e = refl

outer_next : (s : PlainState) (e : Event) → None ≡ (deed s (Outer e)).next
unfolding deed
outer_next s e = refl

-- the tables tell of each part
pub is_told : (d : Deed) → IsPart d → IsTold d
is_told (Outer e) part = absurd part
is_told (Typed t c) part = tt
is_told (Begin t name) part = tt
is_told (Kill t purpose) part = tt
is_told (End t purpose) part = tt

no_entry : (d : Deed) → IsPart d → entries_of d ≡ 0
no_entry (Outer e) part = absurd part
no_entry (Typed t c) part = refl
no_entry (Begin t name) part = refl
no_entry (Kill t purpose) part = refl
no_entry (End t purpose) part = refl

part_shown : (w : Showing) → FitsPart w → FitsShowing w
part_shown (Reply reply) fits = absurd fits
part_shown (Echo t shown) fits = fits
part_shown (Told t shown) fits = fits

module _ {P : Type 0} {b : _} (old new : Paged P b) where
  pub event_did : (e : Event) (reply : AReply) → Did old.system new.system (step.Outer e) reply → CanShow new.system reply
      → DidDeed paged (Outer e) old new (record { showing = Reply reply; next = None })
  event_did e reply did shown = record {
    each = λ d fits. (let now = did.each d fits in let s = (paged {P = P} {b = b}).plain old d in record {
      fits = now.0;
      plain = now.1 ∙ outer_state s e;
      items = now.2 ∙ outer_items s e;
      next = outer_next s e;
      gives = shown d now.0;
    });
    next = tt;
    shown = did.shown;
    limit = did.most;
    within = did.within;
    loses = did.loses;
  }

  part_gives : (d : DrumWords) (w : Showing) → FitsPart w → gives_in new.system d w
  part_gives d (Reply reply) fits = absurd fits
  part_gives d (Echo t shown) fits = tt
  part_gives d (Told t shown) fits = tt

  pub part_did : (d : Deed) (answer : Answer) → IsPart d → Does old.system new.system (λ s. deed s d) answer → FitsAnswer answer → DidDeed paged d old new answer
  part_did d answer part does fits = record {
    each = λ over there. (let now = does.has.each over there in record {
      fits = now.0;
      plain = now.1;
      items = now.2;
      next = does.next over there;
      gives = part_gives over answer.showing fits.shown;
    });
    next = fits.next;
    shown = part_shown answer.showing fits.shown;
    limit = does.has.most;
    within = λ n is. subst (IsWithin new.system) (let none = no_entry d part in omega (arith, none)) (does.has.within n is);
    loses = does.has.loses;
  }

  -- what a task needs first, of so many frames at most
  module _ (need : Need) (frames : ℕ) (waits : Waits frames old.system new.system need) (housed : AreHoused b.means old.system.pages) (housed' : AreHoused b.means new.system.pages) (paged_so : b.means.flat ≡ true → ⊥) where
    stays : StaysState paged old new
    stays = state_stays old new waits.beside waits.homed housed housed' waits.most waits.within waits.planned.homes waits.pages

    not_flat : (flat : Bool) → (flat ≡ true → ⊥) → flat ≡ false
    not_flat true wrong = absurd (wrong refl)
    not_flat false wrong = refl

    pub task_waits : (x : Task) → frames ≡ most_framed x → ((d : DrumWords) (home : Home) → FitsPages old.system d → need ≡ Page home → has home.0 (wants_of old.system d x) ≡ true) → Needs paged x old new need
    task_waits x same wanted = record {
      state = stays;
      stored = planned (λ s. s.system.pages) b.means.store old new waits.planned;
      frames = housed.flat ∙ not_flat b.means.flat paged_so;
      needed = subst (λ (n : ℕ). IsNeeded store_of n new need) same (needed (λ s. s.system.pages) b.means.store old new frames need waits.needed);
      wanted = wanted;
    }

    -- what is needed is told once the task was tried
    pub tried_waits : (x : Task) → frames ≡ most_framed x → ((d : DrumWords) (home : Home) → FitsPages new.system d → need ≡ Page home → has home.0 (wants_of new.system d x) ≡ true) → Needs paged x old new need
    tried_waits x same wanted =
        task_waits x same (λ d home fits is. (let there = stays.each d fits in ap (λ (of : Task → List ℕ). has home.0 (of x)) (sym there.wants) ∙ wanted d home there.fits is))
