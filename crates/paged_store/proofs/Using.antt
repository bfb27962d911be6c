-- A page is used, or has a word changed.
use Rattle.std.proofs.Common.{◌≡◌, ℕ, List, [], ◌∷◌, map, Option, None, Some, is_some, Bool, true, false, cond, refl, sym, ◌∙◌, ap, subst, arith, set, get_or}
use Rattle.std.specs.Option.{option_map_or}
use Rattle.std.proofs.lemmas.Bool.{false≢true, true≢false}
use Rattle.std.proofs.lemmas.List.{get_or-set_same, get_or-set_other, set-get_or}
use Rattle.page_contracts.specs.declared.answers.Need.{Need}
use Rattle.page_contracts.specs.declared.answers.Need.TheVariants.{Frame}
use Rattle.page_contracts.specs.declared.answers.Found.{Found}
use Rattle.page_contracts.specs.Stores.{HomePlace, free, away, here, place, is_here, with_word_in, word_in, IsUsed, Cancels, NoneLeft, Renews, departs, noted, noted_all}
use Rattle.page_contracts.specs.Stores as meaning
use Rattle.page_contracts.proofs.Losing.{left_same}
use Rattle.drum_queue.specs.declared.transfer.Transfer.{Transfer}
use Rattle.drum_queue.specs.declared.transfer.Transfer.TheVariants.{Read, Write}
use Rattle.drum_queue.specs.Transfers.{Transfers, transfer_of, without, writes}
use Rattle.paged_store.specs.declared.store.PagedStore.{PagedStore}
use Rattle.page_residence.specs.declared.residence.Residence.{Residence}
use Rattle.paged_store.specs.HeldHomes.{held_by}
use Rattle.page_residence.specs.Resident.{Seats, seat, home_at, frame_for, framed, found_at, page_in, places, reads, meant, tenant_at, SeatsStay, HasWords, IsRenewed}
use Rattle.page_residence.proofs.Seating.{frame_is, frame_has, none_has, home_below}
use Rattle.page_residence.proofs.Aging.{tenant_given}
use Rattle.page_residence.proofs.Renewing.{renews_at, tenants_alike}
use Rattle.page_residence.proofs.Agreeing.{agrees}
use Rattle.page_residence.proofs.Meant.{departures, no_departures}
use Rattle.page_residence.proofs.Placing.{places_changed, framed_other, shown_in, found_frame, found_alike}
use Rattle.paged_store.specs.StoreMeaning.{paged_meaning, homes_of}
use Rattle.paged_store.specs.StoreSteps.{IsInPlace, SeatsRest}
use Rattle.paged_store.specs.StoreSound.{marked, at_frame, paged_sound}
use Rattle.page_contracts.specs.Stores.{members_of}
use Rattle.std.proofs.Math.Path.{fun_ext}
use Rattle.paged_store.proofs.Ending.{homes_in}
use Rattle.page_residence.proofs.Finding.{found_reading_only}

writes_home : (o : Option Transfer) → writes o ≡ true → option_map_or (λ t. meant t ∷ []) o [] ≡ option_map_or (λ t. meaning.departure (Rattle.page_residence.specs.Resident.home_of t) ∷ []) o []
writes_home None w = refl
writes_home (Some (Read f h)) w = absurd (false≢true w)
writes_home (Some (Write f h)) w = refl

told_by_writes : (o : Option Transfer) (needs : List Need) → noted_all (cond (writes o) (option_map_or (λ t. meant t ∷ []) o []) []) needs ≡ cond (writes o) (noted Frame needs) needs
told_by_writes None needs = refl
told_by_writes (Some (Read f h)) needs = refl
told_by_writes (Some (Write f h)) needs = refl

-- a frame's departure is taken from the queue, and is that of its home
used_cancels : (old new : PagedStore) (f h : ℕ) → home_at old.core.frames.seats f ≡ Some h
    → new.core.queue.queued ≡ cond (writes (transfer_of f old.core.queue.queued)) (without f old.core.queue.queued) old.core.queue.queued
    → new.untold.needs ≡ cond (writes (transfer_of f old.core.queue.queued)) (noted Frame old.untold.needs) old.untold.needs → Cancels paged_meaning (departs h) old new
used_cancels old new f h given queue untold =
    let own = departures old.core.frames old.core.queue (agrees old.core.frames old.core.queue old.core.resident) h f given in
    record {
      queue = ap (map meant) queue ∙ sym own.others;
      untold = untold ∙ sym (ap (λ (ts : List meaning.Transfer). noted_all ts old.untold.needs) own.those ∙ told_by_writes (transfer_of f old.core.queue.queued) old.untold.needs);
    }

-- a use of a frame is one of the page of its home
pub used_parts : (old new : PagedStore) (f h : ℕ) → home_at old.core.frames.seats f ≡ Some h → reads (transfer_of f old.core.queue.queued) ≡ false → IsRenewed f old.core.frames.seats new.core.frames.seats old.core.frames.uses new.core.frames.uses
    → SeatsRest old.core.frames.seats new.core.frames.seats
    → ((g : ℕ) → reads (transfer_of g new.core.queue.queued) ≡ reads (transfer_of g old.core.queue.queued))
    → new.core.queue.queued ≡ cond (writes (transfer_of f old.core.queue.queued)) (without f old.core.queue.queued) old.core.queue.queued
    → new.untold.needs ≡ cond (writes (transfer_of f old.core.queue.queued)) (noted Frame old.untold.needs) old.untold.needs
    → new.holders ≡ old.holders → NoneLeft (homes_of old) (homes_of new) → IsUsed paged_meaning h old new
used_parts old new f h given shown renewed seats read queue untold holders left =
    record {
      framed = record {
        frames = seats.size;
        spare = seats.spare;
        found = fun_ext (λ k. found_alike old.core.frames.seats new.core.frames.seats old.core.queue.queued new.core.queue.queued k old.core.resident.single seats.homes read);
        tenant = tenants_alike old.core.frames.seats new.core.frames.seats old.core.queue.queued new.core.queue.queued seats.homes read;
        members = ap members_of seats.size;
      };
      rescued = used_cancels old new f h given queue untold;
      left = left;
      holds = ap (λ (hs : List (List ℕ)). let g : ℕ → List ℕ = λ k. held_by hs k in g) holders;
      ages = renews_at old.core.frames.seats new.core.frames.seats old.core.queue.queued new.core.queue.queued f h (λ g ne. read g) old.core.frames.uses new.core.frames.uses new.core.resident.single (seats.homes f ∙ given) (read f ∙ shown) renewed;
    }

pub used_is : (old new : PagedStore) (f h : ℕ) → home_at old.core.frames.seats f ≡ Some h → reads (transfer_of f old.core.queue.queued) ≡ false → IsInPlace old new → IsRenewed f old.core.frames.seats new.core.frames.seats old.core.frames.uses new.core.frames.uses
    → new.core.queue.queued ≡ cond (writes (transfer_of f old.core.queue.queued)) (without f old.core.queue.queued) old.core.queue.queued
    → new.untold.needs ≡ cond (writes (transfer_of f old.core.queue.queued)) (noted Frame old.untold.needs) old.untold.needs
    → new.holders ≡ old.holders → homes_of new ≡ homes_of old → IsUsed paged_meaning h old new
used_is old new f h given shown stays renewed queue untold holders homes = used_parts old new f h given shown renewed stays.seats stays.reads_stay queue untold holders (left_same (homes_of old) (homes_of new) homes)

-- a use once a word has changed, which moves no page
pub used_after : (old new : PagedStore) (o : Residence) (f h : ℕ) → home_at old.core.frames.seats f ≡ Some h → reads (transfer_of f old.core.queue.queued) ≡ false → IsRenewed f o.frames.seats new.core.frames.seats o.frames.uses new.core.frames.uses
    → o.frames.uses ≡ old.core.frames.uses → o.frames.seats ≡ old.core.frames.seats → o.queue ≡ old.core.queue → SeatsRest o.frames.seats new.core.frames.seats
    → ((g : ℕ) → reads (transfer_of g new.core.queue.queued) ≡ reads (transfer_of g o.queue.queued))
    → new.core.queue.queued ≡ cond (writes (transfer_of f o.queue.queued)) (without f o.queue.queued) o.queue.queued
    → new.untold.needs ≡ cond (writes (transfer_of f o.queue.queued)) (noted Frame old.untold.needs) old.untold.needs
    → new.holders ≡ old.holders → NoneLeft (homes_of old) (homes_of new) → IsUsed paged_meaning h old new
used_after old new o f h given shown renewed uses same queue_same seats read queue untold holders left =
    used_parts old new f h given shown (subst (λ (n : ℕ). IsRenewed f old.core.frames.seats new.core.frames.seats n new.core.frames.uses) uses (subst (λ (ss : Seats). IsRenewed f ss new.core.frames.seats o.frames.uses new.core.frames.uses) same renewed)) (subst (λ (ss : Seats). SeatsRest ss new.core.frames.seats) same seats)
    (λ g. read g ∙ ap (λ (q : Transfers). reads (transfer_of g q.queued)) queue_same)
    (queue ∙ ap (λ (q : Transfers). cond (writes (transfer_of f q.queued)) (without f q.queued) q.queued) queue_same)
    (untold ∙ ap (λ (q : Transfers). cond (writes (transfer_of f q.queued)) (noted Frame old.untold.needs) old.untold.needs) queue_same) holders left

reads_only : (o : Option Transfer) → reads o ≡ true → writes o ≡ false
reads_only None e = refl
reads_only (Some (Read f h)) e = refl
reads_only (Some (Write f h)) e = absurd (false≢true e)

-- where no frame has the page of a home nothing is younger than it was
used_none : (s : PagedStore) (h : ℕ) → ((frame : ℕ) → tenant_at s.core.frames.seats s.core.queue.queued frame ≡ Some h → ⊥) → Renews h (paged_meaning.tenant s) (paged_meaning.age s) (paged_meaning.age s) (paged_meaning.uses s) (paged_meaning.uses s)
used_none s h none = record { counted = record { own = λ frame has. absurd (none frame has); none = λ away. refl; grows = omega arith }; others = λ frame apart. refl }

-- a page that is in no frame has no departure
pub used_same : (s : PagedStore) (h : ℕ) → None ≡ found_at s.core.frames.seats s.core.queue.queued h → IsUsed paged_meaning h s s
used_same s h none = at (frame_for s.core.frames.seats h) refl
  where
    at : (o : Option ℕ) → frame_for s.core.frames.seats h ≡ o → IsUsed paged_meaning h s s
    at None is =
        let own = no_departures s.core.frames s.core.queue (agrees s.core.frames s.core.queue s.core.resident) h is in
        record {
          framed = record { frames = refl; spare = refl; found = refl; tenant = refl; members = refl };
          rescued = record { queue = sym own.others; untold = sym (ap (λ (ts : List meaning.Transfer). noted_all ts s.untold.needs) own.those) };
          left = λ home is. is;
          holds = refl;
          ages = used_none s h (λ frame has. none_has s.core.frames.seats h is frame (tenant_given s.core.frames.seats s.core.queue.queued frame h has).0);
        }
    at (Some f) is =
        let read = found_reading_only s.core.frames.seats s.core.queue.queued h f is none in
        let idle = reads_only (transfer_of f s.core.queue.queued) read in
        let given = frame_has s.core.frames.seats h f is in
        record {
          framed = record { frames = refl; spare = refl; found = refl; tenant = refl; members = refl };
          rescued = used_cancels s s f h given
              (ap (λ (b : Bool). cond b (without f s.core.queue.queued) s.core.queue.queued) (sym idle)) (ap (λ (b : Bool). cond b (noted Frame s.untold.needs) s.untold.needs) (sym idle));
          left = λ home is. is;
          holds = refl;
          ages = used_none s h (λ frame has.
              let there = tenant_given s.core.frames.seats s.core.queue.queued frame h has in
              let same : frame ≡ f = s.core.resident.single frame f h there.0 given in
              false≢true (sym there.1 ∙ ap (λ (g : ℕ). reads (transfer_of g s.core.queue.queued)) same ∙ read));
        }

-- what was found has words
pub has_words : (seats : Seats) (queue : List Transfer) (h : ℕ) (found : Found) → found_at seats queue h ≡ Some found → HasWords seats queue found.0
has_words seats queue h found is =
    let own = found_frame seats queue h found is in
    record { home = h; given = frame_has seats h found.0 own.0; read = own.1 }

-- a word of a page
pub shown_word : (s : PagedStore) (h : ℕ) (found : Found) (at : ℕ) → found_at s.core.frames.seats s.core.queue.queued h ≡ Some found → word_in (place (homes_of s) h) at ≡ Some (get_or (page_in s.core.frames.words found.0) at 0)
shown_word s h found at is =
    let own = found_frame s.core.frames.seats s.core.queue.queued h found is in
    ap (λ (p : HomePlace). word_in p at)
    (at_frame s h found.0 (frame_has s.core.frames.seats h found.0 own.0) ∙ shown_in s.core.frames.seats s.core.frames.words s.core.queue.queued h found.0 own.0 own.1)

not_here : (p : HomePlace) (at : ℕ) → is_here p ≡ false → None ≡ word_in p at
not_here free at e = refl
not_here away at e = refl
not_here (here ws) at e = absurd (true≢false e)

stays_so : (p : HomePlace) (at w : ℕ) → is_here p ≡ false → with_word_in p at w ≡ p
stays_so free at w e = refl
stays_so away at w e = refl
stays_so (here ws) at w e = absurd (true≢false e)

nowhere : (s : PagedStore) (h : ℕ) → None ≡ found_at s.core.frames.seats s.core.queue.queued h → is_here (place (homes_of s) h) ≡ false
nowhere s h none = sym ((paged_sound s).finds h) ∙ ap is_some (sym none)

pub no_word : (s : PagedStore) (h at : ℕ) → None ≡ found_at s.core.frames.seats s.core.queue.queued h → None ≡ word_in (place (homes_of s) h) at
no_word s h at none = not_here (place (homes_of s) h) at (nowhere s h none)

pub no_here : (s : PagedStore) (h : ℕ) → None ≡ found_at s.core.frames.seats s.core.queue.queued h → false ≡ is_here (place (homes_of s) h)
no_here s h none = sym (nowhere s h none)

pub no_change : (s : PagedStore) (h at w : ℕ) → None ≡ found_at s.core.frames.seats s.core.queue.queued h → homes_of s ≡ set (homes_of s) h (with_word_in (place (homes_of s) h) at w)
no_change s h at w none = sym (ap (set (homes_of s) h) (stays_so (place (homes_of s) h) at w (nowhere s h none)) ∙ set-get_or (homes_of s) h free)

pub is_there : (s : PagedStore) (h : ℕ) (found : Found) → found_at s.core.frames.seats s.core.queue.queued h ≡ Some found → true ≡ is_here (place (homes_of s) h)
is_there s h found is = sym (sym ((paged_sound s).finds h) ∙ ap is_some is)

-- the words of one frame change, and no transfer
pub word_homes : (flags : List Bool) (o n : Residence) (f h : ℕ) (ws : List ℕ) → home_at o.frames.seats f ≡ Some h → get_or flags h false ≡ true → reads (transfer_of f o.queue.queued) ≡ false
    → n.frames.seats ≡ o.frames.seats → n.frames.words ≡ set o.frames.words f ws → n.queue ≡ o.queue → homes_in flags n ≡ set (homes_in flags o) h (here ws)
word_homes flags o n f h ws given taken read seats words queue =
    let below = home_below o.frames.seats f h given in
    ap (λ (ss : Seats). places flags (framed ss n.frames.words n.queue.queued)) seats
    ∙ ap (λ (vs : List (List ℕ)). places flags (framed o.frames.seats vs n.queue.queued)) words
    ∙ ap (λ (q : Transfers). places flags (framed o.frames.seats (set o.frames.words f ws) q.queued)) queue
    ∙ places_changed flags (framed o.frames.seats o.frames.words o.queue.queued) (framed o.frames.seats (set o.frames.words f ws) o.queue.queued) h taken
    (λ k other. framed_other o.frames.seats o.frames.seats o.frames.words (set o.frames.words f ws) o.queue.queued o.queue.queued f h k
    (λ x has. let two : Some x ≡ Some h = sym has ∙ given in let e : x ≡ h = cc in e) refl (λ g ne. get_or-set_other o.frames.words f g ws [] ne) (λ g ne. refl) other)
    ∙ ap (set (homes_in flags o) h)
    (shown_in o.frames.seats (set o.frames.words f ws) o.queue.queued h f (frame_is o.frames.seats h f o.resident.single given) read
    ∙ ap here (get_or-set_same o.frames.words f ws [] (let w = o.resident.worded in omega (arith, below, w))))

-- a word is put into a page
pub word_put : (s : PagedStore) (n : Residence) (h : ℕ) (found : Found) (at w : ℕ) → found_at s.core.frames.seats s.core.queue.queued h ≡ Some found → n.frames.seats ≡ s.core.frames.seats
    → n.frames.words ≡ set s.core.frames.words found.0 (set (page_in s.core.frames.words found.0) at w) → n.queue ≡ s.core.queue
    → homes_in s.homes n ≡ set (homes_of s) h (with_word_in (place (homes_of s) h) at w)
word_put s n h found at w is seats words queue =
    let own = found_frame s.core.frames.seats s.core.queue.queued h found is in
    let given = frame_has s.core.frames.seats h found.0 own.0 in
    word_homes s.homes s.core n found.0 h (set (page_in s.core.frames.words found.0) at w) given (marked s found.0 h given) own.1 seats words queue
    ∙ ap (set (homes_of s) h)
    (sym (ap (λ (p : HomePlace). with_word_in p at w) (at_frame s h found.0 given ∙ shown_in s.core.frames.seats s.core.frames.words s.core.queue.queued h found.0 own.0 own.1)))

-- a page that is in a frame, by its words there
pub shown_words : (s : PagedStore) (f h : ℕ) → home_at s.core.frames.seats f ≡ Some h → reads (transfer_of f s.core.queue.queued) ≡ false → place (homes_of s) h ≡ here (page_in s.core.frames.words f)
shown_words s f h given read =
    at_frame s h f given ∙ shown_in s.core.frames.seats s.core.frames.words s.core.queue.queued h f (frame_is s.core.frames.seats h f s.core.resident.single given) read

pub with_word : (p : HomePlace) (ws : List ℕ) (at w : ℕ) → p ≡ here ws → with_word_in p at w ≡ here (set ws at w)
with_word p ws at w is = ap (λ (q : HomePlace). with_word_in q at w) is
