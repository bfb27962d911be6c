-- New pages in frames and on a drum.
use Rattle.std.proofs.Common.{◌≡◌, ℕ, zero, suc, ◌≤◌, Result, Ok, Err, IfOk, List, [], count_by, replicate, true, refl, sym, ◌∙◌, ap, subst, arith}
use Rattle.std.specs.Ordering.{nat_cmp}
use Rattle.machine_names.specs.declared.names.Tty.{Tty}
use Rattle.job_sched.specs.Schedules.{empty}
use Rattle.page_contracts.specs.DrumWords.{DrumWords}
use Rattle.page_contracts.specs.Stores.{FitsHomes, HomePlace, away, free, is_arrival, is_here, members_of, place}
use Rattle.plain_pages.specs.PlainPages.{NumberedPages, opening_pages}
use Rattle.flat_tables.specs.Serials.{serial_of}
use Rattle.paged_tables.specs.PagedMeaning.{forks_in}
use Rattle.paged_tables.specs.PagedTables.{Beside, FitsPages, beside_of, plain_over}
use Rattle.paged_store.specs.declared.store.PagedStore.{PagedStore}
use Rattle.paged_store.specs.StoreMeaning.{paged_meaning}
use Rattle.paged_store.specs.StoreSound.{paged_sound}
use Rattle.slot_paged.specs.declared.slot_paged.SlotPaged.{SlotPaged}
use Rattle.known_slots.specs.declared.known_slots.KnownSlots.{KnownSlots}
use Rattle.known_slots.specs.Slots.{slots as known_slots}
use Rattle.plain_model.specs.State.{opening}
use Rattle.page_waits.specs.declared.machine.Machine.{Machine as Waits}
use Rattle.page_waits.specs.InCore.{IsInCore}
use Rattle.page_waits.specs.Machines.{IsBare}
use Rattle.paged_events.specs.declared.machine.Machine.{Machine}
use Rattle.script_driver.specs.Driving.{IsBooted, StandsFor}
use Rattle.run_console.specs.Booting.{AreNewPages}

-- a fact of a result makes another
pub ok_more : {A E : Type 0} {P Q : A → Type 0} (r : Result A E) → IfOk r P → ((x : A) → P x → Q x) → IfOk r Q
ok_more (Ok x) p more = more x p
ok_more (Err e) p more = p

-- where all homes are free no page is in a frame, and none is away
none_here : (n : ℕ) → count_by is_here (replicate n free) ≡ 0
none_here zero = refl
none_here (suc n) = none_here n

none_away : (n home : ℕ) → place (replicate n free) home ≡ away → ⊥
none_away zero home gone = absurd (cc gone)
none_away (suc n) zero gone = absurd (cc gone)
none_away (suc n) (suc home) gone = none_away n home gone

-- and where nothing is queued either all frames are free
frames_free : (s : PagedStore) (core room : ℕ) → paged_meaning.homes s ≡ replicate room free → paged_meaning.queue s ≡ [] → paged_meaning.spare s ≡ core → paged_meaning.frames s ≡ core
frames_free s core room homes queue spare =
    let here : count_by is_here (paged_meaning.homes s) ≡ 0 = ap (count_by is_here) homes ∙ none_here room in
    let coming : count_by is_arrival (paged_meaning.queue s) ≡ 0 = ap (count_by is_arrival) queue in
    let shared = (paged_sound s).shared in
    omega (arith, here, coming, shared, spare)

-- the bound of pages that are the opening ones over whatever drum
room_of_opening : (b : Beside) (places : List HomePlace) (room : ℕ) → ((d : DrumWords) → plain_over b places d ≡ opening_pages nat_cmp room) → b.limit ≡ room
unfolding opening_pages
room_of_opening b places room plain = ap (λ (p : NumberedPages). p.limit) (plain [])

module _ {b : _} (core room : ℕ) (p : KnownSlots PagedStore b) (slots : SlotPaged PagedStore b) (store : PagedStore) (is : p.pages ≡ slots) (over : slots.store ≡ store)
    (plain : (d : DrumWords) → plain_over (beside_of slots.tables) (paged_meaning.homes slots.store) d ≡ opening_pages nat_cmp room)
    (fits : (d : DrumWords) → FitsHomes (replicate room free) d → FitsPages (beside_of slots.tables) (paged_meaning.homes slots.store) d)
    (forks : (t : Tty) → forks_in (beside_of slots.tables) t ≡ 0) (serials : (t : Tty) → serial_of slots.tables.serials t ≤ 1)
    (homes : paged_meaning.homes store ≡ replicate room free) (spare : paged_meaning.spare store ≡ core) (queue : paged_meaning.queue store ≡ []) (untold : paged_meaning.untold store ≡ [])
    (holds : (holder : ℕ) → paged_meaning.holds store holder ≡ []) (members : paged_meaning.members store ≡ members_of core) where
  stored : p.pages.store ≡ store
  stored = ap (λ (q : SlotPaged PagedStore b). q.store) is ∙ over

  pub new_pages : AreNewPages (known_slots paged_meaning) core room p
  new_pages = record {
    fits = λ d f. subst (λ (q : SlotPaged PagedStore b). FitsPages (beside_of q.tables) (paged_meaning.homes q.store) d) (sym is) (fits d f);
    plain = λ d. ap (λ (q : SlotPaged PagedStore b). plain_over (beside_of q.tables) (paged_meaning.homes q.store) d) is ∙ plain d;
    most = ap (λ (q : SlotPaged PagedStore b). q.tables.limit) is ∙ room_of_opening (beside_of slots.tables) (paged_meaning.homes slots.store) room plain;
    forks = λ t. ap (λ (q : SlotPaged PagedStore b). forks_in (beside_of q.tables) t) is ∙ forks t;
    serials = λ t. subst (λ (q : SlotPaged PagedStore b). serial_of q.tables.serials t ≤ 1) (sym is) (serials t);
    homes = ap paged_meaning.homes stored ∙ homes;
    frames = ap paged_meaning.frames stored ∙ frames_free store core room homes queue spare;
    members = ap paged_meaning.members stored ∙ members;
    queue = ap paged_meaning.queue stored ∙ queue;
    untold = ap paged_meaning.untold stored ∙ untold;
    holds = λ holder. ap (λ s. paged_meaning.holds s holder) stored ∙ holds holder;
  }

-- in new pages none is away
pub new_here : (places : List HomePlace) (room home : ℕ) → places ≡ replicate room free → place places home ≡ away → ⊥
new_here places room home is gone = none_away room home (ap (λ (ps : List HomePlace). place ps home) (sym is) ∙ gone)

-- a machine that has done nothing, over one of the layer below that was booted
pub booted_machine : {S : Type 0} {b : _} (core room frames : ℕ) (m : Machine S b) (w : Waits S b) → m.waits ≡ w → m.live ≡ true → m.done ≡ 0 → w.auto ≡ true → IsBare w
    → ((entries : ℕ) → b.means.within w.system entries) → frames ≡ core → IsInCore b.means frames w.system w.lists → w.lists.sched ≡ empty (members_of core) → b.means.limit w.system ≡ room
    → ((d : DrumWords) → FitsHomes (replicate room free) d → b.means.fits w.system d × (b.means.plain w.system d ≡ opening room)) → IsBooted core room m
booted_machine {S} {b} core room frames m w is live none auto bare within same in_core none_listed most opened = record {
  new = record {
    live = live;
    auto_on = ap (λ (x : Waits S b). x.auto) is ∙ auto;
    none = none;
    bare = subst (λ (x : Waits S b). IsBare x) (sym is) bare;
    within = λ k few. subst (λ (x : Waits S b). b.means.within x.system k) (sym is) (within k);
    empty = ap (λ (x : Waits S b). x.lists.sched) is ∙ none_listed ∙ ap (λ n. empty (members_of n)) (sym (ap (λ (x : Waits S b). b.means.store.frames x.system) is ∙ (in_core.size ∙ same)));
    core = subst (λ (x : Waits S b). IsInCore b.means (b.means.store.frames x.system) x.system x.lists) (sym is) (subst (λ n. IsInCore b.means n w.system w.lists) (sym in_core.size) in_core);
  };
  core_is = ap (λ (x : Waits S b). b.means.store.frames x.system) is ∙ (in_core.size ∙ same);
  room_is = ap (λ (x : Waits S b). b.means.limit x.system) is ∙ most;
  opened = λ d fits. let s = opened d fits in subst (λ (x : Waits S b). StandsFor b.means x.system d (opening room)) (sym is) (record { fit = s.0; state = s.1 });
}
