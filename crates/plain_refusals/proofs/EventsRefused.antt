-- An event is refused for the first of its causes that is there, and else tells of no refusal.
use Rattle.std.proofs.Common.{◌≡◌, ℕ, Bool, true, false, cond, not, List, [], ◌∷◌, All, Option, None, Some, refl, sym, ◌∙◌, ap, subst}
use Rattle.std.specs.Prelude.{◌&&◌, ◌++◌, ◌%◌, is_none, is_some, map as each, nat_lt, slice_index, take}
use Rattle.std.specs.Option.{option_and_then, option_map, option_map_or}
use Rattle.std.specs.declared.cmp.Ordering.{Ordering}
use Rattle.std.specs.FinMap as map
use Rattle.std.proofs.lemmas.List.Elements.{All-cons, All-nil}
use Rattle.outside.specs.declared.TheConstants.{PAGE_WORDS}
use Rattle.machine_names.specs.declared.character.TheConstants.{PROMPT}
use Rattle.machine_names.specs.declared.names.Kind.{Kind}
use Rattle.machine_names.specs.declared.names.Kind.TheVariants.{Write}
use Rattle.machine_names.specs.declared.names.PageName.{PageName}
use Rattle.machine_names.specs.declared.names.Slot.{Slot}
use Rattle.machine_names.specs.declared.names.TheConstants.{ACCUMULATORS, LAST_SERIAL, MOST_FILES}
use Rattle.machine_names.specs.declared.names.Tty.{Tty}
use Rattle.machine_names.specs.Orders.{FilePage, name_cmp}
use Rattle.script_texts.specs.declared.event.Event.{Event}
use Rattle.script_texts.specs.declared.event.Event.TheVariants.{Login, TypeIn, File, Words, Poke, Start, Run, Tick, Evict, Drum, Auto, Examine, Forks, Page, Trace}
use Rattle.script_texts.specs.declared.event.Item.TheVariants.{Char, Examined, ForkLine, PageLine}
use Rattle.script_texts.specs.declared.event.Refusal.{Refusal as Cause}
use Rattle.script_texts.specs.declared.event.Refusal.TheVariants.{Busy, NoJob, SerialsOut, Full, Denied, NoFork, NoPage, Exists, FilesFull, NoFile, FileFull, NoFilePage}
use Rattle.plain_pages.specs.declared.map.NewMap.TheVariants.{Empty as EmptyMap}
use Rattle.plain_pages.specs.Maps.{Chain, chain, entry_at, may, permits}
use Rattle.plain_pages.specs.NewMaps.{with_map}
use Rattle.plain_pages.specs.PlainPages.{PlainPages}
use Rattle.plain_pages.specs.References.{Making, Referred, along_chain, blanks, copies, denied, full, granted, in_file, in_its_file, in_map, make, make_all, makings, page_at, reference, slot_at, words_of}
use Rattle.plain_pages.specs.Room.{HasRoom}
use Rattle.plain_pages.proofs.ReferencesMade.{reference_makes}
use Rattle.plain_files.specs.Sizes.{PlainFile, new_file}
use Rattle.plain_model.specs.declared.fork.Fork.{Fork}
use Rattle.plain_model.specs.Calls.{with_ac}
use Rattle.plain_model.specs.Commands.{started}
use Rattle.plain_model.specs.Events.{at_job, examined_in, login, outer, poked, poked_at, with_job}
use Rattle.plain_model.specs.FileEvents.{console, make_file, page_named, show_page, words_shown, write_words, written}
use Rattle.plain_model.specs.Forks.{change_fork, fork_line, forks_by_slot, with_regs}
use Rattle.plain_model.specs.State.{PlainJob, PlainState}
use Rattle.plain_model.specs.Trees.{next_name, next_serial, tree_of}
use Rattle.plain_model.specs.TypeEvents.{typed_all}
use Rattle.plain_model.specs.Unit.{Effect, refused}
use Rattle.plain_refusals.specs.Causes.{Asking, first_there}
use Rattle.plain_refusals.specs.EventRefusals.{ChangesNothing, causes_of, examine_causes, finds_no_room, has_file, has_job, login_causes, of_job, poke_causes, tells_none, word_causes}
use Rattle.plain_refusals.proofs.NoRefusal.{IsQuiet, forks_quiet, typed_quiet, words_quiet}

-- ---- references

module _ {K : Type 0} {file_cmp : K → K → Ordering} where
  -- what is to be made finds room or not
  goes_or_ends : (b : Bool) (r : Referred file_cmp) (kind : Kind) → (r ≡ denied kind → ⊥) → cond b r full ≡ denied kind → ⊥
  goes_or_ends true r kind goes denies = goes denies
  goes_or_ends false r kind goes denies = absurd (cc denies)

  making_goes : (owner : Tty) (ms : List (Making K)) (p : PlainPages file_cmp) (kind : Kind) → make_all p owner ms ≡ denied kind → ⊥
  unfolding make_all
  making_goes owner [] p kind denies = absurd (cc denies)
  making_goes owner (m ∷ ms) p kind denies =
      goes_or_ends (HasRoom (make p owner m) owner) (make_all (make p owner m) owner ms) kind (λ is. making_goes owner ms (make p owner m) kind is) denies

  -- a write to a file's page is never denied
  pub written_in_file : (p : PlainPages file_cmp) (f : FilePage K) (owner : Tty) (kind : Kind) → reference p (in_file f) Write owner ≡ denied kind → ⊥
  unfolding makings
  written_in_file p f owner kind denies = by (map.get p.files f) refl
    where
      on : (ms : List (Making K)) → makings p (in_file f) Write ≡ Some ms → ⊥
      on ms is = making_goes owner ms p kind (sym (reference_makes p owner (in_file f) Write ms is) ∙ denies)

      by : (o : Option PageName) → map.get p.files f ≡ o → ⊥
      by None is = on _ (ap (in_its_file Write f) is)
      by (Some n) is = on _ (ap (in_its_file Write f) is)

  -- a reference through a map is denied exactly where access forbids it
  module _ (Holds : Bool → Referred file_cmp → Type 0) (p : PlainPages file_cmp) (s : Slot) (kind : Kind) (owner : Tty)
      (forbidden : Holds false (denied kind)) (some : (q : PlainPages file_cmp) → Holds true (granted q)) (none : Holds true full) where
    goes_or_full : (ms : List (Making K)) (r : Referred file_cmp) → make_all p owner ms ≡ r → Holds true r
    goes_or_full ms (granted q) is = some q
    goes_or_full ms (denied k) is = absurd (making_goes owner ms p k is)
    goes_or_full ms full is = none

    pub by_access : Holds (may (entry_at p.maps) s kind) (reference p (in_map s) kind owner)
    unfolding reference makings
    by_access = by (chain (entry_at p.maps) s)
      where
        along : (c : Chain) (b : Bool) → Holds b (option_map_or (make_all p owner) (cond b (Some (blanks c ++ copies kind c)) None) (denied kind))
        along c true = goes_or_full (blanks c ++ copies kind c) (make_all p owner (blanks c ++ copies kind c)) refl
        along c false = forbidden

        by : (o : Option Chain) → Holds (option_map_or (permits kind) o false) (option_map_or (make_all p owner) (option_and_then (along_chain kind) o) (denied kind))
        by None = forbidden
        by (Some c) = along c (permits kind c)

-- ---- events

module _ (s : PlainState) where
  -- an effect is that of an event which is refused for this cause, or for none
  abbrev pub Fits : Option Cause → Effect → Type 0
  Fits (Some cause) e = ChangesNothing s cause e
  Fits None e = IsQuiet e

  -- an event of a terminal's job
  of_its_job : (t : Tty) (causes : PlainJob → Asking Cause) (act : PlainJob → Effect) → ((j : PlainJob) → Fits (first_there (causes j)) (act j)) → Fits (first_there (of_job s t causes)) (at_job s t act)
  of_its_job t causes act fits = by (map.get s.jobs t.0)
    where
      by : (o : Option PlainJob) → Fits (first_there ((NoJob t, not (is_some o)) ∷ option_map_or causes o [])) (option_map_or act o (refused s (NoJob t)))
      by None = refl
      by (Some j) = fits j

  login_fits : (t : Tty) (user : List ℕ) → Fits (first_there (login_causes s t)) (login s t user)
  login_fits t user = by (has_job s t) (nat_lt LAST_SERIAL (next_serial (tree_of s) t)) (HasRoom (with_map s.pages (next_name (tree_of s) t) EmptyMap) t)
    where
      by : (busy out room : Bool) → Fits (first_there ((Busy t, busy) ∷ (SerialsOut t, out) ∷ (Full t, not room) ∷ []))
          (cond busy (refused s (Busy t)) (cond out (refused s (SerialsOut t)) (cond room (record { state = with_job s t user; items = Char t PROMPT ∷ [] }) (refused s (Full t)))))
      by true out room = refl
      by false true room = refl
      by false false true = All-cons tells_none (Char t PROMPT) [] tt (All-nil tells_none)
      by false false false = refl

  poke_fits : (t : Tty) (address word : ℕ) (j : PlainJob) → Fits (first_there (poke_causes s t address j)) (poked_at s t address word j)
  poke_fits t address word j = by (nat_lt address ACCUMULATORS)
    where
      in_page : Fits (first_there ((Denied t, not (may (entry_at s.pages.maps) (slot_at j.top address) Write)) ∷ (Full t, finds_no_room (reference s.pages (in_map (slot_at j.top address)) Write t)) ∷ []))
          (poked s t (slot_at j.top address) (address % PAGE_WORDS) word (reference s.pages (in_map (slot_at j.top address)) Write t))
      in_page = by_access (λ b r. Fits (first_there ((Denied t, not b) ∷ (Full t, finds_no_room r) ∷ [])) (poked s t (slot_at j.top address) (address % PAGE_WORDS) word r))
          s.pages (slot_at j.top address) Write t refl (λ q. All-nil tells_none) refl

      by : (b : Bool) → Fits (first_there ((Denied t, not b && not (may (entry_at s.pages.maps) (slot_at j.top address) Write)) ∷ (Full t, not b && finds_no_room (reference s.pages (in_map (slot_at j.top address)) Write t)) ∷ []))
          (cond b (record { state = change_fork s j.top (λ f. with_regs f (with_ac f.body.regs address word)); items = [] }) (poked s t (slot_at j.top address) (address % PAGE_WORDS) word (reference s.pages (in_map (slot_at j.top address)) Write t)))
      by true = All-nil tells_none
      by false = in_page

  word_fits : (t : Tty) (serial address : ℕ) (f : Fork) → Fits (first_there (word_causes s t address f)) (examined_in s t serial address f)
  word_fits t serial address f = by (nat_lt address ACCUMULATORS) (page_at s.pages (in_map (slot_at f.name address)))
    where
      one : (word : ℕ) → IsQuiet (record { state = s; items = Examined t serial address word ∷ [] })
      one word = All-cons tells_none (Examined t serial address word) [] tt (All-nil tells_none)

      by : (b : Bool) (o : Option PageName) → Fits (first_there ((NoPage t, not b && is_none o) ∷ []))
          (option_map_or (λ word. record { state = s; items = Examined t serial address word ∷ [] })
          (cond b (Some (slice_index f.body.regs.ac address)) (option_map (λ n. slice_index (words_of s.pages n) (address % PAGE_WORDS)) o)) (refused s (NoPage t)))
      by true o = one (slice_index f.body.regs.ac address)
      by false None = refl
      by false (Some n) = one (slice_index (words_of s.pages n) (address % PAGE_WORDS))

  examine_fits : (t : Tty) (serial address : ℕ) (o : Option Fork) → Fits (first_there ((NoFork t, is_none o) ∷ option_map_or (word_causes s t address) o [])) (option_map_or (examined_in s t serial address) o (refused s (NoFork t)))
  examine_fits t serial address None = refl
  examine_fits t serial address (Some f) = word_fits t serial address f

  file_fits : (name : List ℕ) → Fits (first_there ((Exists name, has_file s name) ∷ (FilesFull name, not (nat_lt (map.len s.files) MOST_FILES)) ∷ [])) (make_file s name)
  file_fits name = by (has_file s name) (nat_lt (map.len s.files) MOST_FILES)
    where
      by : (there room : Bool) → Fits (first_there ((Exists name, there) ∷ (FilesFull name, not room) ∷ []))
          (cond there (refused s (Exists name)) (cond room (record { state = record s { files = map.insert s.files name new_file }; items = [] }) (refused s (FilesFull name))))
      by true room = refl
      by false true = All-nil tells_none
      by false false = refl

  words_fit : (name : List ℕ) (page offset : ℕ) (words : List ℕ)
      → Fits (first_there ((NoFile name, not (has_file s name)) ∷ (FileFull name, finds_no_room (reference s.pages (page_named name page) Write console)) ∷ [])) (write_words s name page offset words)
  words_fit name page offset words = by (map.get s.files name) (reference s.pages (page_named name page) Write console) refl
    where
      by : (o : Option PlainFile) (r : Referred name_cmp) → reference s.pages (page_named name page) Write console ≡ r
          → Fits (first_there ((NoFile name, not (is_some o)) ∷ (FileFull name, finds_no_room r) ∷ [])) (option_map_or (λ f. written s name page offset words f r) o (refused s (NoFile name)))
      by None r is = refl
      by (Some f) (granted q) is = All-nil tells_none
      by (Some f) (denied kind) is = absurd (written_in_file s.pages (record { file = name; page = page }) console kind is)
      by (Some f) full is = refl

  page_fits : (name : List ℕ) (page : ℕ) → Fits (first_there ((NoFile name, not (has_file s name)) ∷ (NoFilePage name, is_none (page_at s.pages (page_named name page))) ∷ [])) (show_page s name page)
  page_fits name page = by (map.get s.files name) (page_at s.pages (page_named name page))
    where
      by : (o : Option PlainFile) (n : Option PageName) → Fits (first_there ((NoFile name, not (is_some o)) ∷ (NoFilePage name, is_none n) ∷ []))
          (option_map_or (λ f. option_map_or (λ n. record { state = s; items = PageLine name page ∷ words_shown 0 (words_of s.pages n) }) n (refused s (NoFilePage name))) o (refused s (NoFile name)))
      by None n = refl
      by (Some f) None = refl
      by (Some f) (Some n) = All-cons tells_none (PageLine name page) (words_shown 0 (words_of s.pages n)) tt (words_quiet 0 (words_of s.pages n))

  -- EACH EVENT
  event_fits : (e : Event) → Fits (first_there (causes_of s e)) (outer s e)
  unfolding outer causes_of
  event_fits (Login t user) = login_fits t user
  event_fits (TypeIn t text) = of_its_job t (λ j. []) (λ j. typed_all s t text) (λ j. typed_quiet s t text)
  event_fits (File name) = file_fits name
  event_fits (Words name page offset row) = words_fit name page offset (take row.count row.words)
  event_fits (Poke t address word) = of_its_job t (poke_causes s t address) (poked_at s t address word) (poke_fits t address word)
  event_fits (Start t address) = of_its_job t (λ j. []) (λ j. record { state = started s t address j; items = [] }) (λ j. All-nil tells_none)
  event_fits (Run n) = All-nil tells_none
  event_fits Tick = All-nil tells_none
  event_fits (Evict n) = All-nil tells_none
  event_fits (Drum n) = All-nil tells_none
  event_fits (Auto on) = All-nil tells_none
  event_fits (Examine t serial address) =
      let f : Option Fork = map.get s.forks (record { tty = t; serial = serial }) in
      of_its_job t (λ j. examine_causes s t serial address) (λ j. option_map_or (examined_in s t serial address) f (refused s (NoFork t))) (λ j. examine_fits t serial address f)
  event_fits (Forks t) =
      of_its_job t (λ j. []) (λ j. record { state = s; items = each (λ f. ForkLine (fork_line s.forks f)) (forks_by_slot s.forks t) }) (λ j. forks_quiet s.forks (forks_by_slot s.forks t))
  event_fits (Page name page) = page_fits name page
  event_fits (Trace on) = All-nil tells_none

  pub event_refused : (e : Event) (cause : Cause) → first_there (causes_of s e) ≡ Some cause → ChangesNothing s cause (outer s e)
  event_refused e cause is = subst (λ (o : Option Cause). Fits o (outer s e)) is (event_fits e)

  pub event_granted : (e : Event) → first_there (causes_of s e) ≡ None → All tells_none (outer s e).items
  event_granted e is = subst (λ (o : Option Cause). Fits o (outer s e)) is (event_fits e)
