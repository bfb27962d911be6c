-- What a deed needs first is wanted, and what the tables tell of it is among that.
use Rattle.std.proofs.Common.{◌≡◌, ℕ, ◌≤◌, List, [], ◌∷◌, true, false, Option, None, Some, refl, sym, ◌∙◌, ap, subst, inl, inr, arith}
use Rattle.std.specs.Prelude.{◌==◌, ◌||◌, nat_eq, nat_lt}
use Rattle.std.specs.List.{cons_option}
use Rattle.std.specs.Option.{option_map_or, unwrap_or}
use Rattle.std.specs.Set.{unique_keys}
use Rattle.std.proofs.lemmas.Bool.Decides.{nat_tests}
use Rattle.machine_names.specs.Orders.{FilePage, file_page}
use Rattle.machine_names.specs.declared.names.ForkName.{ForkName}
use Rattle.machine_names.specs.declared.names.PageName.{PageName}
use Rattle.machine_names.specs.declared.names.Tty.{Tty}
use Rattle.machine_names.specs.declared.names.TheConstants.{ACCUMULATORS}
use Rattle.script_texts.specs.declared.event.Event.{Event}
use Rattle.script_texts.specs.declared.event.Event.TheVariants.{Auto, Drum, Evict, Examine, File, Forks, Login, Page as PageOf, Poke, Run, Start, Tick, Trace, TypeIn, Words}
use Rattle.plain_model.specs.declared.fork.Fork.{Fork}
use Rattle.plain_model.specs.MapCalls.{keyed}
use Rattle.plain_model.specs.State.{PlainJob}
use Rattle.plain_pages.specs.References.{in_file, page_at}
use Rattle.plain_files.specs.NamedFiles.{name_of}
use Rattle.plain_files.specs.OpenFiles.{open_at}
use Rattle.page_contracts.specs.DrumWords.{DrumWords}
use Rattle.page_contracts.specs.Pages.{Agrees, StandsInFile, page_away}
use Rattle.page_contracts.specs.declared.answers.Need.TheVariants.{Frame, Page}
use Rattle.page_homes.specs.declared.homes.Home.{Home}
use Rattle.file_tables.specs.declared.tables.FileTables.{FileTables}
use Rattle.file_tables.specs.Keys.{key_of}
use Rattle.file_tables.specs.Tables.{IsThere, open_of}
use Rattle.file_tables.proofs.Names.{by_name_at, named}
use Rattle.event_deeds.specs.Deeds.{IsTold}
use Rattle.event_deeds.specs.Leaves.{last_below}
use Rattle.event_deeds.specs.declared.deed.Deed.{Deed}
use Rattle.event_deeds.specs.declared.deed.Deed.TheVariants.{Begin, End, Kill, Outer, Typed}
use Rattle.job_commands.specs.Needing.{NeedsLast, NeedsMap}
use Rattle.console_access.specs.Needing.{IsWordAway}
use Rattle.monitor_calls.specs.declared.job.Job.{Job}
use Rattle.monitor_calls.specs.Jobs.{job_at, jobs_of, plain_job}
use Rattle.monitor_calls.specs.Typings.{typing_at}
use Rattle.monitor_calls.proofs.Lookups.{job_found}
use Rattle.monitor_core.specs.declared.system.System.{System}
use Rattle.monitor_typing.specs.Deeds.{PartNeeds}
use Rattle.monitor_core.specs.Needing.{EventNeeds, IsFileAway}
use Rattle.monitor_core.specs.Systems.{FitsPages}
use Rattle.step_wants.specs.Homes.{DeedNeeds, SeeingNeeds}
use Rattle.step_wants.specs.Names.{Housed, a_map, a_page, home_for, homes_for, page_named}
use Rattle.step_wants.specs.Wants.{map_of_fork, names_in_job}
use Rattle.page_waits.specs.Seats.{has}
use Rattle.paged_system.specs.Paging.{parts_of, told_of}

-- a file that is there is under the key of its name
key_is : (tables : FileTables) (f : ℕ) (name : List ℕ) → IsThere tables f → name_of tables.dir f ≡ name → key_of tables name ≡ f
key_is tables f name there is =
    ap (key_of tables) (sym is) ∙ ap (λ (o : Option ℕ). unwrap_or o 0) (by_name_at tables.dir tables.sound.numbers (λ k. k) f (name_of tables.dir f) (named tables.dir f there))

not_below : (a : ℕ) → ACCUMULATORS ≤ a → nat_lt a ACCUMULATORS ≡ false
not_below a h = grind (arith, nat_tests)

itself : (h : ℕ) → ((h == h) || false) ≡ true
itself h = grind (arith, nat_tests)

same_page : (a b : Home) → Page a ≡ Page b → b.0 ≡ a.0
same_page a b is = let same : a ≡ b = cc is in sym (ap (λ (h : Home). h.0) same)

module _ {P : Type 0} {b : _} (m : System P b) where
  -- the homes of these names, each once
  abbrev homes : List Housed → List ℕ
  homes names = unique_keys nat_eq (homes_for (b.means.map_home m.pages) (b.means.page_home m.pages) names)

  one_has : (x : Housed) (home : ℕ) → home_for (b.means.map_home m.pages) (b.means.page_home m.pages) x ≡ Some home → has home (homes (x ∷ [])) ≡ true
  one_has x home is = ap (λ (o : Option ℕ). has home (unique_keys nat_eq (cons_option o []))) is ∙ itself home

  -- a job of a terminal as the plain machine has it
  abbrev plain : Tty → Job → PlainJob
  plain t j = plain_job (open_at (open_of m.files) t.0) (typing_at m.typed.items t.0) j

  -- ---- told without a drum

  file_told : (f : ℕ) (name : List ℕ) (page : ℕ) (home : ℕ) → IsThere m.files f → name_of m.files.dir f ≡ name → StandsInFile b.means m.pages (file_page f page) home
      → has home (homes (page_named (b.means.filed m.pages (keyed (key_of m.files) name page)))) ≡ true
  file_told f name page home there is own =
      ap (λ (k : ℕ). has home (homes (page_named (b.means.filed m.pages (file_page k page))))) (key_is m.files f name there is)
      ∙ ap (λ (o : Option PageName). has home (homes (page_named o))) own.named ∙ one_has (a_page own.name) home own.there

  away_told : (name : List ℕ) (page : ℕ) (home : Home) → IsFileAway m name page (Page home)
      → has home.0 (homes (page_named (b.means.filed m.pages (keyed (key_of m.files) name page)))) ≡ true
  away_told name page home is = file_told is.file.0 name page home.0 is.there is.named (is.away.own home refl)

  pub event_told : (e : Event) (home : Home) → IsTold (Outer e) → EventNeeds m e (Page home) → has home.0 (told_of m (Outer e)) ≡ true
  event_told (Words name page offset row) home told is = away_told name page home is
  event_told (PageOf name page) home told is = away_told name page home is
  event_told (Login t user) home told is = absurd (cc is)
  event_told (Poke t address word) home told is = absurd told
  event_told (Examine t serial address) home told is = absurd told
  event_told (TypeIn t text) home told is = absurd is
  event_told (File name) home told is = absurd is
  event_told (Start t address) home told is = absurd is
  event_told (Run n) home told is = absurd is
  event_told Tick home told is = absurd is
  event_told (Evict n) home told is = absurd is
  event_told (Drum n) home told is = absurd is
  event_told (Auto on) home told is = absurd is
  event_told (Forks t) home told is = absurd is
  event_told (Trace on) home told is = absurd is

  job_told : (t : Tty) (j : Job) (names : PlainJob → List Housed) (home : ℕ) → job_at m.jobs.items t.0 ≡ Some j
      → has home (homes (names (plain t j))) ≡ true
      → has home (homes (names_in_job (jobs_of (open_of m.files) m.typed.items m.jobs.items) t names)) ≡ true
  job_told t j names home at is =
      ap (λ (o : Option PlainJob). has home (homes (option_map_or names o []))) (job_found (open_of m.files) m.typed.items m.jobs.items t.0 j at) ∙ is

  map_told : (fork : ForkName) (home : Home) → NeedsMap b.means m.pages fork (Page home) → has home.0 (homes (a_map fork ∷ [])) ≡ true
  map_told fork home is = one_has (a_map fork) home.0 (is.own ∙ ap (λ (h : ℕ). Some h) (same_page home is.home is.page))

  last_told : (o : Option Fork) (home : Home) → NeedsLast b.means m.pages o (Page home) → has home.0 (homes (map_of_fork o)) ≡ true
  last_told None home is = absurd is
  last_told (Some f) home is = map_told f.name home is

  pub part_told : (d : Deed) (home : Home) → PartNeeds m d (Page home) → has home.0 (told_of m d) ≡ true
  part_told (Outer e) home is = absurd is
  part_told (Typed t c) home is = absurd is
  part_told (Begin t name) home is =
      file_told is.file name 0 home.0 is.there is.named
      (subst (StandsInFile b.means m.pages (file_page is.file 0)) (same_page home is.needs.home is.needs.page) is.needs.own)
  part_told (Kill t purpose) home is =
      job_told t is.job (λ j. map_of_fork (last_below m.tree.forks j.top)) home.0 is.at (last_told (last_below m.tree.forks is.job.top) home is.needs)
  part_told (End t purpose) home is = job_told t is.job (λ j. a_map j.top ∷ []) home.0 is.at (map_told is.job.top home is.needs)

  -- a part needs no frame
  last_unframed : (o : Option Fork) → NeedsLast b.means m.pages o Frame → ⊥
  last_unframed None is = is
  last_unframed (Some f) is = (let page = is.page in cc page)

  pub part_unframed : (d : Deed) → PartNeeds m d Frame → ⊥
  part_unframed (Outer e) is = is
  part_unframed (Typed t c) is = is
  part_unframed (Begin t name) is = (let page = is.needs.page in cc page)
  part_unframed (Kill t purpose) is = last_unframed (last_below m.tree.forks is.job.top) is.needs
  part_unframed (End t purpose) is = (let page = is.needs.page in cc page)

  -- ---- over the words of a drum

  module _ (d : DrumWords) (fits : FitsPages m d) where
    seeing_needs : (fork : ForkName) (address : ℕ) (home : Home) → IsWordAway b.means m.pages fork address (Page home)
        → SeeingNeeds (key_of m.files) (b.means.scene m.pages) (parts_of m d) fork address home.0
    seeing_needs fork address home is = (not_below address is.high, is.away.on_way d home fits.pages refl)

    file_needs : (name : List ℕ) (page : ℕ) (home : Home) → IsFileAway m name page (Page home)
        → DeedNeeds (key_of m.files) (b.means.scene m.pages) (parts_of m d) (Outer (PageOf name page)) home.0
    file_needs name page home is = elim (is.away.on_way d home fits.pages refl) [
      | inl wrong ↦ absurd (cc wrong)
      | inr at ↦ subst (λ (k : ℕ). page_away (b.means.plain m.pages d) (b.means.scene m.pages) (in_file (file_page k page)) ≡ Some home.0)
          (sym (key_is m.files is.file.0 name is.there is.named)) at
    ]

    pub event_needs : (e : Event) (home : Home) → EventNeeds m e (Page home) → DeedNeeds (key_of m.files) (b.means.scene m.pages) (parts_of m d) (Outer e) home.0
    event_needs (Poke t address word) home is =
        (plain t is.job, job_found (open_of m.files) m.typed.items m.jobs.items t.0 is.job is.at, seeing_needs is.job.top address home is.away)
    event_needs (Examine t serial address) home is = seeing_needs (record { tty = t; serial = serial }) address home is
    event_needs (Words name page offset row) home is = file_needs name page home is
    event_needs (PageOf name page) home is = file_needs name page home is
    event_needs (Login t user) home is = absurd (cc is)
    event_needs (TypeIn t text) home is = absurd is
    event_needs (File name) home is = absurd is
    event_needs (Start t address) home is = absurd is
    event_needs (Run n) home is = absurd is
    event_needs Tick home is = absurd is
    event_needs (Evict n) home is = absurd is
    event_needs (Drum n) home is = absurd is
    event_needs (Auto on) home is = absurd is
    event_needs (Forks t) home is = absurd is
    event_needs (Trace on) home is = absurd is

    -- pages of files are those that are told
    pub same_filed : Agrees b.means m.pages (b.means.plain m.pages d) → (λ (at : FilePage ℕ). page_at (b.means.plain m.pages d) (in_file at)) ≡ b.means.filed m.pages
    unfolding page_at
    same_filed agrees = sym agrees.filed
