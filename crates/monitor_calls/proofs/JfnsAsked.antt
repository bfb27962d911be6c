-- What a call on JFNs is asked with, and what its turn leaves, as the tables of a system have it.
use Rattle.std.proofs.Common.{◌≡◌, ◌≢◌, ◌⊎◌, ℕ, true, List, [], Option, None, Some, inl, inr, refl, sym, ◌∙◌, ap, subst}
use Rattle.std.specs.Prelude.{is_some}
use Rattle.std.specs.Option.{IsSomeAnd, option_map, option_map_or}
use Rattle.std.specs.Ordering.{nat_cmp}
use Rattle.std.specs.Cmp.{nat_cmp_total}
use Rattle.std.proofs.lemmas.Bool.{cases_eq}
use Rattle.std.specs.FinMap as map
use Rattle.number_map.proofs.Keys.{get_put, get_put_other, get_gone, get_gone_other}
use Rattle.machine_names.specs.declared.names.ForkName.{ForkName}
use Rattle.machine_names.specs.declared.names.Tty.{Tty}
use Rattle.plain_files.specs.declared.jfn.Jfn.{Jfn}
use Rattle.plain_files.specs.Directory.{Creates, Files, IsAbsent}
use Rattle.plain_files.specs.Jobs.{jfns_of}
use Rattle.plain_files.specs.NamedFiles.{open_file}
use Rattle.plain_files.specs.OpenFiles.{OpenFile, OpenFiles, open_at, times_open_in_all}
use Rattle.plain_files.specs.Sizes.{file_at}
use Rattle.plain_pages.specs.PlainPages.{NumberedPages}
use Rattle.plain_pages.proofs.Whole.{none_of}
use Rattle.plain_units.specs.declared.registers.Regs.{Regs}
use Rattle.plain_model.specs.declared.call.End.{End}
use Rattle.plain_model.specs.declared.call.End.TheVariants.{Done, Waits, Halts, Refused, Failed, Trap}
use Rattle.plain_model.specs.declared.call.FileChange.{FileChange}
use Rattle.plain_model.specs.declared.call.FileChange.TheVariants.{Take, Make, Open, Release, Delete}
use Rattle.plain_model.specs.State.{PlainJob}
use Rattle.plain_model.specs.FileCalls.{Jobs, held_at, times_held}
use Rattle.plain_model.specs.Families.{asks_jfns}
use Rattle.plain_model.proofs.RefiledCalls.{AreHeld as HoldThere}
use Rattle.file_tables.specs.declared.tables.FileTables.{FileTables}
use Rattle.file_tables.specs.Tables.{files_of, jfns_at, open_of}
use Rattle.file_tables.proofs.Names.{named, not_both}
use Rattle.file_tables.proofs.Opened.{job_jfn}
use Rattle.file_calls.specs.Asking.{asked_of}
use Rattle.file_calls.specs.Changing.{DirFollows}
use Rattle.file_calls.specs.Jobs.{AreHeld, OthersHold, holding, jobs_holding}
use Rattle.file_calls.specs.Turning.{EndFollows}
use Rattle.file_calls.proofs.Holding.{job_holding}
use Rattle.file_calls.proofs.Times.{times_are}
use Rattle.monitor_calls.specs.declared.job.Job.{Job}
use Rattle.monitor_calls.specs.declared.typing.Typing.{Typing}
use Rattle.monitor_calls.specs.ForkUnit.{HasJob, NumbersStay, Tables, parts_in, rest_of}
use Rattle.monitor_calls.specs.Jobs.{AreUnheld, job_at, jobs_of}
use Rattle.monitor_calls.proofs.Lookups.{job_found, job_missing}
use Rattle.monitor_calls.proofs.NamedKeys.{name_there}

-- what holds nothing is empty
pub none_held : (m : OpenFiles) → map.len m ≡ 0 → m ≡ map.empty
none_held m none = map.same_map nat_cmp_total map.nat_cmp-IsAntisymmetric m map.empty (λ t. map.get-entries m t ∙ ap (map.find nat_cmp t) (none_of (map.entries m) (sym (map.len-entries m) ∙ none)) ∙ sym (map.get-empty {X = OpenFile} nat_cmp t))

module _ (typed : List Typing) (jobs : List (Option Job)) where
  -- the jobs with other JFNs
  pub jobs_holding_are : (opens now : List OpenFiles) → jobs_holding (jobs_of opens typed jobs) now ≡ jobs_of now typed jobs
  jobs_holding_are opens now = map.same_map nat_cmp_total map.nat_cmp-IsAntisymmetric (jobs_holding (jobs_of opens typed jobs) now) (jobs_of now typed jobs) (λ t. by t (job_at jobs t) refl)
    where
      by : (t : ℕ) (o : Option Job) → job_at jobs t ≡ o → map.get (jobs_holding (jobs_of opens typed jobs) now) t ≡ map.get (jobs_of now typed jobs) t
      by t None is = job_holding (jobs_of opens typed jobs) now t ∙ ap (option_map (holding now t)) (job_missing opens typed jobs t is) ∙ sym (job_missing now typed jobs t is)
      by t (Some j) is = job_holding (jobs_of opens typed jobs) now t ∙ ap (option_map (holding now t)) (job_found opens typed jobs t j is) ∙ sym (job_found now typed jobs t j is)

  pub jobs_held : (opens : List OpenFiles) → AreUnheld opens jobs → AreHeld (jobs_of opens typed jobs) opens
  jobs_held opens unheld t gone = by (job_at jobs t) refl
    where
      by : (o : Option Job) → job_at jobs t ≡ o → open_at opens t ≡ map.empty
      by None is = none_held (open_at opens t) (unheld t is)
      by (Some j) is = absurd (not_both (map.get (jobs_of opens typed jobs) t) _ gone (job_found opens typed jobs t j is))

  pub times_as : (opens : List OpenFiles) → AreUnheld opens jobs → times_held (jobs_of opens typed jobs) ≡ times_open_in_all opens
  times_as opens unheld = λ i name. (ap (λ (js : Jobs). times_held js name) (sym (jobs_holding_are opens opens)) ∙ times_are name (jobs_of opens typed jobs) opens (jobs_held opens unheld)) i

-- who asks what
pub asks_are : (was : Tables) (p : NumberedPages) (who : ForkName) (regs : Regs) (j : Job) → job_at was.jobs who.tty.0 ≡ Some j → AreUnheld (open_of was.files) was.jobs
    → asks_jfns (parts_in (rest_of was) p) who regs ≡ asked_of who regs j.user was.files
asks_are was p who regs j there unheld =
    let found = job_found (open_of was.files) was.typed was.jobs who.tty.0 j there in
    λ i. record {
      who = who;
      regs = regs;
      user = option_map_or (λ (k : PlainJob). k.user) (found i) [];
      held = option_map_or (λ (k : PlainJob). k.jfns) (found i) map.empty;
      times = times_as was.typed was.jobs (open_of was.files) unheld i;
    }

-- each JFN stands for a file that is there
pub held_there : (was : Tables) (p : NumberedPages) → HoldThere (parts_in (rest_of was) p)
held_there was p t n j is = by (job_at was.jobs t.0) refl
  where
    opens : List OpenFiles
    opens = open_of was.files

    at : (o : Option Jfn) → map.get (jfns_of was.files.jobs t.0) n ≡ o → option_map (open_file was.files.dir) o ≡ Some j → map.contains_key (files_of was.files) j.file ≡ true
    at None held e = absurd (cc e)
    at (Some jfn) held e =
        let there = (was.files.sound.held t.0 n jfn held).there in
        let file : open_file was.files.dir jfn ≡ j = cc e in
        subst (λ (k : OpenFile). map.contains_key (files_of was.files) k.file ≡ true) file
        (name_there was.files.dir was.files.sound.numbers (file_at was.files.lengths) jfn.file.0 _ (named was.files.dir jfn.file.0 there)).0

    by : (o : Option Job) → job_at was.jobs t.0 ≡ o → map.contains_key (files_of was.files) j.file ≡ true
    by None none =
        let gone : map.get (held_at (jobs_of opens was.typed was.jobs) t) n ≡ None = ap (λ (o : Option PlainJob). map.get (option_map_or (λ k. k.jfns) o map.empty) n) (job_missing opens was.typed was.jobs t.0 none) ∙ map.get-empty {X = OpenFile} nat_cmp n in
        absurd (not_both (map.get (held_at (jobs_of opens was.typed was.jobs) t) n) j gone is)
    by (Some k) there =
        at (map.get (jfns_of was.files.jobs t.0) n) refl
        (sym (job_jfn was.files.dir was.files.jobs t.0 n)
        ∙ sym (ap (λ (o : Option PlainJob). map.get (option_map_or (λ (x : PlainJob). x.jfns) o map.empty) n) (job_found opens was.typed was.jobs t.0 k there)) ∙ is)

-- no JFN is held where no job is, behind a call of a fork whose terminal has a job
pub still_unheld : (old new : FileTables) (jobs : List (Option Job)) (typed : List Typing) (t : Tty) → HasJob old jobs typed t → OthersHold t old new → AreUnheld (open_of new) jobs
still_unheld old new jobs typed t job others u none = by (cases_eq u t.0)
  where
    by : (u ≡ t.0) ⊎ (u ≢ t.0) → map.len (jfns_at new u) ≡ 0
    by (inl e) = absurd (subst (λ o. is_some o ≡ true → ⊥) (sym (ap (job_at jobs) (sym e) ∙ none)) (λ h. cc h) job.there)
    by (inr ne) = ap map.len (others u ne) ∙ job.unheld u none

-- the numbers of files behind a turn
module _ (old new : FileTables) where
  abbrev Follows : Type 0
  Follows = NumbersStay old.dir new.dir

  pub dir_stays : new.dir ≡ old.dir → Follows
  dir_stays same f name there = inl (ap (λ (m : Files). map.get m f) (sym same) ∙ there)

  made : (f : ℕ) (name : List ℕ) → map.get old.dir f ≡ None → new.dir ≡ map.insert old.dir f name → Follows
  made f name free put g other there = by (cases_eq g f)
    where
      here : map.get new.dir f ≡ Some name
      here = ap (λ (m : Files). map.get m f) put ∙ get_put old.dir f f name refl

      by : (g ≡ f) ⊎ (g ≢ f) → (map.get old.dir g ≡ Some other) ⊎ ((map.get old.dir g ≡ None) × IsAbsent old.dir other)
      by (inr ne) = inl (sym (get_put_other old.dir f g name ne) ∙ ap (λ (m : Files). map.get m g) (sym put) ∙ there)
      by (inl e) = inr (ap (map.get old.dir) e ∙ free, λ h was. absent h was (cases_eq h f))
        where
          absent : (h : ℕ) → map.get old.dir h ≡ Some other → (h ≡ f) ⊎ (h ≢ f) → ⊥
          absent h was (inl same) = not_both (map.get old.dir f) other free (ap (map.get old.dir) (sym same) ∙ was)
          absent h was (inr ne) = ne (new.sound.numbers.once h f other (ap (λ (m : Files). map.get m h) put ∙ get_put_other old.dir f h name ne ∙ was) (ap (map.get new.dir) (sym e) ∙ there))

  gone : (f : ℕ) → new.dir ≡ map.remove old.dir f → Follows
  gone f is g name there = by (cases_eq g f)
    where
      left : map.get (map.remove old.dir f) g ≡ Some name
      left = ap (λ (m : Files). map.get m g) (sym is) ∙ there

      by : (g ≡ f) ⊎ (g ≢ f) → (map.get old.dir g ≡ Some name) ⊎ ((map.get old.dir g ≡ None) × IsAbsent old.dir name)
      by (inl e) = absurd (not_both (map.get (map.remove old.dir f) g) name (get_gone old.dir f g e) left)
      by (inr ne) = inl (sym (get_gone_other old.dir f g ne) ∙ left)

  removed : (o : Option Jfn) → IsSomeAnd o (λ jfn. new.dir ≡ map.remove old.dir jfn.file.0) → Follows
  removed None none = absurd none
  removed (Some jfn) is = gone jfn.file.0 is

  change_follows : (what : FileChange) → DirFollows old new what → Follows
  change_follows (Take t n name) same = dir_stays same
  change_follows (Make t n name) makes = made makes.0 name (free makes.1) makes.1.put
    where
      free : Creates old.dir new.dir makes.0 name → map.get old.dir makes.0 ≡ None
      free c = c.least.free
  change_follows (Open t n mode size) same = dir_stays same
  change_follows (Release t n) same = dir_stays same
  change_follows (Delete t n) is = removed (map.get (jfns_of old.jobs t.0) n) is

  pub numbers_follow : (e : End FileChange) → EndFollows old new e → Follows
  numbers_follow (Done what regs out post) is = change_follows what is
  numbers_follow (Waits on) same = dir_stays (ap (λ (t : FileTables). t.dir) same)
  numbers_follow Halts same = dir_stays (ap (λ (t : FileTables). t.dir) same)
  numbers_follow (Refused code) same = dir_stays (ap (λ (t : FileTables). t.dir) same)
  numbers_follow (Failed code) same = dir_stays (ap (λ (t : FileTables). t.dir) same)
  numbers_follow (Trap channel) same = dir_stays (ap (λ (t : FileTables). t.dir) same)
