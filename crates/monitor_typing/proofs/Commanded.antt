-- What a line asks for, by the command that it is.
use Rattle.std.proofs.Common.{◌≡◌, ℕ, List, [], is_some, Bool, true, false, cond, None, Some, refl, sym, ◌∙◌, ap, subst}
use Rattle.std.specs.Prelude.{codes}
use Rattle.std.specs.Option.{option_map_or}
use Rattle.std.specs.FinMap as map
use Rattle.machine_names.specs.Orders.{name_cmp}
use Rattle.plain_files.specs.Sizes.{PlainFile}
use Rattle.plain_pages.specs.References.{page_at}
use Rattle.plain_model.specs.FileEvents.{page_named}
use Rattle.event_deeds.specs.Deeds.{command_begun, goes_on, over}
use Rattle.event_deeds.specs.declared.deed.Deed.TheVariants.{Begin, Kill}
use Rattle.event_deeds.specs.declared.deed.Purpose.TheVariants.{Logout}
use Rattle.file_tables.specs.Tables.{IsThere, files_of}
use Rattle.file_tables.specs.declared.tables.FileTables.{FileTables}
use Rattle.plain_files.specs.NamedFiles.{name_of}
use Rattle.monitor_core.proofs.FileDid.{file_there}
use Rattle.monitor_typing.specs.Deeds.{begins_with}
use Rattle.machine_names.specs.declared.names.Tty.{Tty}
use Rattle.plain_typing.specs.declared.command.Command.{Command}
use Rattle.plain_typing.specs.declared.command.Command.TheVariants as command
use Rattle.plain_model.specs.State.{PlainJob, PlainState}
use Rattle.plain_model.specs.Unit.{Effect}
use Rattle.plain_model.specs.Commands.{commanded, delete_file, go_on, run_program, running, start_address, start_again, told as told_why}
use Rattle.job_forks.proofs.Places.{came_itself}
use Rattle.job_forks.specs.Holding.{ComeFrom}
use Rattle.plain_model.specs.Trees.{PlainTree}
use Rattle.step_shown.specs.declared.echo.Complaint.TheVariants as complaint
use Rattle.step_shown.specs.declared.echo.Told.{Told}
use Rattle.step_shown.specs.declared.echo.Told.TheVariants.{Prompt, Refused, Files}
use Rattle.monitor_calls.specs.declared.job.Job.{Job}
use Rattle.monitor_core.specs.declared.system.System.{System}
use Rattle.step_shown.specs.Echoes.{told_items}
use Rattle.monitor_typing.specs.Effects.{Has, job_in}
use Rattle.monitor_core.specs.Systems.{state_of}
use Rattle.monitor_typing.proofs.HasDone.{has_left}
use Rattle.monitor_core.proofs.Systems.{state_left}

module _ {P : Type 0} {b : _} (m m' : System P b) (t : Tty) (j : Job) (c : Command) where
  abbrev Does : Told → Type 0
  Does told = Has m m' (λ s. commanded s t (job_in m t j) c) (told_items t told)

  taken_as : (e : Command) (told : Told) → e ≡ c → Has m m' (λ s. commanded s t (job_in m t j) e) (told_items t told) → Does told
  taken_as e told is has = subst (λ x. Has m m' (λ s. commanded s t (job_in m t j) x) (told_items t told)) is has

  pub has_start : c ≡ command.Start → (told : Told) → Has m m' (λ s. start_again s t (job_in m t j)) (told_items t told) → Does told
  unfolding commanded
  has_start is told has = taken_as command.Start told (sym is) has

  pub has_continue : c ≡ command.Continue → (told : Told) → Has m m' (λ s. go_on s t (job_in m t j)) (told_items t told) → Does told
  unfolding commanded
  has_continue is told has = taken_as command.Continue told (sym is) has

  pub has_delete : (name : List _) → c ≡ command.Delete name → (told : Told) → Has m m' (λ s. delete_file s t name) (told_items t told) → Does told
  unfolding commanded
  has_delete name is told has = taken_as (command.Delete name) told (sym is) has

  -- those that change nothing
  still : (e : Command) (told : Told) → c ≡ e → m'.files ≡ m.files → m'.pages ≡ m.pages → m'.tree ≡ m.tree → m'.jobs.items ≡ m.jobs.items → m'.typed.items ≡ m.typed.items → m'.panel ≡ m.panel
      → ((s : PlainState) → ◌≡◌ {A = Effect} (commanded s t (job_in m t j) e) (record { state = s; items = told_items t told s })) → Does told
  still e told is files same tree jobs typed panel says =
      taken_as e told (sym is) (has_left m m' (λ s. commanded s t (job_in m t j) e) (told_items t told) files same panel (subst (λ (x : PlainTree). ComeFrom m.tree.forks x.forks) (sym tree) (came_itself m.tree.forks))
      (λ d f. says (state_of m d) ∙ (λ i. record { state = sym (state_left m m' files same tree jobs typed panel d) i; items = told_items t told (sym (state_left m m' files same tree jobs typed panel d) i) })))

  pub has_blank : c ≡ command.Blank → m'.files ≡ m.files → m'.pages ≡ m.pages → m'.tree ≡ m.tree → m'.jobs.items ≡ m.jobs.items → m'.typed.items ≡ m.typed.items → m'.panel ≡ m.panel → Does Prompt
  unfolding commanded
  has_blank is files same tree jobs typed panel = still command.Blank Prompt is files same tree jobs typed panel (λ s. refl)

  pub has_directory : c ≡ command.Directory → m'.files ≡ m.files → m'.pages ≡ m.pages → m'.tree ≡ m.tree → m'.jobs.items ≡ m.jobs.items → m'.typed.items ≡ m.typed.items → m'.panel ≡ m.panel → Does (Files j.user)
  unfolding commanded
  has_directory is files same tree jobs typed panel = still command.Directory (Files j.user) is files same tree jobs typed panel (λ s. refl)

  pub has_unknown : c ≡ command.Unknown → m'.files ≡ m.files → m'.pages ≡ m.pages → m'.tree ≡ m.tree → m'.jobs.items ≡ m.jobs.items → m'.typed.items ≡ m.typed.items → m'.panel ≡ m.panel → Does (Refused complaint.Unknown)
  unfolding commanded
  has_unknown is files same tree jobs typed panel = still command.Unknown (Refused complaint.Unknown) is files same tree jobs typed panel (λ s. refl)

  -- a program that isn't there
  pub has_no_program : (name : List _) → c ≡ command.Run name → begins_with (files_of m.files) t c ≡ None → m'.files ≡ m.files → m'.pages ≡ m.pages → m'.tree ≡ m.tree → m'.jobs.items ≡ m.jobs.items → m'.typed.items ≡ m.typed.items → m'.panel ≡ m.panel → Does (Refused complaint.NoFile)
  unfolding commanded
  has_no_program name is whole files same tree jobs typed panel =
      taken_as (command.Run name) (Refused complaint.NoFile) (sym is)
      (has_left m m' (λ s. run_program s t (job_in m t j) name) (told_items t (Refused complaint.NoFile)) files same panel (subst (λ (x : PlainTree). ComeFrom m.tree.forks x.forks) (sym tree) (came_itself m.tree.forks))
      (λ d f. says (state_of m d) refl ∙ (λ i. record { state = sym (state_left m m' files same tree jobs typed panel d) i; items = told_items t (Refused complaint.NoFile) (sym (state_left m m' files same tree jobs typed panel d) i) })))
    where
      absent : (b : Bool) → cond b (Some (Begin t name)) None ≡ None → b ≡ false
      absent true e = absurd (cc e)
      absent false e = refl

      none : map.contains_key (files_of m.files) name ≡ false
      none = absent (map.contains_key (files_of m.files) name) (subst (λ x. begins_with (files_of m.files) t x ≡ None) is whole)

      says : (s : PlainState) → s.files ≡ files_of m.files → ◌≡◌ {A = Effect} (run_program s t (job_in m t j) name) (record { state = s; items = told_items t (Refused complaint.NoFile) s })
      says s files =
          ap (λ b. cond b (option_map_or (λ page. record { state = running s t (job_in m t j) name (start_address s name); items = [] }) (page_at s.pages (page_named name 0)) (told_why s t (codes "?NO PROGRAM"))) (told_why s t (codes "?NO FILE")))
          (ap (λ (x : map.FinMap name_cmp PlainFile). map.contains_key x name) files ∙ none)

-- RUN of a program that is there begins with a look at it
module _ (files : FileTables) (t : Tty) (name : List ℕ) (f : ℕ) (there : IsThere files f) (called : name_of files.dir f ≡ name) where
  pub begins_run : (c : Command) → c ≡ command.Run name → Some (Begin t name) ≡ begins_with (files_of files) t c
  begins_run c is = sym (ap (begins_with (files_of files) t) is ∙ ap (λ b. cond b (Some (Begin t name)) None) (ap is_some (ap (map.get (files_of files)) (sym called) ∙ file_there files f there)))

-- LOGOUT isn't done at once
pub no_logout : (files : map.FinMap name_cmp PlainFile) (t : Tty) (c : Command) → c ≡ command.Logout → begins_with files t c ≡ None → ⊥
no_logout files t c is whole = let no : Some (Kill t Logout) ≡ None = sym (ap (begins_with files t) is) ∙ whole in cc no

-- ---- what a command begins

pub begun_is : (s : PlainState) (t : Tty) (j : PlainJob) (c : Command) → command_begun s t j c ≡ option_map_or (goes_on s) (begins_with s.files t c) (over (commanded s t j c))
begun_is s t j command.Blank = refl
begun_is s t j (command.Run name) = by (map.contains_key s.files name)
  where
    by : (b : Bool) → cond b (goes_on s (Begin t name)) (over (commanded s t j (command.Run name))) ≡ option_map_or (goes_on s) (cond b (Some (Begin t name)) None) (over (commanded s t j (command.Run name)))
    by true = refl
    by false = refl
begun_is s t j command.Start = refl
begun_is s t j command.Continue = refl
begun_is s t j command.Directory = refl
begun_is s t j (command.Delete name) = refl
begun_is s t j command.Logout = refl
begun_is s t j command.Unknown = refl
