-- A turn of a call on maps, as a turn over all that calls change: what it is asked with, how it comes out, and what it makes.
use Rattle.std.proofs.Common.{◌≡◌, ◌≤◌, ℕ, List, Option, None, Some, refl, sym, ◌∙◌, subst, ap, arith}
use Rattle.std.specs.Option.{option_map_or}
use Rattle.std.specs.Ordering.{nat_cmp}
use Rattle.std.specs.FinMap as map
use Rattle.machine_names.specs.declared.names.ForkName.{ForkName}
use Rattle.machine_names.specs.declared.names.Tty.{Tty}
use Rattle.page_contracts.specs.declared.answers.Need.{Need}
use Rattle.page_contracts.specs.Pages.{MayLose, PagesMeaning}
use Rattle.plain_files.specs.OpenFiles.{OpenFiles, open_at}
use Rattle.plain_pages.specs.PlainPages.{NumberedPages}
use Rattle.plain_units.specs.declared.registers.Regs.{Regs}
use Rattle.plain_model.specs.State.{PlainJob}
use Rattle.plain_model.specs.Calls.{Came, turn_on}
use Rattle.plain_model.specs.Families.{asks_maps}
use Rattle.plain_model.specs.FileCalls.{held_at}
use Rattle.plain_model.specs.MapCalls.{MapAsked, map_call, map_changed}
use Rattle.plain_model.specs.declared.call.MapChange.{MapChange}
use Rattle.call_turns.specs.declared.family.CallFamily.TheVariants.{Maps}
use Rattle.call_turns.specs.Families.{family_of}
use Rattle.call_turns.specs.declared.answer.Answer.{Answer}
use Rattle.call_turns.specs.declared.answer.Answer.TheVariants as answer
use Rattle.call_turns.specs.Answers.{IsTurn}
use Rattle.file_tables.specs.Tables.{open_of}
use Rattle.file_tables.specs.Keys.{key_of, seen_in}
use Rattle.pmap_calls.specs.Asking.{asked}
use Rattle.call_turns.specs.Making.{MakesAtMost, MakesIn}
use Rattle.ka10_unit.specs.Carrying.{Grows}
use Rattle.job_forks.specs.Holding.{PlansOnly}
use Rattle.job_forks.proofs.Branch.{plans_none}
use Rattle.monitor_calls.specs.declared.job.Job.{Job}
use Rattle.monitor_calls.specs.declared.typing.Typing.{Typing}
use Rattle.monitor_calls.specs.ForkUnit.{Tables, TurnedSo, parts_in, rest_of}
use Rattle.monitor_calls.specs.Jobs.{AreUnheld, job_at, jobs_of}
use Rattle.monitor_calls.specs.Makings.{most_makings}
use Rattle.monitor_calls.proofs.Calling.{maps_went, turned_so}
use Rattle.monitor_calls.proofs.JfnsAsked.{none_held}
use Rattle.monitor_calls.proofs.Lookups.{job_found, job_missing}

-- the JFNs of the job at a terminal are those that are held there
pub held_are : (typed : List Typing) (jobs : List (Option Job)) (opens : List OpenFiles) → AreUnheld opens jobs → (t : Tty) → held_at (jobs_of opens typed jobs) t ≡ open_at opens t.0
held_are typed jobs opens unheld t = by (job_at jobs t.0) refl
  where
    by : (o : Option Job) → job_at jobs t.0 ≡ o → held_at (jobs_of opens typed jobs) t ≡ open_at opens t.0
    by None none = ap (λ (o : Option PlainJob). option_map_or (λ k. k.jfns) o map.empty) (job_missing opens typed jobs t.0 none) ∙ sym (none_held (open_at opens t.0) (unheld t.0 none))
    by (Some j) there = ap (λ (o : Option PlainJob). option_map_or (λ k. k.jfns) o map.empty) (job_found opens typed jobs t.0 j there)

module _ (was : Tables) (who : ForkName) (regs : Regs) (number : ℕ) (unheld : AreUnheld (open_of was.files) was.jobs) where
  -- who asks what
  pub maps_asked : (p : NumberedPages) → asks_maps (parts_in (rest_of was) p) who regs ≡ asked who regs was.tree was.files
  maps_asked p = λ i. record { who = who; regs = regs; tree = was.tree; held = held_are was.typed was.jobs (open_of was.files) unheld who.tty i }

  -- how it comes out
  abbrev came : NumberedPages → MapAsked → Came nat_cmp MapChange
  came p a = turn_on (seen_in was.files) p (map_call number a)

  module _ (maps : family_of number ≡ Some Maps) where
    pub map_turned : (IsReason : Need → Type 0) (p q : NumberedPages) (a : Answer)
        → (let c = came p (asked who regs was.tree was.files) in IsTurn IsReason (map_changed (key_of was.files)) p c.pages q a c.end)
        → TurnedSo (key_of was.files) (parts_in (rest_of was) p) (parts_in (rest_of was) q) who regs number a
    map_turned IsReason p q a comes =
        let v = parts_in (rest_of was) p in
        let as_asked = subst (λ (b : MapAsked). let c = came p b in IsTurn IsReason (map_changed (key_of was.files)) p c.pages q a c.end) (sym (maps_asked p)) comes in
        turned_so (key_of was.files) (λ (x : NumberedPages). record v { pages = x }) p q who regs number a as_asked
        (λ went. maps_went (key_of was.files) v who regs number maps q a went)

module _ {P : Type 0} (means : PagesMeaning P) (t : Tty) (old new : P) where
  -- what it makes is no more than the words of a call may
  most_grows : (pages : ℕ) → pages ≤ most_makings → MakesAtMost means t pages old new → MayLose means old new → Grows means t most_makings old new
  most_grows pages few made loses = record { lives = made.lives; forks = made.forks; most = made.most; serial = omega (arith, made.serial); serials = made.serials; loses = loses }

  pub map_grows : (a : Answer) → MakesIn means t old new a → MayLose means old new → Grows means t most_makings old new
  map_grows (answer.Need n) same loses = record {
    lives = ap means.lives same;
    forks = ap means.forks_of same;
    most = ap means.most same;
    serial = omega (arith, ap (λ (s : P). means.serial s t) same);
    serials = λ u ne. ap (λ (s : P). means.serial s u) same;
    loses = loses;
  }
  map_grows (answer.After regs out post) made loses = most_grows 1 (omega arith) made loses
  map_grows (answer.Wait on) made loses = most_grows 1 (omega arith) made loses
  map_grows answer.Halt made loses = most_grows 1 (omega arith) made loses
  map_grows (answer.Refused code) made loses = most_grows 1 (omega arith) made loses
  map_grows (answer.Failed code) made loses = most_grows 1 (omega arith) made loses
  map_grows (answer.Trap channel) made loses = most_grows 1 (omega arith) made loses

  -- and nothing where something is needed first
  pub map_unmade : (a : Answer) (n : Need) → a ≡ answer.Need n → MakesIn means t old new a → PlansOnly means t old new
  map_unmade a n is made = plans_none means old new t (subst (MakesIn means t old new) is made)
