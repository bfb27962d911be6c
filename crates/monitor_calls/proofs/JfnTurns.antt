-- A turn of a call on JFNs, as a turn over all that calls change.
use Rattle.std.proofs.Common.{◌≡◌, ℕ, Some, sym, subst}
use Rattle.std.specs.Ordering.{nat_cmp}
use Rattle.machine_names.specs.declared.names.ForkName.{ForkName}
use Rattle.page_contracts.specs.declared.answers.Need.{Need}
use Rattle.plain_pages.specs.PlainPages.{NumberedPages}
use Rattle.plain_units.specs.declared.registers.Regs.{Regs}
use Rattle.plain_model.specs.Calls.{Came, turn_on}
use Rattle.plain_model.specs.FileCalls.{FileParts, JfnAsked, Jobs, file_calls, file_changed, jfn_call}
use Rattle.plain_model.specs.declared.call.FileChange.{FileChange}
use Rattle.plain_model.proofs.Calling.{filed_of, with_filed}
use Rattle.call_turns.specs.declared.family.CallFamily.TheVariants.{Jfns}
use Rattle.call_turns.specs.Families.{family_of}
use Rattle.call_turns.specs.declared.answer.Answer.{Answer}
use Rattle.call_turns.specs.Answers.{IsTurn}
use Rattle.file_tables.specs.declared.tables.FileTables.{FileTables}
use Rattle.file_tables.specs.Tables.{files_of, open_of}
use Rattle.file_calls.specs.Asking.{asked_of, names_of, parts}
use Rattle.file_tables.specs.Keys.{key_of}
use Rattle.monitor_calls.specs.declared.job.Job.{Job}
use Rattle.monitor_calls.specs.ForkUnit.{Tables, TurnedSo, parts_in, rest_of}
use Rattle.monitor_calls.specs.Jobs.{AreUnheld, job_at, jobs_of}
use Rattle.monitor_calls.proofs.Calling.{jfns_went, turned_so}
use Rattle.monitor_calls.proofs.JfnsAsked.{asks_are, jobs_holding_are}

module _ (was : Tables) (who : ForkName) (regs : Regs) (number : ℕ) (j : Job) (there : job_at was.jobs who.tty.0 ≡ Some j) (unheld : AreUnheld (open_of was.files) was.jobs) where
  abbrev jobs : Jobs
  jobs = jobs_of (open_of was.files) was.typed was.jobs

  -- the parts that the call changes, as the tables have them
  abbrev told : FileTables → NumberedPages → FileParts nat_cmp
  told files p = record { pages = p; files = files_of files; jobs = jobs_of (open_of files) was.typed was.jobs }

  told_are : parts jobs ≡ told
  told_are = λ i files p. record { pages = p; files = files_of files; jobs = jobs_holding_are was.typed was.jobs (open_of was.files) (open_of files) i }

  -- how it comes out
  abbrev came : NumberedPages → JfnAsked → Came nat_cmp FileChange
  came p a = turn_on (names_of was.files) p (jfn_call number a)

  module _ (jfns : family_of number ≡ Some Jfns) where
    pub jfn_turned : (IsReason : Need → Type 0) (files : FileTables) (p q : NumberedPages) (a : Answer)
        → (let c = came p (asked_of who regs j.user was.files) in IsTurn IsReason (file_changed (key_of was.files)) (parts jobs was.files p) (parts jobs was.files c.pages) (parts jobs files q) a c.end)
        → TurnedSo (key_of was.files) (parts_in (rest_of was) p) (parts_in (rest_of (record was { files = files })) q) who regs number a
    jfn_turned IsReason files p q a comes =
        let v = parts_in (rest_of was) p in
        let as_told = subst (λ (f : FileTables → NumberedPages → FileParts nat_cmp). let c = came p (asked_of who regs j.user was.files) in IsTurn IsReason (file_changed (key_of was.files)) (f was.files p) (f was.files c.pages) (f files q) a c.end) told_are comes in
        let as_asked = subst (λ (b : JfnAsked). let c = came p b in IsTurn IsReason (file_changed (key_of was.files)) (told was.files p) (told was.files c.pages) (told files q) a c.end) (sym (asks_are was p who regs j there unheld)) as_told in
        turned_so (key_of was.files) (with_filed v) (filed_of v) (told files q) who regs number a as_asked
        (λ went. jfns_went (key_of was.files) v who regs number jfns (told files q) a went)
