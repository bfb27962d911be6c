-- A turn of a call on bytes or on strings of them, as a turn over all that calls change.
use Rattle.std.proofs.Common.{◌≡◌, ◌<◌, ℕ, List, [], length, set, Option, Some, refl, sym, ◌∙◌, subst, ap}
use Rattle.std.specs.Option.{option_map_or}
use Rattle.std.specs.Ordering.{nat_cmp}
use Rattle.std.specs.Cmp.{nat_cmp_total}
use Rattle.std.specs.FinMap as map
use Rattle.number_map.proofs.Keys.{get_put}
use Rattle.machine_names.specs.declared.names.ForkName.{ForkName}
use Rattle.machine_names.specs.declared.names.Tty.{Tty}
use Rattle.page_contracts.specs.declared.answers.Need.{Need}
use Rattle.plain_files.specs.OpenFiles.{open_at}
use Rattle.plain_pages.specs.PlainPages.{NumberedPages}
use Rattle.plain_typing.specs.Lines.{InputLine}
use Rattle.plain_units.specs.declared.registers.Regs.{Regs}
use Rattle.plain_model.specs.State.{PlainJob}
use Rattle.plain_model.specs.Calls.{Came, numbered, turn_on}
use Rattle.plain_model.specs.Families.{asks_bytes, call_turned}
use Rattle.plain_model.specs.ByteCalls.{ByteAsked, byte_calls, byte_changed, with_input, ByteTurn}
use Rattle.plain_model.specs.FileCalls.{FileParts, Jobs, with_held}
use Rattle.plain_model.specs.StringCalls.{string_calls}
use Rattle.plain_model.specs.declared.call.ByteChange.{ByteChange}
use Rattle.plain_model.proofs.Calling.{filed_of, with_filed}
use Rattle.call_turns.specs.declared.family.CallFamily.TheVariants.{Bytes, Strings}
use Rattle.call_turns.specs.Families.{family_of}
use Rattle.call_turns.specs.declared.answer.Answer.{Answer}
use Rattle.call_turns.specs.Answers.{IsTurn}
use Rattle.file_tables.specs.declared.tables.FileTables.{FileTables}
use Rattle.file_tables.specs.Tables.{files_of, jfns_at, open_of}
use Rattle.file_tables.specs.Keys.{key_of, seen_in}
use Rattle.file_bytes.specs.Asking.{HasLine, asked_on, jobs_with, parts}
use Rattle.file_bytes.specs.Turning.{OthersStay}
use Rattle.monitor_calls.specs.declared.job.Job.{Job}
use Rattle.monitor_calls.specs.declared.typing.Typing.{Typing}
use Rattle.monitor_calls.specs.ForkUnit.{Tables, TurnedSo, answered_turn, parts_in, rest_of}
use Rattle.monitor_calls.specs.Jobs.{AreUnheld, job_at, jobs_of, plain_job}
use Rattle.monitor_calls.specs.Typings.{typing_at}
use Rattle.monitor_calls.proofs.Calling.{BytesWent, bytes_went, strings_went, turned_so}
use Rattle.monitor_calls.proofs.Lookups.{job_found, jobs_typed}
use Rattle.monitor_calls.proofs.Maps.{insert_twice}
use Rattle.monitor_calls.proofs.MapTurns.{held_are}

-- a call of a fork of a job; and what was typed at its terminal
module _ (was : Tables) (who : ForkName) (regs : Regs) (number : ℕ) (j : Job) (there : job_at was.jobs who.tty.0 ≡ Some j) (unheld : AreUnheld (open_of was.files) was.jobs) (typing : Typing) (stands : typing_at was.typed who.tty.0 ≡ typing) where
  abbrev t : Tty
  t = who.tty

  abbrev jobs : Jobs
  jobs = jobs_of (open_of was.files) was.typed was.jobs

  abbrev line : InputLine
  line = typing.input

  found : map.get jobs t.0 ≡ Some (plain_job (open_at (open_of was.files) t.0) typing j)
  found = job_found (open_of was.files) was.typed was.jobs t.0 j there ∙ ap (λ y. Some (plain_job (open_at (open_of was.files) t.0) y j)) stands

  pub has_line : HasLine jobs t was.files line
  has_line = record {
    jfns = held_are was.typed was.jobs (open_of was.files) unheld t;
    input = ap (λ (o : Option PlainJob). option_map_or (λ k. k.input) o []) found;
  }

  -- who asks what
  pub bytes_asked : (p : NumberedPages) → asks_bytes (key_of was.files) (parts_in (rest_of was) p) who regs ≡ asked_on who regs was.files line.input p
  bytes_asked p = λ i. record (asked_on who regs was.files line.input p) { held = has_line.jfns i; input = has_line.input i }

  -- how it comes out, of calls that are asked so
  abbrev came : (List (ℕ × (ByteAsked → ByteTurn))) → NumberedPages → ByteAsked → Came nat_cmp ByteChange
  came rows p a = turn_on (seen_in was.files) p (numbered rows number a)

  module _ (files : FileTables) (left : InputLine) (stay : OthersStay t was.files files line left) (within : t.0 < length was.jobs) (room : t.0 < length was.typed) where
    abbrev typed_now : List Typing
    typed_now = set was.typed t.0 (record typing { input = left })

    -- the jobs that are left
    jobs_left : jobs_with jobs t files left ≡ jobs_of (open_of files) typed_now was.jobs
    jobs_left =
        let job : PlainJob = plain_job (open_at (open_of was.files) t.0) typing j in
        let held : PlainJob = record job { jfns = jfns_at files t.0 } in
        let given : PlainJob = record held { input = left.input } in
        let first : with_held jobs t (λ old. jfns_at files t.0) ≡ map.insert jobs t.0 held = ap (λ (o : Option PlainJob). option_map_or (λ k. map.insert jobs t.0 (record k { jfns = jfns_at files t.0 })) o jobs) found in
        let all : Jobs = map.insert jobs t.0 held in
        let second : with_input all t (λ old. left.input) ≡ map.insert all t.0 given = ap (λ (o : Option PlainJob). option_map_or (λ k. map.insert all t.0 (record k { input = left.input })) o all) (get_put jobs t.0 t.0 held refl) in
        ap (λ (js : Jobs). with_input js t (λ old. left.input)) first
        ∙ second
        ∙ insert_twice nat_cmp_total map.nat_cmp-IsAntisymmetric jobs t.0 held given
        ∙ ap (λ (m : _). map.insert jobs t.0 (record given { codes = m })) (sym stay.codes)
        ∙ sym (jobs_typed (open_of was.files) (open_of files) was.typed was.jobs t.0 (record typing { input = left }) j stay.jfns within room there)

    abbrev now : Tables
    now = record was { files = files; typed = typed_now }

    -- the parts that the call changes, as the tables have them
    abbrev told : Tables → NumberedPages → FileParts nat_cmp
    told x p = record { pages = p; files = files_of x.files; jobs = jobs_of (open_of x.files) x.typed x.jobs }

    -- so it is left, where what is behind it is known by its family
    module _ (rows : List (ℕ × (ByteAsked → ByteTurn))) (p q : NumberedPages) (a : Answer) (went : BytesWent (key_of was.files) (parts_in (rest_of was) p) who regs number rows (told now q) a → call_turned (key_of was.files) (parts_in (rest_of was) p) who regs number ≡ answered_turn (with_filed (parts_in (rest_of was) p) (told now q)) who a) where
      pub rows_turned : (IsReason : Need → Type 0)
          → (let c = came rows p (asked_on who regs was.files line.input p) in IsTurn IsReason (byte_changed (key_of was.files)) (parts jobs was.files p) (parts jobs was.files c.pages) (parts (jobs_with jobs t files left) files q) a c.end)
          → TurnedSo (key_of was.files) (parts_in (rest_of was) p) (parts_in (rest_of now) q) who regs number a
      rows_turned IsReason comes =
          let v = parts_in (rest_of was) p in
          let as_told = subst (λ (js : Jobs). let c = came rows p (asked_on who regs was.files line.input p) in IsTurn IsReason (byte_changed (key_of was.files)) (told was p) (told was c.pages) (parts js files q) a c.end) jobs_left comes in
          let as_asked = subst (λ (b : ByteAsked). let c = came rows p b in IsTurn IsReason (byte_changed (key_of was.files)) (told was p) (told was c.pages) (told now q) a c.end) (sym (bytes_asked p)) as_told in
          turned_so (key_of was.files) (with_filed v) (filed_of v) (told now q) who regs number a as_asked went

    -- a call on bytes
    pub byte_turned : family_of number ≡ Some Bytes → (IsReason : Need → Type 0) (p q : NumberedPages) (a : Answer)
        → (let c = came byte_calls p (asked_on who regs was.files line.input p) in IsTurn IsReason (byte_changed (key_of was.files)) (parts jobs was.files p) (parts jobs was.files c.pages) (parts (jobs_with jobs t files left) files q) a c.end)
        → TurnedSo (key_of was.files) (parts_in (rest_of was) p) (parts_in (rest_of now) q) who regs number a
    byte_turned bytes IsReason p q a comes =
        rows_turned byte_calls p q a (λ went. bytes_went (key_of was.files) (parts_in (rest_of was) p) who regs number bytes (told now q) a went) IsReason comes

    -- a call on strings
    pub string_turned : family_of number ≡ Some Strings → (IsReason : Need → Type 0) (p q : NumberedPages) (a : Answer)
        → (let c = came string_calls p (asked_on who regs was.files line.input p) in IsTurn IsReason (byte_changed (key_of was.files)) (parts jobs was.files p) (parts jobs was.files c.pages) (parts (jobs_with jobs t files left) files q) a c.end)
        → TurnedSo (key_of was.files) (parts_in (rest_of was) p) (parts_in (rest_of now) q) who regs number a
    string_turned strings IsReason p q a comes =
        rows_turned string_calls p q a (λ went. strings_went (key_of was.files) (parts_in (rest_of was) p) who regs number strings (told now q) a went) IsReason comes
