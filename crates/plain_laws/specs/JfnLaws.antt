-- What laws say of the calls on JFNs.
use Rattle.std.specs.Prelude.{◌≡◌, ℕ, List, [], Option, None, Some}
use Rattle.std.specs.Option.{option_map_or}
use Rattle.std.specs.FinMap as map
use Rattle.word36.specs.Words.{right}
use Rattle.machine_names.specs.FileNames.{file_named}
use Rattle.machine_names.specs.Orders.{name_cmp}
use Rattle.plain_files.specs.OpenFiles.{OpenFile, OpenFiles, taken_file}
use Rattle.plain_files.specs.Sizes.{PlainFile}
use Rattle.plain_pages.specs.PlainPages.{NamedPages}
use Rattle.plain_units.specs.declared.registers.Regs.{Regs}
use Rattle.plain_units.specs.Deeds.{in_ac, skip_pc}
use Rattle.plain_model.specs.declared.call.TheConstants.{GTJFN}
use Rattle.plain_model.specs.declared.call.End.TheVariants.{Done}
use Rattle.plain_model.specs.declared.fork.Fork.{Fork}
use Rattle.plain_model.specs.Calls.{ends, no_files, turn_on, with_ac, with_error, behind_call}
use Rattle.plain_model.specs.Families.{Parts, Turned, call_turned}
use Rattle.plain_model.specs.FileCalls.{held_at, with_held}
use Rattle.plain_model.specs.Forks.{with_regs}
use Rattle.plain_model.specs.PointedTexts.{text_at}
use Rattle.plain_model.specs.Readings.{Reading, with_reading}
use Rattle.plain_model.specs.State.{PlainState}
use Rattle.plain_model.specs.Unit.{parts_of}

-- what is behind a turn of a call of a fork
abbrev pub turn_of : PlainState → Fork → ℕ → Turned name_cmp
turn_of s f number = call_turned (λ name. name) (parts_of s) f.name f.body.regs number

-- a fork that lives, which calls
abbrev pub Lives : PlainState → Fork → Type 0
Lives s f = map.get s.forks f.name ≡ Some f

-- the JFNs that the job of a fork holds, and its user
abbrev pub jfns_of : PlainState → Fork → OpenFiles
jfns_of s f = held_at s.jobs f.name.tty

abbrev pub user_of : PlainState → Fork → List ℕ
user_of s f = option_map_or (λ j. j.user) (map.get s.jobs f.name.tty.0) []

-- the number of the JFN that a fork names in accumulator 1
abbrev pub jfn_named : Fork → ℕ
jfn_named f = right (in_ac f.body.regs 1)

-- that is a JFN of its job, which stands for this
abbrev pub NamesJfn : PlainState → Fork → OpenFile → Type 0
NamesJfn s f j = map.get (jfns_of s f) (jfn_named f) ≡ Some j

-- a fork reads this in its space; these are the pages then, with those that its references made
module _ {A : Type 0} where
  abbrev pub ReadsSo : PlainState → Fork → Reading A → A → NamedPages → Type 0
  ReadsSo s f r found q =
      let told = λ (x : A). Done x f.body.regs None None in
      turn_on no_files s.pages (with_reading f.name f.body.regs r (λ x. ends (told x))) ≡ record { end = told found; pages = q }

-- a fork reads a text, or too long a one, by the pointer in accumulator 2
abbrev pub Reads : PlainState → Fork → Option (List ℕ) → NamedPages → Type 0
Reads s f text q = ReadsSo s f (text_at f.body.regs (in_ac f.body.regs 2)) text q

-- what it reads names a file
pub record AsksFor (s : PlainState) (f : Fork) (name : List ℕ) (q : NamedPages) : Type 0 where
  pub text : List ℕ
  pub reads : Reads s f (Some text) q
  pub named : file_named (user_of s f) [] text ≡ Some name

-- the parts with other JFNs of the fork's job
abbrev pub with_jfns : PlainState → Fork → (OpenFiles → OpenFiles) → Parts name_cmp
with_jfns s f change = record (parts_of s) { jobs = with_held s.jobs f.name.tty change }

-- a fork behind a call that returns by its second return, with these registers
abbrev pub behind_second : Fork → Regs → Fork
behind_second f regs = with_regs f (record regs { pc = skip_pc regs })

-- GTJFN takes a JFN for the file of a name, tells its number in accumulator 1, and leaves all else; but for pages and files, which are these
abbrev pub Takes : PlainState → Fork → ℕ → List ℕ → NamedPages → map.FinMap name_cmp PlainFile → Type 0
Takes s f n name q files = turn_of s f GTJFN ≡ record {
  parts = record (with_jfns s f (λ m. map.insert m n (taken_file name))) { pages = q; files = files };
  caller = Some (behind_second f (with_ac f.body.regs 1 n));
  out = None;
}

-- a call is refused: all that changes is that its fork has the code of an error, as its last one and in accumulator 1, and returns by the first return
abbrev pub Refuses : PlainState → Fork → ℕ → ℕ → Type 0
Refuses s f number code = turn_of s f number ≡ record {
  parts = parts_of s;
  caller = Some (with_error (with_regs f (behind_call (with_ac f.body.regs 1 code))) code);
  out = None;
}
