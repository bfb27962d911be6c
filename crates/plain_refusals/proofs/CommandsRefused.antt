-- A command that is refused says why, and leaves all but its line; and a character for which there is no room is lost.
use Rattle.std.proofs.Common.{◌≡◌, ◌≢◌, ◌≤◌, ℕ, ◌||◌, Bool, true, false, cond, not, List, [], ◌∷◌, ◌++◌, Option, None, Some, refl, ◌∙◌, ap, subst, arith}
use Rattle.std.specs.Prelude.{◌==◌, codes, is_none, length, nat_lt}
use Rattle.std.specs.Option.{option_map_or}
use Rattle.std.specs.Cmp.{nat_cmp_total}
use Rattle.std.specs.FinMap as map
use Rattle.std.proofs.lemmas.Bool.{le-ltb, ne_eqb}
use Rattle.machine_names.specs.declared.character.TheConstants.{CARRIAGE_RETURN, LINE_END, LINE_FEED}
use Rattle.machine_names.specs.declared.names.PageName.{PageName}
use Rattle.machine_names.specs.declared.names.Tty.{Tty}
use Rattle.plain_pages.proofs.Counts.{total_insert}
use Rattle.plain_pages.specs.FilePages.{without_file}
use Rattle.plain_pages.specs.References.{page_at}
use Rattle.plain_files.specs.OpenFiles.{times_open}
use Rattle.plain_typing.specs.declared.command.Command.{Command as ACommand}
use Rattle.plain_typing.specs.declared.command.Command.TheVariants as command
use Rattle.plain_typing.specs.declared.typed.Typed.TheVariants.{Dropped}
use Rattle.plain_typing.specs.declared.typed.TheConstants.{CONTROL_C, MOST_STORED}
use Rattle.plain_typing.specs.Characters.{read_as}
use Rattle.plain_typing.specs.Typing.{fate_of}
use Rattle.plain_model.specs.declared.fork.Fork.{Fork}
use Rattle.plain_model.specs.declared.fork.TerminalMode.TheVariants.{Command, Program}
use Rattle.plain_model.specs.Commands.{commanded, continued, in_program, is_forced, prompted, resumed, running, start_address, started, told, with_job_at}
use Rattle.plain_model.specs.FileCalls.{times_held}
use Rattle.plain_model.specs.FileEvents.{page_named}
use Rattle.plain_model.specs.Forks.{with_fork}
use Rattle.plain_model.specs.State.{PlainJob, PlainState}
use Rattle.plain_model.specs.TypeEvents.{echo, interrupted, line_ended, line_of, line_typed, rings, typed_one, typed_so}
use Rattle.plain_model.specs.Unit.{Effect, printed}
use Rattle.plain_laws.specs.CommandLaws.{IsCommand, Tells, without_line}
use Rattle.plain_laws.specs.TypeLaws.{HasJob}
use Rattle.plain_laws.proofs.TypedLines.{at_here, behind_items, line_is, one_typed, typed_here}
use Rattle.plain_refusals.specs.Causes.{first_there}
use Rattle.plain_refusals.specs.CommandRefusals.{IsLost, IsRefused, cannot_go_on, words_of}

-- an effect is that of a command which is refused with these words, if with any
abbrev TellsIf : PlainState → Tty → Option (List ℕ) → Effect → Type 0
TellsIf s t None e = Unit {0}
TellsIf s t (Some why) e = e ≡ told s t why

module _ (s : PlainState) (t : Tty) (j : PlainJob) where
  run_tells : (name : List ℕ) (there : Bool) (page : Option PageName)
      → TellsIf s t (first_there ((codes "?NO FILE", not there) ∷ (codes "?NO PROGRAM", is_none page) ∷ []))
      (cond there (option_map_or (λ n. record { state = running s t j name (start_address s name); items = [] }) page (told s t (codes "?NO PROGRAM"))) (told s t (codes "?NO FILE")))
  run_tells name true None = refl
  run_tells name true (Some n) = tt
  run_tells name false page = refl

  start_tells : (start : Option ℕ) → TellsIf s t (first_there ((codes "?NO PROGRAM", is_none start) ∷ [])) (option_map_or (λ address. record { state = started s t address j; items = [] }) start (told s t (codes "?NO PROGRAM")))
  start_tells None = refl
  start_tells (Some address) = tt

  continued_tells : (o : Option Fork) → TellsIf s t (first_there ((codes "?CANNOT", option_map_or cannot_go_on o false) ∷ [])) (option_map_or (continued s t j) o (prompted s t []))
  continued_tells None = tt
  continued_tells (Some f) = by (is_forced f.body.status || (f.body.units == 0))
    where
      by : (no : Bool) → TellsIf s t (first_there ((codes "?CANNOT", no) ∷ [])) (cond no (told s t (codes "?CANNOT")) (record { state = with_job_at (with_fork s (resumed f)) t (in_program j); items = [] }))
      by true = refl
      by false = tt

  delete_tells : (name : List ℕ) (there busy : Bool)
      → TellsIf s t (first_there ((codes "?NO FILE", not there) ∷ (codes "?FILE BUSY", busy) ∷ []))
      (cond there (cond busy (told s t (codes "?FILE BUSY")) (prompted (record s { pages = without_file s.pages name; files = map.remove s.files name }) t [])) (told s t (codes "?NO FILE")))
  delete_tells name true true = refl
  delete_tells name true false = tt
  delete_tells name false busy = refl

  command_tells : (c : ACommand) → TellsIf s t (first_there (words_of s j c)) (commanded s t j c)
  unfolding commanded words_of
  command_tells command.Blank = tt
  command_tells (command.Run name) = run_tells name (map.contains_key s.files name) (page_at s.pages (page_named name 0))
  command_tells command.Start = start_tells j.start
  command_tells command.Continue = continued_tells (map.get s.forks j.top)
  command_tells command.Directory = tt
  command_tells (command.Delete name) = delete_tells name (map.contains_key s.files name) (nat_lt 0 (times_held s.jobs name))
  command_tells command.Logout = tt
  command_tells command.Unknown = refl

module _ (s : PlainState) (t : Tty) (j : PlainJob) (job : HasJob s t j) where
  abbrev left : PlainJob
  left = record j { line = [] }

  abbrev before : PlainState
  before = without_line s t j

  -- the JFNs are the same without the line
  as_often : (name : List ℕ) → times_held before.jobs name ≡ times_held s.jobs name
  unfolding times_held
  as_often name =
      let counts = λ (k : PlainJob). times_open k.jfns name in
      let was : option_map_or counts (map.get s.jobs t.0) 0 ≡ counts j = ap (λ (o : Option PlainJob). option_map_or counts o 0) job in
      omega (arith, was, total_insert nat_cmp_total counts s.jobs t.0 left)

  -- and so are the words with which a command is refused
  words_same : (c : ACommand) → words_of before left c ≡ words_of s j c
  unfolding words_of
  words_same command.Blank = refl
  words_same (command.Run name) = refl
  words_same command.Start = refl
  words_same command.Continue = refl
  words_same command.Directory = refl
  words_same (command.Delete name) = ap (λ n. (codes "?NO FILE", not (map.contains_key s.files name)) ∷ (codes "?FILE BUSY", nat_lt 0 n) ∷ []) (as_often name)
  words_same command.Logout = refl
  words_same command.Unknown = refl

  pub command_refused : (c : ACommand) (why : List ℕ) → IsCommand s t j c → IsRefused s j c why → Tells s t j why
  command_refused c why is refuses =
      let tells = subst (λ (o : Option (List ℕ)). TellsIf before t o (commanded before t left c)) (ap first_there (words_same c) ∙ refuses) (command_tells before t left c) in
      line_is s t j c is ∙ ap (behind_items (printed t (CARRIAGE_RETURN ∷ LINE_FEED ∷ []))) tells

  -- ---- characters that are lost

  pub line_full : (c : ℕ) → j.mode ≡ Command → MOST_STORED ≤ length j.line → read_as c ≢ CONTROL_C → read_as c ≢ LINE_END → IsLost s t c
  unfolding typed_one
  line_full c mode full no_control no_end =
      typed_here s t j job (c ∷ []) ∙ one_typed s t c ∙ at_here s t j job c
      ∙ ap (λ m. typed_one m s t j (read_as c)) mode
      ∙ ap (λ b. cond b (interrupted s t j) (cond (read_as c == LINE_END) (line_ended s t j) (line_typed s t j (read_as c)))) (ne_eqb (read_as c) CONTROL_C no_control)
      ∙ ap (λ b. cond b (line_ended s t j) (line_typed s t j (read_as c))) (ne_eqb (read_as c) LINE_END no_end)
      ∙ ap (λ b. cond b (record { state = with_job_at s t (record j { line = j.line ++ read_as c ∷ [] }); items = echo t (read_as c) }) (rings s t)) (le-ltb (length j.line) MOST_STORED full)

  pub input_full : (c : ℕ) → j.mode ≡ Program → fate_of (line_of j) (read_as c) ≡ Dropped → IsLost s t c
  unfolding typed_one
  input_full c mode drops =
      typed_here s t j job (c ∷ []) ∙ one_typed s t c ∙ at_here s t j job c
      ∙ ap (λ m. typed_one m s t j (read_as c)) mode
      ∙ ap (λ x. typed_so x s t j (read_as c)) drops
