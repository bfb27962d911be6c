-- Items that tell of no refusal: characters, lines of forks and of pages; so it is with all that is typed.
use Rattle.std.proofs.Common.{ℕ, List, [], ◌∷◌, ◌++◌, All}
use Rattle.std.specs.Prelude.{◌+◌, ◌==◌, ◌||◌, codes, is_some, length, map, nat_lt}
use Rattle.std.specs.List.{flat_map}
use Rattle.std.specs.FinMap as map_of
use Rattle.std.proofs.lemmas.Bool.{cond_both}
use Rattle.std.proofs.lemmas.List.Elements.{All-append, All-cons, All-nil}
use Rattle.machine_names.specs.declared.character.TheConstants.{CARRIAGE_RETURN, LINE_END, LINE_FEED, PROMPT}
use Rattle.machine_names.specs.declared.names.Tty.{Tty}
use Rattle.plain_typing.specs.declared.command.Command.{Command as ACommand}
use Rattle.plain_typing.specs.declared.command.Command.TheVariants as command
use Rattle.plain_typing.specs.declared.typed.Typed.{Typed}
use Rattle.plain_typing.specs.declared.typed.Typed.TheVariants.{Stored, Dropped, Posts, ControlC}
use Rattle.plain_typing.specs.declared.typed.TheConstants.{BELL, CONTROL_C, MOST_STORED}
use Rattle.plain_typing.specs.Characters.{read_as}
use Rattle.plain_typing.specs.Commands.{command_of}
use Rattle.plain_typing.specs.Typing.{fate_of}
use Rattle.script_texts.specs.declared.event.Item.TheVariants.{Char, ForkLine, PageWord}
use Rattle.plain_pages.specs.References.{page_at}
use Rattle.plain_units.proofs.Lookups.{looked_up}
use Rattle.plain_model.specs.declared.fork.Fork.{Fork}
use Rattle.plain_model.specs.declared.fork.TerminalMode.{TerminalMode}
use Rattle.plain_model.specs.declared.fork.TerminalMode.TheVariants.{Command, Program}
use Rattle.plain_model.specs.Commands.{commanded, file_line, is_forced, prompted, told, with_job_at, with_line_end}
use Rattle.plain_model.specs.FileCalls.{times_held}
use Rattle.plain_model.specs.FileEvents.{page_named, words_shown}
use Rattle.plain_model.specs.Forks.{ForkMap, fork_line}
use Rattle.plain_model.specs.Interrupts.{forces, posted}
use Rattle.plain_model.specs.State.{PlainJob, PlainState}
use Rattle.plain_model.specs.TypeEvents.{channel_posted, echo, interrupted, line_ended, line_of, typed_all, typed_at, typed_one, typed_so}
use Rattle.plain_model.specs.Unit.{Effect, printed, shown_code, stop_text, stopped}
use Rattle.plain_refusals.specs.EventRefusals.{tells_none}

-- no item of an effect tells of a refusal
abbrev pub IsQuiet : Effect → Type 0
IsQuiet e = All tells_none e.items

-- characters that are printed
pub printed_quiet : (t : Tty) (cs : List ℕ) → All tells_none (printed t cs)
printed_quiet t [] = All-nil tells_none
printed_quiet t (c ∷ cs) = All-cons tells_none (Char t c) (printed t cs) tt (printed_quiet t cs)

-- forks as they are shown
pub forks_quiet : (m : ForkMap) (fs : List Fork) → All tells_none (map (λ f. ForkLine (fork_line m f)) fs)
forks_quiet m [] = All-nil tells_none
forks_quiet m (f ∷ fs) = All-cons tells_none (ForkLine (fork_line m f)) (map (λ k. ForkLine (fork_line m k)) fs) tt (forks_quiet m fs)

-- the words of a page
pub words_quiet : (offset : ℕ) (ws : List ℕ) → All tells_none (words_shown offset ws)
words_quiet offset [] = All-nil tells_none
words_quiet offset (w ∷ ws) =
    All-append tells_none _ (words_shown (offset + 1) ws)
    (cond_both (w == 0) [] (PageWord offset w ∷ []) (All tells_none) (λ none. All-nil tells_none) (λ some. All-cons tells_none (PageWord offset w) [] tt (All-nil tells_none)))
    (words_quiet (offset + 1) ws)

-- ---- what is typed

stopped_quiet : (s : PlainState) (f : Fork) → IsQuiet (stopped s f)
stopped_quiet s f = cond_both (is_some f.superior) _ _ IsQuiet (λ below. All-nil tells_none) (λ top. printed_quiet f.name.tty (stop_text f.body.status))

posted_quiet : (s : PlainState) (channel : ℕ) (f : Fork) → IsQuiet (channel_posted s channel f)
posted_quiet s channel f = cond_both (forces f.body.psi channel) _ _ IsQuiet (λ ends. stopped_quiet s (posted f channel)) (λ goes. All-nil tells_none)

module _ (s : PlainState) (t : Tty) (j : PlainJob) where
  told_quiet : (why : List ℕ) → IsQuiet (told s t why)
  told_quiet why = printed_quiet t (with_line_end why ++ PROMPT ∷ [])

  prompted_quiet : (text : List ℕ) → All tells_none (printed t (text ++ PROMPT ∷ []))
  prompted_quiet text = printed_quiet t (text ++ PROMPT ∷ [])

  commanded_quiet : (c : ACommand) → IsQuiet (commanded s t j c)
  unfolding commanded
  commanded_quiet command.Blank = prompted_quiet []
  commanded_quiet (command.Run name) =
      cond_both (map_of.contains_key s.files name) _ _ IsQuiet
      (λ there. looked_up IsQuiet _ (told s t (codes "?NO PROGRAM")) (page_at s.pages (page_named name 0)) (λ n is. All-nil tells_none) (λ none. told_quiet (codes "?NO PROGRAM")))
      (λ none. told_quiet (codes "?NO FILE"))
  commanded_quiet command.Start = looked_up IsQuiet _ (told s t (codes "?NO PROGRAM")) j.start (λ address is. All-nil tells_none) (λ none. told_quiet (codes "?NO PROGRAM"))
  commanded_quiet command.Continue =
      looked_up IsQuiet _ (prompted s t []) (map_of.get s.forks j.top)
      (λ f is. cond_both (is_forced f.body.status || (f.body.units == 0)) _ _ IsQuiet (λ no. told_quiet (codes "?CANNOT")) (λ goes. All-nil tells_none))
      (λ none. prompted_quiet [])
  commanded_quiet command.Directory = prompted_quiet (flat_map (file_line j.user) (map_of.keys s.files))
  commanded_quiet (command.Delete name) =
      cond_both (map_of.contains_key s.files name) _ _ IsQuiet
      (λ there. cond_both (nat_lt 0 (times_held s.jobs name)) _ _ IsQuiet (λ busy. told_quiet (codes "?FILE BUSY")) (λ free. prompted_quiet []))
      (λ none. told_quiet (codes "?NO FILE"))
  commanded_quiet command.Logout = All-nil tells_none
  commanded_quiet command.Unknown = told_quiet (codes "?")

module _ (s : PlainState) (t : Tty) (j : PlainJob) (code : ℕ) where
  control_quiet : IsQuiet (interrupted s t j)
  control_quiet = printed_quiet t (94 ∷ 67 ∷ CARRIAGE_RETURN ∷ LINE_FEED ∷ PROMPT ∷ [])

  so_quiet : (fate : Typed) → IsQuiet (typed_so fate s t j code)
  so_quiet Stored = printed_quiet t (shown_code code)
  so_quiet Dropped = printed_quiet t (BELL ∷ [])
  so_quiet (Posts fork channel) = looked_up IsQuiet (channel_posted s channel) _ (map_of.get s.forks fork) (λ f is. posted_quiet s channel f) (λ none. All-nil tells_none)
  so_quiet ControlC = control_quiet

  line_quiet : IsQuiet (line_ended s t j)
  line_quiet =
      let left = record j { line = [] } in let e = commanded (with_job_at s t left) t left (command_of j.user j.line) in
      All-append tells_none (echo t LINE_END) e.items (printed_quiet t (shown_code LINE_END)) (commanded_quiet (with_job_at s t left) t left (command_of j.user j.line))

  one_quiet : (mode : TerminalMode) → IsQuiet (typed_one mode s t j code)
  unfolding typed_one
  one_quiet Program = so_quiet (fate_of (line_of j) code)
  one_quiet Command =
      cond_both (code == CONTROL_C) _ _ IsQuiet (λ control. control_quiet) (λ n1.
      cond_both (code == LINE_END) _ _ IsQuiet (λ ends. line_quiet) (λ n2.
      cond_both (nat_lt (length j.line) MOST_STORED) _ _ IsQuiet (λ room. printed_quiet t (shown_code code)) (λ full. printed_quiet t (BELL ∷ []))))

at_quiet : (s : PlainState) (t : Tty) (c : ℕ) → IsQuiet (typed_at s t c)
at_quiet s t c = looked_up IsQuiet (λ (j : PlainJob). typed_one j.mode s t j (read_as c)) _ (map_of.get s.jobs t.0) (λ j is. one_quiet s t j (read_as c) j.mode) (λ none. All-nil tells_none)

-- A TEXT THAT IS TYPED
pub typed_quiet : (s : PlainState) (t : Tty) (text : List ℕ) → IsQuiet (typed_all s t text)
unfolding typed_all
typed_quiet s t [] = All-nil tells_none
typed_quiet s t (c ∷ cs) = All-append tells_none (typed_at s t c).items (typed_all (typed_at s t c).state t cs).items (at_quiet s t c) (typed_quiet (typed_at s t c).state t cs)
