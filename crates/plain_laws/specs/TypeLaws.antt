-- What laws say of what users type.
use Rattle.std.specs.Prelude.{◌≡◌, ◌≢◌, ℕ, List, [], ◌∷◌, ◌++◌, codes, map, Some}
use Rattle.std.specs.List.{flat_map}
use Rattle.std.specs.FinMap as map_of
use Rattle.machine_names.specs.declared.character.TheConstants.{CARRIAGE_RETURN, LINE_FEED, PROMPT}
use Rattle.machine_names.specs.declared.names.Tty.{Tty}
use Rattle.plain_typing.specs.Characters.{read_as}
use Rattle.script_texts.specs.declared.event.Event.TheVariants.{TypeIn}
use Rattle.script_texts.specs.declared.event.Item.{Item}
use Rattle.plain_model.specs.declared.fork.Fork.{Fork}
use Rattle.plain_model.specs.declared.fork.TerminalMode.TheVariants.{Command}
use Rattle.plain_model.specs.Commands.{with_job_at}
use Rattle.plain_model.specs.Events.{outer}
use Rattle.plain_model.specs.State.{PlainState, PlainJob}
use Rattle.plain_model.specs.Trees.{unread}
use Rattle.plain_model.specs.TypeEvents.{echo}
use Rattle.plain_model.specs.Unit.{Effect, printed}
use Rattle.plain_laws.specs.JfnLaws.{Lives}

-- what comes of characters that are typed at a terminal
abbrev pub typed : PlainState → Tty → List ℕ → Effect
typed s t text = outer s (TypeIn t text)

-- the job at a terminal
abbrev pub HasJob : PlainState → Tty → PlainJob → Type 0
HasJob s t j = map_of.get s.jobs t.0 ≡ Some j

-- what a terminal shows of characters that are typed at it: each as it is read
abbrev pub echoes : Tty → List ℕ → List Item
echoes t text = flat_map (λ c. echo t (read_as c)) text

-- characters that are typed are stored behind those that are there, in their order, each as it is read; whoever waits for one of that
-- terminal runs again; and all else stays
pub record StoresText (old new : PlainState) (t : Tty) (j : PlainJob) (text : List ℕ) : Type 0 where
  pub job : HasJob new t (record j { input = j.input ++ map read_as text })
  pub jobs : (u : ℕ) → u ≢ t.0 → map_of.get new.jobs u ≡ map_of.get old.jobs u
  pub readers : (f : Fork) → Lives old f → f.name.tty.0 ≡ t.0 → map_of.get new.forks f.name ≡ Some (unread f)
  pub forks : (f : Fork) → Lives old f → f.name.tty.0 ≢ t.0 → map_of.get new.forks f.name ≡ Some f
  pub rest : new ≡ record old { jobs = new.jobs; forks = new.forks }

-- what control-C shows: itself, the end of a line, and the prompt
abbrev pub control_c_shown : Tty → List Item
control_c_shown t = printed t (codes "^C" ++ CARRIAGE_RETURN ∷ LINE_FEED ∷ PROMPT ∷ [])

-- the state with the job at a terminal in command mode, with an empty line
abbrev pub at_prompt : PlainState → Tty → PlainJob → PlainState
at_prompt s t j = with_job_at s t (record j { mode = Command; line = [] })
