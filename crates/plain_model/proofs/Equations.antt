-- What the definitions say that do not open by themselves, one equation each.
use Rattle.std.proofs.Common.{◌≡◌, ℕ, List, [], ◌++◌, Some, refl, ◌∙◌, ap, cond, false, map}
use Rattle.std.specs.Prelude.{take, ◌+◌}
use Rattle.std.specs.Option.{option_map_or}
use Rattle.std.specs.FinMap as map
use Rattle.machine_names.specs.declared.names.Tty.{Tty}
use Rattle.machine_names.specs.declared.names.ForkName.{ForkName}
use Rattle.plain_model.specs.declared.fork.Fork.{Fork}
use Rattle.script_texts.specs.declared.event.Event.{Event}
use Rattle.script_texts.specs.declared.event.Event.TheVariants.{Login, TypeIn, File, Words, Poke, Start, Tick, Examine, Forks, Page}
use Rattle.script_texts.specs.declared.event.Step.TheVariants.{Outer, Unit as AUnit, Idle}
use Rattle.plain_model.specs.State.{PlainState}
use Rattle.plain_model.specs.Inspections.{is_interrupted}
use Rattle.plain_model.specs.Unit.{instruction_unit, interrupted_unit, over, unit, unit_of}
use Rattle.plain_units.specs.Units.{unit_on}
use Rattle.script_texts.specs.declared.event.WordRow.{WordRow}
use Rattle.plain_model.specs.FileEvents.{make_file, write_words, show_page}
use Rattle.plain_model.specs.Events.{login, start, outer, at_job, poked_at}
use Rattle.plain_model.specs.Run.{apply, unit_line}
use Rattle.plain_model.specs.TypeEvents.{typed_all}
use Rattle.script_texts.specs.declared.event.Item.TheVariants.{ForkLine}
use Rattle.plain_model.specs.Forks.{forks_by_slot, fork_line}
use Rattle.plain_model.specs.Trees.{sleepers_awoken}
use Rattle.plain_model.proofs.Shorthands.{examine}

module _ (s : PlainState) where
  -- a unit of a fork that lives
  pub unit_some : (name : ForkName) (f : Fork) → map.get s.forks name ≡ Some f → unit s name ≡ unit_of s f
  unfolding unit
  unit_some name f h = ap (λ o. option_map_or (unit_of s) o (record { state = s; items = [] })) h

  -- that of a fork which isn't interrupted is its instruction
  pub unit_plain : (name : ForkName) (f : Fork) → map.get s.forks name ≡ Some f → is_interrupted f.body.psi ≡ false → unit s name ≡ over s f (unit_on f.name s.pages f.body.regs)
  unit_plain name f h off = unit_some name f h ∙ ap (λ b. cond b (interrupted_unit s f) (instruction_unit s f)) off

  pub outer_login : (t : Tty) (user : List ℕ) → outer s (Login t user) ≡ login s t user
  unfolding outer
  outer_login t user = refl

  pub outer_type_in : (t : Tty) (text : List ℕ) → outer s (TypeIn t text) ≡ at_job s t (λ j. typed_all s t text)
  unfolding outer
  outer_type_in t text = refl

  pub outer_file : (name : List ℕ) → outer s (File name) ≡ make_file s name
  unfolding outer
  outer_file name = refl

  pub outer_words : (name : List ℕ) (page offset : ℕ) (row : WordRow) → outer s (Words name page offset row) ≡ write_words s name page offset (take row.count row.words)
  unfolding outer
  outer_words name page offset row = refl

  pub outer_page : (name : List ℕ) (page : ℕ) → outer s (Page name page) ≡ show_page s name page
  unfolding outer
  outer_page name page = refl

  pub outer_poke : (t : Tty) (address word : ℕ) → outer s (Poke t address word) ≡ at_job s t (poked_at s t address word)
  unfolding outer
  outer_poke t address word = refl

  pub outer_start : (t : Tty) (address : ℕ) → outer s (Start t address) ≡ start s t address
  unfolding outer
  outer_start t address = refl

  pub outer_tick : outer s Tick ≡ (let clock = s.clock + 1 in record { state = record s { clock = clock; forks = sleepers_awoken clock s.forks }; items = [] })
  unfolding outer
  outer_tick = refl

  pub outer_examine : (t : Tty) (serial address : ℕ) → outer s (Examine t serial address) ≡ examine s t serial address
  unfolding outer
  outer_examine t serial address = refl

  pub outer_forks : (t : Tty) → outer s (Forks t) ≡ at_job s t (λ j. record { state = s; items = map (λ f. ForkLine (fork_line s.forks f)) (forks_by_slot s.forks t) })
  unfolding outer
  outer_forks t = refl

  pub apply_outer : (e : Event) → apply s (Outer e) ≡ outer s e
  unfolding apply
  apply_outer e = refl

  pub apply_idle : apply s Idle ≡ record { state = s; items = [] }
  unfolding apply
  apply_idle = refl

  pub apply_unit : (f : ForkName) → apply s (AUnit f) ≡ record { state = (unit s f).state; items = unit_line s f ++ (unit s f).items }
  unfolding apply
  apply_unit f = refl
