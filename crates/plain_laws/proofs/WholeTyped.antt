-- What users type leaves a whole state whole.
use Rattle.std.proofs.Common.{◌≡◌, ℕ, List, [], ◌∷◌, ◌++◌, Some, true, refl, length}
use Rattle.std.specs.Prelude.{nat_lt, ◌==◌}
use Rattle.std.specs.Cmp.{nat_cmp_total}
use Rattle.std.specs.FinMap as map
use Rattle.std.specs.FinMap.{nat_cmp-IsAntisymmetric}
use Rattle.std.proofs.lemmas.Bool.{cond_both}
use Rattle.machine_names.proofs.Keys.{get_put}
use Rattle.machine_names.specs.declared.character.TheConstants.{LINE_END}
use Rattle.machine_names.specs.declared.names.Tty.{Tty}
use Rattle.plain_typing.specs.declared.typed.Typed.{Typed}
use Rattle.plain_typing.specs.declared.typed.Typed.TheVariants.{Stored, Dropped, Posts, ControlC}
use Rattle.plain_typing.specs.declared.typed.TheConstants.{CONTROL_C, MOST_STORED}
use Rattle.plain_typing.specs.Characters.{read_as}
use Rattle.plain_typing.specs.Commands.{command_of}
use Rattle.plain_typing.specs.Typing.{fate_of}
use Rattle.plain_model.specs.declared.fork.TerminalMode.{TerminalMode}
use Rattle.plain_model.specs.declared.fork.TerminalMode.TheVariants.{Command, Program}
use Rattle.plain_model.specs.State.{PlainState, PlainJob}
use Rattle.plain_model.specs.Trees.{with_mark}
use Rattle.plain_model.specs.Commands.{with_job_at}
use Rattle.plain_model.specs.TypeEvents.{interrupted, line_ended, line_of, line_typed, stopped_by, typed_all, typed_at, typed_one, typed_so}
use Rattle.plain_units.proofs.Lookups.{looked_up}
use Rattle.plain_laws.specs.Whole.{IsWholeMachine}
use Rattle.plain_laws.proofs.WholeCommands.{Leaves, changed_job_whole, commanded_whole, with_job_whole}
use Rattle.plain_laws.proofs.WholeForks.{readers_whole}
use Rattle.plain_laws.proofs.WholeInterrupts.{posted_at_whole}

module _ (s : PlainState) (w : IsWholeMachine s) (t : Tty) (j : PlainJob) (is : map.get s.jobs t.0 ≡ Some j) where
  -- a job with another line, or other characters
  line_whole : (line input : List ℕ) → IsWholeMachine (with_job_at s t (record j { line = line; input = input }))
  line_whole line input = with_job_whole s w t j (record j { line = line; input = input }) is refl refl

  interrupted_whole : Leaves (interrupted s t j)
  interrupted_whole = by j.mode
    where
      left : PlainJob
      left = record j { mode = Command; line = [] }

      by : (m : TerminalMode) → IsWholeMachine (with_job_at (stopped_by m s j) t left)
      by Program = changed_job_whole s w j.top (with_mark true) (λ f. (refl, refl, refl)) t j left is refl refl
      by Command = with_job_whole s w t j left is refl refl

  typed_so_whole : (fate : Typed) (code : ℕ) → Leaves (typed_so fate s t j code)
  typed_so_whole Stored code = readers_whole (with_job_at s t (record j { input = j.input ++ code ∷ [] })) (line_whole j.line (j.input ++ code ∷ [])) t
  typed_so_whole Dropped code = w
  typed_so_whole (Posts fork channel) code = posted_at_whole s w fork channel
  typed_so_whole ControlC code = interrupted_whole

  ended_whole : Leaves (line_ended s t j)
  ended_whole = commanded_whole (with_job_at s t left) (line_whole [] j.input) t left (get_put nat_cmp_total nat_cmp-IsAntisymmetric s.jobs t.0 t.0 left refl) (command_of j.user j.line)
    where
      left : PlainJob
      left = record j { line = [] }

  line_typed_whole : (code : ℕ) → Leaves (line_typed s t j code)
  line_typed_whole code = cond_both (nat_lt (length j.line) MOST_STORED) _ _ Leaves (λ room. line_whole (j.line ++ code ∷ []) j.input) (λ full. w)

  typed_one_whole : (m : TerminalMode) (code : ℕ) → Leaves (typed_one m s t j code)
  unfolding typed_one
  typed_one_whole Program code = typed_so_whole (fate_of (line_of j) code) code
  typed_one_whole Command code = cond_both (code == CONTROL_C) _ _ Leaves (λ stops. interrupted_whole) (λ goes. cond_both (code == LINE_END) _ _ Leaves (λ ends. ended_whole) (λ more. line_typed_whole code))

pub typed_at_whole : (s : PlainState) → IsWholeMachine s → (t : Tty) (c : ℕ) → Leaves (typed_at s t c)
typed_at_whole s w t c = looked_up Leaves _ _ (map.get s.jobs t.0) (λ j is. typed_one_whole s w t j is j.mode (read_as c)) (λ none. w)

-- WHAT IS TYPED LEAVES A WHOLE STATE WHOLE
pub typed_whole : (s : PlainState) → IsWholeMachine s → (t : Tty) (text : List ℕ) → Leaves (typed_all s t text)
unfolding typed_all
typed_whole s w t [] = w
typed_whole s w t (c ∷ cs) = typed_whole (typed_at s t c).state (typed_at_whole s w t c) t cs
