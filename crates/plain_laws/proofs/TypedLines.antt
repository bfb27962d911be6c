-- Characters that are typed, one by one; and the end of a line, which is a command.
use Rattle.std.proofs.Common.{◌≡◌, ℕ, List, [], ◌∷◌, ◌++◌, Option, ◌∙◌, ap}
use Rattle.std.specs.Option.{option_map_or}
use Rattle.std.proofs.lemmas.List.{append-nil}
use Rattle.machine_names.specs.declared.character.TheConstants.{CARRIAGE_RETURN, LINE_END, LINE_FEED}
use Rattle.machine_names.specs.declared.names.Tty.{Tty}
use Rattle.plain_typing.specs.declared.command.Command.{Command as ACommand}
use Rattle.plain_typing.specs.Characters.{read_as}
use Rattle.script_texts.specs.declared.event.Item.{Item}
use Rattle.script_texts.specs.declared.event.Refusal.TheVariants.{NoJob}
use Rattle.plain_model.specs.Commands.{commanded}
use Rattle.plain_model.specs.State.{PlainState, PlainJob}
use Rattle.plain_model.specs.TypeEvents.{typed_all, typed_at, typed_one}
use Rattle.plain_model.specs.Unit.{Effect, printed, refused}
use Rattle.plain_model.proofs.Equations.{outer_type_in}
use Rattle.plain_laws.specs.CommandLaws.{IsCommand, line_done, without_line}
use Rattle.plain_laws.specs.TypeLaws.{HasJob, typed}

-- the items of an effect behind others
abbrev pub behind_items : List Item → Effect → Effect
behind_items items e = record e { items = items ++ e.items }

module _ (s : PlainState) (t : Tty) where
  pub one_typed : (c : ℕ) → typed_all s t (c ∷ []) ≡ typed_at s t c
  unfolding typed_all
  one_typed c = λ i. record { state = (typed_at s t c).state; items = append-nil (typed_at s t c).items i }

  -- those behind the first are typed at what that leaves
  pub first_typed : (c : ℕ) (cs : List ℕ) (e : Effect) → typed_at s t c ≡ e → typed_all s t (c ∷ cs) ≡ behind_items e.items (typed_all e.state t cs)
  unfolding typed_all
  first_typed c cs e is = ap (λ (x : Effect). behind_items x.items (typed_all x.state t cs)) is

  module _ (j : PlainJob) (is : HasJob s t j) where
    pub typed_here : (text : List ℕ) → typed s t text ≡ typed_all s t text
    typed_here text = outer_type_in s t text ∙ ap (λ (o : Option PlainJob). option_map_or (λ k. typed_all s t text) o (refused s (NoJob t))) is

    pub at_here : (c : ℕ) → typed_at s t c ≡ typed_one j.mode s t j (read_as c)
    at_here c = ap (λ (o : Option PlainJob). option_map_or (λ k. typed_one k.mode s t k (read_as c)) o (record { state = s; items = [] })) is

-- a command, as it is done where its line is over
abbrev pub done_command : PlainState → Tty → PlainJob → ACommand → Effect
done_command s t j c = commanded (without_line s t j) t (record j { line = [] }) c

module _ (s : PlainState) (t : Tty) (j : PlainJob) (c : ACommand) (is : IsCommand s t j c) where
  pub end_typed : typed_at s t CARRIAGE_RETURN ≡ behind_items (printed t (CARRIAGE_RETURN ∷ LINE_FEED ∷ [])) (done_command s t j c)
  unfolding typed_one
  end_typed =
      at_here s t j is.job CARRIAGE_RETURN ∙ ap (λ m. typed_one m s t j LINE_END) is.mode
      ∙ ap (λ x. behind_items (printed t (CARRIAGE_RETURN ∷ LINE_FEED ∷ [])) (done_command s t j x)) is.line

  pub line_is : line_done s t ≡ behind_items (printed t (CARRIAGE_RETURN ∷ LINE_FEED ∷ [])) (done_command s t j c)
  line_is = typed_here s t j is.job (CARRIAGE_RETURN ∷ []) ∙ one_typed s t CARRIAGE_RETURN ∙ end_typed
