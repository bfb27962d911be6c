-- What a call needs first is so, over whatever drum.
use Rattle.std.proofs.Common.{◌≡◌, ◌≤◌, ◌+◌, ℕ, inl, inr, None, Some, sym, ◌∙◌, ap, arith}
use Rattle.plain_model.specs.declared.call.End.{End}
use Rattle.plain_model.specs.declared.call.End.TheVariants.{Done, Waits, Halts, Refused, Failed, Trap as TrapEnd}
use Rattle.plain_model.specs.declared.call.ForkChange.{ForkChange}
use Rattle.machine_names.specs.declared.names.ForkName.{ForkName}
use Rattle.page_contracts.specs.Pages.{AreHoused, DropsMap, IsOfMap, NamesPage, PagesMeaning}
use Rattle.page_contracts.specs.Stores.{StoreMeaning, away, away_home, away_of, place}
use Rattle.machine_names.specs.declared.names.PageName.{PageName}
use Rattle.page_contracts.specs.declared.answers.Need.TheVariants as need
use Rattle.page_contracts.proofs.Losing.{needed_more}
use Rattle.call_turns.specs.declared.answer.Answer.{Answer}
use Rattle.call_turns.specs.declared.answer.Answer.TheVariants as answer
use Rattle.call_turns.specs.Answers.{AnswerNeeds, IsDone, answer_of, stopped_by}
use Rattle.ka10_unit.specs.declared.taken.Stop.{Stop}
use Rattle.ka10_unit.specs.declared.taken.Stop.TheVariants as stop
use Rattle.ka10_unit.specs.Taking.{StopNeeds}

module _ {P : Type 0} (store : StoreMeaning P) (most : ℕ) (p : P) where
  -- an end needs nothing
  pub end_needs : (e : End ForkChange) → AnswerNeeds store most p (answer_of e)
  end_needs (Done what regs out post) = tt
  end_needs (Waits on) = tt
  end_needs Halts = tt
  end_needs (Refused code) = tt
  end_needs (Failed code) = tt
  end_needs (TrapEnd channel) = tt

  -- nor does an answer that is done
  pub done_needs : (a : Answer) → IsDone a → AnswerNeeds store most p a
  done_needs (answer.Need n) done = absurd done
  done_needs a done = tt

  -- a call that stops needs what its stop does
  pub stop_needs : (s : Stop) → StopNeeds store most p s → AnswerNeeds store most p (stopped_by s)
  stop_needs (stop.Trap channel) h = tt
  stop_needs (stop.Need n) h = h

  -- and what is needed is so where more may be
  pub answer_more : (more : ℕ) (a : Answer) → most ≤ more → AnswerNeeds store most p a → AnswerNeeds store more p a
  answer_more more (answer.Need n) less h = needed_more store most more p n less h
  answer_more more a less h = tt

-- What is needed with a map there is so once that is dropped, which named no page and was in a frame.
module _ {P : Type 0} (means : PagesMeaning P) (most : ℕ) (mid new : P) (fork : ForkName) (housed : AreHoused means mid) (housed' : AreHoused means new) (names : (n : PageName) → NamesPage means mid fork n → ⊥) (here : (means.scene mid).map_away fork ≡ None) (drops : DropsMap means fork mid new) where
  still_away : (home : ℕ) → place (means.store.homes mid) home ≡ away → place (means.store.homes new) home ≡ away
  still_away home h = elim (drops.homes home) [
    | inl same ↦ same ∙ h
    | inr gone ↦ absurd (by gone.1)
  ]
    where
      by : IsOfMap means mid fork home → ⊥
      by (inl own) = (let z : None ≡ Some home = sym here ∙ housed.map_homes fork ∙ ap (away_of (means.store.homes mid)) own ∙ ap (λ p. away_home p home) h in cc z)
      by (inr named) = names named.0 named.2

  pub dropped_needs : (s : Stop) → StopNeeds means.store most mid s → AnswerNeeds means.store (most + 1) new (stopped_by s)
  dropped_needs (stop.Trap channel) h = tt
  dropped_needs (stop.Need (need.Page home)) h = still_away home.0 h
  dropped_needs (stop.Need need.Frame) h = omega (arith, h, drops.frames names, housed.frames, housed'.frames)
