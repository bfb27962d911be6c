-- A turn of a call on maps, driven to its end, whose change is then made.
use Rattle.std.proofs.Common.{nat_cmp, ◌≡◌, ℕ, List, Option, Ok, Err, refl, sym, ◌∙◌, ap, subst, inl, inr}
use Rattle.std.specs.Option.{option_map, option_and_then}
use Rattle.machine_names.specs.declared.names.Slot.{Slot}
use Rattle.machine_names.specs.declared.names.Tty.{Tty}
use Rattle.page_contracts.specs.declared.answers.Need.{Need}
use Rattle.page_contracts.specs.declared.answers.Need.TheVariants as need
use Rattle.page_contracts.specs.Pages.{Scene}
use Rattle.plain_pages.specs.PlainPages.{NumberedPages}
use Rattle.plain_pages.specs.Maps.{entry_at}
use Rattle.plain_model.specs.declared.call.End.{End}
use Rattle.plain_model.specs.declared.call.End.TheVariants.{Done, Waits, Halts, Refused, Failed, Trap}
use Rattle.plain_model.specs.declared.call.MapChange.{MapChange}
use Rattle.plain_model.specs.declared.call.MapChange.TheVariants.{Nothing, Unmap, Follow, Narrow, Map, Put, Drop}
use Rattle.plain_model.specs.Calls.{Turn, Came, turn_on}
use Rattle.plain_model.specs.MapCalls.{MapAsked, map_call, map_changed}
use Rattle.plain_model.specs.Trees.{PlainTree}
use Rattle.file_tables.specs.declared.tables.FileTables.{FileTables}
use Rattle.call_turns.specs.declared.answer.Answer.{Answer}
use Rattle.call_turns.specs.declared.answer.Answer.TheVariants.{Need as Needs}
use Rattle.call_turns.specs.declared.turn.Outcome.{Outcome}
use Rattle.call_turns.specs.declared.turn.Turn.{Turn as Step}
use Rattle.call_turns.specs.Answers.{Went, IsTurn}
use Rattle.call_turns.specs.Granting.{pages_granted}
use Rattle.call_turns.specs.Needing.{DrivenTo, FirstNeeds, OneTouchNeeds, TurnNeeds, NoSteps}
use Rattle.call_turns.specs.Numbers.{by_number, numbered_turn}
use Rattle.call_turns.specs.Telling.{entry_need, looks_need}
use Rattle.call_turns.proofs.DrivenTurns.{turn_needs}
use Rattle.call_turns.proofs.Numbered.{comes_same, needs_same}
use Rattle.pmap_calls.specs.declared.stage.Stage.{Stage}
use Rattle.file_tables.specs.Keys.{key_of, seen_in}
use Rattle.pmap_calls.specs.Stages.{later, most_asks, whole}
use Rattle.pmap_calls.specs.Making.{ComesOut, EndNeeds, MapNeeds, change_need}

-- what an end needs is the same where no map and no entry of one is another
module _ (scene after : Scene) (p q : NumberedPages) (away : after.map_away ≡ scene.map_away) (maps : q.maps ≡ p.maps) where
  entry_same : (s : Slot) → entry_need after q s ≡ entry_need scene p s
  entry_same s = λ i. option_and_then (λ e. option_map (λ home. need.Page (record { 0 = home })) (away i s.fork)) (entry_at (maps i) s)

  change_same : (what : MapChange) → change_need after q what ≡ change_need scene p what
  change_same Nothing = refl
  change_same (Unmap s) = entry_same s
  change_same (Follow s t a) = entry_same s
  change_same (Narrow s a) = entry_same s
  change_same (Map s name page a) = entry_same s
  change_same (Put name page s) = refl
  change_same (Drop name page) = refl

  end_stays : (e : End MapChange) (n : Need) → EndNeeds scene p e n → EndNeeds after q e n
  end_stays (Done what regs out post) n h = change_same what ∙ h
  end_stays (Waits on) n h = absurd h
  end_stays Halts n h = absurd h
  end_stays (Refused code) n h = absurd h
  end_stays (Failed code) n h = absurd h
  end_stays (Trap channel) n h = absurd h

module _ (tables : FileTables) (tree : PlainTree) (owner : Tty) (step : Step MapChange Stage) (scene : Scene) (p : NumberedPages) where
  abbrev t : Turn ℕ MapChange
  t = whole owner tree step

  abbrev came : Came nat_cmp MapChange
  came = turn_on (by_number (seen_in tables)) p t

  abbrev looks : Option Need
  looks = looks_need (by_number (seen_in tables)) scene p t

  module _ (q : NumberedPages) (number : ℕ) (a : MapAsked) (is : t ≡ numbered_turn (key_of tables) (map_call number a)) where
    abbrev call : Turn (List ℕ) MapChange
    call = map_call number a

    -- it comes out as the plain call
    comes : came ≡ turn_on (seen_in tables) p call
    comes = ap (turn_on (by_number (seen_in tables)) p) is ∙ comes_same (seen_in tables) (key_of tables) (λ name. refl) call p

    -- what its looks need, and else what its end needs
    needs : (n : Need) → FirstNeeds looks (EndNeeds scene p came.end n) n → MapNeeds tables scene p call n
    needs n h =
        let by_numbers = turn_needs (later tree) (seen_in tables) scene p owner NoSteps EndNeeds (λ after r e m away maps. end_stays scene after p r away maps e m) step most_asks n h in
        let named = subst (λ x. TurnNeeds (by_number (seen_in tables)) NoSteps OneTouchNeeds EndNeeds scene p x n) is by_numbers in
        subst (λ (x : Type 0). x) (needs_same (seen_in tables) (key_of tables) (λ name. refl) NoSteps OneTouchNeeds EndNeeds call scene p n) named

    abbrev Goes : Answer → Came nat_cmp MapChange → Type 0
    Goes answer c = Went (map_changed (key_of tables)) p c.pages q answer c.end

    -- its change is made, or needs something first
    pub ends_so : (answer : Answer) (o : Outcome MapChange) → DrivenTo (by_number (seen_in tables)) scene p owner t (Ok o)
        → IsTurn (EndNeeds scene p o.end) (map_changed (key_of tables)) p (pages_granted p owner o.grant) q answer o.end → ComesOut tables scene p q answer call
    ends_so answer o driven (inl w) = inl (subst (Goes answer) (sym driven.1 ∙ comes) w)
    ends_so answer o driven (inr w) =
        let last : EndNeeds scene p came.end w.need = subst (λ (c : Came nat_cmp MapChange). EndNeeds scene p c.end w.need) (sym driven.1) w.reason in
        inr (record { need = w.need; answered = w.answered; reason = needs w.need (subst (λ o. FirstNeeds o (EndNeeds scene p came.end w.need) w.need) (sym driven.0) last); left = w.left })

  -- a look or the reference needs something first
  pub waits_so : (number : ℕ) (a : MapAsked) → t ≡ numbered_turn (key_of tables) (map_call number a) → (n : Need) → DrivenTo (by_number (seen_in tables)) scene p owner t (Err n) → ComesOut tables scene p p (Needs n) (map_call number a)
  waits_so number a is n driven = inr (record { need = n; answered = refl; reason = needs p number a is n (subst (λ o. FirstNeeds o (EndNeeds scene p came.end n) n) (sym driven) refl); left = refl })
