-- A turn that knows files by keys comes out as the one that knows them by their numbers, and needs the same first.
use Rattle.std.proofs.Common.{◌≡◌, ◌⊎◌, ℕ, true, false, Some, refl, sym, ◌∙◌, ap, nat_cmp}
use Rattle.std.proofs.Math.Path.{fun_ext}
use Rattle.std.specs.Option.{option_map, option_map_or, option_and_then}
use Rattle.page_contracts.specs.declared.answers.Need.{Need}
use Rattle.page_contracts.specs.Pages.{Scene, TakesMap}
use Rattle.machine_names.specs.declared.names.ForkName.{ForkName}
use Rattle.machine_names.specs.declared.names.Tty.{Tty}
use Rattle.machine_names.specs.declared.names.Kind.{Kind}
use Rattle.plain_pages.specs.PlainPages.{NumberedPages}
use Rattle.plain_pages.specs.Room.{HasRoom}
use Rattle.plain_pages.specs.References.{Spot, in_map, in_file, Referred, granted, denied, full, page_at, reference, word_at}
use Rattle.plain_pages.specs.NewMaps.{with_map}
use Rattle.plain_units.specs.declared.registers.Regs.{Regs}
use Rattle.plain_units.specs.Steps.{Steps, Ending, Planned, done, call, trap, need, stopped, pages_left}
use Rattle.plain_units.specs.Blocks.{steps_on}
use Rattle.plain_model.specs.declared.call.End.{End}
use Rattle.plain_model.specs.declared.call.End.TheVariants.{Trap}
use Rattle.plain_model.specs.declared.call.Touched.{Touched}
use Rattle.plain_model.specs.declared.call.Touched.TheVariants.{Granted, Denied, Full}
use Rattle.plain_model.specs.Calls.{Turn, sees, finds, reads, touches, takes, adds, looks, makes, ends, Sight, entry_of, spot_of, stepped, touched, with_added, turn_on}
use Rattle.call_turns.specs.Numbers.{by_number, numbered_spot, numbered_turn}
use Rattle.call_turns.specs.Needing.{FirstNeeds, NeedsFrame, SpotNeeds, TurnNeeds}
use Rattle.call_turns.specs.Telling.{entry_need, find_need, word_need}

module _ {F : Type 0} (seen : Sight F ℕ) (number : F → ℕ) (all : (f : F) → seen.file_of f ≡ Some (number f)) where
  -- a spot is the same
  spot_same : (at : Spot F) → spot_of (by_number seen) (numbered_spot number at) ≡ spot_of seen at
  spot_same (in_map s) = refl
  spot_same (in_file f) = sym (ap (option_map (λ (k : ℕ). in_file (record { file = k; page = f.page }))) (all f.file))

module _ {F C : Type 0} (seen : Sight F ℕ) (number : F → ℕ) (all : (f : F) → seen.file_of f ≡ Some (number f)) where
  abbrev Same : Turn F C → Type 0
  Same t = (p : NumberedPages) → turn_on (by_number seen) p (numbered_turn number t) ≡ turn_on seen p t

  module _ (p : NumberedPages) where
    referred_same : (next : Touched → Turn F C) → ((what : Touched) → Same (next what)) → (r : Referred nat_cmp)
        → touched p r (λ q what. turn_on (by_number seen) q (numbered_turn number (next what))) ≡ touched p r (λ q what. turn_on seen q (next what))
    referred_same next rest (granted q) = rest Granted q
    referred_same next rest (denied k) = rest Denied p
    referred_same next rest full = rest Full p

    stepped_same : (f : ForkName) (next : Ending → Turn F C) → ((e : Ending) → Same (next e)) → (r : Planned nat_cmp ⊥)
        → stepped f r (λ q e. turn_on (by_number seen) q (numbered_turn number (next e))) (λ channel. record { end = Trap channel; pages = p }) ≡ stepped f r (λ q e. turn_on seen q (next e)) (λ channel. record { end = Trap channel; pages = p })
    stepped_same f next rest (done t e) = rest e (pages_left f t e)
    stepped_same f next rest (stopped (trap channel)) = refl
    stepped_same f next rest (stopped (need none)) = absurd none
    stepped_same f next rest (call number) = refl

  -- IT COMES OUT THE SAME
  pub comes_same : (t : Turn F C) → Same t
  unfolding turn_on
  comes_same (sees s next) p = comes_same (next (entry_of p s)) p
  comes_same (finds at next) p =
      ap (λ s. turn_on (by_number seen) p (numbered_turn number (next (option_and_then (page_at p) s)))) (spot_same seen number all at) ∙ comes_same (next (option_and_then (page_at p) (spot_of seen at))) p
  comes_same (reads f offset next) p =
      ap (λ s. turn_on (by_number seen) p (numbered_turn number (next (option_map_or (λ at. word_at p at offset) s 0)))) (spot_same seen number all (in_file f)) ∙ comes_same (next (option_map_or (λ at. word_at p at offset) (spot_of seen (in_file f)) 0)) p
  comes_same (touches owner at kind next) p =
      ap (λ s. touched p (option_map_or (λ s. reference p s kind owner) s (denied kind)) (λ q what. turn_on (by_number seen) q (numbered_turn number (next what)))) (spot_same seen number all at)
      ∙ referred_same p next (λ what. comes_same (next what)) (option_map_or (λ s. reference p s kind owner) (spot_of seen at) (denied kind))
  comes_same (takes f regs steps next) p = stepped_same p f next (λ e. comes_same (next e)) (steps_on f regs steps p)
  comes_same (adds f entries next) p = let room = HasRoom (with_map p f entries) f.tty in comes_same (next room) (with_added p f entries room)
  comes_same (looks name next) p = comes_same (next (seen.is_name name)) p
  comes_same (makes name next) p = comes_same (next seen.has_more) p
  comes_same (ends e) p = refl

  module _ (StepsNeed : Scene → NumberedPages → ForkName → Regs → Steps → (Scene → NumberedPages → Ending → Type 0) → Need → Type 0)
      (TouchNeeds : Scene → NumberedPages → Tty → Spot ℕ → Kind → (Scene → NumberedPages → Touched → Type 0) → Need → Type 0)
      (EndNeeds : Scene → NumberedPages → End C → Need → Type 0) where
    abbrev By : Scene → NumberedPages → Turn F C → Need → Type 0
    By scene p t n = TurnNeeds (by_number seen) StepsNeed TouchNeeds EndNeeds scene p (numbered_turn number t) n

    abbrev Of : Scene → NumberedPages → Turn F C → Need → Type 0
    Of scene p t n = TurnNeeds seen StepsNeed TouchNeeds EndNeeds scene p t n

    -- IT NEEDS THE SAME
    pub needs_same : (t : Turn F C) (scene : Scene) (p : NumberedPages) (n : Need) → By scene p t n ≡ Of scene p t n
    needs_same (sees s next) scene p n = ap (λ later. FirstNeeds (entry_need scene p s) later n) (needs_same (next (entry_of p s)) scene p n)
    needs_same (finds at next) scene p n =
        ap (λ s. FirstNeeds (find_need scene p s) (By scene p (next (option_and_then (page_at p) s)) n) n) (spot_same seen number all at)
        ∙ ap (λ later. FirstNeeds (find_need scene p (spot_of seen at)) later n) (needs_same (next (option_and_then (page_at p) (spot_of seen at))) scene p n)
    needs_same (reads f offset next) scene p n =
        ap (λ s. FirstNeeds (word_need scene p s) (By scene p (next (option_map_or (λ at. word_at p at offset) s 0)) n) n) (spot_same seen number all (in_file f))
        ∙ ap (λ later. FirstNeeds (word_need scene p (spot_of seen (in_file f))) later n) (needs_same (next (option_map_or (λ at. word_at p at offset) (spot_of seen (in_file f)) 0)) scene p n)
    needs_same (touches owner at kind next) scene p n =
        ap (λ s. SpotNeeds (by_number seen) StepsNeed TouchNeeds EndNeeds scene p owner s kind (λ after q what. By after q (next what) n) n) (spot_same seen number all at)
        ∙ ap (λ (later : Scene → NumberedPages → Touched → Type 0). SpotNeeds seen StepsNeed TouchNeeds EndNeeds scene p owner (spot_of seen at) kind later n)
        (fun_ext (λ after. fun_ext (λ q. fun_ext (λ what. needs_same (next what) after q n))))
    needs_same (takes f regs steps next) scene p n =
        ap (λ (later : Scene → NumberedPages → Ending → Type 0). StepsNeed scene p f regs steps later n) (fun_ext (λ after. fun_ext (λ q. fun_ext (λ e. needs_same (next e) after q n))))
    needs_same (adds f entries next) scene p n =
        ap (λ (both : (Scene → Type 0) × Type 0). NeedsFrame scene p f entries n ⊎ (((HasRoom (with_map p f entries) f.tty ≡ true) × ((after : Scene) × TakesMap scene after f × both.0 after)) ⊎ ((HasRoom (with_map p f entries) f.tty ≡ false) × both.1)))
        (λ i. ((λ after. needs_same (next true) after (with_map p f entries) n i), needs_same (next false) scene p n i))
    needs_same (looks name next) scene p n = needs_same (next (seen.is_name name)) scene p n
    needs_same (makes name next) scene p n = needs_same (next seen.has_more) scene p n
    needs_same (ends e) scene p n = refl
