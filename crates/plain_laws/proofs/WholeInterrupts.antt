-- What pseudo-interrupts leave of a whole state: forks that stop, channels that are posted and delivered, and the calls on them.
use Rattle.std.proofs.Common.{◌≡◌, ℕ, ◌%◌, Bool, true, false, List, [], ◌∷◌, None, Some, refl, ◌∙◌, ap, subst, sym}
use Rattle.std.specs.Prelude.{is_some}
use Rattle.std.specs.List.{list_any}
use Rattle.std.specs.Cmp.Lexicographic.{nat_list_cmp_total}
use Rattle.std.specs.FinMap as map
use Rattle.std.proofs.lemmas.Bool.{cond_both}
use Rattle.outside.specs.declared.TheConstants.{PAGE_WORDS}
use Rattle.machine_names.specs.Bounds.{IsOwner}
use Rattle.machine_names.specs.declared.names.ForkName.{ForkName}
use Rattle.machine_names.specs.declared.names.Tty.{Tty}
use Rattle.plain_pages.specs.PlainPages.{NamedPages}
use Rattle.plain_pages.specs.References.{in_map, slot_at}
use Rattle.plain_units.specs.Blocks.{steps_on}
use Rattle.plain_units.specs.Steps.{Steps, begun, is_accumulator, put_into}
use Rattle.plain_units.proofs.Lookups.{looked_up}
use Rattle.plain_units.proofs.PageRuns.{Keeps, PlanLeaves, kept_itself, kept_on, run_kept, stored_kept, stored_maps}
use Rattle.plain_model.specs.declared.call.End.{End}
use Rattle.plain_model.specs.declared.call.End.TheVariants.{Done, Waits, Halts, Refused, Failed, Trap}
use Rattle.plain_model.specs.declared.call.InterruptChange.{InterruptChange}
use Rattle.plain_model.specs.declared.call.InterruptChange.TheVariants.{Become, Post, Assign, Unassign}
use Rattle.plain_model.specs.declared.call.SleepChange.{SleepChange}
use Rattle.plain_model.specs.declared.call.SleepChange.TheVariants as sleep
use Rattle.plain_model.specs.ClockCalls.{clock_changed, without_moment}
use Rattle.plain_model.specs.declared.fork.Fork.{Fork}
use Rattle.plain_model.specs.declared.fork.TerminalMode.TheVariants.{Command}
use Rattle.plain_model.specs.declared.interrupt.Delivery.{Delivery}
use Rattle.plain_model.specs.Calls.{Asked, parts_behind}
use Rattle.plain_model.specs.Families.{asks, interrupts_changed}
use Rattle.plain_model.specs.Forks.{ForkMap, counted, with_fork}
use Rattle.plain_model.specs.Inspections.{delivered, inspected, interrupted_word}
use Rattle.plain_model.specs.InterruptCalls.{interrupt_changed}
use Rattle.plain_model.specs.Interrupts.{channels_of, forces, posted, posted_all}
use Rattle.plain_model.specs.Posting.{told_if}
use Rattle.plain_model.specs.State.{PlainState}
use Rattle.plain_model.specs.Trees.{next_serial, tree_of, with_body}
use Rattle.plain_model.specs.TypeEvents.{channel_posted, posted_at}
use Rattle.plain_model.specs.Unit.{in_command_mode, parts_of, stopped, taken_up, with_parts}
use Rattle.plain_model.proofs.Calling.{clock_called, clock_came, interrupt_came, interrupt_called}
use Rattle.plain_model.proofs.Posted.{IsSame, posted_same}
use Rattle.plain_laws.specs.Whole.{AreGiven, IsWholeMachine}
use Rattle.plain_laws.proofs.GivenSerials.{run_given}
use Rattle.plain_laws.proofs.Inspected.{inspected_keeps}
use Rattle.plain_laws.proofs.InterruptEnds.{interrupt_ends}
use Rattle.plain_laws.proofs.WholeCommands.{Leaves}
use Rattle.plain_laws.proofs.WholeForks.{changed_if, codes_whole, job_whole, keeps_whole, put, sound, told_whole}
use Rattle.plain_laws.proofs.WholeJfns.{both_leave}
use Rattle.plain_model.proofs.Shorthands.{with_stopped}

posted_all_same : (f : Fork) (channels : List ℕ) → IsSame f (posted_all f channels)
posted_all_same f [] = (refl, refl, refl)
posted_all_same f (channel ∷ channels) = let one = posted_same f channel in let more = posted_all_same (posted f channel) channels in (more.0 ∙ one.0, more.1 ∙ one.1, more.2 ∙ one.2)

mode_whole : (s : PlainState) → IsWholeMachine s → (t : Tty) → IsWholeMachine (in_command_mode s t)
mode_whole s w t = looked_up IsWholeMachine _ s (map.get s.jobs t.0) (λ j is. job_whole s w t.0 j (record j { mode = Command }) is refl (w.files.jfns t.0 j is)) (λ none. w)

module _ (s : PlainState) (w : IsWholeMachine s) (name : ForkName) (f : Fork) (there : map.get s.forks name ≡ Some f) where
  -- a fork stops, or may
  pub stopped_whole : (g : Fork) → IsSame f g → Leaves (stopped s g)
  stopped_whole g same =
      let t = with_stopped s g in let m : IsWholeMachine t = told_whole (with_fork s g) (put s w name f there g same) g in
      cond_both (is_some g.superior) _ _ Leaves (λ below. m) (λ top. mode_whole t m g.name.tty)

  told_if_whole : (ended : Bool) (g : Fork) → IsSame f g → IsWholeMachine (record s { forks = told_if ended s.forks g })
  told_if_whole true g same = told_whole (with_fork s g) (put s w name f there g same) g
  told_if_whole false g same = put s w name f there g same

-- a channel is posted to the fork that has assigned a character
pub posted_at_whole : (s : PlainState) → IsWholeMachine s → (name : ForkName) (channel : ℕ) → Leaves (posted_at s name channel)
posted_at_whole s w name channel = looked_up Leaves (channel_posted s channel) _ (map.get s.forks name)
    (λ f there. cond_both (forces f.body.psi channel) _ _ Leaves (λ forced. stopped_whole s w name f there (posted f channel) (posted_same f channel)) (λ goes. put s w name f there (posted f channel) (posted_same f channel))) (λ none. w)

-- A CALL ON THE CLOCK LEAVES A WHOLE STATE WHOLE
module _ (s : PlainState) (w : IsWholeMachine s) (f : Fork) where
  sleep_whole : (change : SleepChange) → IsWholeMachine (record s { forks = (clock_changed change (tree_of s)).forks; fork_serials = (clock_changed change (tree_of s)).serials })
  unfolding clock_changed
  sleep_whole sleep.Nothing = w
  sleep_whole (sleep.Awakes g) = changed_if s w without_moment (λ h. (refl, refl, refl)) (map.get s.forks g) (λ h is. ap (map.get s.forks) (w.tree.slotted.own g h is) ∙ is)

  pub clock_called_whole : (number : ℕ) → IsWholeMachine (clock_called s f number)
  unfolding parts_behind
  clock_called_whole number = by (clock_came s f number).end
    where
      by : (e : End SleepChange) → IsWholeMachine (with_parts s (record (parts_of s) { tree = parts_behind clock_changed (tree_of s) (tree_of s) e }))
      by (Done change regs out post) = sleep_whole change
      by (Waits on) = w
      by Halts = w
      by (Refused code) = w
      by (Failed code) = w
      by (Trap channel) = w

-- pages that steps of a fork have made
module _ (s : PlainState) (w : IsWholeMachine s) where
  abbrev After : NamedPages → Type 0
  After q = Keeps s.pages q × AreGiven (next_serial (tree_of s)) q.maps

  at_first : After s.pages
  at_first = (kept_itself s.pages (sound s w), w.given)

  module _ (f : Fork) (own : IsOwner f.name.tty) where
    runs_on : (q : NamedPages) → After q → (steps : Steps) → PlanLeaves After f.name (steps_on f.name f.body.regs steps q)
    runs_on q k steps = both_leave (λ (r : NamedPages). Keeps s.pages r) (λ (r : NamedPages). AreGiven (next_serial (tree_of s)) r.maps) f.name (steps_on f.name f.body.regs steps q)
        (run_kept nat_list_cmp_total s.pages f.name own steps (begun q f.body.regs.ac) k.0) (run_given (next_serial (tree_of s)) nat_list_cmp_total f.name steps (begun q f.body.regs.ac) k.1)

    -- A CHANNEL THAT IS DELIVERED LEAVES A WHOLE STATE WHOLE: its PC word is stored
    pub taken_whole : (name : ForkName) → map.get s.forks name ≡ Some f → (d : Delivery) → Leaves (taken_up s (inspected f s.pages).pages f d)
    taken_whole name there d =
        let q = (inspected f s.pages).pages in
        let k = inspected_keeps f After runs_on s.pages at_first in
        let at = in_map (slot_at f.name d.at) in
        cond_both (is_accumulator d.at) None (Some (record { at = d.at; word = interrupted_word f.body.regs })) (λ x. Leaves (record { state = with_fork (record s { pages = put_into f.name q x }) (counted (delivered f d)); items = [] }))
        (λ low. put (record s { pages = q }) (keeps_whole s w q k.0 k.1) name f there (counted (delivered f d)) (refl, refl, refl))
        (λ high. let r = put_into f.name q (Some (record { at = d.at; word = interrupted_word f.body.regs })) in
        let kept = kept_on s.pages q r k.0 (stored_kept q at (d.at % PAGE_WORDS) (interrupted_word f.body.regs) nat_list_cmp_total k.0.sound) in
        put (record s { pages = r }) (keeps_whole s w r kept (subst (AreGiven (next_serial (tree_of s))) (sym (stored_maps q at (d.at % PAGE_WORDS) (interrupted_word f.body.regs))) k.1)) name f there (counted (delivered f d)) (refl, refl, refl))

    change_whole : (q : NamedPages) → After q → (change : InterruptChange) → IsWholeMachine (with_parts s (interrupts_changed change (record (parts_of s) { pages = q })))
    unfolding interrupt_changed
    change_whole q k (Become g body) = changed_if (record s { pages = q }) (keeps_whole s w q k.0 k.1) (with_body body) (λ h. (refl, refl, refl)) (map.get s.forks g) (λ h is. ap (map.get s.forks) (w.tree.slotted.own g h is) ∙ is)
    change_whole q k (Post g word) = looked_up (λ (forks : ForkMap). IsWholeMachine (record s { pages = q; forks = forks })) _ s.forks (map.get s.forks g)
        (λ h is. told_if_whole (record s { pages = q }) (keeps_whole s w q k.0 k.1) g h is (list_any (forces h.body.psi) (channels_of word)) (posted_all h (channels_of word)) (posted_all_same h (channels_of word))) (λ none. keeps_whole s w q k.0 k.1)
    change_whole q k (Assign code g channel) = codes_whole (record s { pages = q }) (keeps_whole s w q k.0 k.1) g.tty (λ codes. map.insert codes code (g, channel))
    change_whole q k (Unassign t code) = codes_whole (record s { pages = q }) (keeps_whole s w q k.0 k.1) t (λ codes. map.remove codes code)

    -- SO DOES A CALL ON PSEUDO-INTERRUPTS
    pub interrupt_called_whole : (number : ℕ) → IsWholeMachine (interrupt_called s f number)
    unfolding parts_behind
    interrupt_called_whole number = (let both = interrupt_ends a w.tree.slotted.own After runs_on s.pages at_first number in by (interrupt_came s f number).end both.1)
      where
        a : Asked
        a = asks (parts_of s) f.name f.body.regs

        by : (e : End InterruptChange) → After (interrupt_came s f number).pages → IsWholeMachine (with_parts s (parts_behind interrupts_changed (parts_of s) (record (parts_of s) { pages = (interrupt_came s f number).pages }) e))
        by (Done change regs out post) h = change_whole (interrupt_came s f number).pages h change
        by (Waits on) h = w
        by Halts h = w
        by (Refused code) h = w
        by (Failed code) h = w
        by (Trap channel) h = w
