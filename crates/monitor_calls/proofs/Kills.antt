-- Which fork calls kill forks, and whose.
use Rattle.std.proofs.Common.{◌≡◌, ℕ, ◌==◌, Bool, true, false, cond, List, [], Result, Ok, Err, refl, sym, ◌∙◌, ap, subst, inl, inr, Ordering}
use Rattle.std.specs.Prelude.{nat_lt, replicate}
use Rattle.std.proofs.lemmas.Bool.{cond_both}
use Rattle.std.proofs.lemmas.Bool.Decides.{eqb_tells}
use Rattle.machine_names.specs.declared.names.ForkName.{ForkName}
use Rattle.machine_names.specs.declared.names.TheConstants.{ACCUMULATORS, LAST_SERIAL}
use Rattle.machine_names.specs.declared.names.Kind.{Kind}
use Rattle.machine_names.specs.declared.names.Kind.TheVariants.{Read, Write}
use Rattle.script_texts.specs.declared.status.ForkStatus.{ForkStatus}
use Rattle.script_texts.specs.declared.status.ForkStatus.TheVariants.{Run as Running, Wait, Halted, Forced}
use Rattle.word36.specs.Words.{bit}
use Rattle.plain_pages.specs.PlainPages.{PlainPages}
use Rattle.plain_units.proofs.Lookups.{looked_up}
use Rattle.plain_units.proofs.PageRuns.{PlanLeaves}
use Rattle.plain_units.specs.Blocks.{block_steps, steps_on}
use Rattle.plain_units.specs.Deeds.{in_ac}
use Rattle.plain_units.specs.Steps.{Planned, call, done, stopped}
use Rattle.plain_units.specs.declared.channel.TheConstants.{ILLEGAL_INSTRUCTION}
use Rattle.plain_model.proofs.ForkEnds.{named_below}
use Rattle.plain_model.proofs.Turns.{adds_comes, takes_comes}
use Rattle.plain_model.specs.Calls.{Asked, Turn, adds, ends, given, no_files, turn_on, with_block}
use Rattle.plain_model.specs.ForkCalls.{address_named, fork_call, inferior_named, making, making_in, map_wanted, of_inferior, own_named, rfacs, sfacs, with_accumulators}
use Rattle.plain_model.specs.Forks.{ForkMap}
use Rattle.plain_model.specs.Inferiors.{is_inferior}
use Rattle.plain_model.specs.Trees.{free_slot, next_name, next_serial}
use Rattle.plain_model.specs.declared.call.End.{End}
use Rattle.plain_model.specs.declared.call.End.TheVariants.{Done, Halts, Refused, Failed, Trap}
use Rattle.plain_model.specs.declared.call.ForkChange.{ForkChange}
use Rattle.plain_model.specs.declared.call.ForkChange.TheVariants.{Kill}
use Rattle.plain_model.specs.declared.call.TheConstants.{CFORK, KFORK, FFORK, RFORK, RFSTS, SFORK, SFACS, RFACS, HFORK, WFORK, HALTF, FORKS_FULL, SERIALS_OUT, NO_ROOM}
use Rattle.plain_model.specs.declared.fork.Fork.{Fork}
use Rattle.plain_model.proofs.Shorthands.{waits_for}

-- a change that kills none; and the end of a turn whose change, if it is done, is none that kills, or is one of forks below a caller
abbrev KillsNone : ForkChange → Type 0
KillsNone (Kill f) = ⊥
KillsNone change = Unit {0}

abbrev EndsNone : End ForkChange → Type 0
EndsNone (Done change regs out post) = KillsNone change
EndsNone e = Unit {0}

abbrev EndsBelow : ForkMap → ForkName → End ForkChange → Type 0
EndsBelow forks who (Done change regs out post) = (f : ForkName) × (change ≡ Kill f) × (is_inferior forks who f ≡ true)
EndsBelow forks who e = Unit {0}

-- the end of a fork call of a caller: it kills exactly where this is so
abbrev pub KillsIf : Bool → ForkMap → ForkName → End ForkChange → Type 0
KillsIf true forks who e = EndsBelow forks who e
KillsIf false forks who e = EndsNone e

module _ {K : Type 0} {file_cmp : K → K → Ordering} (a : Asked) (p : PlainPages file_cmp) where
  module _ (HoldsOf : End ForkChange → Type 0) where
    abbrev Holds : Turn ⊥ ForkChange → Type 0
    Holds t = HoldsOf (turn_on no_files p t).end

    given_holds : (r : Result Fork ℕ) (next : Fork → Turn ⊥ ForkChange) → ((code : ℕ) → HoldsOf (Refused code)) → ((f : Fork) → r ≡ Ok f → Holds (next f)) → Holds (given r next)
    unfolding turn_on
    given_holds (Err code) next refuses goes = refuses code
    given_holds (Ok f) next refuses goes = goes f refl

    over_holds : (q : PlainPages file_cmp) (e : End ForkChange) → HoldsOf e → HoldsOf (turn_on no_files q (ends e)).end
    unfolding turn_on
    over_holds q e holds = holds

  anyhow : (r : Planned file_cmp ⊥) → PlanLeaves (λ q. Unit {0}) a.who r
  anyhow (done t e) = tt
  anyhow (stopped why) = tt
  anyhow (call number) = tt

  abbrev None : Turn ⊥ ForkChange → Type 0
  None t = EndsNone (turn_on no_files p t).end

  block_none : (at : ℕ) (kind : Kind) (q : PlainPages file_cmp) (next : List ℕ → End ForkChange) → ((words : List ℕ) → EndsNone (next words)) → EndsNone (turn_on no_files q (with_block a.who a.regs at kind (λ words. ends (next words)))).end
  block_none at kind q next goes =
      takes_comes no_files q (λ e r. EndsNone e) (λ r. Unit {0}) a.who a.regs (block_steps ACCUMULATORS at kind [] a.regs) (λ e. ends (next e.regs.ac)) (anyhow (steps_on a.who a.regs (block_steps ACCUMULATORS at kind [] a.regs) q))
      (λ r e any. over_holds EndsNone r (next e.regs.ac) (goes e.regs.ac)) (λ channel. tt)

  of_none : (change : Fork → ForkChange) → ((f : Fork) → KillsNone (change f)) → None (of_inferior change a)
  of_none change none = given_holds EndsNone (inferior_named a) _ (λ code. tt) (λ f is. over_holds EndsNone p _ (none f))

  abbrev added : ℕ → Bool → Turn ⊥ ForkChange
  added slot room = cond room (with_accumulators a (λ words. ends (making a slot words))) (ends (Failed NO_ROOM))

  made_none : (slot : ℕ) (q : PlainPages file_cmp) → EndsNone (turn_on no_files q (with_accumulators a (λ words. ends (making a slot words)))).end
  made_none slot q =
      cond_both (bit (in_ac a.regs 1) 3 == 1) _ _ (λ t. EndsNone (turn_on no_files q t).end)
      (λ reads. block_none (address_named a.regs) Read q (making a slot) (λ words. tt)) (λ none. over_holds EndsNone q (making a slot (replicate ACCUMULATORS 0)) tt)

  making_none : (slot : ℕ) → None (making_in a slot)
  making_none slot =
      cond_both (nat_lt LAST_SERIAL (next_serial a.tree a.who.tty)) (ends (Failed SERIALS_OUT)) (adds (next_name a.tree a.who.tty) (map_wanted a) (added slot)) None (λ out. over_holds EndsNone p (Failed SERIALS_OUT) tt)
      (λ few. adds_comes no_files p (λ e q. EndsNone e) (next_name a.tree a.who.tty) (map_wanted a) (added slot) (λ room. made_none slot _) (λ none. over_holds EndsNone p (Failed NO_ROOM) tt))

  cfork_none : None (fork_call CFORK a)
  cfork_none = looked_up None (making_in a) (ends (Failed FORKS_FULL)) (free_slot a.tree.forks a.who.tty) (λ slot is. making_none slot) (λ none. over_holds EndsNone p (Failed FORKS_FULL) tt)

  waits_none : (status : ForkStatus) → EndsNone (waits_for a.regs status)
  waits_none Running = tt
  waits_none (Wait on) = tt
  waits_none Halted = tt
  waits_none (Forced channel) = tt

  -- one number is not another
  apart : (n m k : ℕ) → (n == m) ≡ true → (k == n) ≡ false → (k == m) ≡ false
  apart n m k is other = elim (eqb_tells n m) [
    | inl same ↦ ap (λ x. k == x) (sym same.1) ∙ other
    | inr differ ↦ absurd (let both : true ≡ false = sym is ∙ differ.0 in cc both)
  ]

  -- THE FORK CALL THAT KILLS, of a number
  pub call_kills : (number : ℕ) → KillsIf (KFORK == number) a.tree.forks a.who (turn_on no_files p (fork_call number a)).end
  call_kills number =
      cond_both (CFORK == number) _ _ Goes (λ is. off CFORK is refl (fork_call CFORK a) cfork_none) (λ n1.
      cond_both (KFORK == number) _ _ Goes (λ is. on is) (λ n2.
      cond_both (FFORK == number) _ _ Goes (λ is. off FFORK is refl _ (of_none _ (λ f. tt))) (λ n3.
      cond_both (RFORK == number) _ _ Goes (λ is. off RFORK is refl _ (of_none _ (λ f. tt))) (λ n4.
      cond_both (RFSTS == number) _ _ Goes (λ is. off RFSTS is refl (fork_call RFSTS a) (given_holds EndsNone (own_named a) _ (λ code. tt) (λ f same. over_holds EndsNone p _ tt))) (λ n5.
      cond_both (SFORK == number) _ _ Goes (λ is. off SFORK is refl _ (of_none _ (λ f. tt))) (λ n6.
      cond_both (SFACS == number) _ _ Goes (λ is. off SFACS is refl (sfacs a) (given_holds EndsNone (inferior_named a) _ (λ code. tt) (λ f same. block_none (address_named a.regs) Read p _ (λ words. tt)))) (λ n7.
      cond_both (RFACS == number) _ _ Goes (λ is. off RFACS is refl (rfacs a) (given_holds EndsNone (inferior_named a) _ (λ code. tt) (λ f same. block_none (address_named a.regs) Write p _ (λ words. tt)))) (λ n8.
      cond_both (HFORK == number) _ _ Goes (λ is. off HFORK is refl _ (of_none _ (λ f. tt))) (λ n9.
      cond_both (WFORK == number) _ _ Goes (λ is. off WFORK is refl (fork_call WFORK a) (given_holds EndsNone (inferior_named a) _ (λ code. tt) (λ f same. over_holds EndsNone p _ (waits_none f.body.status)))) (λ n10.
      cond_both (HALTF == number) _ _ Goes (λ is. off HALTF is refl (ends Halts) (over_holds EndsNone p Halts tt)) (λ n11. still n2 (ends (Trap ILLEGAL_INSTRUCTION)) (over_holds EndsNone p (Trap ILLEGAL_INSTRUCTION) tt))))))))))))
    where
      Goes : Turn ⊥ ForkChange → Type 0
      Goes t = KillsIf (KFORK == number) a.tree.forks a.who (turn_on no_files p t).end

      still : (KFORK == number) ≡ false → (t : Turn ⊥ ForkChange) → None t → Goes t
      still misses t none = subst (λ b. KillsIf b a.tree.forks a.who (turn_on no_files p t).end) (sym misses) none

      off : (n : ℕ) → (n == number) ≡ true → (KFORK == n) ≡ false → (t : Turn ⊥ ForkChange) → None t → Goes t
      off n is other t none = still (apart n number KFORK is other) t none

      on : (KFORK == number) ≡ true → Goes (of_inferior (λ f. Kill f.name) a)
      on is =
          subst (λ b. KillsIf b a.tree.forks a.who (turn_on no_files p (of_inferior (λ (f : Fork). Kill f.name) a)).end) (sym is)
          (given_holds (EndsBelow a.tree.forks a.who) (inferior_named a) _ (λ code. tt) (λ f same. over_holds (EndsBelow a.tree.forks a.who) p _ (f.name, refl, named_below a f same)))
