-- How the turn of a fork call ends: whom its change names, and what it has made of the pages.
use Rattle.std.proofs.Common.{◌≡◌, ℕ, Bool, true, false, cond, List, [], None, Some, Result, Ok, Err, refl, sym, ◌∙◌, ap, Ordering, inl}
use Rattle.std.specs.Prelude.{nat_lt, replicate, ◌==◌}
use Rattle.std.specs.Option.{option_map}
use Rattle.std.specs.Cmp.{IsTotalOrder}
use Rattle.std.specs.FinMap as map
use Rattle.std.proofs.lemmas.Bool.{cond_both}
use Rattle.word36.specs.Words.{bit}
use Rattle.plain_model.specs.declared.call.TheConstants.{CFORK, KFORK, FFORK, RFORK, RFSTS, SFORK, SFACS, RFACS, HFORK, WFORK, HALTF, NO_INFERIOR, FORKS_FULL, SERIALS_OUT, NO_ROOM}
use Rattle.plain_model.specs.declared.call.End.{End}
use Rattle.plain_model.specs.declared.call.End.TheVariants.{Done, Waits, Halts, Refused, Failed, Trap}
use Rattle.plain_model.specs.declared.call.ForkChange.{ForkChange}
use Rattle.plain_model.specs.declared.call.ForkChange.TheVariants.{Nothing, Make, Kill, Freeze, Become, Halt, Store}
use Rattle.machine_names.specs.declared.names.TheConstants.{ACCUMULATORS, LAST_SERIAL}
use Rattle.machine_names.specs.declared.names.ForkName.{ForkName}
use Rattle.plain_units.specs.declared.channel.TheConstants.{ILLEGAL_INSTRUCTION}
use Rattle.machine_names.specs.declared.names.Kind.{Kind}
use Rattle.machine_names.specs.declared.names.Kind.TheVariants.{Read, Write}
use Rattle.plain_model.specs.declared.fork.Fork.{Fork}
use Rattle.script_texts.specs.declared.status.ForkStatus.{ForkStatus}
use Rattle.script_texts.specs.declared.status.ForkStatus.TheVariants.{Run as Running, Wait, Halted, Forced}
use Rattle.plain_pages.specs.PlainPages.{PlainPages}
use Rattle.plain_pages.specs.Room.{HasRoom}
use Rattle.plain_pages.specs.NewMaps.{with_map}
use Rattle.machine_names.specs.Bounds.{IsTerminal}
use Rattle.plain_units.specs.Steps.{Steps, Planned, done, stopped, call, begun}
use Rattle.plain_units.specs.Deeds.{in_ac}
use Rattle.plain_model.specs.Inferiors.{is_inferior}
use Rattle.plain_model.specs.Trees.{next_name, next_serial, free_slot}
use Rattle.plain_model.specs.Calls.{Turn, adds, ends, and_then, given, with_block, no_files, turn_on, Asked}
use Rattle.plain_units.specs.Blocks.{steps_on, block_steps}
use Rattle.plain_model.specs.ForkCalls.{address_named, fork_named, if_inferior, inferior_named, own_named, map_wanted, making, with_accumulators, making_in, of_inferior, sfacs, rfacs, fork_call}
use Rattle.plain_units.proofs.PageRuns.{AreSound, Keeps, PlanLeaves, kept_itself, run_kept}
use Rattle.plain_units.proofs.Lookups.{looked_up}
use Rattle.plain_pages.proofs.Whole.{map_whole}
use Rattle.plain_pages.proofs.ReferencesMade.{has_room}
use Rattle.plain_model.proofs.Turns.{takes_comes, adds_comes}
use Rattle.plain_model.proofs.Shorthands.{waits_for}

-- a fork that is an inferior of the caller
abbrev pub IsBelow : Asked → ForkName → Type 0
IsBelow a name = is_inferior a.tree.forks a.who name ≡ true

module _ {K : Type 0} {file_cmp : K → K → Ordering} (a : Asked) (p : PlainPages file_cmp) where
  -- the pages with the map of the fork that CFORK would make
  abbrev pub mapped : PlainPages file_cmp
  mapped = with_map p (next_name a.tree a.who.tty) (map_wanted a)

  -- a relation of pages to those that the steps of a turn leave
  module _ (After : PlainPages file_cmp → PlainPages file_cmp → Type 0) where
    pub record Leads (q : PlainPages file_cmp) : Type 0 where
      pub itself : After q q
      pub runs : (steps : Steps) → PlanLeaves (After q) a.who (steps_on a.who a.regs steps q)

    module _ (q : PlainPages file_cmp) where
      -- the fork that is made has the next name, and a slot that was free, under the caller; its map had room, and is there
      pub record IsMade (f : Fork) : Type 0 where
        pub name : f.name ≡ next_name a.tree a.who.tty
        pub serial : nat_lt LAST_SERIAL (next_serial a.tree a.who.tty) ≡ false
        pub slot : free_slot a.tree.forks a.who.tty ≡ Some f.slot
        pub superior : f.superior ≡ option_map (λ k. k.slot) (map.get a.tree.forks a.who)
        pub room : HasRoom mapped a.who.tty ≡ true
        pub pages : After mapped q

      -- a change is one of an inferior, or of the caller's words; but for a fork that is made, no map is more or less
      abbrev pub FitsChange : ForkChange → Type 0
      FitsChange Nothing = After p q
      FitsChange (Make f) = IsMade f
      FitsChange (Kill f) = IsBelow a f × After p q
      FitsChange (Freeze f on) = IsBelow a f × After p q
      FitsChange (Become f body) = IsBelow a f × After p q
      FitsChange (Halt f) = IsBelow a f × After p q
      FitsChange (Store f at words) = (f ≡ a.who) × After p q

      -- so is that of a turn that is done
      abbrev pub FitsEnd : End ForkChange → Type 0
      FitsEnd (Done change regs out post) = FitsChange change
      FitsEnd (Waits on) = Unit {0}
      FitsEnd Halts = Unit {0}
      FitsEnd (Refused code) = Unit {0}
      FitsEnd (Failed code) = Unit {0}
      FitsEnd (Trap channel) = Unit {0}

-- an inferior that was named is one
pub named_below : (a : Asked) (f : Fork) → inferior_named a ≡ Ok f → IsBelow a f.name
unfolding inferior_named
named_below a f is = by (fork_named a) is
  where
    if_so : (k : Fork) (b : Bool) → is_inferior a.tree.forks a.who k.name ≡ b → cond b (Ok k) (Err NO_INFERIOR) ≡ Ok f → IsBelow a f.name
    if_so k true below e = let same : k ≡ f = cc e in ap (λ (x : Fork). is_inferior a.tree.forks a.who x.name) (sym same) ∙ below
    if_so k false below e = absurd (cc e)

    by : (r : Result Fork ℕ) → and_then r (if_inferior a) ≡ Ok f → IsBelow a f.name
    by (Err code) e = absurd (cc e)
    by (Ok k) e = if_so k (is_inferior a.tree.forks a.who k.name) refl e

module _ {K : Type 0} {file_cmp : K → K → Ordering} (a : Asked) (p : PlainPages file_cmp) (After : PlainPages file_cmp → PlainPages file_cmp → Type 0) (leads : Leads a p After p)
    (leads_on : HasRoom (mapped a p) a.who.tty ≡ true → Leads a p After (mapped a p)) where
  -- a turn ends so
  abbrev Ends : Turn ⊥ ForkChange → Type 0
  Ends t = FitsEnd a p After (turn_on no_files p t).pages (turn_on no_files p t).end

  same : After p p
  same = leads.itself

  given_ends : (r : Result Fork ℕ) (next : Fork → Turn ⊥ ForkChange) → ((f : Fork) → r ≡ Ok f → Ends (next f)) → Ends (given r next)
  unfolding turn_on
  given_ends (Err code) next goes = tt
  given_ends (Ok f) next goes = goes f refl

  -- of an inferior that is named
  below_ends : (next : Fork → Turn ⊥ ForkChange) → ((f : Fork) → IsBelow a f.name → Ends (next f)) → Ends (given (inferior_named a) next)
  below_ends next goes = given_ends (inferior_named a) next (λ f is. goes f (named_below a f is))

  block_ends : (at : ℕ) (kind : Kind) (next : List ℕ → Turn ⊥ ForkChange) → ((q : PlainPages file_cmp) (words : List ℕ) → After p q → FitsEnd a p After (turn_on no_files q (next words)).pages (turn_on no_files q (next words)).end) → Ends (with_block a.who a.regs at kind next)
  block_ends at kind next goes = takes_comes no_files p (λ e q. FitsEnd a p After q e) (After p) a.who a.regs (block_steps ACCUMULATORS at kind [] a.regs) (λ e. next e.regs.ac) (leads.runs (block_steps ACCUMULATORS at kind [] a.regs)) (λ q e kept. goes q e.regs.ac kept) (λ channel. tt)

  -- the end of a turn that is over
  over : (q : PlainPages file_cmp) (e : End ForkChange) → FitsEnd a p After q e → FitsEnd a p After (turn_on no_files q (ends e)).pages (turn_on no_files q (ends e)).end
  unfolding turn_on
  over q e fits = fits

  simple : (change : Fork → ForkChange) → ((f : Fork) → IsBelow a f.name → FitsChange a p After p (change f)) → Ends (of_inferior change a)
  simple change fits = below_ends _ (λ f below. over p _ (fits f below))

  waits_end : (status : ForkStatus) → FitsEnd a p After p (waits_for a.regs status)
  waits_end Running = tt
  waits_end (Wait on) = tt
  waits_end Halted = same
  waits_end (Forced channel) = same

  abbrev added : ℕ → Bool → Turn ⊥ ForkChange
  added slot room = cond room (with_accumulators a (λ words. ends (making a slot words))) (ends (Failed NO_ROOM))

  -- a fork is made in a slot
  module _ (slot : ℕ) (free : free_slot a.tree.forks a.who.tty ≡ Some slot) (few : nat_lt LAST_SERIAL (next_serial a.tree a.who.tty) ≡ false) where
    abbrev making_it : List ℕ → Turn ⊥ ForkChange
    making_it words = ends (making a slot words)

    module _ (room : HasRoom (mapped a p) a.who.tty ≡ true) where
      on : Leads a p After (mapped a p)
      on = leads_on room

      made : (q : PlainPages file_cmp) (words : List ℕ) → After (mapped a p) q → FitsEnd a p After q (making a slot words)
      made q words kept = record { name = refl; serial = few; slot = free; superior = refl; room = room; pages = kept }

      made_ends : FitsEnd a p After (turn_on no_files (mapped a p) (with_accumulators a making_it)).pages (turn_on no_files (mapped a p) (with_accumulators a making_it)).end
      made_ends = cond_both (bit (in_ac a.regs 1) 3 == 1) (with_block a.who a.regs (address_named a.regs) Read making_it) (making_it (replicate ACCUMULATORS 0))
          (λ t. FitsEnd a p After (turn_on no_files (mapped a p) t).pages (turn_on no_files (mapped a p) t).end)
          (λ reads. takes_comes no_files (mapped a p) (λ e q. FitsEnd a p After q e) (After (mapped a p)) a.who a.regs (block_steps ACCUMULATORS (address_named a.regs) Read [] a.regs) (λ e. making_it e.regs.ac) (on.runs (block_steps ACCUMULATORS (address_named a.regs) Read [] a.regs))
          (λ q e kept. over q (making a slot e.regs.ac) (made q e.regs.ac kept)) (λ channel. tt))
          (λ none. over (mapped a p) (making a slot (replicate ACCUMULATORS 0)) (made (mapped a p) (replicate ACCUMULATORS 0) on.itself))

    adding_ends : Ends (adds (next_name a.tree a.who.tty) (map_wanted a) (added slot))
    adding_ends = adds_comes no_files p (λ e q. FitsEnd a p After q e) (next_name a.tree a.who.tty) (map_wanted a) (added slot) (λ room. made_ends room) (λ none. over p (Failed NO_ROOM) tt)

  making_ends : (slot : ℕ) → free_slot a.tree.forks a.who.tty ≡ Some slot → Ends (making_in a slot)
  making_ends slot free = cond_both (nat_lt LAST_SERIAL (next_serial a.tree a.who.tty)) (ends (Failed SERIALS_OUT)) (adds (next_name a.tree a.who.tty) (map_wanted a) (added slot)) Ends
      (λ out. over p (Failed SERIALS_OUT) tt) (λ few. adding_ends slot free few)

  cfork_ends : Ends (fork_call CFORK a)
  cfork_ends = looked_up Ends (making_in a) (ends (Failed FORKS_FULL)) (free_slot a.tree.forks a.who.tty) making_ends (λ none. over p (Failed FORKS_FULL) tt)

  rfsts_ends : Ends (fork_call RFSTS a)
  rfsts_ends = given_ends (own_named a) _ (λ f is. over p _ same)

  sfacs_ends : Ends (sfacs a)
  sfacs_ends = below_ends _ (λ f below. block_ends (address_named a.regs) Read _ (λ q words kept. over q _ (below, kept)))

  rfacs_ends : Ends (rfacs a)
  rfacs_ends = below_ends _ (λ f below. block_ends (address_named a.regs) Write _ (λ q words kept. over q _ (refl, kept)))

  wfork_ends : Ends (fork_call WFORK a)
  wfork_ends = below_ends _ (λ f below. over p _ (waits_end f.body.status))

  -- the turn of a fork call
  pub call_ends : (number : ℕ) → Ends (fork_call number a)
  call_ends number =
      cond_both (CFORK == number) _ _ Ends (λ is. cfork_ends) (λ n1.
      cond_both (KFORK == number) _ _ Ends (λ is. simple _ (λ f below. (below, same))) (λ n2.
      cond_both (FFORK == number) _ _ Ends (λ is. simple _ (λ f below. (below, same))) (λ n3.
      cond_both (RFORK == number) _ _ Ends (λ is. simple _ (λ f below. (below, same))) (λ n4.
      cond_both (RFSTS == number) _ _ Ends (λ is. rfsts_ends) (λ n5.
      cond_both (SFORK == number) _ _ Ends (λ is. simple _ (λ f below. (below, same))) (λ n6.
      cond_both (SFACS == number) _ _ Ends (λ is. sfacs_ends) (λ n7.
      cond_both (RFACS == number) _ _ Ends (λ is. rfacs_ends) (λ n8.
      cond_both (HFORK == number) _ _ Ends (λ is. simple _ (λ f below. (below, same))) (λ n9.
      cond_both (WFORK == number) _ _ Ends (λ is. wfork_ends) (λ n10.
      cond_both (HALTF == number) _ _ Ends (λ is. over p Halts tt) (λ n11. over p (Trap ILLEGAL_INSTRUCTION) tt)))))))))))

-- over sound pages the steps of a turn keep them so
module _ {K : Type 0} {file_cmp : K → K → Ordering} (o : IsTotalOrder file_cmp) (a : Asked) (own : IsTerminal a.who.tty) (p : PlainPages file_cmp) (w : AreSound p) (absent : map.get p.maps (next_name a.tree a.who.tty) ≡ None) where
  keeping : (q : PlainPages file_cmp) → AreSound q → Leads a p (λ x y. Keeps x y) q
  keeping q sound = record { itself = kept_itself q sound; runs = λ steps. run_kept o q a.who (inl own) steps (begun q a.regs.ac) (kept_itself q sound) }

  sound_on : HasRoom (mapped a p) a.who.tty ≡ true → AreSound (mapped a p)
  sound_on room = record { whole = map_whole p w.whole (next_name a.tree a.who.tty) absent (map_wanted a) own; room = has_room (mapped a p) a.who.tty room }

  pub call_keeps : (number : ℕ) → FitsEnd a p (λ x y. Keeps x y) (turn_on no_files p (fork_call number a)).pages (turn_on no_files p (fork_call number a)).end
  call_keeps number = call_ends a p (λ x y. Keeps x y) (keeping p w) (λ room. keeping (mapped a p) (sound_on room)) number

-- whatever the pages are, a change names whom it may
module _ {K : Type 0} {file_cmp : K → K → Ordering} (a : Asked) (p : PlainPages file_cmp) where
  abbrev pub Anyhow : PlainPages file_cmp → PlainPages file_cmp → Type 0
  Anyhow x y = Unit {0}

  anyhow : (r : Planned file_cmp ⊥) → PlanLeaves (λ q. Unit {0}) a.who r
  anyhow (done t e) = tt
  anyhow (stopped why) = tt
  anyhow (call number) = tt

  leading : (q : PlainPages file_cmp) → Leads a p Anyhow q
  leading q = record { itself = tt; runs = λ steps. anyhow (steps_on a.who a.regs steps q) }

  pub call_names : (number : ℕ) → FitsEnd a p Anyhow (turn_on no_files p (fork_call number a)).pages (turn_on no_files p (fork_call number a)).end
  call_names number = call_ends a p Anyhow (leading p) (λ room. leading (mapped a p)) number
