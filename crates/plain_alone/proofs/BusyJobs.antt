-- Jobs whose forks loop in their accumulators are apart.
use Rattle.std.proofs.Common.{◌≡◌, ℕ, Bool, false, cond, List, [], ◌∷◌, All, Option, None, inl, inr, refl, sym, ◌∙◌, ap, subst}
use Rattle.std.specs.Prelude.{slice_index}
use Rattle.std.specs.Option.{option_map_or}
use Rattle.std.specs.FinMap as map
use Rattle.std.proofs.lemmas.List.Elements.{All-cons, All-head, All-nil, All-tail}
use Rattle.machine_names.specs.declared.names.ForkName.{ForkName}
use Rattle.machine_names.specs.declared.names.Kind.TheVariants.{Execute}
use Rattle.machine_names.specs.declared.names.Tty.{Tty}
use Rattle.machine_names.specs.Orders.{name_cmp}
use Rattle.script_texts.specs.declared.event.Step.{Step}
use Rattle.script_texts.specs.declared.event.Step.TheVariants.{Outer, Unit as AUnit, Idle}
use Rattle.ka10_table.specs.Rows.{row_of, row_among}
use Rattle.plain_pages.specs.PlainPages.{NamedPages}
use Rattle.plain_units.specs.declared.registers.Regs.{Regs}
use Rattle.plain_units.specs.Addressing.{address, address_within, most_words}
use Rattle.plain_units.specs.Deeds.{deed_of, taken_of}
use Rattle.plain_units.specs.Instructions.{does, execute, finishes, instruction, takes}
use Rattle.plain_units.specs.Steps.{Ending, Planned, Progress, begun, done, plainly, run}
use Rattle.plain_units.specs.Units.{unit_on}
use Rattle.plain_model.specs.declared.fork.Fork.{Fork}
use Rattle.plain_model.specs.Forks.{counted}
use Rattle.plain_model.specs.Run.{apply}
use Rattle.plain_model.specs.State.{PlainState}
use Rattle.plain_model.specs.Unit.{Effect, over, unit, unit_ended}
use Rattle.plain_model.proofs.Equations.{unit_plain}
use Rattle.plain_model.proofs.ForkMaps.{cases_name, get_put, get_put_other}
use Rattle.plain_alone.specs.Apart.{IsApart, IsFree, IsHeldByNoOther, LeavesUsed}
use Rattle.plain_alone.specs.Busy.{IsBusy, Loops, jump_to_5}
use Rattle.plain_alone.specs.Notes.{Notes, both, fork_notes, instruction_notes, interrupted_notes, nothing_met, planned_notes, step_notes, unit_notes, unmade_in, without_room}

-- the end of a unit that jumps to itself: the registers as they were
abbrev again : Regs → Ending
again regs = record { regs = regs; put = None; post = None }

abbrev come : NamedPages → Regs → Progress name_cmp
come p regs = record { pages = p; ac = regs.ac; refs = record { address = regs.pc; kind = Execute } ∷ []; kept = None }

-- a unit that jumps to itself refers to nothing but accumulator 5, and leaves all as it was
module _ (f : ForkName) (p : NamedPages) (regs : Regs) where
  abbrev Jumps : ℕ → Type 0
  Jumps pc = let r = record regs { pc = pc } in unit_on f p r ≡ done (come p r) (again r)

  at_5 : slice_index regs.ac 5 ≡ jump_to_5 → Jumps 5
  unfolding run instruction execute address address_within row_of row_among takes does finishes taken_of deed_of
  at_5 jumps = let r = record regs { pc = 5 } in ap (λ w. run (plainly f) f (execute most_words false r w) (come p r)) jumps

  unit_again : regs.pc ≡ 5 → slice_index regs.ac 5 ≡ jump_to_5 → unit_on f p regs ≡ done (come p regs) (again regs)
  unit_again stands jumps = subst (λ pc. Jumps pc) (sym stands) (at_5 jumps)

  abbrev MakesNone : ℕ → Type 0
  MakesNone pc = let r = record regs { pc = pc } in unmade_in f (instruction r) (begun p regs.ac) ≡ []

  none_at_5 : slice_index regs.ac 5 ≡ jump_to_5 → MakesNone 5
  unfolding unmade_in instruction execute address address_within row_of row_among takes does finishes taken_of deed_of
  none_at_5 jumps = let r = record regs { pc = 5 } in ap (λ w. unmade_in f (execute most_words false r w) (come p r)) jumps

  makes_none : regs.pc ≡ 5 → slice_index regs.ac 5 ≡ jump_to_5 → unmade_in f (instruction regs) (begun p regs.ac) ≡ []
  makes_none stands jumps = subst (λ pc. MakesNone pc) (sym stands) (none_at_5 jumps)

module _ (s : PlainState) (name : ForkName) (l : Loops s name) where
  -- the state behind the unit: the fork has run one unit more
  abbrev after : PlainState
  after = record s { forks = map.insert s.forks name (counted l.fork) }

  loops_on : unit s name ≡ record { state = after; items = [] }
  loops_on =
      unit_plain s name l.fork l.there l.calm
      ∙ ap (over s l.fork) (unit_again l.fork.name s.pages l.fork.body.regs l.stands l.jumps)
      ∙ ap (unit_ended s l.fork) l.runs
      ∙ ap (λ (n : ForkName). record { state = record s { forks = map.insert s.forks n (counted l.fork) }; items = [] }) l.named

  after_is : (apply s (AUnit name)).state ≡ after
  unfolding apply
  after_is = ap (λ (e : Effect). e.state) loops_on

  -- nothing is met in it
  meets_nothing : unit_notes s name ≡ nothing_met
  unfolding unit_notes
  meets_nothing =
      ap (λ (o : Option Fork). option_map_or (fork_notes s) o nothing_met) l.there
      ∙ ap (λ b. cond b (interrupted_notes s l.fork) (instruction_notes s l.fork)) l.calm
      ∙ ap (λ unmade. both (without_room unmade) (planned_notes s l.fork (unit_on l.fork.name s.pages l.fork.body.regs))) (makes_none l.fork.name s.pages l.fork.body.regs l.stands l.jumps)
      ∙ ap (λ (r : Planned name_cmp ⊥). both (without_room []) (planned_notes s l.fork r)) (unit_again l.fork.name s.pages l.fork.body.regs l.stands l.jumps)

  -- who loops goes on to loop
  still : (other : ForkName) → Loops s other → Loops (apply s (AUnit name)).state other
  still other k = subst (λ (v : PlainState). Loops v other) (sym after_is) (elim (cases_name other name) [
    | inl same ↦ record { fork = counted l.fork; there = get_put s.forks name other (counted l.fork) same; named = l.named ∙ sym same; runs = l.runs; calm = l.calm; stands = l.stands; jumps = l.jumps }
    | inr apart ↦ record { fork = k.fork; there = get_put_other s.forks name other (counted l.fork) apart ∙ k.there; named = k.named; runs = k.runs; calm = k.calm; stands = k.stands; jumps = k.jumps }
  ])

module _ (t : Tty) (used : List ℕ → Bool) where
  free_of_all : (s : PlainState) (n : Notes) → n ≡ nothing_met → IsFree t s n
  free_of_all s n is = subst (IsFree t s) (sym is) (record { room = refl; files = refl; clock = refl; deleted = All-nil (IsHeldByNoOther s t) })

  leaves_itself : (s : PlainState) → LeavesUsed t used s s
  leaves_itself s = record { files = λ name its. refl; pages = λ f its. refl; filed = λ f n its there. refl; mapped = λ at n a here there. refl }

  unit_free : (s : PlainState) (name : ForkName) → Loops s name → IsFree t s (step_notes s (AUnit name))
  unfolding step_notes
  unit_free s name l = free_of_all s (unit_notes s name) (meets_nothing s name l)

  unit_leaves : (s : PlainState) (name : ForkName) → Loops s name → LeavesUsed t used s (apply s (AUnit name)).state
  unit_leaves s name l = subst (LeavesUsed t used s) (sym (after_is s name l)) (let i = leaves_itself s in record { files = i.files; pages = i.pages; filed = i.filed; mapped = i.mapped })

  idle_free : (s : PlainState) → IsFree t s (step_notes s Idle)
  unfolding step_notes
  idle_free s = free_of_all s nothing_met refl

  idle_leaves : (s : PlainState) → LeavesUsed t used s (apply s Idle).state
  unfolding apply
  idle_leaves s = leaves_itself s

  idle_still : (s : PlainState) (x : Step) → IsBusy s x → IsBusy (apply s Idle).state x
  unfolding apply
  idle_still s x busy = busy

  unit_still : (s : PlainState) (name : ForkName) → Loops s name → (x : Step) → IsBusy s x → IsBusy (apply s (AUnit name)).state x
  unit_still s name l (Outer e) busy = absurd busy
  unit_still s name l (AUnit other) busy = still s name l other busy
  unit_still s name l Idle busy = tt

  all_still : (s v : PlainState) → ((x : Step) → IsBusy s x → IsBusy v x) → (xs : List Step) → All (IsBusy s) xs → All (IsBusy v) xs
  all_still s v goes [] all = All-nil (IsBusy v)
  all_still s v goes (x ∷ xs) all = All-cons (IsBusy v) x xs (goes x (All-head (IsBusy s) x xs all)) (all_still s v goes xs (All-tail (IsBusy s) x xs all))

  -- BUSY JOBS ARE APART, whoever they are and in whatever order
  pub busy_apart : (xs : List Step) (s : PlainState) → All (IsBusy s) xs → IsApart t used s xs
  busy_apart [] s all = tt
  busy_apart (Outer e ∷ xs) s all = absurd (All-head (IsBusy s) (Outer e) xs all)
  busy_apart (AUnit name ∷ xs) s all =
      let l = All-head (IsBusy s) (AUnit name) xs all in
      (λ its. unit_free s name l, λ others. unit_leaves s name l, busy_apart xs (apply s (AUnit name)).state (all_still s (apply s (AUnit name)).state (unit_still s name l) xs (All-tail (IsBusy s) (AUnit name) xs all)))
  busy_apart (Idle ∷ xs) s all =
      (λ its. idle_free s, λ others. idle_leaves s, busy_apart xs (apply s Idle).state (all_still s (apply s Idle).state (idle_still s) xs (All-tail (IsBusy s) Idle xs all)))
