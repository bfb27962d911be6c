-- The turns of the calls on maps and on forks refer to few pages beside the maps of their caller's terminal.
use Rattle.std.proofs.Common.{◌≡◌, ℕ, ◌≤◌, List, [], ◌∷◌, map, filter, Bool, true, false, ◌||◌, cond, Option, None, Some, Result, Ok, Err, refl, sym, ◌∙◌, ap, arith}
use Rattle.std.specs.Prelude.{◌==◌, ◌&&◌, is_some, nat_lt}
use Rattle.word36.specs.Words.{bit}
use Rattle.std.specs.Option.{option_map_or}
use Rattle.std.specs.FinMap as map_of
use Rattle.machine_names.specs.declared.names.ForkName.{ForkName}
use Rattle.machine_names.specs.declared.names.PageName.{PageName}
use Rattle.machine_names.specs.declared.names.Kind.TheVariants.{Read, Write}
use Rattle.machine_names.specs.declared.names.TheConstants.{LAST_SERIAL}
use Rattle.machine_names.specs.declared.names.Slot.{Slot}
use Rattle.machine_names.specs.declared.names.Tty.{Tty}
use Rattle.machine_names.specs.Orders.{same_fork}
use Rattle.script_texts.specs.declared.status.WaitOn.TheVariants as on
use Rattle.plain_files.specs.OpenFiles.{OpenFile}
use Rattle.plain_units.specs.declared.channel.TheConstants.{ILLEGAL_INSTRUCTION}
use Rattle.plain_units.specs.declared.registers.Regs.{Regs}
use Rattle.plain_units.specs.Deeds.{in_ac}
use Rattle.plain_model.specs.declared.call.TheConstants.{FORKS_FULL, NO_INFERIOR, NOT_OPEN}
use Rattle.plain_model.specs.declared.call.End.{End}
use Rattle.plain_model.specs.declared.call.End.TheVariants as end
use Rattle.plain_model.specs.declared.call.ForkChange.{ForkChange}
use Rattle.plain_model.specs.declared.call.ForkChange.TheVariants as fork
use Rattle.plain_model.specs.declared.call.MapChange.{MapChange}
use Rattle.plain_model.specs.declared.call.MapChange.TheVariants as on_map
use Rattle.plain_model.specs.declared.fork.Fork.{Fork}
use Rattle.plain_model.specs.Calls.{Asked, Turn, and_then, ends, given, numbered, returning}
use Rattle.plain_model.specs.ForkCalls.{address_named, fork_call, fork_calls, fork_named, has_ended, if_inferior, inferior_named, making_in, of_inferior, own_named}
use Rattle.plain_model.specs.Inferiors.{is_inferior}
use Rattle.plain_model.specs.Trees.{PlainTree, free_slot, next_serial}
use Rattle.plain_model.specs.MapCalls.{ALL_ONES, MapAsked, MapPlace, access_at, access_wanted, allows, is_counted, is_written, maps, pages_left, from_file, into_file, map_call, map_calls, mapping_into, of_file, of_fork, one_page, place_named, places_named, slot_named, unmapping}
use Rattle.fork_tree.specs.Trees.{IsTree}
use Rattle.fork_tree.proofs.Leaves.{inferior_none, inferior_over}
use Rattle.step_wants.specs.Names.{Housed, a_map}
use Rattle.step_wants.specs.Wants.{maps_below, names_of_end, names_of_fork_change, names_of_map_change}
use Rattle.step_wants.proofs.Bounded.{TurnAtMost}
use Rattle.step_wants.proofs.Families.{same_name}
use Rattle.step_wants.proofs.FewCalls.{block_at_most, chosen}
use Rattle.step_wants.proofs.Small.{AreAll, IsSmall, all_small, more_small, none_small, own_small}

-- ---- whatever holds of turns

given_so : {A F C : Type 0} (P : Turn F C → Type 0) (r : Result A ℕ) (next : A → Turn F C) → ((x : A) → r ≡ Ok x → P (next x)) → ((code : ℕ) → P (ends (end.Refused code))) → P (given r next)
given_so P (Ok x) next each refused = each x refl
given_so P (Err code) next each refused = refused code

option_so : {A F C : Type 0} (P : Turn F C → Type 0) (o : Option A) (next : A → Turn F C) (other : Turn F C) → ((x : A) → P (next x)) → P other → P (option_map_or next o other)
option_so P None next other each none = none
option_so P (Some x) next other each none = each x

-- of the turn of each of these calls
abbrev AllSo : {A F C : Type 0} → (Turn F C → Type 0) → List (ℕ × (A → Turn F C)) → A → Type 0
AllSo P [] a = Unit {0}
AllSo P (row ∷ rows) a = P (row.1 a) × AllSo P rows a

numbered_so : {A F C : Type 0} (P : Turn F C → Type 0) (rows : List (ℕ × (A → Turn F C))) (number : ℕ) (a : A) → P (ends (end.Trap ILLEGAL_INSTRUCTION)) → AllSo P rows a → P (numbered rows number a)
numbered_so P [] number a traps all = traps
numbered_so P (row ∷ rows) number a traps all = chosen P (row.0 == number) (row.1 a) (numbered rows number a) all.0 (numbered_so P rows number a traps all.1)

-- ---- maps

-- an end that refers to one map
abbrev pub OneMore : {C : Type 0} → ℕ → End C → Type 0
OneMore n e = 1 ≤ n

module _ (a : MapAsked) where
  abbrev FewMaps : ℕ → Turn (List ℕ) MapChange → Type 0
  FewMaps n turn = TurnAtMost a.who.tty OneMore n turn

  access_few : (regs : Regs) (place : MapPlace) → FewMaps 57 (access_at regs place)
  access_few regs (of_fork slot) = (56, omega arith, λ e. (52, omega arith, λ page. omega arith))
  access_few regs (of_file j page) = (53, omega arith, λ n. omega arith)

  given_maps : {A : Type 0} (r : Result A ℕ) (next : A → Turn (List ℕ) MapChange) → ((x : A) → FewMaps 57 (next x)) → FewMaps 57 (given r next)
  given_maps r next each = given_so (FewMaps 57) r next (λ x is. each x) (λ code. omega arith)

  from_few : (j : OpenFile) (page : ℕ) (to : Slot) → FewMaps 57 (from_file a j page to)
  from_few j page to = chosen (FewMaps 57) (allows j (access_wanted a)) _ _ (53, omega arith, λ n. chosen (FewMaps 53) (is_some n) _ _ (omega arith) (chosen (FewMaps 53) (is_written j) _ _ (48, omega arith, λ what. omega arith) (omega arith))) (omega arith)

  into_few : (from : Slot) (j : OpenFile) (page : ℕ) → FewMaps 57 (into_file a from j page)
  into_few from j page = chosen (FewMaps 57) (is_written j) _ _ (53, omega arith, λ n. chosen (FewMaps 53) (is_some n) _ _ (48, omega arith, λ what. omega arith) (omega arith)) (omega arith)

  mapping_few : (from to : MapPlace) → FewMaps 57 (mapping_into a from to)
  mapping_few (of_fork from) (of_fork to) = omega arith
  mapping_few (of_file j page) (of_fork to) = from_few j page to
  mapping_few (of_fork from) (of_file j page) = into_few from j page
  mapping_few (of_file i p) (of_file j q) = omega arith

  unmapping_few : (place : MapPlace) → FewMaps 57 (unmapping a place)
  unmapping_few (of_fork to) = omega arith
  unmapping_few (of_file j page) = chosen (FewMaps 57) (is_written j) (ends (maps a (on_map.Drop j.file page))) (ends (end.Refused NOT_OPEN)) (omega arith) (omega arith)

  page_few : FewMaps 57 (one_page a)
  unfolding one_page
  page_few = chosen (FewMaps 57) (in_ac a.regs 1 == ALL_ONES) _ _ (given_maps (place_named a 2) (unmapping a) unmapping_few) (given_maps (places_named a) _ (λ p. mapping_few p.0 p.1))

  pub maps_few : (number : ℕ) → FewMaps 57 (map_call number a)
  maps_few number = numbered_so (FewMaps 57) map_calls number a (omega arith) (
    chosen (FewMaps 57) (is_counted a.regs && (pages_left a.regs == 0)) (ends (returning on_map.Nothing a.regs)) (one_page a) (omega arith) page_few,
    (
      given_maps (place_named a 1) (access_at a.regs) (access_few a.regs),
      (
        given_maps (slot_named a) _ (λ slot. (56, omega arith, λ e. omega arith)),
        (given_maps (slot_named a) _ (λ slot. (56, omega arith, λ e. (52, omega arith, λ page. omega arith))), tt),
      ),
    ),
  )

-- ---- forks

tty_same : (s t : Tty) → s.0 ≡ t.0 → s ≡ t
tty_same s t e = λ i. record { 0 = e i }

-- an inferior is of the same terminal
pub inferior_tty : (s : PlainTree) (is : IsTree s) (who name : ForkName) → is_inferior s.forks who name ≡ true → name.tty ≡ who.tty
inferior_tty s is who name below = by (map_of.get s.forks name) refl
  where
    by : (o : Option Fork) → map_of.get s.forks name ≡ o → name.tty ≡ who.tty
    by None at = absurd (let no : false ≡ true = sym (inferior_none s.forks who name at) ∙ below in cc no)
    by (Some k) at =
        let own : k.name ≡ name = is.slotted.own name k at in
        let over = inferior_over s is who k (ap (map_of.get s.forks) own ∙ at) (ap (is_inferior s.forks who) own ∙ below) in
        ap (λ (f : ForkName). f.tty) (sym own) ∙ tty_same k.name.tty who.tty over.2

-- an end of a fork call that kills none but a fork of a terminal
abbrev pub KillsIn : Tty → ℕ → End ForkChange → Type 0
KillsIn t n (end.Done (fork.Kill f) regs out post) = f.tty ≡ t
KillsIn t n e = Unit {0}

module _ (a : Asked) (is : IsTree a.tree) where
  abbrev FewForks : ℕ → Turn ⊥ ForkChange → Type 0
  FewForks n turn = TurnAtMost a.who.tty (KillsIn a.who.tty) n turn

  given_forks : {A : Type 0} (r : Result A ℕ) (next : A → Turn ⊥ ForkChange) → ((x : A) → r ≡ Ok x → FewForks 57 (next x)) → FewForks 57 (given r next)
  given_forks r next each = given_so (FewForks 57) r next each (λ code. tt)

  -- the inferior that is named is one
  inferior_is_one : (f : Fork) → inferior_named a ≡ Ok f → is_inferior a.tree.forks a.who f.name ≡ true
  unfolding inferior_named
  inferior_is_one f named = by (fork_named a) named
    where
      whether : (g : Fork) (b : Bool) → is_inferior a.tree.forks a.who g.name ≡ b → cond b (Ok g) (Err NO_INFERIOR) ≡ Ok f → is_inferior a.tree.forks a.who f.name ≡ true
      whether g true at e = let same : g ≡ f = cc e in ap (λ (k : Fork). is_inferior a.tree.forks a.who k.name) (sym same) ∙ at
      whether g false at e = absurd (cc e)

      by : (r : Result Fork ℕ) → and_then r (if_inferior a) ≡ Ok f → is_inferior a.tree.forks a.who f.name ≡ true
      by (Ok g) e = whether g (is_inferior a.tree.forks a.who g.name) refl e
      by (Err code) e = absurd (cc e)

  kill_few : FewForks 57 (of_inferior (λ f. fork.Kill f.name) a)
  kill_few = given_forks (inferior_named a) _ (λ f named. inferior_tty a.tree is a.who f.name (inferior_is_one f named))

  making_few : (slot : ℕ) → FewForks 57 (making_in a slot)
  making_few slot = chosen (FewForks 57) (nat_lt LAST_SERIAL (next_serial a.tree a.who.tty)) _ _ tt (λ room. chosen (FewForks 57) room _ _ (chosen (FewForks 57) (bit (in_ac a.regs 1) 3 == 1) _ _ (16, 41, omega arith, refl, block_at_most 16 (address_named a.regs) Read [] a.regs, λ e. tt) tt) tt)

  ended_few : (b : Bool) → FewForks 57 (ends (cond b (returning fork.Nothing a.regs) (end.Waits on.Fork)))
  ended_few true = tt
  ended_few false = tt

  pub forks_few : (number : ℕ) → FewForks 57 (fork_call number a)
  forks_few number = numbered_so (FewForks 57) fork_calls number a tt (
    option_so (FewForks 57) (free_slot a.tree.forks a.who.tty) (making_in a) (ends (end.Failed FORKS_FULL)) making_few tt,
    (
      kill_few,
      (
        given_forks (inferior_named a) _ (λ f named. tt),
        (
          given_forks (inferior_named a) _ (λ f named. tt),
          (
            given_forks (own_named a) _ (λ f named. tt),
            (
              given_forks (inferior_named a) _ (λ f named. tt),
              (
                given_forks (inferior_named a) _ (λ f named. (16, 41, omega arith, refl, block_at_most 16 (address_named a.regs) Read [] a.regs, λ e. tt)),
                (
                  given_forks (inferior_named a) _ (λ f named. (16, 41, omega arith, refl, block_at_most 16 (address_named a.regs) Write [] a.regs, λ e. tt)),
                  (
                    given_forks (inferior_named a) _ (λ f named. tt),
                    (
                      given_forks (inferior_named a) _ (λ f named. ended_few (has_ended f.body.status)),
                      (tt, tt),
                    ),
                  ),
                ),
              ),
            ),
          ),
        ),
      ),
    ),
  )

-- ---- what ends refer to

module _ (map_home : ForkName → Option ℕ) (page_home : PageName → Option ℕ) (t : Tty) (own : List ForkName) (owns : AreAll map_home page_home t own) where
  abbrev Small : ℕ → List Housed → Type 0
  Small n names = IsSmall map_home page_home t own owns n names

  none : (n : ℕ) → Small n []
  none n = more_small map_home page_home t own owns 0 n [] (omega arith) (none_small map_home page_home t own owns)

  one : (n : ℕ) (f : ForkName) → 1 ≤ n → Small n (a_map f ∷ [])
  one n f le = all_small map_home page_home t own owns (a_map f ∷ []) n (omega (arith, le))

  pub map_end_small : (n : ℕ) (e : End MapChange) → OneMore n e → Small n (names_of_end names_of_map_change e)
  map_end_small n (end.Done on_map.Nothing regs out post) le = none n
  map_end_small n (end.Done (on_map.Unmap s) regs out post) le = one n s.fork le
  map_end_small n (end.Done (on_map.Follow s other access) regs out post) le = one n s.fork le
  map_end_small n (end.Done (on_map.Narrow s access) regs out post) le = one n s.fork le
  map_end_small n (end.Done (on_map.Map s name page access) regs out post) le = one n s.fork le
  map_end_small n (end.Done (on_map.Put name page s) regs out post) le = none n
  map_end_small n (end.Done (on_map.Drop name page) regs out post) le = none n
  map_end_small n (end.Waits on) le = none n
  map_end_small n end.Halts le = none n
  map_end_small n (end.Refused code) le = none n
  map_end_small n (end.Failed code) le = none n
  map_end_small n (end.Trap channel) le = none n

  module _ (s : PlainTree) (is : IsTree s) where
    -- those of these forks that are of a branch
    branch_small : (name : ForkName) (fs : List ForkName) → name.tty ≡ t → Small 0 (map a_map (filter (λ g. same_fork g name || is_inferior s.forks name g) fs))
    branch_small name [] same = none 0
    branch_small name (f ∷ fs) same = by (same_fork f name || is_inferior s.forks name f) refl (branch_small name fs same)
      where
        goes : ForkName → Bool
        goes g = same_fork g name || is_inferior s.forks name g

        whose : (b : Bool) → same_fork f name ≡ b → (b || is_inferior s.forks name f) ≡ true → f.tty ≡ t
        whose true at e = ap (λ (g : ForkName). g.tty) (same_name f name at) ∙ same
        whose false at e = inferior_tty s is name f e ∙ same

        by : (b : Bool) → (same_fork f name || is_inferior s.forks name f) ≡ b → Small 0 (map a_map (filter goes fs)) → Small 0 (map a_map (cond b (f ∷ filter goes fs) (filter goes fs)))
        by true at rest = own_small map_home page_home t own owns f 0 (map a_map (filter goes fs)) (whose (same_fork f name) refl at) rest
        by false at rest = rest

    pub fork_end_small : (n : ℕ) (e : End ForkChange) → KillsIn t n e → Small n (names_of_end (names_of_fork_change s.forks) e)
    fork_end_small n (end.Done (fork.Kill name) regs out post) same =
        more_small map_home page_home t own owns 0 n (maps_below s.forks name) (omega arith) (branch_small name (map_of.keys s.forks) same)
    fork_end_small n (end.Done fork.Nothing regs out post) same = none n
    fork_end_small n (end.Done (fork.Make f) regs out post) same = none n
    fork_end_small n (end.Done (fork.Freeze f on) regs out post) same = none n
    fork_end_small n (end.Done (fork.Become f body) regs out post) same = none n
    fork_end_small n (end.Done (fork.Halt f) regs out post) same = none n
    fork_end_small n (end.Done (fork.Store f at words) regs out post) same = none n
    fork_end_small n (end.Waits on) same = none n
    fork_end_small n end.Halts same = none n
    fork_end_small n (end.Refused code) same = none n
    fork_end_small n (end.Failed code) same = none n
    fork_end_small n (end.Trap channel) same = none n
