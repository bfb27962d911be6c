-- A unit refers to few pages beside the maps of its terminal's forks.
use Rattle.std.proofs.Common.{◌≡◌, ℕ, ◌+◌, ◌<◌, ◌≤◌, List, [], ◌∷◌, ◌++◌, length, map, Bool, true, false, cond, Option, None, Some, refl, sym, ap, subst, arith, length-append}
use Rattle.std.proofs.lemmas.List.{length-map}
use Rattle.std.specs.Prelude.{nat_eq}
use Rattle.std.specs.Set.{unique_keys}
use Rattle.std.specs.Option.{option_map_or}
use Rattle.std.specs.declared.cmp.Ordering.{Ordering}
use Rattle.std.specs.FinMap as map_of
use Rattle.machine_names.specs.declared.names.ForkName.{ForkName}
use Rattle.machine_names.specs.declared.names.PageName.{PageName}
use Rattle.machine_names.specs.declared.names.Tty.{Tty}
use Rattle.plain_units.specs.declared.registers.Regs.{Regs}
use Rattle.plain_units.specs.Instructions.{instruction}
use Rattle.plain_units.specs.Steps.{Planned, begun, call, done, stopped}
use Rattle.plain_units.specs.Units.{unit_on}
use Rattle.plain_model.specs.declared.call.End.{End}
use Rattle.plain_model.specs.declared.call.End.TheVariants as end
use Rattle.plain_model.specs.declared.fork.Fork.{Fork}
use Rattle.plain_model.specs.declared.interrupt.Inspected.{Inspected}
use Rattle.plain_model.specs.declared.interrupt.Inspected.TheVariants.{Delivers, Forces, Nothing}
use Rattle.plain_model.specs.Calls.{Sight, Turn, no_files}
use Rattle.plain_model.specs.Families.{Parts, asks, asks_bytes, asks_clock, asks_jfns, asks_maps}
use Rattle.plain_model.specs.Inspections.{inspected, inspected_by, inspection_turn, is_interrupted}
use Rattle.fork_tree.specs.Trees.{IsTree}
use Rattle.step_wants.specs.Names.{Housed, a_map, homes_for, names_of_steps, names_of_turn, none_at_end}
use Rattle.step_wants.specs.Wants.{Referring, all_referring, first_names, names_behind, names_of_call, names_of_end, names_of_fork_change, names_of_inspection, names_of_instruction, names_of_map_change, names_of_unit}
use Rattle.step_wants.proofs.Again.{instruction_last}
use Rattle.step_wants.proofs.Bounded.{TurnAtMost, capped_small, turn_small}
use Rattle.step_wants.proofs.Channels.{inspection_small}
use Rattle.step_wants.proofs.FewCalls.{NoneMore, bytes_few, clock_few, errors_few, interrupts_few, jfns_few, prints_few, strings_few}
use Rattle.step_wants.proofs.FewOthers.{KillsIn, OneMore, fork_end_small, forks_few, map_end_small, maps_few}
use Rattle.step_wants.proofs.Once.{few_once}
use Rattle.step_wants.proofs.Own.{own_all, own_few, own_forks}
use Rattle.step_wants.proofs.Small.{AreAll, IsSmall, both_small, homes_few, more_small, none_small}

module _ (map_home : ForkName → Option ℕ) (page_home : PageName → Option ℕ) (who : ForkName) (own : List ForkName) (owns : AreAll map_home page_home who.tty own) where
  abbrev Small : ℕ → List Housed → Type 0
  Small n names = IsSmall map_home page_home who.tty own owns n names

  none : (n : ℕ) → Small n []
  none n = more_small map_home page_home who.tty own owns 0 n [] (omega arith) (none_small map_home page_home who.tty own owns)

  both : (n m : ℕ) (xs ys : List Housed) → Small n xs → Small m ys → Small (n + m) (xs ++ ys)
  both n m xs ys x y = both_small map_home page_home who.tty own owns n m xs ys x y

  -- the end of a call that refers to nothing more
  end_none : {C : Type 0} (n : ℕ) (e : End C) → NoneMore n e → Small n (names_of_end (λ (change : C). []) e)
  end_none n (end.Done change regs out post) low = none n
  end_none n (end.Waits on) low = none n
  end_none n end.Halts low = none n
  end_none n (end.Refused code) low = none n
  end_none n (end.Failed code) low = none n
  end_none n (end.Trap channel) low = none n

  -- whichever family has the number
  whether : (b : Bool) (xs ys : List Housed) → Small 57 xs → Small 57 ys → Small 57 (cond b xs ys)
  whether true xs ys x y = x
  whether false xs ys x y = y

  module _ {K : Type 0} {file_cmp : K → K → Ordering} (key_of : List ℕ → K) (v : Parts file_cmp) (is : IsTree v.tree) where
    plain_turn : {F C : Type 0} (sight : Sight F K) (turn : Turn F C) → TurnAtMost who.tty NoneMore 57 turn → Small 57 (names_of_turn sight (names_of_end (λ (change : C). [])) v.pages turn)
    plain_turn sight turn low = turn_small map_home page_home who.tty own owns sight (names_of_end (λ change. [])) NoneMore end_none 57 turn v.pages low

    AllSmall : Regs → ℕ → List (Referring file_cmp) → Type 0
    AllSmall regs number [] = Unit {0}
    AllSmall regs number (r ∷ rs) = Small 57 (r.names v who regs number) × AllSmall regs number rs

    first_small : (regs : Regs) (number : ℕ) (rs : List (Referring file_cmp)) → AllSmall regs number rs → Small 57 (first_names rs v who regs number)
    unfolding AllSmall
    first_small regs number [] all = none 57
    first_small regs number (r ∷ rs) all = whether (r.has number) (r.names v who regs number) (first_names rs v who regs number) all.0 (first_small regs number rs all.1)

    all_small : (regs : Regs) (number : ℕ) → Small 57 (first_names (all_referring key_of) v who regs number)
    unfolding AllSmall
    all_small regs number = first_small regs number (all_referring key_of) (
      plain_turn _ _ (prints_few who.tty regs number),
      (
        turn_small map_home page_home who.tty own owns no_files (names_of_end (names_of_fork_change v.tree.forks)) (KillsIn who.tty) (fork_end_small map_home page_home who.tty own owns v.tree is) 57 _ v.pages (forks_few (asks v who regs) is number),
        (
          plain_turn _ _ (interrupts_few (asks v who regs) number),
          (
            plain_turn _ _ (clock_few who.tty (asks_clock v who regs) number),
            (
              turn_small map_home page_home who.tty own owns _ (names_of_end names_of_map_change) OneMore (map_end_small map_home page_home who.tty own owns) 57 _ v.pages (maps_few (asks_maps v who regs) number),
              (
                plain_turn _ _ (errors_few (asks v who regs) number),
                (
                  plain_turn _ _ (jfns_few (asks_jfns v who regs) number),
                  (
                    plain_turn _ _ (bytes_few (asks_bytes key_of v who regs) number),
                    (plain_turn _ _ (strings_few (asks_bytes key_of v who regs) number), tt),
                  ),
                ),
              ),
            ),
          ),
        ),
      ),
    )

    call_small : (f : Fork) → f.name ≡ who → (x : Planned file_cmp ⊥) → Small 57 (names_of_call key_of v f x)
    call_small f same (call number) = subst (λ (name : ForkName). Small 57 (first_names (all_referring key_of) v name f.body.regs number)) (sym same) (all_small f.body.regs number)
    call_small f same (done t e) = none 57
    call_small f same (stopped why) = none 57

    instruction_small : (f : Fork) → f.name ≡ who → Small 74 (names_of_instruction key_of v f)
    instruction_small f same =
        both 17 57 (names_of_steps f.name (instruction f.body.regs) (begun v.pages f.body.regs.ac)) (names_of_call key_of v f (unit_on f.name v.pages f.body.regs))
        (capped_small map_home page_home who.tty own owns f.name (ap (λ (name : ForkName). name.tty) same) 17 (instruction f.body.regs) (begun v.pages f.body.regs.ac) (instruction_last f.body.regs) (omega arith) refl)
        (call_small f same (unit_on f.name v.pages f.body.regs))

    behind_small : (f : Fork) → f.name ≡ who → (what : Inspected) → Small 74 (names_behind key_of v f what)
    behind_small f same Nothing = instruction_small f same
    behind_small f same (Delivers d) = none 74
    behind_small f same (Forces channel) = none 74

    inspects_small : (f : Fork) → f.name ≡ who → Small 4 (names_of_turn no_files none_at_end v.pages (inspection_turn f))
    inspects_small f same = subst (λ (t : Tty). (o : AreAll map_home page_home t own) → IsSmall map_home page_home t own o 4 (names_of_turn no_files none_at_end v.pages (inspection_turn f))) (ap (λ (name : ForkName). name.tty) same)
        (λ o. inspection_small map_home page_home f own o v.pages) owns

    pub unit_small : Small 78 (names_of_unit key_of v who)
    unit_small = by (map_of.get v.tree.forks who) refl
      where
        one : (f : Fork) → f.name ≡ who → (b : Bool) → Small 78 (cond b (names_of_inspection key_of v f) (names_of_instruction key_of v f))
        one f same true =
            both 4 74 (names_of_turn no_files none_at_end v.pages (inspection_turn f)) (names_behind key_of v f (inspected_by (inspected f v.pages).end)) (inspects_small f same) (behind_small f same (inspected_by (inspected f v.pages).end))
        one f same false = more_small map_home page_home who.tty own owns 74 78 (names_of_instruction key_of v f) (omega arith) (instruction_small f same)

        by : (o : Option Fork) → map_of.get v.tree.forks who ≡ o → Small 78 (option_map_or (λ (k : Fork). cond (is_interrupted k.body.psi) (names_of_inspection key_of v k) (names_of_instruction key_of v k)) o [])
        by None at = none 78
        by (Some f) at = one f (is.slotted.own who f at) (is_interrupted f.body.psi)

-- as many homes as there are of the terminal's forks, and of the others
pub small_few : (map_home : ForkName → Option ℕ) (page_home : PageName → Option ℕ) (t : Tty) (own : List ForkName) (owns : AreAll map_home page_home t own) (n : ℕ) (names : List Housed) → IsSmall map_home page_home t own owns n names
    → length (unique_keys nat_eq (homes_for map_home page_home names)) ≤ length own + n
small_few map_home page_home t own owns n names small =
    let few = small.few in
    let homes = few_once (homes_for map_home page_home names) (homes_for map_home page_home (map a_map own ++ small.others)) small.within in
    omega (arith, few, homes, homes_few map_home page_home (map a_map own ++ small.others), length-append (map a_map own) small.others, length-map own a_map)

pub unit_few : {K : Type 0} {file_cmp : K → K → Ordering} (map_home : ForkName → Option ℕ) (page_home : PageName → Option ℕ) (key_of : List ℕ → K) (v : Parts file_cmp) (f : ForkName) → IsTree v.tree
    → ((g : ForkName) (h : ℕ) → map_home g ≡ Some h → map_of.contains_key v.tree.forks g ≡ true) → length (unique_keys nat_eq (homes_for map_home page_home (names_of_unit key_of v f))) < 128
unit_few map_home page_home key_of v f is living =
    let own = own_forks v.tree f.tty in
    let owns : AreAll map_home page_home f.tty own = own_all map_home page_home v.tree f.tty is living in
    omega (arith, small_few map_home page_home f.tty own owns 78 (names_of_unit key_of v f) (unit_small map_home page_home f own owns key_of v is), own_few v.tree f.tty)

-- as many homes as names at most
pub names_few : (map_home : ForkName → Option ℕ) (page_home : PageName → Option ℕ) (names : List Housed) → length (unique_keys nat_eq (homes_for map_home page_home names)) ≤ length names
names_few map_home page_home names =
    omega (arith, few_once (homes_for map_home page_home names) (homes_for map_home page_home names) (λ h is. is), homes_few map_home page_home names)
