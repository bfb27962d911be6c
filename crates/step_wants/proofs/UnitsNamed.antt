-- What a unit needs first is the home of one of its names.
use Rattle.std.proofs.Common.{◌≡◌, ⊎_elim, ℕ, List, [], Bool, true, false, cond, Option, None, Some, refl, sym, ◌∙◌, ap, subst}
use Rattle.std.specs.Option.{option_and_then, option_map_or}
use Rattle.std.specs.Ordering.{nat_cmp}
use Rattle.std.specs.FinMap as map_of
use Rattle.machine_names.specs.FileNames.{file_named}
use Rattle.machine_names.specs.declared.names.ForkName.{ForkName}
use Rattle.machine_names.specs.declared.names.PageName.{PageName}
use Rattle.page_homes.specs.declared.homes.Home.{Home}
use Rattle.page_contracts.specs.declared.answers.Need.TheVariants.{Page}
use Rattle.page_contracts.specs.Pages.{Scene}
use Rattle.plain_units.specs.declared.registers.Regs.{Regs}
use Rattle.plain_units.specs.Deeds.{in_ac}
use Rattle.plain_units.specs.Instructions.{instruction}
use Rattle.plain_units.specs.Steps.{Planned, begun}
use Rattle.plain_units.specs.Units.{unit_on}
use Rattle.plain_model.specs.declared.call.End.{End}
use Rattle.plain_model.specs.declared.call.End.TheVariants as end
use Rattle.plain_model.specs.declared.call.TheConstants.{BAD_NAME}
use Rattle.plain_model.specs.declared.fork.Fork.{Fork}
use Rattle.plain_model.specs.declared.interrupt.Inspected.{Inspected}
use Rattle.plain_model.specs.ByteCalls.{byte_call, byte_calls}
use Rattle.plain_model.specs.Calls.{Sight, Turn, ends, is_among, no_files, numbered}
use Rattle.plain_model.specs.ClockCalls.{clock_calls}
use Rattle.plain_model.specs.EachFamily.{bytes, filing, mapping, opening, printing, strings, timing}
use Rattle.plain_model.specs.Families.{Parts, asks, asks_bytes, asks_jfns, asks_maps, print_calls}
use Rattle.plain_model.specs.FileCalls.{file_calls, jfn_calls, taking}
use Rattle.plain_model.specs.ForkCalls.{fork_call, fork_calls}
use Rattle.plain_model.specs.Inspections.{inspected, inspected_by, inspection, inspection_turn, is_interrupted}
use Rattle.plain_model.specs.InterruptCalls.{interrupt_calls}
use Rattle.plain_model.specs.MapCalls.{map_call, map_calls}
use Rattle.plain_model.specs.PointedTexts.{text_at}
use Rattle.plain_model.specs.StringCalls.{string_call, string_calls}
use Rattle.call_turns.specs.declared.family.CallFamily.{CallFamily}
use Rattle.call_turns.specs.declared.family.CallFamily.TheVariants as family
use Rattle.call_turns.specs.Families.{family_of, if_has}
use Rattle.file_tables.specs.declared.tables.FileTables.{FileTables}
use Rattle.file_tables.specs.Keys.{key_of}
use Rattle.file_tables.specs.Tables.{files_of}
use Rattle.monitor_calls.specs.Reasons.{CallNeeds, FamilyNeeds, InspectionNeeds, InstructionNeeds, NeedsIf, UnitNeeds, framed_in}
use Rattle.step_wants.specs.Names.{Housed, is_named, names_of_steps, names_of_turn, none_at_end}
use Rattle.step_wants.specs.Naming.{AreHomed}
use Rattle.step_wants.specs.Wants.{all_referring, first_names, names_behind, names_of_call, names_of_end, names_of_fork, names_of_fork_change, names_of_inspection, names_of_instruction, names_of_map_change}
use Rattle.step_wants.proofs.Families.{bytes_named, forks_named, interrupts_named, maps_named, strings_named}
use Rattle.step_wants.proofs.Stepping.{steps_named}
use Rattle.step_wants.proofs.Texts.{reading_named}
use Rattle.step_wants.proofs.Turning.{named_front, named_later}

-- an end that refers to nothing more, said in two ways
none_same : {C : Type 0} → none_at_end ≡ names_of_end (λ (change : C). [])
none_same {C = C} = λ i e. each e i
  where
    each : (e : End C) → none_at_end e ≡ names_of_end (λ (change : C). []) e
    each (end.Done change regs out post) = refl
    each (end.Waits on) = refl
    each end.Halts = refl
    each (end.Refused code) = refl
    each (end.Failed code) = refl
    each (end.Trap channel) = refl

-- ---- the family that has a number

-- what a family refers to
abbrev names_by : (tables : FileTables) → Parts nat_cmp → ForkName → Regs → ℕ → Option CallFamily → List Housed
names_by tables v who regs number None = []
names_by tables v who regs number (Some family.Printing) = names_of_turn (printing.sight v who) (names_of_end (λ change. [])) v.pages (numbered print_calls number (printing.asked v who regs))
names_by tables v who regs number (Some family.Forks) = names_of_turn no_files (names_of_end (names_of_fork_change v.tree.forks)) v.pages (numbered fork_calls number (asks v who regs))
names_by tables v who regs number (Some family.Interrupts) = names_of_turn no_files (names_of_end (λ change. [])) v.pages (numbered interrupt_calls number (asks v who regs))
names_by tables v who regs number (Some family.Clock) = names_of_turn (timing.sight v who) (names_of_end (λ change. [])) v.pages (numbered clock_calls number (timing.asked v who regs))
names_by tables v who regs number (Some family.Maps) = names_of_turn ((mapping (key_of tables)).sight v who) (names_of_end names_of_map_change) v.pages (numbered map_calls number (asks_maps v who regs))
names_by tables v who regs number (Some family.Errors) = names_of_turn (filing.sight v who) (names_of_end (λ change. [])) v.pages (numbered file_calls number (filing.asked v who regs))
names_by tables v who regs number (Some family.Jfns) = names_of_turn ((opening (key_of tables)).sight v who) (names_of_end (λ change. [])) v.pages (numbered jfn_calls number (asks_jfns v who regs))
names_by tables v who regs number (Some family.Bytes) = names_of_turn ((bytes (key_of tables)).sight v who) (names_of_end (λ change. [])) v.pages (numbered byte_calls number (asks_bytes (key_of tables) v who regs))
names_by tables v who regs number (Some family.Strings) = names_of_turn ((strings (key_of tables)).sight v who) (names_of_end (λ change. [])) v.pages (numbered string_calls number (asks_bytes (key_of tables) v who regs))

module _ (tables : FileTables) (v : Parts nat_cmp) (who : ForkName) (regs : Regs) (number : ℕ) where
  step : (this : CallFamily) (has : Bool) (x y : List Housed) (other : Option CallFamily) → x ≡ names_by tables v who regs number (Some this) → y ≡ names_by tables v who regs number other
      → cond has x y ≡ names_by tables v who regs number (if_has this has other)
  step this true x y other here there = here
  step this false x y other here there = there

  -- what a call refers to is what its family does
  family_names : first_names (all_referring (key_of tables)) v who regs number ≡ names_by tables v who regs number (family_of number)
  family_names =
      step family.Printing (is_among print_calls number) _ _ _ refl
      (step family.Forks (is_among fork_calls number) _ _ _ refl
      (step family.Interrupts (is_among interrupt_calls number) _ _ _ refl
      (step family.Clock (is_among clock_calls number) _ _ _ refl
      (step family.Maps (is_among map_calls number) _ _ _ refl
      (step family.Errors (is_among file_calls number) _ _ _ refl
      (step family.Jfns (is_among jfn_calls number) _ _ _ refl
      (step family.Bytes (is_among byte_calls number) _ _ _ refl
      (step family.Strings (is_among string_calls number) _ _ _ refl refl))))))))

-- ---- what is needed

module _ (map_home : ForkName → Option ℕ) (page_home : PageName → Option ℕ) (home : Home) (tables : FileTables) (scene : Scene) (v : Parts nat_cmp)
    (homed : AreHomed map_home page_home scene) (living : (g : ForkName) (h : ℕ) → map_home g ≡ Some h → map_of.contains_key v.tree.forks g ≡ true) (filed : v.files ≡ files_of tables) where
  abbrev Named : List Housed → Type 0
  Named names = is_named map_home page_home names home.0 ≡ true

  -- with the other way to say that an end refers to nothing
  plainly_named : {F C : Type 0} (sight : Sight F ℕ) (t : Turn F C) → Named (names_of_turn sight none_at_end v.pages t) → Named (names_of_turn sight (names_of_end (λ (change : C). [])) v.pages t)
  plainly_named sight t is = subst (λ (at_end : End _ → List Housed). Named (names_of_turn sight at_end v.pages t)) none_same is

  family_named : (who : ForkName) (regs : Regs) (number : ℕ) (which : Option CallFamily) → FamilyNeeds which tables scene v who regs number (Page home) → Named (names_by tables v who regs number which)
  family_named who regs number None is = absurd is
  family_named who regs number (Some family.Printing) is = absurd is
  family_named who regs number (Some family.Forks) is =
      forks_named map_home page_home home v.tree.forks (framed_in scene v) (fork_call number (asks v who regs)) homed (λ f h away. living f h (homed.maps f h away)) is
  family_named who regs number (Some family.Interrupts) is =
      plainly_named no_files (numbered interrupt_calls number (asks v who regs)) (interrupts_named map_home page_home home scene v.pages (numbered interrupt_calls number (asks v who regs)) homed is)
  family_named who regs number (Some family.Clock) is = absurd is
  family_named who regs number (Some family.Maps) is =
      subst (λ files. Named (names_of_turn ((mapping (key_of tables)).sight (record v { files = files }) who) (names_of_end names_of_map_change) v.pages (numbered map_calls number (asks_maps v who regs)))) (sym filed)
      (maps_named map_home page_home home tables scene v.pages (map_call number (asks_maps v who regs)) homed is)
  family_named who regs number (Some family.Errors) is = absurd is
  family_named who regs number (Some family.Jfns) is =
      plainly_named ((opening (key_of tables)).sight v who) (numbered jfn_calls number (asks_jfns v who regs))
      (subst (λ n. Named (names_of_turn ((opening (key_of tables)).sight v who) none_at_end v.pages (numbered jfn_calls n (asks_jfns v who regs)))) (sym is.0)
      (let a = asks_jfns v who regs in
      reading_named map_home page_home home who (framed_in scene v) regs homed ((opening (key_of tables)).sight v who) none_at_end
      (λ text. option_map_or (taking a) (option_and_then (file_named a.user []) text) (ends (end.Failed BAD_NAME))) (text_at regs (in_ac regs 2)) v.pages is.1))
  family_named who regs number (Some family.Bytes) is =
      plainly_named ((bytes (key_of tables)).sight v who) (byte_call number (asks_bytes (key_of tables) v who regs))
      (subst (λ files. Named (names_of_turn ((bytes (key_of tables)).sight (record v { files = files }) who) none_at_end v.pages (byte_call number (asks_bytes (key_of tables) v who regs)))) (sym filed)
      (bytes_named map_home page_home home tables scene v.pages (byte_call number (asks_bytes (key_of tables) v who regs)) homed is))
  family_named who regs number (Some family.Strings) is =
      plainly_named ((strings (key_of tables)).sight v who) (string_call number (asks_bytes (key_of tables) v who regs))
      (subst (λ files. Named (names_of_turn ((strings (key_of tables)).sight (record v { files = files }) who) none_at_end v.pages (string_call number (asks_bytes (key_of tables) v who regs)))) (sym filed)
      (strings_named map_home page_home home tables scene v.pages (string_call number (asks_bytes (key_of tables) v who regs)) homed is))

  pub call_named : (who : ForkName) (regs : Regs) (number : ℕ) → CallNeeds tables scene v who regs number (Page home) → Named (first_names (all_referring (key_of tables)) v who regs number)
  call_named who regs number is =
      ap (λ (names : List Housed). is_named map_home page_home names home.0) (family_names tables v who regs number) ∙ family_named who regs number (family_of number) is

  instruction_named : (f : Fork) → InstructionNeeds tables scene v f (Page home) → Named (names_of_instruction (key_of tables) v f)
  instruction_named f is =
      let xs = names_of_steps f.name (instruction f.body.regs) (begun v.pages f.body.regs.ac) in
      let ys = names_of_call (key_of tables) v f (unit_on f.name v.pages f.body.regs) in
      ⊎_elim (λ steps. named_front map_home page_home home xs ys (steps_named map_home page_home f.name (framed_in scene v) home homed (instruction f.body.regs) (begun v.pages f.body.regs.ac) steps))
      (λ called. named_later map_home page_home home xs ys
      (ap (λ (x : Planned nat_cmp ⊥). is_named map_home page_home (names_of_call (key_of tables) v f x) home.0) called.1 ∙ call_named f.name f.body.regs called.0 called.2)) is

  inspection_named : (f : Fork) → InspectionNeeds tables scene v f (Page home) → Named (names_of_inspection (key_of tables) v f)
  inspection_named f is =
      let xs = names_of_turn no_files none_at_end v.pages (inspection_turn f) in
      let ys = names_behind (key_of tables) v f (inspected_by (inspected f v.pages).end) in
      ⊎_elim (λ looks. named_front map_home page_home home xs ys
      (reading_named map_home page_home home f.name (framed_in scene v) f.body.regs homed no_files none_at_end (λ what. ends (end.Done what f.body.regs None None)) (inspection f) v.pages looks))
      (λ none. named_later map_home page_home home xs ys
      (ap (λ (what : Inspected). is_named map_home page_home (names_behind (key_of tables) v f what) home.0) none.0 ∙ instruction_named f none.1)) is

  -- of a fork that lives
  pub unit_named : (f : Fork) → UnitNeeds tables scene v f (Page home) → Named (names_of_fork (key_of tables) v f)
  unit_named f is = by (is_interrupted f.body.psi) is
    where
      by : (b : Bool) → NeedsIf b tables scene v f (Page home) → Named (cond b (names_of_inspection (key_of tables) v f) (names_of_instruction (key_of tables) v f))
      by true needs = inspection_named f needs
      by false needs = instruction_named f needs
