-- What is needed first is wanted.
use Rattle.std.proofs.Common.{◌≡◌, inr, ℕ, List, [], Bool, true, false, Option, Some, ◌∙◌, ap}
use Rattle.std.specs.Prelude.{◌==◌}
use Rattle.std.specs.List.{list_any}
use Rattle.std.specs.Option.{option_map_or}
use Rattle.std.specs.Ordering.{nat_cmp}
use Rattle.std.specs.FinMap as map_of
use Rattle.machine_names.specs.declared.names.ForkName.{ForkName}
use Rattle.machine_names.specs.declared.names.PageName.{PageName}
use Rattle.page_homes.specs.declared.homes.Home.{Home}
use Rattle.page_contracts.specs.declared.answers.Need.TheVariants.{Page}
use Rattle.page_contracts.specs.Pages.{Scene}
use Rattle.plain_model.specs.declared.fork.Fork.{Fork}
use Rattle.plain_model.specs.Families.{Parts}
use Rattle.plain_model.specs.Inspections.{is_interrupted}
use Rattle.file_tables.specs.declared.tables.FileTables.{FileTables}
use Rattle.file_tables.specs.Keys.{key_of}
use Rattle.file_tables.specs.Tables.{files_of}
use Rattle.monitor_calls.specs.declared.row.Last.TheVariants.{Calls}
use Rattle.monitor_calls.specs.Reasons.{CallNeeds, NeedsIf, StopsIf, UnitNeeds, UnitStops, framed_in}
use Rattle.event_deeds.specs.Deeds.{Task, unit_of}
use Rattle.step_wants.specs.Homes.{wants}
use Rattle.step_wants.specs.Names.{homes_for, is_named}
use Rattle.step_wants.specs.Naming.{AreHomed}
use Rattle.step_wants.specs.Wants.{names_of, names_of_fork}
use Rattle.step_wants.proofs.Once.{has_once}
use Rattle.step_wants.proofs.UnitsNamed.{unit_named}

module _ (map_home : ForkName → Option ℕ) (page_home : PageName → Option ℕ) where
  -- the home of a name of a task is wanted
  pub named_wanted : (key : List ℕ → ℕ) (v : Parts nat_cmp) (x : Task) (home : ℕ) → is_named map_home page_home (names_of key v x) home ≡ true → list_any (λ h. h == home) (wants map_home page_home key v x) ≡ true
  named_wanted key v x home is = has_once home (homes_for map_home page_home (names_of key v x)) ∙ is

  module _ (home : Home) (tables : FileTables) (scene : Scene) (v : Parts nat_cmp) (homed : AreHomed map_home page_home scene) (living : (g : ForkName) (h : ℕ) → map_home g ≡ Some h → map_of.contains_key v.tree.forks g ≡ true)
      (filed : v.files ≡ files_of tables) (f : Fork) (lives : map_of.get v.tree.forks f.name ≡ Some f) where
    pub unit_wanted : UnitNeeds tables scene v f (Page home) → list_any (λ h. h == home.0) (wants map_home page_home (key_of tables) v (unit_of f.name)) ≡ true
    unit_wanted is =
        named_wanted (key_of tables) v (unit_of f.name) home.0
        (ap (λ (o : Option Fork). is_named map_home page_home (option_map_or (names_of_fork (key_of tables) v) o []) home.0) lives ∙ unit_named map_home page_home home tables scene v homed living filed f is)

    -- a unit that is a call needs what the call's turn does
    call_needs : (number : ℕ) → UnitStops (framed_in scene v) f (Calls number) → CallNeeds tables scene v f.name f.body.regs number (Page home) → UnitNeeds tables scene v f (Page home)
    call_needs number stops needs = by (is_interrupted f.body.psi) stops
      where
        by : (b : Bool) → StopsIf b (framed_in scene v) f (Calls number) → NeedsIf b tables scene v f (Page home)
        by true at = inr (at.0, inr (number, at.1, needs))
        by false at = inr (number, at, needs)

    pub call_wanted : (number : ℕ) → UnitStops (framed_in scene v) f (Calls number) → CallNeeds tables scene v f.name f.body.regs number (Page home) → list_any (λ h. h == home.0) (wants map_home page_home (key_of tables) v (unit_of f.name)) ≡ true
    call_wanted number stops needs = unit_wanted (call_needs number stops needs)
