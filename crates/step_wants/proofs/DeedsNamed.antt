-- What a deed needs first is the home of one of its names.
use Rattle.std.proofs.Common.{◌≡◌, ⊎_elim, ℕ, List, [], ◌∷◌, true, cond, Option, Some, ◌∙◌, ap}
use Rattle.std.specs.Option.{option_map_or}
use Rattle.std.specs.declared.cmp.Ordering.{Ordering}
use Rattle.std.specs.FinMap as map_of
use Rattle.machine_names.specs.Orders.{FilePage}
use Rattle.machine_names.specs.declared.names.ForkName.{ForkName}
use Rattle.machine_names.specs.declared.names.PageName.{PageName}
use Rattle.machine_names.specs.declared.names.Tty.{Tty}
use Rattle.page_contracts.specs.Pages.{Scene, page_away}
use Rattle.plain_pages.specs.References.{in_file, in_map, slot_at}
use Rattle.plain_model.specs.Families.{Parts}
use Rattle.plain_model.specs.MapCalls.{keyed}
use Rattle.plain_model.specs.State.{PlainJob}
use Rattle.plain_model.specs.declared.fork.Fork.{Fork}
use Rattle.script_texts.specs.declared.event.Event.{Event}
use Rattle.script_texts.specs.declared.event.Event.TheVariants.{Auto, Drum, Evict, Examine, File, Forks, Login, Page, Poke, Run, Start, Tick, Trace, TypeIn, Words}
use Rattle.event_deeds.specs.Leaves.{last_below}
use Rattle.event_deeds.specs.declared.deed.Deed.{Deed}
use Rattle.event_deeds.specs.declared.deed.Deed.TheVariants.{Begin, End, Kill, Outer, Typed}
use Rattle.step_wants.specs.Homes.{DeedNeeds, EventNeeds, SeeingNeeds}
use Rattle.step_wants.specs.Names.{Housed, a_map, is_named, names_on_way}
use Rattle.step_wants.specs.Naming.{AreHomed}
use Rattle.step_wants.specs.Wants.{map_of_fork, names_in_job, names_of_deed, names_of_event, names_seen}
use Rattle.step_wants.proofs.Away.{map_named, named_first, page_is_named}

module _ (map_home : ForkName → Option ℕ) (page_home : PageName → Option ℕ) where
  abbrev Named : List Housed → ℕ → Type 0
  Named names home = is_named map_home page_home names home ≡ true

  module _ {K : Type 0} {file_cmp : K → K → Ordering} (key_of : List ℕ → K) (scene : Scene) (v : Parts file_cmp) (home : ℕ) (homed : AreHomed map_home page_home scene) where
    -- the names of a job that is there
    of_job : (t : Tty) (j : PlainJob) (names : PlainJob → List Housed) → map_of.get v.jobs t.0 ≡ Some j → Named (names j) home → Named (names_in_job v.jobs t names) home
    of_job t j names there is = ap (λ (o : Option PlainJob). is_named map_home page_home (option_map_or names o []) home) there ∙ is

    seeing_named : (f : ForkName) (address : ℕ) → SeeingNeeds key_of scene v f address home → Named (names_seen v.pages f address) home
    seeing_named f address is =
        let at = slot_at f address in
        ap (λ b. is_named map_home page_home (cond b [] (names_on_way v.pages (in_map at))) home) is.0
        ∙ ⊎_elim (map_named map_home page_home v.pages (in_map at) scene home homed) (page_is_named map_home page_home v.pages (in_map at) scene home homed) is.1

    -- the page of a file is all that is named on the way to it
    filed_named : (at : FilePage K) → page_away v.pages scene (in_file at) ≡ Some home → Named (names_on_way v.pages (in_file at)) home
    filed_named at is = page_is_named map_home page_home v.pages (in_file at) scene home homed is

    event_named : (e : Event) → EventNeeds key_of scene v e home → Named (names_of_event key_of v e) home
    event_named (Poke t address word) is = of_job t is.0 (λ j. names_seen v.pages j.top address) is.1 (seeing_named is.0.top address is.2)
    event_named (Examine t serial address) is = seeing_named (record { tty = t; serial = serial }) address is
    event_named (Words name page offset row) is = filed_named (keyed key_of name page) is
    event_named (Page name page) is = filed_named (keyed key_of name page) is
    event_named (Login t user) is = absurd is
    event_named (TypeIn t text) is = absurd is
    event_named (File name) is = absurd is
    event_named (Start t address) is = absurd is
    event_named (Run n) is = absurd is
    event_named Tick is = absurd is
    event_named (Evict n) is = absurd is
    event_named (Drum n) is = absurd is
    event_named (Auto on) is = absurd is
    event_named (Forks t) is = absurd is
    event_named (Trace on) is = absurd is

    pub deed_named : (d : Deed) → DeedNeeds key_of scene v d home → Named (names_of_deed key_of v d) home
    deed_named (Outer e) is = event_named e is
    deed_named (Typed t c) is = absurd is
    deed_named (Begin t name) is = filed_named (keyed key_of name 0) is
    deed_named (Kill t purpose) is = of_job t is.0 (λ j. map_of_fork (last_below v.tree.forks j.top)) is.1
        (let leaf = is.2 in ap (λ (o : Option Fork). is_named map_home page_home (map_of_fork o) home) leaf.1 ∙ named_first map_home page_home home (a_map leaf.0.name) [] (homed.maps leaf.0.name home leaf.2))
    deed_named (End t purpose) is = of_job t is.0 (λ j. a_map j.top ∷ []) is.1 (named_first map_home page_home home (a_map is.0.top) [] (homed.maps is.0.top home is.2))
