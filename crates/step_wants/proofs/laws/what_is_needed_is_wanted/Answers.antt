use Rattle.std.proofs.Common.{List, sym, ◌∙◌, ap}
use Rattle.std.specs.Prelude.{◌==◌, nat_eq}
use Rattle.std.specs.List.{list_any}
use Rattle.std.specs.Set.{unique_keys}
use Rattle.event_deeds.specs.Deeds.{deed_of}
use Rattle.step_wants.specs.Names.{Housed, homes_for}
use Rattle.step_wants.proofs.DeedsNamed.{deed_named}
use Rattle.step_wants.proofs.FewDeeds.{deed_told}
use Rattle.step_wants.proofs.Wanted.{call_wanted, named_wanted, unit_wanted}
use Rattle.step_wants.proofs.laws.what_is_needed_is_wanted.Goals as goal

pub returns-clause-units : goal.returns-clause-units
returns-clause-units c tables scene v f map_home page_home home homed living filed lives is = unit_wanted map_home page_home home tables scene v homed living filed f lives is

pub returns-clause-calls : goal.returns-clause-calls
returns-clause-calls c tables scene v f number map_home page_home home homed living filed lives stops is = call_wanted map_home page_home home tables scene v homed living filed f lives number stops is

pub returns-clause-deeds : goal.returns-clause-deeds
returns-clause-deeds c key_of scene v d map_home page_home home homed is =
    named_wanted map_home page_home key_of v (deed_of d) home (deed_named map_home page_home key_of scene v home homed d is)

pub returns-clause-told : goal.returns-clause-told
returns-clause-told c key_of scene v d map_home page_home home homed tells is =
    ap (λ (names : List Housed). list_any (λ h. h == home) (unique_keys nat_eq (homes_for map_home page_home names))) (sym (deed_told key_of v d tells))
    ∙ named_wanted map_home page_home key_of v (deed_of d) home (deed_named map_home page_home key_of scene v home homed d is)
