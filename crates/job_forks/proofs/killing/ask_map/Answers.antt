use Rattle.std.proofs.Common.{◌≡◌, ℕ, Option, None, Some, ap}
use Rattle.std.specs.Option.{option_map, option_and_then}
use Rattle.page_homes.specs.declared.homes.Home.{Home}
use Rattle.machine_names.specs.declared.names.Slot.{Slot}
use Rattle.plain_pages.specs.declared.map.MapEntry.{MapEntry}
use Rattle.plain_pages.specs.PlainPages.{NumberedPages}
use Rattle.plain_pages.specs.Maps.{entry_at}
use Rattle.page_contracts.specs.declared.answers.Need.TheVariants as need
use Rattle.page_contracts.specs.Pages.{Scene}
use Rattle.plain_model.specs.Calls.{entry_of}
use Rattle.call_turns.specs.Telling.{entry_need}
use Rattle.call_turns.proofs.Looks.{absent_map, needed_is}
use Rattle.job_forks.proofs.killing.ask_map.Goals as goal

-- what a look at an entry needs is the map of its fork
need_away : (scene : Scene) (p : NumberedPages) (s : Slot) (home : Home) → entry_need scene p s ≡ Some (need.Page home) → scene.map_away s.fork ≡ Some home.0
need_away scene p s home is = by (entry_at p.maps s) (scene.map_away s.fork) is
  where
    by : (o : Option MapEntry) (away : Option ℕ) → option_and_then (λ (e : MapEntry). option_map (λ h. need.Page (record { 0 = h })) away) o ≡ Some (need.Page home) → away ≡ Some home.0
    by None away h = absurd (cc h)
    by (Some e) None h = absurd (cc h)
    by (Some e) (Some k) h = let same : record { 0 = k } ≡ home = cc h in ap (λ (x : Home). Some x.0) same

pub returns-in-Absent-clause-told : goal.returns-in-Absent-clause-told
returns-in-Absent-clause-told g c d fits =
    let means = g.P.Pages.means in
    let p = means.plain c.args.pages.now d in
    let scene = means.scene c.args.pages.now in
    let at : Slot = record { fork = c.args.name; page = 0 } in
    need_away scene p at c.in-Absent.home (needed_is (entry_need scene p at) (entry_of p at) (need.Page c.in-Absent.home) (absent_map p scene at c.in-Absent.home (c.in-Absent.ensures.told d fits)))
