use Rattle.std.proofs.Common.{◌≡◌, refl, sym, ◌∙◌, ap}
use Rattle.machine_names.specs.declared.names.Place.TheVariants.{File}
use Rattle.machine_names.specs.declared.names.Kind.TheVariants.{Write}
use Rattle.machine_names.specs.Orders.{file_page}
use Rattle.page_contracts.specs.declared.answers.Touch.TheVariants.{Absent}
use Rattle.plain_pages.specs.References.{in_file}
use Rattle.file_bytes.proofs.Settled.{is_ready, there_then}
use Rattle.ka10_spots.proofs.Stored.{lost_none}
use Rattle.console_access.proofs.Away.{touch_away}
use Rattle.console_access.proofs.Writes.{readied_as, ready_refers, copy_refers, zero_refers, denied_refers, full_refers}
use Rattle.console_access.proofs.readying.ready_file.Goals as goal

pub returns-in-Ready-clause-told : goal.returns-in-Ready-clause-told
returns-in-Ready-clause-told g c d f =
    let p = g.P.Pages.means.plain c.args.pages.now d in
    let at = in_file (file_page c.args.file.0 c.args.page) in
    (f, readied_as p at c.args.owner p tt (ready_refers p (g.P.Pages.means.scene c.args.pages.now) at c.args.owner _ (c.in-Ready.ensures.told d c.args.owner f c.requires.owner) refl))

pub returns-in-Ready-clause-loses : goal.returns-in-Ready-clause-loses
returns-in-Ready-clause-loses g c = lost_none g.P.Pages.means c.args.pages.now

pub returns-in-Zero-clause-told : goal.returns-in-Zero-clause-told
returns-in-Zero-clause-told g c d f =
    let p = g.P.Pages.means.plain c.args.pages.now d in
    let at = in_file (file_page c.args.file.0 c.args.page) in
    let made = c.settle.ensures.told d f in
    let q = g.P.Pages.means.plain c.settle.new.self d in
    (made.0, readied_as p at c.args.owner q tt (zero_refers p (g.P.Pages.means.scene c.args.pages.now) at c.args.owner _ (c.in-Zero.ensures.told d c.args.owner f c.requires.owner) (file_page c.args.file.0 c.args.page) q refl refl made.1))

pub returns-in-Zero-clause-open : goal.returns-in-Zero-clause-open
returns-in-Zero-clause-open g c d f touched =
    let means = g.P.Pages.means in
    let old = c.args.pages.now in
    let mid = c.settle.new.self in
    let q = means.plain mid d in
    let there = there_then means old mid c.args.file c.args.page q c.settle.ensures.filed (g.met.P.Pages.agrees mid d (c.settle.ensures.told d f).0).filed in
    is_ready q (file_page c.args.file.0 c.args.page) c.args.owner (means.scene mid) (means.touched old (File c.args.file c.args.page) Write) (means.touched mid (File c.args.file c.args.page) Write) touched c.settle.ensures.settles there

pub returns-in-Copy-clause-told : goal.returns-in-Copy-clause-told
returns-in-Copy-clause-told g c d f =
    let p = g.P.Pages.means.plain c.args.pages.now d in
    let at = in_file (file_page c.args.file.0 c.args.page) in
    let copied = c.settle-in-Copy.ensures.told d f in
    let q = g.P.Pages.means.plain c.settle-in-Copy.new.self d in
    (copied.0, readied_as p at c.args.owner q tt (copy_refers p (g.P.Pages.means.scene c.args.pages.now) at c.args.owner _ (c.in-Copy.ensures.told d c.args.owner f c.requires.owner) c.in-Copy.sole q refl copied.1))

pub returns-in-Denied-clause-told : goal.returns-in-Denied-clause-told
returns-in-Denied-clause-told g c d f =
    (f, denied_refers (g.P.Pages.means.plain c.args.pages.now d) (g.P.Pages.means.scene c.args.pages.now) (in_file (file_page c.args.file.0 c.args.page)) c.args.owner _ (c.in-Denied.ensures.told d c.args.owner f c.requires.owner) _ refl)

pub returns-in-Denied-clause-loses : goal.returns-in-Denied-clause-loses
returns-in-Denied-clause-loses g c = lost_none g.P.Pages.means c.args.pages.now

pub returns-in-Full-clause-told : goal.returns-in-Full-clause-told
returns-in-Full-clause-told g c d f =
    (f, full_refers (g.P.Pages.means.plain c.args.pages.now d) (g.P.Pages.means.scene c.args.pages.now) (in_file (file_page c.args.file.0 c.args.page)) c.args.owner _ (c.in-Full.ensures.told d c.args.owner f c.requires.owner) refl)

pub returns-in-Full-clause-loses : goal.returns-in-Full-clause-loses
returns-in-Full-clause-loses g c = lost_none g.P.Pages.means c.args.pages.now

pub returns-in-Absent-clause-loses : goal.returns-in-Absent-clause-loses
returns-in-Absent-clause-loses g c = lost_none g.P.Pages.means c.args.pages.now

pub returns-in-Absent-clause-waits : goal.returns-in-Absent-clause-waits
returns-in-Absent-clause-waits g c = record {
  stays = refl;
  needed = c.in-Absent.ensures.needs;
  away = record {
    on_way = λ d home f same.
        let is : c.in-Absent.home ≡ home = cc same in
        touch_away (g.P.Pages.means.plain c.args.pages.now d) (g.P.Pages.means.scene c.args.pages.now) (in_file (file_page c.args.file.0 c.args.page)) Write c.args.owner home (ap Absent (sym is) ∙ c.in-Absent.ensures.told d c.args.owner f c.requires.owner);
    own = λ home same. let is : c.in-Absent.home ≡ home = cc same in c.in-Absent.ensures.away home (ap Absent is);
  };
}

pub returns-in-NeedFrame-clause-loses : goal.returns-in-NeedFrame-clause-loses
returns-in-NeedFrame-clause-loses g c = lost_none g.P.Pages.means c.args.pages.now
