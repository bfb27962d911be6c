use Rattle.std.proofs.Common.{◌≡◌, None, refl, sym, ◌∙◌, ap, subst, arith}
use Rattle.machine_names.specs.Orders.{file_page}
use Rattle.plain_pages.specs.References.{in_file}
use Rattle.page_contracts.specs.declared.answers.Need.TheVariants.{Page as NeedsPage}
use Rattle.page_contracts.specs.declared.answers.Peeked.TheVariants.{Absent}
use Rattle.page_contracts.proofs.Losing.{needed_more}
use Rattle.page_contracts.specs.Pages.{page_away}
use Rattle.script_texts.specs.declared.event.Event.TheVariants.{Page}
use Rattle.script_texts.specs.declared.event.Item.TheVariants.{Refusal}
use Rattle.script_texts.specs.declared.event.Refusal.TheVariants.{NoFile, NoFilePage}
use Rattle.step_shown.specs.declared.reply.Reply.TheVariants.{One, Page as ShowsPage}
use Rattle.console_access.proofs.Away.{peek_away}
use Rattle.monitor_core.specs.Systems.{event_frames}
use Rattle.monitor_core.proofs.FileDid.{did_look, file_there, is_missing, page_is_none, page_is_shown, page_of_none}
use Rattle.monitor_core.proofs.JobDid.{did_still}
use Rattle.monitor_core.proofs.NeedsFirst.{event_waits, none_seen, same_file, word_seen}
use Rattle.monitor_core.proofs.system.System.show_page.Goals as goal

pub returns-in_default-clause-did : goal.returns-in_default-clause-did
returns-in_default-clause-did g c =
    let m = c.args.self.now in
    let name = c.args.name.now in
    did_still m m refl refl refl refl refl refl (Page name c.args.page) (One (Refusal (NoFile name))) c.requires.name
    (λ d f. page_of_none m name c.args.page d (is_missing m.files name c.find.result c.find.ensures.found c.in_default.not-Some))

pub returns-in-Is-clause-did : goal.returns-in-Is-clause-did
returns-in-Is-clause-did g c =
    let m = c.args.self.now in
    let f = c.in-Some.file.0 in
    let found = c.in-Some.ensures.found in
    did_look m c.args.name.now f c.args.page found.1 (λ n. ShowsPage n c.args.page) (c.requires.name, c.requires.page)
    (λ d fits.
    let seen = word_seen (g.P.Pages.means.plain m.pages d) (g.P.Pages.means.scene m.pages) (in_file (file_page f c.args.page)) 0 c.in-Is.field-0 (c.in-Is.ensures.told d fits.pages) in
    page_is_shown m f c.args.page found.0 _ (file_there m.files f found.0) seen.page d fits seen.is)

pub returns-in-Is-clause-shown : goal.returns-in-Is-clause-shown
returns-in-Is-clause-shown g c d fits k there is =
    let m = c.args.self.now in
    let f = c.in-Some.file.0 in
    let found = c.in-Some.ensures.found in
    let p = g.P.Pages.means.plain m.pages d in
    let scene = g.P.Pages.means.scene m.pages in
    let same : f ≡ k = same_file m.files f k c.args.name.now found.0 found.1 there is in
    let seen = word_seen p scene (in_file (file_page f c.args.page)) 0 c.in-Is.field-0 (c.in-Is.ensures.told d fits.pages) in
    (refl, subst (λ n. page_away p scene (in_file (file_page n c.args.page)) ≡ None) same seen.here)

pub returns-in-NoPage-clause-did : goal.returns-in-NoPage-clause-did
returns-in-NoPage-clause-did g c =
    let m = c.args.self.now in
    let f = c.in-Some.file.0 in
    let found = c.in-Some.ensures.found in
    did_look m c.args.name.now f c.args.page found.1 (λ n. One (Refusal (NoFilePage n))) c.requires.name
    (λ d fits. page_is_none m f c.args.page found.0 _ (file_there m.files f found.0) d fits (none_seen (g.P.Pages.means.plain m.pages d) (g.P.Pages.means.scene m.pages) (in_file (file_page f c.args.page)) 0 (c.in-NoPage.ensures.told d fits.pages)))

pub returns-in-Absent-clause-waits : goal.returns-in-Absent-clause-waits
returns-in-Absent-clause-waits g c =
    let m = c.args.self.now in
    event_waits m m refl refl refl refl refl refl (NeedsPage c.in-Absent.home) (needed_more g.P.Pages.means.store 1 event_frames m.pages (NeedsPage c.in-Absent.home) (omega arith) c.in-Absent.ensures.needs)

pub returns-in-Absent-clause-reason : goal.returns-in-Absent-clause-reason
returns-in-Absent-clause-reason g c =
    let m = c.args.self.now in
    let f = c.in-Some.file.0 in
    let found = c.in-Some.ensures.found in record {
      file = c.in-Some.file;
      there = found.0;
      named = found.1;
      away = record {
        on_way = λ d home fits same.
            let is : c.in-Absent.home ≡ home = cc same in
            peek_away (g.P.Pages.means.plain m.pages d) (g.P.Pages.means.scene m.pages) (in_file (file_page f c.args.page)) 0 home (ap Absent (sym is) ∙ c.in-Absent.ensures.told d fits);
        own = λ home same. let is : c.in-Absent.home ≡ home = cc same in c.in-Absent.ensures.away home (ap Absent is);
      };
    }
