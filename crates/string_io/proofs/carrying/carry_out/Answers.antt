use Rattle.std.proofs.Common.{◌≡◌, ℕ, ◌+◌, refl, sym, ◌∙◌, ap, subst, arith}
use Rattle.plain_pages.specs.PlainPages.{NumberedPages}
use Rattle.plain_pages.specs.Room.{live}
use Rattle.plain_units.specs.Steps.{put_into}
use Rattle.plain_model.specs.ByteCalls.{byte_changed}
use Rattle.machine_names.specs.declared.names.Tty.{Tty}
use Rattle.page_contracts.specs.Pages.{Scene}
use Rattle.page_gather.specs.Gathering.{left_of, most_framed}
use Rattle.page_gather.specs.Making.{Grows as Made}
use Rattle.call_turns.specs.Answers.{FitsAnswer}
use Rattle.ka10_unit.specs.Carrying.{Grows, StaysAway}
use Rattle.ka10_unit.specs.Gathers.{Framed, framed}
use Rattle.ka10_unit.proofs.Carried.{grows_more, grows_none, grows_stored, grows_within, put_framed}
use Rattle.file_tables.specs.Keys.{key_of}
use Rattle.file_bytes.specs.Asking.{parts}
use Rattle.file_bytes.specs.Planning.{pages_for}
use Rattle.file_bytes.specs.Turning.{Stays}
use Rattle.file_bytes.proofs.JobParts.{all_same}
use Rattle.file_bytes.proofs.Parts.{end_fits, stays_so}
use Rattle.string_io.specs.Depositing.{pages_planned}
use Rattle.string_io.specs.Planning.{CanEnd}
use Rattle.string_io.proofs.Carried.{behind_done, behind_other, live_put, made_grows, opens_done}
use Rattle.string_io.proofs.carrying.carry_out.Goals as goal

pub returns-in-Done-clause-told : goal.returns-in-Done-clause-told
returns-in-Done-clause-told g c d fits carry opens =
    let means = g.P.Pages.means in
    let plan = c.args.plan.now in
    let f = plan.fork in
    let t = f.tty in
    let tables = c.args.tables.now in
    let what = c.in-Done.what in
    let p : Framed = framed means c.args.pages.now d in
    let q : NumberedPages = left_of p.pages plan.gather in
    let made : means.plain c.make.new.pages d ≡ q = c.make.ensures.told d fits carry.gathers in
    let fits_made = c.make.ensures.fits d fits in
    let away : StaysAway p.scene (means.scene c.make.new.pages) = record { maps = c.make.ensures.grows.maps_away; pages = c.make.ensures.grows.pages_away } in
    let can = put_framed f (record p { pages = q }) (framed means c.make.new.pages d) made away plan.put carry.put in
    let one : means.plain c.store.new.pages d ≡ pages_planned p plan = c.store.ensures.told d fits_made can ∙ ap (λ (x : NumberedPages). put_into f x plan.put) made in
    let fits_stored = c.store.ensures.fits d fits_made in
    let old_agrees = g.met.P.Pages.agrees c.args.pages.now d fits in
    let made_agrees = g.met.P.Pages.agrees c.make.new.pages d fits_made in
    let framed_so : live (means.plain c.make.new.pages d) + (means.scene c.make.new.pages).free_frames ≡ most_framed p.pages p.scene = omega (arith, old_agrees.number, made_agrees.number, c.make.ensures.grows.framed) in
    let counted : live (pages_planned p plan) + (means.scene c.store.new.pages).free_frames ≡ most_framed p.pages p.scene =
    ap (λ (n : ℕ). n + (means.scene c.store.new.pages).free_frames) (live_put f q plan.put ∙ ap live (sym made)) ∙ ap (λ (s : Scene). live (means.plain c.make.new.pages d) + s.free_frames) c.store.ensures.stays.scene ∙ framed_so in
    let open_now = opens_done tables p t (pages_planned p plan) (means.plain c.store.new.pages d) (means.scene c.store.new.pages) one (ap (λ (s : Scene). s.page_away) c.store.ensures.stays.scene ∙ away.pages) counted plan.ending what c.in-Done.regs c.in-Done.out c.in-Done.post c.in-Done.is opens in
    let changed = c.change_where_open.ensures.told d fits_stored open_now in
    record {
      fits = changed.fits;
      left = λ jobs has. behind_done tables t jobs p.pages (pages_planned p plan) _ plan.ending what c.in-Done.regs c.in-Done.out c.in-Done.post c.in-Done.is
          (changed.left jobs has ∙ ap (λ (r : NumberedPages). byte_changed (key_of tables) what (parts jobs tables (pages_for tables t r what))) one);
    }

pub returns-in-Done-clause-grows : goal.returns-in-Done-clause-grows
returns-in-Done-clause-grows g c =
    let means = g.P.Pages.means in
    let plan = c.args.plan.now in
    let t = plan.fork.tty in
    let made = subst (λ (o : Tty). Made means o 128 c.args.pages.now c.make.new.pages) plan.own.owner c.make.ensures.grows in
    let first : Grows means t 128 c.args.pages.now c.make.new.pages = record { lives = made.lives; forks = made.forks; most = made.most; serial = made.serial; serials = made.serials; loses = made.loses } in
    let second = grows_more means t 128 0 c.args.pages.now c.make.new.pages c.store.new.pages first (grows_stored means t c.make.new.pages c.store.new.pages c.store.ensures.stays c.store.ensures.loses) in
    grows_more means t 128 1 c.args.pages.now c.store.new.pages c.change_where_open.new.pages second (made_grows means t 1 c.store.new.pages c.change_where_open.new.pages c.change_where_open.ensures.made c.change_where_open.ensures.loses)

pub returns-in_default : goal.returns-in_default
returns-in_default g c =
    let means = g.P.Pages.means in
    let s = c.args.pages.now in
    let tables = c.args.tables.now in
    let line = c.args.input.now in
    let plan = c.args.plan.now in
    let t = plan.fork.tty in
    let answered = c.answer_of-in_default.ensures in
    record {
      answer = answered;
      told = λ d fits carry opens. record {
        fits = fits;
        left = λ jobs has. behind_other tables t jobs (means.plain s d) (pages_planned (framed means s d) plan) _ plan.ending c.in_default.not-Done (ap (λ js. parts js tables (means.plain s d)) (all_same jobs t tables tables line line has refl refl));
      };
      fits = subst FitsAnswer (sym answered) (end_fits (CanEnd tables t) plan.ending c.requires.fits);
      stays = subst (Stays s s tables tables line line) (sym answered) (stays_so s tables line plan.ending c.in_default.not-Done);
      others = record { jfns = λ u ne. refl; dir = refl; codes = refl };
      grows = grows_within means t 0 129 s s (omega arith) (grows_none means t s);
    }
