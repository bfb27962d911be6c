use Rattle.std.proofs.Common.{◌≡◌, ◌+◌, refl, sym, ◌∙◌, subst}
use Rattle.machine_names.specs.declared.names.Kind.TheVariants.{Write}
use Rattle.page_contracts.specs.Stores.{IsNeeded}
use Rattle.plain_pages.specs.PlainPages.{NumberedPages}
use Rattle.plain_pages.specs.References.{granted, in_map, reference}
use Rattle.page_gather.specs.declared.reference.Added.TheVariants.{Went, Need, Denied, Full}
use Rattle.page_gather.specs.Gathering.{Adds, most_framed}
use Rattle.ka10_spots.proofs.Stored.{lost_none}
use Rattle.console_access.proofs.Judging.{first_answer, first_can, first_opens, says, sound_over, write_at}
use Rattle.console_access.proofs.Writes.{readied_as}
use Rattle.console_access.proofs.readying.ready_slot.Goals as goal

pub returns-in-Went-clause-told : goal.returns-in-Went-clause-told
returns-in-Went-clause-told g c d f =
    let means = g.P.Pages.means in
    let old = c.args.pages.now in
    let p = means.plain old d in
    let owner = c.args.owner in
    let sound = sound_over means old p (g.met.P.Pages.agrees old d f) (g.met.P.Pages.whole old d f) in
    let adds : Adds p (means.scene old) c.new-gather.result c.add.new.self (write_at c.args.slot) Went = c.in-Went.ensures.told d f (c.new-gather.ensures.told p (means.scene old) sound) c.args.slot refl in
    let can = first_can p (means.scene old) owner c.args.slot c.new-gather.result c.add.new.self c.new-gather.ensures.owner c.new-gather.ensures.none Went adds refl sound c.requires.owner in
    let made = c.make.ensures.told d _ f can in
    (c.make.ensures.fits d f, readied_as p (in_map c.args.slot) owner (means.plain c.make.new.pages d) tt (subst (λ (q : NumberedPages). reference p (in_map c.args.slot) Write owner ≡ granted q) (sym made) can.goes))

pub returns-in-Went-clause-open : goal.returns-in-Went-clause-open
returns-in-Went-clause-open g c d f touched =
    let means = g.P.Pages.means in
    let old = c.args.pages.now in
    let p = means.plain old d in
    let owner = c.args.owner in
    let sound = sound_over means old p (g.met.P.Pages.agrees old d f) (g.met.P.Pages.whole old d f) in
    let adds : Adds p (means.scene old) c.new-gather.result c.add.new.self (write_at c.args.slot) Went = c.in-Went.ensures.told d f (c.new-gather.ensures.told p (means.scene old) sound) c.args.slot refl in
    let can = first_can p (means.scene old) owner c.args.slot c.new-gather.result c.add.new.self c.new-gather.ensures.owner c.new-gather.ensures.none Went adds refl sound c.requires.owner in
    touched
    ∙ first_opens p (means.scene old) owner c.args.slot c.new-gather.result c.add.new.self c.new-gather.ensures.owner c.new-gather.ensures.none Went adds refl sound c.requires.owner (means.plain c.make.new.pages d) (means.scene c.make.new.pages)
    (c.make.ensures.told d _ f can) c.make.ensures.grows.maps_away c.make.ensures.grows.pages_away

pub returns-in-Need-clause-loses : goal.returns-in-Need-clause-loses
returns-in-Need-clause-loses g c = lost_none g.P.Pages.means c.args.pages.now

pub returns-in-Need-clause-waits : goal.returns-in-Need-clause-waits
returns-in-Need-clause-waits g c = record {
  stays = refl;
  needed = subst (λ n. IsNeeded g.P.Pages.means.store (n + 2) c.args.pages.now c.in-Need.need) c.new-gather.ensures.unmade c.in-Need.ensures.needs;
  away = record {
    on_way = λ d home f same.
        let means = g.P.Pages.means in
        let old = c.args.pages.now in
        let p = means.plain old d in
        let sound = sound_over means old p (g.met.P.Pages.agrees old d f) (g.met.P.Pages.whole old d f) in
        let adds : Adds p (means.scene old) c.new-gather.result c.add.new.self (write_at c.args.slot) (Need c.in-Need.need) = c.in-Need.ensures.told d f (c.new-gather.ensures.told p (means.scene old) sound) c.args.slot refl in
        says p (means.scene old) c.args.owner c.args.slot (most_framed p (means.scene old)) (Need c.in-Need.need)
        (first_answer p (means.scene old) c.args.owner c.args.slot c.new-gather.result c.add.new.self c.new-gather.ensures.owner c.new-gather.ensures.none (Need c.in-Need.need) adds) home same;
    own = λ home same. tt;
  };
}

pub returns-in-Denied-clause-told : goal.returns-in-Denied-clause-told
returns-in-Denied-clause-told g c d f =
    let means = g.P.Pages.means in
    let old = c.args.pages.now in
    let p = means.plain old d in
    let sound = sound_over means old p (g.met.P.Pages.agrees old d f) (g.met.P.Pages.whole old d f) in
    let adds : Adds p (means.scene old) c.new-gather.result c.add.new.self (write_at c.args.slot) (Denied c.in-Denied.field-0) = c.in-Denied.ensures.told d f (c.new-gather.ensures.told p (means.scene old) sound) c.args.slot refl in (
      f,
      record {
        refers = says p (means.scene old) c.args.owner c.args.slot (most_framed p (means.scene old)) (Denied c.in-Denied.field-0)
            (first_answer p (means.scene old) c.args.owner c.args.slot c.new-gather.result c.add.new.self c.new-gather.ensures.owner c.new-gather.ensures.none (Denied c.in-Denied.field-0) adds);
        stays = refl;
      },
    )

pub returns-in-Denied-clause-loses : goal.returns-in-Denied-clause-loses
returns-in-Denied-clause-loses g c = lost_none g.P.Pages.means c.args.pages.now

pub returns-in-Full-clause-told : goal.returns-in-Full-clause-told
returns-in-Full-clause-told g c d f =
    let means = g.P.Pages.means in
    let old = c.args.pages.now in
    let p = means.plain old d in
    let sound = sound_over means old p (g.met.P.Pages.agrees old d f) (g.met.P.Pages.whole old d f) in
    let adds : Adds p (means.scene old) c.new-gather.result c.add.new.self (write_at c.args.slot) Full = c.in-Full.ensures.told d f (c.new-gather.ensures.told p (means.scene old) sound) c.args.slot refl in (
      f,
      record {
        refers = says p (means.scene old) c.args.owner c.args.slot (most_framed p (means.scene old)) Full
            (first_answer p (means.scene old) c.args.owner c.args.slot c.new-gather.result c.add.new.self c.new-gather.ensures.owner c.new-gather.ensures.none Full adds);
        stays = refl;
      },
    )

pub returns-in-Full-clause-loses : goal.returns-in-Full-clause-loses
returns-in-Full-clause-loses g c = lost_none g.P.Pages.means c.args.pages.now
