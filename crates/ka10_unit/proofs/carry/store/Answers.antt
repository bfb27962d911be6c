use Rattle.std.proofs.Common.{inl, refl, ◌∙◌}
use Rattle.plain_pages.specs.PlainPages.{NumberedPages}
use Rattle.machine_names.specs.declared.names.Kind.TheVariants.{Write}
use Rattle.plain_pages.specs.References.{slot_at}
use Rattle.ka10_unit.proofs.Carried.{ready_here}
use Rattle.ka10_spots.proofs.Stored.{lost_none}
use Rattle.ka10_unit.proofs.carry.store.Goals as goal

pub returns-in_default-touch : goal.returns-in_default-touch
returns-in_default-touch g c = record {
  told = λ d fits can.
      let p : NumberedPages = g.P.Pages.means.plain c.args.pages.now d in
      let touched = rw c.page_of_address-at.ensures at (c.touch.ensures.told d c.args.fork.tty fits (inl c.requires.serves.terminal)) in
      let open_at = rw c.in-Some.is at can in
      absurd (c.in_default-touch.not-Ready (touched ∙ ready_here p (g.P.Pages.means.scene c.args.pages.now) (slot_at c.args.fork c.in-Some.put.at) Write c.args.fork.tty open_at.near open_at.makes));
  fits = λ d fits. fits;
  stays = record { touched = refl; scene = refl; space = refl; place = refl; filed = refl; map_homes = refl; page_homes = refl; lives = refl; forks = refl; serials = refl; count = refl; most = refl };
  loses = lost_none g.P.Pages.means c.args.pages.now;
}

pub returns-in_default-clause-loses : goal.returns-in_default-clause-loses
returns-in_default-clause-loses g c = lost_none g.P.Pages.means c.args.pages.now
