use Rattle.std.proofs.Common.{◌<◌, ◌+◌, arith, refl, ◌∙◌, ap, length, slice_index}
use Rattle.std.proofs.lemmas.Grind.{get_or_default_zero}
use Rattle.page_contracts.specs.Pages.{spot_of}
use Rattle.plain_pages.specs.References.{stored}
use Rattle.std.specs.Prelude.{slice_index_or}
use Rattle.ka10_spots.proofs.Stored.{lost_none, lost_on}
use Rattle.ka10_spots.proofs.Used.{stays_on}
use Rattle.console_access.proofs.ShownWords.{stored_next}
use Rattle.console_access.proofs.writing.put_row.Goals as goal

pub loop-i-init : goal.loop-i-init
loop-i-init g c = record {
  few = omega arith;
  stays = record { touched = refl; scene = refl; space = refl; place = refl; filed = refl; map_homes = refl; page_homes = refl; lives = refl; forks = refl; serials = refl; count = refl; most = refl };
  loses = lost_none g.P.Pages.means c.args.pages.now;
  told = λ d f. (f, refl);
}

pub loop-i-preserved : goal.loop-i-preserved
loop-i-preserved g c =
    let i = c.loop-i.invariant in
    let row = c.args.row.now in
    let low : c.loop-i.i < length row.words = omega (arith, c.loop-i-test.true, c.requires.row.most, c.requires.row.room) in record {
      few = omega (arith, c.loop-i-test.true);
      stays = stays_on g.P.Pages.means c.args.pages.now c.loop-i.pages c.put.new.self i.stays c.put.ensures.stays;
      loses = lost_on g.P.Pages.means c.args.pages.now c.loop-i.pages c.put.new.self i.loses c.put.ensures.loses;
      told = λ d f.
          let so_far = i.told d f in
          let put = c.put.ensures.told d so_far.0 in
          let here = spot_of c.args.at in
          let mid = g.P.Pages.means.plain c.loop-i.pages d in (
            put.0,
            put.1 ∙ ap (λ k. stored mid here (c.args.offset + k) (slice_index_or row.words c.loop-i.i c.index-row-i.result)) c.from.ensures
                ∙ ap (stored mid here (c.args.offset + c.loop-i.i)) (get_or_default_zero row.words c.loop-i.i c.index-row-i.result low)
                ∙ ap (λ p. stored p here (c.args.offset + c.loop-i.i) (slice_index row.words c.loop-i.i)) so_far.1
                ∙ stored_next (g.P.Pages.means.plain c.args.pages.now d) (spot_of c.args.at) c.args.offset row.words c.loop-i.i low,
          );
    }
