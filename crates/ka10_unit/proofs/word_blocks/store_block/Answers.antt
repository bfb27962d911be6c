use Rattle.std.proofs.Common.{◌≡◌, ◌+◌, ◌<◌, [], List, length, drop, get_or, refl, sym, ◌∙◌, ap, subst, arith, ℕ}
use Rattle.std.proofs.lemmas.List.{at_drop_more, drop_all}
use Rattle.plain_pages.specs.PlainPages.{NumberedPages}
use Rattle.plain_units.specs.Blocks.{next_address, stored_from}
use Rattle.page_contracts.specs.DrumWords.{DrumWords}
use Rattle.ka10_unit.specs.Taking.{IsOpenAt}
use Rattle.ka10_unit.specs.Blocks.{AreOpenAt, IsStoredAt, address_behind, stored_word}
use Rattle.ka10_unit.specs.Gathers.{Framed, framed}
use Rattle.ka10_unit.proofs.Carried.{serves_still}
use Rattle.ka10_unit.proofs.TakenBlocks.{behind_low, first_address, one_behind, opens_stored, stored_on, stays_on}
use Rattle.ka10_spots.proofs.Stored.{lost_none, lost_on}
use Rattle.ka10_unit.proofs.word_blocks.store_block.Goals as goal

pub store_at-requires-clause-serves : goal.store_at-requires-clause-serves
store_at-requires-clause-serves g c = serves_still g.P.Pages.means c.args.fork c.args.pages.now c.loop-i.pages c.loop-i.invariant.stays.lives c.requires.serves

pub store_at-requires-clause-address : goal.store_at-requires-clause-address
store_at-requires-clause-address g c = rw c.loop-i.invariant.next (behind_low c.args.at c.loop-i.i)

pub loop-i-init : goal.loop-i-init
loop-i-init g c = record {
  next = first_address c.args.at c.requires.address;
  stays = record { touched = refl; scene = refl; space = refl; place = refl; filed = refl; map_homes = refl; page_homes = refl; lives = refl; forks = refl; serials = refl; count = refl; most = refl };
  loses = lost_none g.P.Pages.means c.args.pages.now;
  fits = λ d fits. fits;
  open_at = λ d fits all. all;
  so_far = λ d fits all. ap (λ (a : ℕ). stored_from (g.P.Pages.means.plain c.args.pages.now d) c.args.fork a c.args.words.now) (sym (first_address c.args.at c.requires.address));
}

pub loop-i-preserved : goal.loop-i-preserved
loop-i-preserved g c =
    let means = g.P.Pages.means in
    let before = c.loop-i.invariant in
    let i = c.loop-i.i in
    let f = c.args.fork in
    let word : ℕ = get_or c.args.words.now i c.index-words-i.result in
    let in_range : i < length c.args.words.now = omega arith in
    let told = λ (d : DrumWords) (fits : means.fits c.args.pages.now d) (all : AreOpenAt f (framed means c.args.pages.now d) c.args.at 16).
    let here : IsStoredAt f (framed means c.loop-i.pages d) c.loop-i.next = subst (IsStoredAt f (framed means c.loop-i.pages d)) (sym before.next) (before.open_at d fits all i c.loop-i-test.true) in
    c.store_at.ensures.told d (before.fits d fits) here ∙ ap (λ (a : ℕ). stored_word f (means.plain c.loop-i.pages d) a word) before.next in
    record {
      next = c.next_address-next.ensures ∙ ap next_address before.next ∙ one_behind c.args.at i;
      stays = stays_on means c.args.pages.now c.loop-i.pages c.store_at.new.pages before.stays c.store_at.ensures.stays;
      loses = lost_on means c.args.pages.now c.loop-i.pages c.store_at.new.pages before.loses c.store_at.ensures.loses;
      fits = λ d fits. c.store_at.ensures.fits d (before.fits d fits);
      open_at = λ d fits all. λ k less high.
          subst (λ (q : Framed). IsOpenAt f q (address_behind c.args.at k)) (sym (λ i. record { pages = told d fits all i; scene = c.store_at.ensures.stays.scene i }))
          (opens_stored f (framed means c.loop-i.pages d) (address_behind c.args.at i) word (address_behind c.args.at k) (before.open_at d fits all k less high));
      so_far = λ d fits all.
          let rest = drop (i + 1) c.args.words.now in
          ap (λ (q : NumberedPages). stored_from q f (address_behind c.args.at (i + 1)) rest) (told d fits all)
          ∙ stored_on f (means.plain c.loop-i.pages d) c.args.at i word rest
          ∙ sym (at_drop_more (λ (ws : List ℕ). stored_from (means.plain c.loop-i.pages d) f (address_behind c.args.at i) ws) c.args.words.now i c.index-words-i.result in_range)
          ∙ before.so_far d fits all;
    }

pub returns-clause-told : goal.returns-clause-told
returns-clause-told g c d fits all =
    let out : drop c.loop-i.i c.args.words.now ≡ [] = drop_all c.loop-i.i c.args.words.now (omega arith) in
    ap (λ (ws : List ℕ). stored_from (g.P.Pages.means.plain c.loop-i.pages d) c.args.fork (address_behind c.args.at c.loop-i.i) ws) (sym out) ∙ c.loop-i.invariant.so_far d fits all
