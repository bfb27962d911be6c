use Rattle.std.proofs.Common.{◌∙◌, ap, sym}
use Rattle.page_contracts.specs.Stores.{place}
use Rattle.page_contracts.specs.declared.answers.Peeked.TheVariants.{Is}
use Rattle.flat_pages.proofs.Meeting.{word_here, word_away}
use Rattle.paged_tables.specs.PageHomes.{peeked_at}
use Rattle.slot_paged.proofs.slot_paged.SlotPaged.peek_home.Goals as goal

pub returns-in-Some : goal.returns-in-Some
returns-in-Some g c =
    let p = place (g.S.Store.means.homes c.args.self.now.store) c.args.home.0 in
    let x = word_here p c.args.offset c.in-Some.word (sym c.in-Some.ensures) in
    ap Is x.2 ∙ sym (ap (λ q. peeked_at q c.args.home c.args.offset) x.1)

pub returns-in-None : goal.returns-in-None
returns-in-None g c =
    let p = place (g.S.Store.means.homes c.args.self.now.store) c.args.home.0 in
    sym (ap (λ q. peeked_at q c.args.home c.args.offset) (word_away p c.args.offset (sym c.in-None.ensures) c.requires.taken))
