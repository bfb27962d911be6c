use Rattle.std.proofs.Common.{sym, ◌∙◌, arith}
use Rattle.std.proofs.lemmas.List.{get_or_default, same_lists}
use Rattle.machine_names.specs.Orders.{file_page}
use Rattle.plain_pages.specs.References.{in_file, words_at}
use Rattle.file_image.proofs.Peeking.{words_long}
use Rattle.file_image.proofs.page.page_words.Goals as goal

pub returns : goal.returns
returns g c d fits =
    let p = g.P.Pages.means.plain c.args.pages.now d in
    let place = file_page c.args.file.0 c.args.page in
    let words = c.loop-offset.words in
    let long = words_long p (g.met.P.Pages.whole c.args.pages.now d fits) place in
    same_lists words (words_at p (in_file place)) (c.loop-offset.invariant.size ∙ sym long)
    (λ k e below. get_or_default words k e 0 below ∙ (c.loop-offset.invariant.each d fits k (omega (arith, below, c.loop-offset.invariant.size, c.loop-offset-test.false))
    ∙ get_or_default (words_at p (in_file place)) k 0 e (omega (arith, below, c.loop-offset.invariant.size, long))))
