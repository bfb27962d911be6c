use Rattle.std.proofs.Common.{inl, refl, rules}
use Rattle.ka10_unit.specs.Gathers.{framed}
use Rattle.text_pointers.specs.Reading.{in_space}
use Rattle.text_pointers.proofs.Readable.{next_page, page_denied, page_full, page_needs, same_page}
use Rattle.text_pointers.proofs.reader.Reader.refer.Goals as goal

pub returns-then-eq-clause-told : goal.returns-then-eq-clause-told
returns-then-eq-clause-told g c d fits stands = same_page c.args.self.now.fork (inl c.requires.serves.terminal) (framed g.P.Pages.means c.args.pages.now d) c.args.self.now _ c.args.self.now.own.owner c.args.page stands _ (search rules) refl

pub returns-in-Went-clause-told : goal.returns-in-Went-clause-told
returns-in-Went-clause-told g c d fits stands =
    next_page c.args.self.now.fork (inl c.requires.serves.terminal) (framed g.P.Pages.means c.args.pages.now d) c.args.self.now _ c.args.self.now.own.owner c.args.page stands _ (c.in-Went.ensures.told d fits stands.gathers (in_space c.args.self.now.fork c.args.page) c.place-place.ensures) refl refl

pub returns-in-Need-clause-told : goal.returns-in-Need-clause-told
returns-in-Need-clause-told g c d fits stands =
    page_needs c.args.self.now.fork (inl c.requires.serves.terminal) (framed g.P.Pages.means c.args.pages.now d) c.args.self.now _ c.args.self.now.own.owner c.args.page stands _ c.in-Need.need (c.in-Need.ensures.told d fits stands.gathers (in_space c.args.self.now.fork c.args.page) c.place-place.ensures)

pub returns-in-Denied-clause-told : goal.returns-in-Denied-clause-told
returns-in-Denied-clause-told g c d fits stands =
    page_denied c.args.self.now.fork (inl c.requires.serves.terminal) (framed g.P.Pages.means c.args.pages.now d) c.args.self.now _ c.args.self.now.own.owner c.args.page stands _ _ (c.in-Denied.ensures.told d fits stands.gathers (in_space c.args.self.now.fork c.args.page) c.place-place.ensures)

pub returns-in-Full-clause-told : goal.returns-in-Full-clause-told
returns-in-Full-clause-told g c d fits stands =
    page_full c.args.self.now.fork (inl c.requires.serves.terminal) (framed g.P.Pages.means c.args.pages.now d) c.args.self.now _ c.args.self.now.own.owner c.args.page stands _ (c.in-Full.ensures.told d fits stands.gathers (in_space c.args.self.now.fork c.args.page) c.place-place.ensures)
