use Rattle.std.proofs.Common.{◌∙◌, sym, ap, arith}
use Rattle.plain_files.specs.Sizes.{file_at}
use Rattle.page_files.proofs.Entries.{got}
use Rattle.page_files.proofs.lengths.Lengths.size.Goals as goal

pub returns-clause-value : goal.returns-clause-value
returns-clause-value c =
    ap (λ f. f.size) c.index.ensures ∙ ap (λ f. f.size) (sym (got c.self.inside.files.items c.args.f.0 c.index.result.now (omega (arith, c.self.inside.files.ok.0))))
    ∙ ap (λ fs. (file_at fs c.args.f.0).size) c.self.view_is
