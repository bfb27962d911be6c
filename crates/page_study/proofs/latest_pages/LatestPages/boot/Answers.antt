use Rattle.std.proofs.Common.{◌*◌, Bool, List, ap, ◌∙◌}
use Rattle.page_study.specs.Seats.{uses}
use Rattle.page_study.proofs.Seated.{none_used}
use Rattle.page_study.proofs.latest_pages.LatestPages.boot.Goals as goal

pub returns-clause-empty : goal.returns-clause-empty
returns-clause-empty c = ap (λ (ts : List Bool). uses ts c.in_ok-vec.field-0.items) c.in_ok-boot.ensures ∙ none_used (2 * c.args.room) c.in_ok-vec.field-0.items
