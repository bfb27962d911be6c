use Rattle.std.proofs.Common.{sym, ◌∙◌}
use Rattle.file_dir.proofs.Places.{place_is, split_on}
use Rattle.file_dir.proofs.order.place_of.Goals as goal

pub returns-clause-within : goal.returns-clause-within
returns-clause-within c =
    let m = c.args.names.now in
    let order = c.args.order.now in
    let name = c.unwrap-name.result in
    let split = split_on m order c.requires.order order c.as_slice.result.now name c.count_before.result (λ i. order) c.as_slice.ensures c.count_before.ensures.place
    c.count_before.ensures.within in
    (place_is m order c.requires.order name c.count_before.result split c.args.f.0 (sym c.get.ensures.found ∙ c.unwrap-name.ensures)).0

pub returns-clause-place : goal.returns-clause-place
returns-clause-place c =
    let m = c.args.names.now in
    let order = c.args.order.now in
    let name = c.unwrap-name.result in
    let split = split_on m order c.requires.order order c.as_slice.result.now name c.count_before.result (λ i. order) c.as_slice.ensures c.count_before.ensures.place
    c.count_before.ensures.within in
    (place_is m order c.requires.order name c.count_before.result split c.args.f.0 (sym c.get.ensures.found ∙ c.unwrap-name.ensures)).1
