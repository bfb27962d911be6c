use Rattle.std.proofs.Common.{◌<◌, ◌^◌, ◌∙◌, arith, rules}
use Rattle.std.specs.Prelude.{slice_index_or}
use Rattle.flat_tables.specs.Looks.{past_look}
use Rattle.flat_tables.proofs.Looking.{ready_here, key_there, page_there, passes_on}
use Rattle.flat_tables.proofs.kept_maps.KeptMaps.home_behind.Goals as goal

pub index-requires-else-not-look-way : goal.index-requires-else-not-look-way
index-requires-else-not-look-way c =
    let below = key_there c.args.self.now.looked c.requires.held c.args.at c.requires.lives c.requires.page c.index.ensures c.args.wanted c.number-way.ensures.value c.if-not-look-way.false in
    search rules

pub bounds-index-look : goal.bounds-index-look
bounds-index-look c = page_there c.args.self.now.looked c.requires.held c.args.at c.requires.lives c.requires.page c.index.ensures c.args.wanted c.number-way.ensures.value c.if-not-look-way.false

pub index-requires-2 : goal.index-requires-2
index-requires-2 c =
    let small : (slice_index_or c.index.result.now c.args.at.page past_look).number < 2 ^ 32 = search rules in
    let below = (passes_on c.args.self.now.looked c.requires.held c.args.at c.requires.lives c.requires.page c.index.ensures c.args.wanted c.number-way.ensures.value c.if-not-look-way.false
    small c.index-else-not-look-way.ensures (c.if-index-from.false ∙ c.from.ensures)).row in
    search rules

pub returns-then-behind-way : goal.returns-then-behind-way
returns-then-behind-way c =
    let look = slice_index_or c.index.result.now c.args.at.page past_look in
    let small : look.number < 2 ^ 32 = search rules in
    let on = passes_on c.args.self.now.looked c.requires.held c.args.at c.requires.lives c.requires.page c.index.ensures c.args.wanted c.number-way.ensures.value c.if-not-look-way.false
    small c.index-else-not-look-way.ensures (c.if-index-from.false ∙ c.from.ensures) in
    on.rest 4 (omega arith)
    ∙ ready_here c.args.self.now.looked c.requires.held (record { map = look.map; page = look.page }) on.lives on.page c.index-2.ensures c.args.wanted c.number-way.ensures.value c.if-behind-way.true 3 (omega arith)
