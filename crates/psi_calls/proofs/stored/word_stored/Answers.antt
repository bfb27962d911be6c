use Rattle.std.proofs.Common.{ℕ, refl, subst}
use Rattle.std.specs.Prelude.{Ok, Err}
use Rattle.ka10_unit.specs.Gathers.{framed}
use Rattle.ka10_unit.proofs.Adding.{sound_as}
use Rattle.text_pointers.specs.Reading.{ReadsWord}
use Rattle.text_pointers.proofs.WordReads.{read_by}
use Rattle.psi_calls.proofs.StoredReads.{named_stops, new_stands, stored_ends}
use Rattle.psi_calls.proofs.stored.word_stored.Goals as goal

pub returns-in-Err-clause-told : goal.returns-in-Err-clause-told
returns-in-Err-clause-told g c d fits =
    let means = g.P.Pages.means in
    let who = c.args.who in
    let regs = c.args.regs.now in
    let p = framed means c.args.pages.now d in
    let none = c.restart.new.self in
    let stands = new_stands who p none c.restart.ensures.fork (c.restart.ensures.told _ _ (sound_as means c.args.pages.now _ (g.met.P.Pages.whole c.args.pages.now d fits) (g.met.P.Pages.agrees c.args.pages.now d fits))) c.restart.ensures.page in
    let word = read_by who p regs none c.word.new.self c.level_at.result (Err c.in-Err.stop) stands (c.in-Err.ensures.told d fits) in
    named_stops who p regs c.args.table c.args.level none c.word.new.self c.restart.ensures.none c.in-Err.stop (subst (λ (at : ℕ). ReadsWord who p regs none c.word.new.self at (Err c.in-Err.stop)) c.level_at.ensures.at word)

pub returns-in-Ok-clause-told : goal.returns-in-Ok-clause-told
returns-in-Ok-clause-told g c d fits =
    let means = g.P.Pages.means in
    let who = c.args.who in
    let regs = c.args.regs.now in
    let p = framed means c.args.pages.now d in
    let none = c.restart.new.self in
    let mid = c.word.new.self in
    let new = c.word-in-Ok.new.self in
    let result = c.word-in-Ok.result in
    let stands = new_stands who p none c.restart.ensures.fork (c.restart.ensures.told _ _ (sound_as means c.args.pages.now _ (g.met.P.Pages.whole c.args.pages.now d fits) (g.met.P.Pages.agrees c.args.pages.now d fits))) c.restart.ensures.page in
    let named = subst (λ (at : ℕ). ReadsWord who p regs none mid at (Ok c.in-Ok.named)) c.level_at.ensures.at (read_by who p regs none mid c.level_at.result (Ok c.in-Ok.named) stands (c.in-Ok.ensures.told d fits)) in
    let word = read_by who p regs mid new c.right.result result (named.stands c.in-Ok.named refl) (c.word-in-Ok.ensures.told d fits) in
    stored_ends who p regs c.args.table c.args.level none mid c.restart.ensures.none c.in-Ok.named named new result (subst (λ (at : ℕ). ReadsWord who p regs mid new at result) c.right.ensures.value word)
