use Rattle.std.proofs.Common.{◌≡◌, ◌∙◌, sym, ap, subst}
use Rattle.pager_walk.specs.declared.paged_entry.Looked.{Looked}
use Rattle.pager_walk.specs.PagedMaps.{look_at}
use Rattle.paged_tables.specs.LeftShares.{left_of}
use Rattle.paged_tables.specs.MadePages.{with_shares}
use Rattle.paged_tables.specs.PagedTables.{AreKept, Beside, beside_of}
use Rattle.paged_tables.proofs.LeftOnce.{look_kept}
use Rattle.slot_paged.proofs.slot_paged.SlotPaged.leave.Goals as goal

pub invariant_of-self : goal.invariant_of-self
invariant_of-self g c =
    let s = c.args.self.now in
    let b = beside_of s.tables in
    let places = g.S.Store.means.homes s.store in
    let seen = look_at b.tables places c.args.at in
    let left : beside_of c.leave_entry.new.self ≡ with_shares b (left_of b seen) = c.leave_entry.ensures ∙ ap (λ (l : Looked). with_shares b (left_of b l)) c.entry-seen.ensures.answer in
    record { kept = subst (λ (x : Beside). AreKept x places) (sym left) (look_kept b places s.kept seen) }

pub returns-clause-beside : goal.returns-clause-beside
returns-clause-beside g c = let b = beside_of c.args.self.now.tables in c.leave_entry.ensures ∙ ap (λ (l : Looked). with_shares b (left_of b l)) c.entry-seen.ensures.answer
