use Rattle.std.proofs.Common.{ap, ◌∙◌, is_some, subst, sym}
use Rattle.std.specs.Prelude.{IsSome}
use Rattle.std.specs.FinMap as fin
use Rattle.flat_tables.specs.declared.held_entry.HeldEntry.TheVariants.{Empty}
use Rattle.flat_tables.specs.HeldMaps.{fork_at, held_entry}
use Rattle.flat_tables.specs.TableSteps.{tables_of}
use Rattle.flat_pages.proofs.Agreement.{filed_named}
use Rattle.flat_pages.proofs.FileEnds.{sets_on}
use Rattle.flat_tables.proofs.HeldEntries.{entry_same, fork_set}
use Rattle.flat_tables.proofs.Making.{held_is}
use Rattle.flat_pages.proofs.flat_slots.FlatSlots.set_filed.Goals as goal

pub join_entry-requires-clause-there : goal.join_entry-requires-clause-there
join_entry-requires-clause-there g c =
    let maps = c.args.self.now.tables.maps.held.items in
    let q = held_is (held_entry maps c.args.at) c.requires.there in
    ap (λ (ms : _). held_entry ms c.args.at) c.set_unnamed.ensures.maps ∙ entry_same maps c.args.at Empty q.0 q.1

pub join_entry-requires-clause-lives : goal.join_entry-requires-clause-lives
join_entry-requires-clause-lives g c =
    let maps = c.args.self.now.tables.maps.held.items in
    subst IsSome (sym (ap (λ (ms : _). fork_at ms c.args.at.map) c.set_unnamed.ensures.maps ∙ fork_set maps c.args.at Empty c.args.at.map)) c.requires.lives

pub join_entry-requires-clause-named : goal.join_entry-requires-clause-named
join_entry-requires-clause-named g c =
    let now = c.set_unnamed.new.self in
    let t = tables_of (g.S.Store.means.homes now.store) now.tables in
    ap is_some (filed_named t now.agree c.requires.filed.at c.args.home (ap (λ m. fin.get m c.requires.filed.at) c.set_unnamed.ensures.files ∙ c.requires.filed.there)).1

pub returns : goal.returns
returns g c =
    let s = c.args.self.now in
    let store = g.S.Store.means in
    let now = c.set_unnamed.new.self in
    let q = held_is (held_entry s.tables.maps.held.items c.args.at) c.requires.there in
    sets_on store s.store now.store c.join_entry.new.self.store s.tables now.tables c.join_entry.new.self.tables c.args.at c.args.home c.args.access (g.met.S.Store.sound s.store) (g.met.S.Store.sound now.store) s.agree now.agree
    c.requires.filed c.set_unnamed.ensures c.join_entry.ensures q.0 q.1
