use Rattle.std.proofs.Common.{ap, refl, ◌∙◌, subst, sym, arith}
use Rattle.machine_names.specs.PageWords.{zero_words}
use Rattle.page_contracts.specs.Stores.{here}
use Rattle.flat_tables.specs.SlotTables.{AreTables}
use Rattle.flat_tables.specs.TableSteps.{tables_of}
use Rattle.flat_tables.proofs.Making.{fits_one}
use Rattle.flat_tables.proofs.Taking.{filed_tables}
use Rattle.flat_pages.proofs.Telling.{tables_told}
use Rattle.flat_pages.proofs.flat_slots.FlatSlots.make_filed.Goals as goal

pub invariant_of-self : goal.invariant_of-self
invariant_of-self g c =
    let s = c.args.self.now in
    let store = g.S.Store.means in
    let t = tables_of (store.homes s.store) s.tables in
    let made = c.make-home.ensures.made in
    let same = ap (λ places. tables_of places c.file_home.new.self) made.homes ∙ c.file_home.ensures (store.homes s.store) (here zero_words) in
    let agree = subst AreTables (sym same) (filed_tables t s.agree c.args.owner c.requires.owner c.make-home.result.0 (omega (arith, made.below, s.agree.homes)) _ (here zero_words) c.requires.page c.requires.none made.was_free refl (fits_one t c.requires.room)) in
    record { agree = agree; told = tables_told (tables_of (store.homes c.make-home.new.self) c.file_home.new.self) agree (λ h words e. (g.met.S.Store.sound c.make-home.new.self).pages h words e) }

pub returns : goal.returns
returns g c =
    let made = c.make-home.ensures.made in record {
      home = c.make-home.result;
      made = made;
      taken = ap (λ places. tables_of places c.file_home.new.self) made.homes ∙ c.file_home.ensures (g.S.Store.means.homes c.args.self.now.store) (here zero_words);
    }
