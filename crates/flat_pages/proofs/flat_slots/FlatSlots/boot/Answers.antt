use Rattle.std.proofs.Common.{◌≡◌, ◌∙◌, sym, ap, subst, List, is_some}
use Rattle.page_contracts.specs.Stores.{HomePlace, FitsHomes}
use Rattle.flat_tables.specs.declared.held_map.HeldMap.{HeldMap}
use Rattle.flat_tables.specs.HeldMaps.{index_of, living_of}
use Rattle.flat_tables.specs.SlotTables.{Tables, AreTables, plain_of}
use Rattle.flat_tables.specs.TableSteps.{tables_of}
use Rattle.flat_tables.proofs.Opening.{opened, opened_plain, opened_tables, nobody_lives, none_of, first_serial, low_serial}
use Rattle.flat_pages.proofs.Telling.{tables_told}
use Rattle.flat_pages.proofs.flat_slots.FlatSlots.boot.Goals as goal

pub invariant_of-result : goal.invariant_of-result
invariant_of-result g c =
    let m = c.in_ok-tables.tables in
    let e = c.in_ok-tables.ensures in
    let same : tables_of (g.S.Store.means.homes c.args.store) m ≡ opened c.args.pages m.serials e.terminals e.console = λ i. record { places = c.requires.homes i; names = e.names i; shares = e.shares i; maps = e.maps i; files = e.files i; serials = m.serials; taken = e.numbers.0 i; living = e.numbers.1 i; limit = e.numbers.2 i } in
    let agree = subst AreTables (sym same) (opened_tables c.args.pages m.serials e.terminals e.console c.requires.pages) in
    record { agree = agree; told = tables_told _ agree (g.met.S.Store.sound c.args.store).pages }

pub returns-clause-plain : goal.returns-clause-plain
returns-clause-plain g c d =
    let m = c.in_ok-tables.tables in
    let e = c.in_ok-tables.ensures in
    let same : tables_of (g.S.Store.means.homes c.args.store) m ≡ opened c.args.pages m.serials e.terminals e.console = λ i. record { places = c.requires.homes i; names = e.names i; shares = e.shares i; maps = e.maps i; files = e.files i; serials = m.serials; taken = e.numbers.0 i; living = e.numbers.1 i; limit = e.numbers.2 i } in
    ap (λ (t : Tables). plain_of t d) same ∙ opened_plain c.args.pages m.serials e.terminals e.console d

pub returns-clause-fits : goal.returns-clause-fits
returns-clause-fits g c d fits = subst (λ (p : List HomePlace). FitsHomes p d) (sym c.requires.homes) fits

pub returns-clause-serials : goal.returns-clause-serials
returns-clause-serials g c = first_serial c.args.pages c.in_ok-tables.tables.serials c.in_ok-tables.ensures.terminals c.in_ok-tables.ensures.console

pub returns-clause-first : goal.returns-clause-first
returns-clause-first g c = low_serial c.args.pages c.in_ok-tables.tables.serials c.in_ok-tables.ensures.terminals c.in_ok-tables.ensures.console

pub returns-clause-lives : goal.returns-clause-lives
returns-clause-lives g c f =
    let e = c.in_ok-tables.ensures in
    ap (λ (ms : List HeldMap). is_some (index_of ms f)) e.maps ∙ nobody_lives c.args.pages c.in_ok-tables.tables.serials e.terminals e.console f

pub returns-clause-forks : goal.returns-clause-forks
returns-clause-forks g c t =
    let e = c.in_ok-tables.ensures in
    ap (λ (ms : List HeldMap). living_of ms t) e.maps ∙ none_of c.args.pages c.in_ok-tables.tables.serials e.terminals e.console t
