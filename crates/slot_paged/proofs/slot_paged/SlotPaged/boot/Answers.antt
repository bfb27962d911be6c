use Rattle.std.proofs.Common.{List, refl, sym, subst}
use Rattle.page_contracts.specs.Stores.{HomePlace, FitsHomes}
use Rattle.paged_tables.specs.PagedTables.{beside_of}
use Rattle.paged_tables.proofs.Booted.{IsFresh, fresh_fits, fresh_kept, fresh_few, fresh_forks, fresh_lives, fresh_plain, fresh_serials}
use Rattle.slot_paged.proofs.slot_paged.SlotPaged.boot.Goals as goal

pub invariant_of-result : goal.invariant_of-result
invariant_of-result g c =
    let e = c.in_ok-tables.ensures in
    let b = beside_of c.in_ok-tables.tables in
    let places = g.S.Store.means.homes c.args.store in
    let fresh : IsFresh b places c.args.pages = record { homes = c.requires.homes; maps = e.maps; names = e.names; shared = e.shared; filed = e.filed; shares = e.shares; files = e.files; terminals = e.terminals; console = e.console; taken = e.numbers.0; living = e.numbers.1; limited = e.numbers.2; few = c.requires.pages } in
    record { kept = fresh_kept b places c.args.pages fresh (e.rooted places (fresh_few b places c.args.pages fresh)) }

pub returns : goal.returns
returns g c =
    let e = c.in_ok-tables.ensures in
    let b = beside_of c.in_ok-tables.tables in
    let places = g.S.Store.means.homes c.args.store in
    let fresh : IsFresh b places c.args.pages = record { homes = c.requires.homes; maps = e.maps; names = e.names; shared = e.shared; filed = e.filed; shares = e.shares; files = e.files; terminals = e.terminals; console = e.console; taken = e.numbers.0; living = e.numbers.1; limited = e.numbers.2; few = c.requires.pages } in
    record {
      plain = fresh_plain b places c.args.pages fresh;
      fits = λ d fits. fresh_fits b places c.args.pages fresh d (e.fits places d (subst (λ (ps : List HomePlace). FitsHomes ps d) (sym c.requires.homes) fits));
      lives = fresh_lives b places c.args.pages fresh;
      forks = fresh_forks b places c.args.pages fresh;
      serials = fresh_serials b places c.args.pages fresh;
      store = refl;
    }
