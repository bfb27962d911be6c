use Rattle.std.proofs.Common.{ap, refl, is_some}
use Rattle.flat_tables.specs.HeldMaps.{index_of, living_of}
use Rattle.flat_tables.specs.Serials.{serial_of}
use Rattle.flat_tables.specs.TableSteps.{tables_of}
use Rattle.flat_pages.proofs.FileEnds.{emptied_all, told_dropped}
use Rattle.flat_pages.proofs.MapHomes.{drops_file}
use Rattle.flat_pages.proofs.flat_slots.FlatSlotsPages.drop_file.Goals as goal

pub returns : goal.returns
returns g c =
    let s = c.args.self.now in
    let new = c.unfile_all.new.self in
    let store = g.S.Store.means in
    let k = c.unfile_all.ensures in record {
      told = told_dropped store c.args.file.0 s.store new.store s.tables new.tables s.agree s.told k;
      scene = k.core;
      loses = k.lost;
      uses = k.used;
      drops = drops_file store (λ p. p.store) (λ p. tables_of (store.homes p.store) p.tables) s new (record { tty = record { 0 = 0 }; serial = 0 }) s.agree new.agree c.args.file.0 refl refl k.homes k.frames
          (emptied_all store c.args.file.0 s.store new.store s.tables new.tables s.agree k) k.filed;
      lives = λ i f. is_some (index_of (k.maps i) f);
      forks = ap living_of k.maps;
      serials = ap serial_of k.serials;
      most = k.limit;
    }
