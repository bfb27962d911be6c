use Rattle.std.proofs.Common.{arith, sym, subst}
use Rattle.paged_tables.specs.AddedForks.{AddsFork}
use Rattle.paged_tables.specs.PagedTables.{beside_of}
use Rattle.paged_tables.proofs.ForksAdded.{following_bare, zero_bare}
use Rattle.paged_tables.proofs.NewForks.{absent_is}
use Rattle.slot_paged.proofs.slot_paged.SlotPaged.add_fork.Goals as goal

pub returns-in-Empty : goal.returns-in-Empty
returns-in-Empty g c =
    let s = c.args.self.now in
    let b = beside_of s.tables in
    let n = c.number_for-number.ensures in
    let new = c.begin_empty.new.self in
    subst (AddsFork g.S.Store.means s.store new.store b (beside_of new.tables) c.args.fork) (sym c.in-Empty.is) (record {
      number = c.number_for-number.result;
      home = c.begin_empty.result;
      from = n.from;
      last = n.below;
      below = omega (arith, s.kept.rooted.numbered.count, n.below, c.requires.terminal);
      unused = n.fork;
      absent = absent_is b c.args.fork c.requires.absent;
      made = c.begin_empty.ensures.made;
      beside = c.begin_empty.ensures.tables;
      bare = zero_bare b.tables;
      told = c.begin_empty.ensures.told;
    })

pub returns-in-FollowAll : goal.returns-in-FollowAll
returns-in-FollowAll g c =
    let s = c.args.self.now in
    let b = beside_of s.tables in
    let n = c.number_for-number.ensures in
    let l = c.requires.leader c.in-FollowAll.leader c.in-FollowAll.is in
    let new = c.begin_following.new.self in
    subst (AddsFork g.S.Store.means s.store new.store b (beside_of new.tables) c.args.fork) (sym c.in-FollowAll.is) (record {
      number = c.number_for-number.result;
      home = c.begin_following.result;
      from = n.from;
      last = n.below;
      below = omega (arith, s.kept.rooted.numbered.count, n.below, c.requires.terminal);
      unused = n.fork;
      absent = absent_is b c.args.fork c.requires.absent;
      made = c.begin_following.ensures.made;
      beside = c.begin_following.ensures.tables;
      bare = following_bare b.tables c.in-FollowAll.leader l.0 l.1;
      told = c.begin_following.ensures.told;
    })
