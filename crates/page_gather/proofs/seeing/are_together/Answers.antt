use Rattle.std.proofs.Common.{sym, ◌∙◌, ap}
use Rattle.plain_pages.specs.PlainPages.{NumberedPages}
use Rattle.plain_pages.specs.References.{in_map, page_at}
use Rattle.page_gather.specs.Gathering.{after_all, are_same}
use Rattle.page_gather.proofs.Judged.{lost_told, found_told, same_none}
use Rattle.page_gather.proofs.seeing.are_together.Goals as goal

pub returns-in_default : goal.returns-in_default
returns-in_default g c = record {
  told = λ d owner homes rs fits k first second.
      let p : NumberedPages = g.P.Pages.means.plain c.args.pages.now d in
      let none = lost_told p (after_all p owner rs) (g.P.Pages.means.scene c.args.pages.now) owner c.args.changes.now homes c.args.a _ c.in_default.not-Found first.maps (c.walk.ensures.told d (after_all p owner rs) owner homes fits k.changed) in
      sym (ap (λ n. are_same n (page_at (after_all p owner rs) (in_map c.args.b))) none);
}

pub returns-in_default-walk : goal.returns-in_default-walk
returns-in_default-walk g c = record {
  told = λ d owner homes rs fits k first second.
      let p : NumberedPages = g.P.Pages.means.plain c.args.pages.now d in
      let none = lost_told p (after_all p owner rs) (g.P.Pages.means.scene c.args.pages.now) owner c.args.changes.now homes c.args.b _ c.in_default-walk.not-Found second.maps (c.walk-2.ensures.told d (after_all p owner rs) owner homes fits k.changed) in
      sym (ap (are_same (page_at (after_all p owner rs) (in_map c.args.a))) none ∙ same_none (page_at (after_all p owner rs) (in_map c.args.a)));
}

pub returns : goal.returns
returns g c = record {
  told = λ d owner homes rs fits k first second.
      let p : NumberedPages = g.P.Pages.means.plain c.args.pages.now d in
      let j = found_told p (after_all p owner rs) (g.P.Pages.means.scene c.args.pages.now) owner c.args.changes.now homes c.args.a c.in-Found.x k.sound k.own k.changed (c.in-Found.ensures.told d (after_all p owner rs) owner homes fits k.changed) in
      let i = found_told p (after_all p owner rs) (g.P.Pages.means.scene c.args.pages.now) owner c.args.changes.now homes c.args.b c.in-Found-walk.y k.sound k.own k.changed (c.in-Found-walk.ensures.told d (after_all p owner rs) owner homes fits k.changed) in
      c.end_together.ensures.told d (after_all p owner rs) owner homes c.args.a c.args.b fits j i;
}
