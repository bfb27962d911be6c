use Rattle.std.proofs.Common.{◌∙◌, sym, ap, subst, arith}
use Rattle.pager_walk.specs.declared.paged_entry.PagedEntry.TheVariants.{Empty, Page, Follows}
use Rattle.pager_walk.specs.declared.paged_entry.Looked.{Looked}
use Rattle.pager_walk.specs.declared.paged_entry.Looked.TheVariants.{Is, Absent, Missing, Refused}
use Rattle.pager_walk.specs.declared.chain_walk.Walked.TheVariants.{Along}
use Rattle.pager_walk.specs.PagedMaps.{tables_of, LookStands}
use Rattle.pager_walk.specs.Walks.{walked_behind}
use Rattle.pager_walk.proofs.Walking.{walk_none, walk_here}
use Rattle.pager_walk.proofs.chain_walk.+walk_along.Goals as goal

pub returns-then-most-eq0 : goal.returns-then-most-eq0
returns-then-most-eq0 g t c = sym (walk_none c.args.most (tables_of c.args.tables.now) (g.S.Store.means.homes c.args.store.now) c.args.at c.if-most-eq0.true)

pub walk_along-rest-requires : goal.walk_along-rest-requires
walk_along-rest-requires g t c k l = (omega arith, (l, (c.requires.rooted, subst (λ (x : Looked). LookStands (tables_of c.args.tables.now) (g.S.Store.means.homes c.args.store.now) x) (ap Is c.in-Is-Follows.field-0-is) c.in-Is-Follows.ensures.stands)))

pub returns-in-Is-Empty : goal.returns-in-Is-Empty
returns-in-Is-Empty g t c =
    ap Along c.ends.ensures
    ∙ sym (walk_here c.args.most (tables_of c.args.tables.now) (g.S.Store.means.homes c.args.store.now) c.args.at (Is Empty) c.if-most-eq0.false (ap Is (sym c.in-Is-Empty.field-0-is) ∙ c.in-Is-Empty.ensures.answer))

pub returns-in-Is-Page : goal.returns-in-Is-Page
returns-in-Is-Page g t c =
    ap Along c.ends-in-Is-Page.ensures
    ∙ sym (walk_here c.args.most (tables_of c.args.tables.now) (g.S.Store.means.homes c.args.store.now) c.args.at (Is (Page c.in-Is-Page.home c.in-Is-Page.access)) c.if-most-eq0.false (ap Is (sym c.in-Is-Page.field-0-is) ∙ c.in-Is-Page.ensures.answer))

pub returns-in-Is-Follows : goal.returns-in-Is-Follows
returns-in-Is-Follows g t c =
    c.behind.ensures ∙ ap (walked_behind c.args.at c.in-Is-Follows.access) c.walk_along-rest.ensures
    ∙ sym (walk_here c.args.most (tables_of c.args.tables.now) (g.S.Store.means.homes c.args.store.now) c.args.at (Is (Follows c.in-Is-Follows.serial c.in-Is-Follows.page c.in-Is-Follows.access)) c.if-most-eq0.false
    (ap Is (sym c.in-Is-Follows.field-0-is) ∙ c.in-Is-Follows.ensures.answer))

pub returns-in-Absent : goal.returns-in-Absent
returns-in-Absent g t c = sym (walk_here c.args.most (tables_of c.args.tables.now) (g.S.Store.means.homes c.args.store.now) c.args.at (Absent c.in-Absent.home) c.if-most-eq0.false c.in-Absent.ensures.answer)

pub returns-in-Missing : goal.returns-in-Missing
returns-in-Missing g t c = sym (walk_here c.args.most (tables_of c.args.tables.now) (g.S.Store.means.homes c.args.store.now) c.args.at Missing c.if-most-eq0.false c.in-Missing.ensures.answer)

pub returns-in-Refused : goal.returns-in-Refused
returns-in-Refused g t c = sym (walk_here c.args.most (tables_of c.args.tables.now) (g.S.Store.means.homes c.args.store.now) c.args.at Refused c.if-most-eq0.false c.in-Refused.ensures.answer)
