use Rattle.std.proofs.Common.{◌-◌, ◌<◌, Some, Option, sym, ap, ◌∙◌, subst, arith}
use Rattle.std.specs.Option.{option_map, option_and_then}
use Rattle.machine_names.specs.declared.names.TheConstants.{SPACE_PAGES}
use Rattle.flat_tables.specs.declared.held_entry.EntryAt.{EntryAt}
use Rattle.flat_tables.specs.declared.held_entry.HeldEntry.TheVariants.{Empty, Page, Follows}
use Rattle.fork_maps.specs.ChainWalks.{walk_behind}
use Rattle.flat_tables.specs.Walks.{walk_within}
use Rattle.flat_tables.proofs.WalkSteps.{walk_none, walk_here, next_lives, next_there}
use Rattle.flat_tables.proofs.chain_walk.+walk_along.Goals as goal

pub returns-then-most-eq0 : goal.returns-then-most-eq0
returns-then-most-eq0 t c = sym (walk_none c.args.most c.args.maps.now.held.items c.args.at c.if-most-eq0.true)

pub returns-in_default : goal.returns-in_default
returns-in_default t c =
    let maps = c.args.maps.now.held.items in
    sym (walk_here c.args.most maps c.args.at (Follows c.in-Follows.link c.in-Follows.access) c.if-most-eq0.false c.in-Follows.ensures
    ∙ ap (λ (o : Option EntryAt). option_map (walk_behind c.args.at c.in-Follows.access) (option_and_then (walk_within (c.args.most - 1) maps) o)) (sym c.in_default.ensures))

pub walk_along-requires : goal.walk_along-requires
walk_along-requires t c =
    let maps = c.args.maps.now.held.items in
    let is = sym c.in-Some.ensures in
    let there = next_there maps c.args.at c.in-Some.next c.in-Follows.link is in
    (omega arith, (c.requires.held, (next_lives maps c.args.at c.in-Some.next c.in-Follows.link is, subst (λ n. n < SPACE_PAGES) (sym there.1) (c.requires.held.links c.args.at c.in-Follows.link c.in-Follows.access c.in-Follows.ensures))))

pub returns-in_default-walk_along : goal.returns-in_default-walk_along
returns-in_default-walk_along t c =
    let maps = c.args.maps.now.held.items in
    sym (walk_here c.args.most maps c.args.at (Follows c.in-Follows.link c.in-Follows.access) c.if-most-eq0.false c.in-Follows.ensures
    ∙ ap (λ (o : Option EntryAt). option_map (walk_behind c.args.at c.in-Follows.access) (option_and_then (walk_within (c.args.most - 1) maps) o)) (sym c.in-Some.ensures)
    ∙ ap (option_map (walk_behind c.args.at c.in-Follows.access)) (sym c.in_default-walk_along.ensures))

pub returns-in-Empty : goal.returns-in-Empty
returns-in-Empty t c = ap Some c.ends.ensures ∙ sym (walk_here c.args.most c.args.maps.now.held.items c.args.at Empty c.if-most-eq0.false c.in-Empty.ensures)

pub returns-in-Page : goal.returns-in-Page
returns-in-Page t c = ap Some c.ends-in-Page.ensures ∙ sym (walk_here c.args.most c.args.maps.now.held.items c.args.at (Page c.in-Page.home c.in-Page.access) c.if-most-eq0.false c.in-Page.ensures)

pub returns-in-Some-walk_along : goal.returns-in-Some-walk_along
returns-in-Some-walk_along t c =
    let maps = c.args.maps.now.held.items in
    ap Some c.goes_on.ensures
    ∙ sym (walk_here c.args.most maps c.args.at (Follows c.in-Follows.link c.in-Follows.access) c.if-most-eq0.false c.in-Follows.ensures
    ∙ ap (λ (o : Option EntryAt). option_map (walk_behind c.args.at c.in-Follows.access) (option_and_then (walk_within (c.args.most - 1) maps) o)) (sym c.in-Some.ensures)
    ∙ ap (option_map (walk_behind c.args.at c.in-Follows.access)) (sym c.in-Some-walk_along.ensures))
