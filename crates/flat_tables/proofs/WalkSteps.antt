-- Walks, entry by entry.
use Rattle.std.proofs.Common.{◌≡◌, ◌≢◌, ℕ, zero, suc, ◌-◌, List, Bool, true, false, not, cond, ◌&&◌, ◌||◌, Option, None, Some, refl, sym, ◌∙◌, ap, arith}
use Rattle.std.specs.Prelude.{is_none, IsSome}
use Rattle.std.specs.Option.{option_map, option_and_then}
use Rattle.machine_names.specs.declared.names.Access.{Access}
use Rattle.page_homes.specs.declared.homes.Home.{Home}
use Rattle.machine_names.specs.declared.names.ForkName.{ForkName}
use Rattle.flat_tables.specs.declared.held_entry.EntryAt.{EntryAt}
use Rattle.flat_tables.specs.declared.held_entry.HeldEntry.{HeldEntry}
use Rattle.flat_tables.specs.declared.held_entry.Link.{Link}
use Rattle.flat_tables.specs.declared.held_map.HeldMap.{HeldMap}
use Rattle.flat_tables.specs.declared.chain_walk.Use.{Use}
use Rattle.flat_tables.specs.declared.chain_walk.Use.TheVariants.{Read, Write, Execute, Change}
use Rattle.flat_tables.specs.HeldMaps.{fork_at, held_entry, index_of}
use Rattle.fork_maps.specs.ChainWalks.{walk_end, walk_behind}
use Rattle.flat_tables.specs.Walks.{Walk, next_at, walk_from, walk_within, walk, lets, lets_along, ready_home, terminal_of}
use Rattle.flat_tables.proofs.ForkMaps.{index_fork}

pub walk_none : (most : ℕ) (maps : List HeldMap) (at : EntryAt) → most ≡ 0 → walk_within most maps at ≡ None
unfolding walk_within
walk_none zero maps at e = refl
walk_none (suc n) maps at e = absurd (omega (arith, e))

-- a walk from an entry that is known
pub walk_here : (most : ℕ) (maps : List HeldMap) (at : EntryAt) (e : HeldEntry) → most ≢ 0 → held_entry maps at ≡ Some e → walk_within most maps at ≡ walk_from maps at (Some e) (walk_within (most - 1) maps)
unfolding walk_within
walk_here zero maps at e some is = absurd (some refl)
walk_here (suc n) maps at e some is = ap (λ (o : Option HeldEntry). walk_from maps at o (walk_within n maps)) is ∙ ap (λ k. walk_from maps at (Some e) (walk_within k maps)) (less n)
  where
    less : (n : ℕ) → n ≡ suc n - 1
    less n = omega arith

-- where a link leads there is a map, of a fork of the same terminal
pub next_there : (maps : List HeldMap) (at next : EntryAt) (l : Link) → next_at maps at l ≡ Some next → (fork_at maps next.map ≡ Some (record { tty = terminal_of maps at.map; serial = l.serial })) × (next.page ≡ l.page)
next_there maps at next l e = by (index_of maps f) refl e
  where
    f : ForkName
    f = record { tty = terminal_of maps at.map; serial = l.serial }

    by : (o : Option ℕ) → index_of maps f ≡ o → option_map (λ k. record { map = k; page = l.page }) o ≡ Some next → (fork_at maps next.map ≡ Some f) × (next.page ≡ l.page)
    by None is k = absurd (cc k)
    by (Some k) is g =
        let same : ◌≡◌ {A = EntryAt} (record { map = k; page = l.page }) next = cc g in
        (ap (λ (x : EntryAt). fork_at maps x.map) (sym same) ∙ index_fork maps f k is, ap (λ (x : EntryAt). x.page) (sym same))

pub some_fork : (o : Option ForkName) (f : ForkName) → o ≡ Some f → IsSome o
some_fork None f e = absurd (cc e)
some_fork (Some g) f e = refl

pub next_lives : (maps : List HeldMap) (at next : EntryAt) (l : Link) → next_at maps at l ≡ Some next → IsSome (fork_at maps next.map)
next_lives maps at next l e = let there = next_there maps at next l e in some_fork (fork_at maps next.map) (record { tty = terminal_of maps at.map; serial = l.serial }) there.0

none_false : (x : Bool) → (x && false) ≡ false
none_false true = refl
none_false false = refl

write_behind : (c aw reads writes none : Bool) → (cond c reads (aw && writes) && cond c false none) ≡ ((aw && not c) && (writes && none))
write_behind true aw reads writes none = none_false reads ∙ sym (ap (λ b. b && (writes && none)) (none_false aw))
write_behind false true reads writes none = refl
write_behind false false reads writes none = refl

marked_none : (c : Bool) (at : EntryAt) (o : Option EntryAt) → is_none (cond c (Some at) o) ≡ cond c false (is_none o)
marked_none true at o = refl
marked_none false at o = refl

read_first : (ar aw wr ww : Bool) → ((ar && wr) && (aw && ww)) ≡ ((ar && aw) && (wr && ww))
read_first true true wr ww = refl
read_first true false wr ww = none_false wr
read_first false aw wr ww = refl

write_is : (at : EntryAt) (a : Access) (w : Walk) → ((walk_behind at a w).writes && is_none (walk_behind at a w).copy) ≡ ((a.w && not a.c) && (w.writes && is_none w.copy))
write_is at a w = ap (λ b. cond a.c w.reads (a.w && w.writes) && b) (marked_none a.c at w.copy) ∙ write_behind a.c a.w w.reads w.writes (is_none w.copy)

-- a chain lets a page be used so where its first entry and the rest do
pub lets_behind : (u : Use) (at : EntryAt) (a : Access) (w : Walk) → lets_along u (walk_behind at a w) ≡ (lets u a && lets_along u w)
lets_behind Read at a w = refl
lets_behind Execute at a w = refl
lets_behind Write at a w = write_is at a w
lets_behind Change at a w = ap (λ b. (a.r && w.reads) && b) (write_is at a w) ∙ read_first a.r (a.w && not a.c) w.reads (w.writes && is_none w.copy)

write_last : (c aw : Bool) → ((c || aw) && cond c false true) ≡ (aw && not c)
write_last true aw = sym (none_false aw)
write_last false aw = refl

write_ends : (at : EntryAt) (a : Access) (home : Option Home) → ((walk_end at a home).writes && is_none (walk_end at a home).copy) ≡ (a.w && not a.c)
write_ends at a home = ap (λ b. (a.c || a.w) && b) (marked_none a.c at None) ∙ write_last a.c a.w

pub lets_end : (u : Use) (at : EntryAt) (a : Access) (home : Option Home) → lets_along u (walk_end at a home) ≡ lets u a
lets_end Read at a home = refl
lets_end Execute at a home = refl
lets_end Write at a home = write_ends at a home
lets_end Change at a home = ap (λ b. a.r && b) (write_ends at a home)

pub ready_end : (u : Use) (at : EntryAt) (a : Access) (home : Option Home) → ready_home u (walk_end at a home) ≡ cond (lets u a) home None
ready_end u at a home = ap (λ b. cond b home None) (lets_end u at a home)

split : (a b : Bool) (home : Option Home) → cond (a && b) home None ≡ cond a (cond b home None) None
split true b home = refl
split false b home = refl

pub ready_behind : (u : Use) (at : EntryAt) (a : Access) (o : Option Walk) → option_and_then (ready_home u) (option_map (walk_behind at a) o) ≡ cond (lets u a) (option_and_then (ready_home u) o) None
ready_behind u at a None = both (lets u a)
  where
    both : (b : Bool) → ◌≡◌ {A = Option Home} None (cond b None None)
    both true = refl
    both false = refl
ready_behind u at a (Some w) = ap (λ b. cond b w.home None) (lets_behind u at a w) ∙ split (lets u a) (lets_along u w) w.home

pub walk_four : (maps : List HeldMap) (at : EntryAt) → walk_within 4 maps at ≡ walk maps at
unfolding walk
walk_four maps at = refl
