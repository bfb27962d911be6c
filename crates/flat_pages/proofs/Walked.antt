-- A walk finds what is to be known of a chain.
use Rattle.std.proofs.Common.{◌≡◌, ℕ, zero, suc, List, Bool, true, false, cond, ◌&&◌, ◌||◌, Option, None, Some, refl, sym, ◌∙◌, ap, subst}
use Rattle.std.specs.Prelude.{find}
use Rattle.std.specs.List.{list_all}
use Rattle.std.specs.Option.{option_map, option_map_or, option_and_then}
use Rattle.machine_names.specs.declared.names.Access.{Access}
use Rattle.machine_names.specs.declared.names.ForkName.{ForkName}
use Rattle.machine_names.specs.declared.names.PageName.{PageName}
use Rattle.page_homes.specs.declared.homes.Home.{Home}
use Rattle.machine_names.specs.declared.names.Slot.{Slot}
use Rattle.machine_names.specs.declared.names.Tty.{Tty}
use Rattle.plain_pages.specs.declared.map.MapEntry.{MapEntry}
use Rattle.plain_pages.specs.Maps.{Entries, Link as ChainLink, Chain, entry_at, followed, full_access, single_link, behind, chain_from, chain_within, chain, permit_write}
use Rattle.plain_pages.proofs.Chains.{marked}
use Rattle.flat_tables.specs.declared.held_entry.EntryAt.{EntryAt}
use Rattle.flat_tables.specs.declared.held_entry.HeldEntry.{HeldEntry}
use Rattle.flat_tables.specs.declared.held_entry.HeldEntry.TheVariants.{Empty, Page, Follows}
use Rattle.flat_tables.specs.declared.held_entry.Link.{Link}
use Rattle.flat_tables.specs.declared.held_map.HeldMap.{HeldMap}
use Rattle.flat_tables.specs.HeldMaps.{fork_at, held_entry, index_of, entry_of, name_of, maps_held, AreHeld}
use Rattle.fork_maps.specs.ChainWalks.{walk_end, walk_behind}
use Rattle.flat_tables.specs.Walks.{Walk, slot_of, terminal_of, next_at, walk_from, walk_within, walk}
use Rattle.flat_tables.proofs.LivingMaps.{entry_held, entry_gone}
use Rattle.flat_tables.proofs.WalkSteps.{next_there}

-- where the first link with the copy mark stands
abbrev pub IsCopy : List HeldMap → Option EntryAt → Option ChainLink → Type 0
IsCopy maps None l = l ≡ None
IsCopy maps (Some at) l = (k : ChainLink) × (l ≡ Some k) × (slot_of maps at ≡ Some k.slot) × ((e : HeldEntry) × (held_entry maps at ≡ Some e))

-- a walk and a chain are one
pub record Meets (names : List (Option PageName)) (maps : List HeldMap) (w : Walk) (c : Chain) : Type 0 where
  pub end : slot_of maps w.end ≡ Some c.end
  pub empty : w.home ≡ None → held_entry maps w.end ≡ Some Empty
  pub named : (h : Home) → w.home ≡ Some h → (a : Access) × (held_entry maps w.end ≡ Some (Page h a))
  pub page : c.page ≡ option_map (name_of names) w.home
  pub reads : list_all (λ l. l.access.r) c.links ≡ w.reads
  pub executes : list_all (λ l. l.access.x) c.links ≡ w.executes
  pub writes : permit_write c.links ≡ w.writes
  pub copy : IsCopy maps w.copy (find marked c.links)

abbrev pub WalkIs : List (Option PageName) → List HeldMap → Option Walk → Option Chain → Type 0
WalkIs names maps None None = Unit {0}
WalkIs names maps None (Some c) = ⊥
WalkIs names maps (Some w) None = ⊥
WalkIs names maps (Some w) (Some c) = Meets names maps w c

and_true : (b : Bool) → (b && true) ≡ b
and_true true = refl
and_true false = refl

write_one : (c w : Bool) → cond c true (w && true) ≡ (c || w)
write_one true w = refl
write_one false w = and_true w

chain_gone : (n : ℕ) (entries : Entries) (s : Slot) → entries s ≡ None → chain_within n entries s ≡ None
unfolding chain_within
chain_gone zero entries s e = refl
chain_gone (suc n) entries s e = ap (λ (o : Option MapEntry). chain_from s o (chain_within n entries)) e

module _ (names : List (Option PageName)) (maps : List HeldMap) (held : AreHeld maps) where
  abbrev entries : Entries
  entries = entry_at (maps_held names maps)

  -- a chain of one entry
  one : (at : EntryAt) (s : Slot) (a : Access) (home : Option Home) (e : HeldEntry) → slot_of maps at ≡ Some s → held_entry maps at ≡ Some e → (home ≡ None → held_entry maps at ≡ Some Empty) → ((h : Home) → home ≡ Some h → (b : Access) × (held_entry maps at ≡ Some (Page h b)))
      → Meets names maps (walk_end at a home) (single_link s a (option_map (name_of names) home))
  one at s a home e is here empty named = record {
    end = is;
    empty = empty;
    named = named;
    page = refl;
    reads = and_true a.r;
    executes = and_true a.x;
    writes = write_one a.c a.w;
    copy = by a.c;
  }
    where
      by : (b : Bool) → IsCopy maps (cond b (Some at) None) (cond b (Some (record { slot = s; access = a })) None)
      by true = (record { slot = s; access = a }, refl, is, (e, here))
      by false = refl

  -- a chain with one entry more
  more : (at : EntryAt) (s : Slot) (a : Access) (w : Walk) (c : Chain) (e : HeldEntry) → slot_of maps at ≡ Some s → held_entry maps at ≡ Some e → Meets names maps w c → Meets names maps (walk_behind at a w) (behind s a c)
  more at s a w c e is here m = record {
    end = m.end;
    empty = m.empty;
    named = m.named;
    page = m.page;
    reads = ap (λ b. a.r && b) m.reads;
    executes = ap (λ b. a.x && b) m.executes;
    writes = λ i. cond a.c (m.reads i) (a.w && m.writes i);
    copy = by a.c;
  }
    where
      by : (b : Bool) → IsCopy maps (cond b (Some at) w.copy) (cond b (Some (record { slot = s; access = a })) (find marked c.links))
      by true = (record { slot = s; access = a }, refl, is, (e, here))
      by false = m.copy

  terminal_is : (at : EntryAt) (s : Slot) → slot_of maps at ≡ Some s → terminal_of maps at.map ≡ s.fork.tty
  terminal_is at s e = by (fork_at maps at.map) e
    where
      by : (o : Option ForkName) → option_map (λ f. record { fork = f; page = at.page }) o ≡ Some s → option_map_or (λ f. f.tty) o (record { 0 = 0 }) ≡ s.fork.tty
      by None k = absurd (cc k)
      by (Some f) k = let same : ◌≡◌ {A = Slot} (record { fork = f; page = at.page }) s = cc k in ap (λ (x : Slot). x.fork.tty) same

  walked_within : (n : ℕ) (at : EntryAt) (s : Slot) → slot_of maps at ≡ Some s → WalkIs names maps (walk_within n maps at) (chain_within n entries s)
  unfolding walk_within chain_within
  walked_within zero at s is = tt
  walked_within (suc n) at s is =
      subst (λ (o : Option MapEntry). WalkIs names maps (walk_from maps at (held_entry maps at) (walk_within n maps)) (chain_from s o (chain_within n entries))) (sym (entry_held names maps held.once at s is))
      (by (held_entry maps at) refl (λ next t k. walked_within n next t k))
    where
      behind_is : (a : Access) (e : HeldEntry) (w : Option Walk) (c : Option Chain) → held_entry maps at ≡ Some e → WalkIs names maps w c → WalkIs names maps (option_map (walk_behind at a) w) (option_map (behind s a) c)
      behind_is a e None None here m = tt
      behind_is a e None (Some c) here m = absurd m
      behind_is a e (Some w) None here m = absurd m
      behind_is a e (Some w) (Some c) here m = more at s a w c e is here m

      follow : (l : Link) (a : Access) (next : Option EntryAt) → next_at maps at l ≡ next → held_entry maps at ≡ Some (Follows l a) → ((next : EntryAt) (t : Slot) → slot_of maps next ≡ Some t → WalkIs names maps (walk_within n maps next) (chain_within n entries t))
          → WalkIs names maps (option_map (walk_behind at a) (option_and_then (walk_within n maps) next)) (option_map (behind s a) (chain_within n entries (followed s l.serial l.page)))
      follow l a None none here rest = subst (λ (c : Option Chain). WalkIs names maps None (option_map (behind s a) c)) (sym (chain_gone n entries (followed s l.serial l.page) (entry_gone names maps (followed s l.serial l.page) (gone (index_of maps (record { tty = terminal_of maps at.map; serial = l.serial })) refl none)))) tt
        where
          gone : (o : Option ℕ) → index_of maps (record { tty = terminal_of maps at.map; serial = l.serial }) ≡ o → ◌≡◌ {A = Option EntryAt} (option_map (λ k. record { map = k; page = l.page }) o) None → index_of maps (record { tty = s.fork.tty; serial = l.serial }) ≡ None
          gone None e k = ap (λ (t : Tty). index_of maps (record { tty = t; serial = l.serial })) (sym (terminal_is at s is)) ∙ e
          gone (Some j) e k = absurd (cc k)
      follow l a (Some next) there here rest =
          let to = next_there maps at next l there in
          behind_is a (Follows l a) (walk_within n maps next) (chain_within n entries (followed s l.serial l.page)) here
          (rest next (followed s l.serial l.page)
          (ap (option_map (λ f. record { fork = f; page = next.page })) to.0
          ∙ λ i. Some (record { fork = record { tty = terminal_is at s is i; serial = l.serial }; page = to.1 i })))

      by : (o : Option HeldEntry) → held_entry maps at ≡ o → ((next : EntryAt) (t : Slot) → slot_of maps next ≡ Some t → WalkIs names maps (walk_within n maps next) (chain_within n entries t))
          → WalkIs names maps (walk_from maps at o (walk_within n maps)) (chain_from s (option_map (entry_of names) o) (chain_within n entries))
      by None here rest = tt
      by (Some Empty) here rest = one at s full_access None Empty is here (λ e. here) (λ h e. absurd (cc e))
      by (Some (Page h a)) here rest = one at s a (Some h) (Page h a) is here (λ e. absurd (cc e)) (λ g e. (a, (let same : h ≡ g = cc e in here ∙ ap (λ (x : Home). Some (Page x a)) same)))
      by (Some (Follows l a)) here rest = follow l a (next_at maps at l) refl here rest

  -- a walk finds what is to be known of the chain of its slot
  pub walked : (at : EntryAt) (s : Slot) → slot_of maps at ≡ Some s → WalkIs names maps (walk maps at) (chain entries s)
  unfolding walk chain
  walked at s is = walked_within 4 at s is
