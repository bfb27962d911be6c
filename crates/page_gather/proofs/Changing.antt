-- One making more, beside the pages before all of them.
use Rattle.std.proofs.Common.{◌≡◌, ◌≢◌, ℕ, ◌+◌, ◌<◌, ◌≤◌, Bool, true, false, cond, List, [], ◌∷◌, ◌++◌, length, take, get_or, Option, None, Some, ◌⊎◌, inl, inr, refl, sym, ◌∙◌, ap, subst, arith}
use Rattle.std.specs.Prelude.{◌==◌, ◌&&◌, nat_lt, is_some}
use Rattle.std.specs.Option.{option_map_or, option_or, unwrap_or}
use Rattle.std.specs.Cmp.{nat_cmp_total}
use Rattle.std.specs.FinMap as map
use Rattle.std.proofs.lemmas.Bool.Decides.{eqb_tells, nat_tests}
use Rattle.std.proofs.lemmas.List.{take_more}
use Rattle.std.proofs.lemmas.List.Sums.{sum_by-append}
use Rattle.machine_names.specs.declared.names.Tty.{Tty}
use Rattle.machine_names.specs.declared.names.Slot.{Slot}
use Rattle.machine_names.specs.declared.names.PageName.{PageName}
use Rattle.machine_names.specs.declared.names.Access.{Access}
use Rattle.plain_pages.specs.declared.map.MapEntry.{MapEntry}
use Rattle.plain_pages.specs.declared.map.MapEntry.TheVariants.{Empty, Names, Follows}
use Rattle.plain_pages.specs.PlainPages.{NumberedPages}
use Rattle.plain_pages.specs.Maps.{entry_at}
use Rattle.plain_pages.specs.Room.{same_page, page_in, uses, live}
use Rattle.plain_pages.specs.References.{next_page}
use Rattle.machine_names.specs.PageWords.{zero_words}
use Rattle.machine_names.specs.Bounds.{IsOwner}
use Rattle.plain_pages.specs.WholePages.{AreWhole}
use Rattle.plain_pages.proofs.Counts.{weight, same_itself}
use Rattle.plain_pages.proofs.Makings.{entry_there, at_zero}
use Rattle.plain_pages.proofs.Whole.{tally}
use Rattle.plain_pages.proofs.Made.{IsMade, not_next, not_later}
use Rattle.page_gather.specs.declared.change.Change.{Change}
use Rattle.page_gather.specs.Changes.{same_slot, change_of, taken_names, source_words, are_in_space, is_in_space, NamesNew, IsChanged, AreChanged}

-- two slots are one, as the test tells
abbrev pub SlotsTell : Slot → Slot → Type 0
SlotsTell s t = ((same_slot s t ≡ true) × (s ≡ t)) ⊎ ((same_slot s t ≡ false) × (s ≢ t))

pub slots_tell : (s t : Slot) → SlotsTell s t
slots_tell s t = by (eqb_tells s.fork.tty.0 t.fork.tty.0) (eqb_tells s.fork.serial t.fork.serial) (eqb_tells s.page t.page)
  where
    Tells : ℕ → ℕ → Type 0
    Tells a b = (((a == b) ≡ true) × (a ≡ b)) ⊎ (((a == b) ≡ false) × (a ≢ b))

    by : (((s.fork.tty.0 == t.fork.tty.0) ≡ true) × (s.fork.tty.0 ≡ t.fork.tty.0)) ⊎ (((s.fork.tty.0 == t.fork.tty.0) ≡ false) × (s.fork.tty.0 ≢ t.fork.tty.0))
        → (((s.fork.serial == t.fork.serial) ≡ true) × (s.fork.serial ≡ t.fork.serial)) ⊎ (((s.fork.serial == t.fork.serial) ≡ false) × (s.fork.serial ≢ t.fork.serial))
        → (((s.page == t.page) ≡ true) × (s.page ≡ t.page)) ⊎ (((s.page == t.page) ≡ false) × (s.page ≢ t.page)) → SlotsTell s t
    by (inl a) (inl b) (inl c) = inl (rw (a.0, b.0, c.0) refl, λ i. record { fork = record { tty = record { 0 = a.1 i }; serial = b.1 i }; page = c.1 i })
    by (inl a) (inl b) (inr c) = inr (rw (a.0, b.0, c.0) refl, λ e. c.1 (ap (λ (u : Slot). u.page) e))
    by (inl a) (inr b) c = inr (rw (a.0, b.0) refl, λ e. b.1 (ap (λ (u : Slot). u.fork.serial) e))
    by (inr a) b c = inr (rw a.0 refl, λ e. a.1 (ap (λ (u : Slot). u.fork.tty.0) e))

pub same_slot_itself : (s : Slot) → same_slot s s ≡ true
same_slot_itself s = elim (slots_tell s s) [ inl t ↦ t.0 | inr t ↦ absurd (t.1 refl) ]

or_some : {T : Type 0} (a b : Option T) (x : T) → option_or (option_or a b) (Some x) ≡ option_or a (option_or b (Some x))
or_some None b x = refl
or_some (Some y) b x = refl

or_none : {T : Type 0} (a : Option T) → option_or a None ≡ a
or_none None = refl
or_none (Some x) = refl

-- ---- one change more

abbrev pub if_slot : Change → Slot → Option Change
if_slot c s = cond (same_slot c.slot s) (Some c) None

pub change_push : (cs : List Change) (c : Change) (s : Slot) → change_of (cs ++ c ∷ []) s ≡ option_or (if_slot c s) (change_of cs s)
change_push [] c s = sym (or_none (if_slot c s))
change_push (b ∷ cs) c s = ap (λ o. option_or o (if_slot b s)) (change_push cs c s) ∙ by (if_slot c s)
  where
    by : (o : Option Change) → option_or (option_or o (change_of cs s)) (if_slot b s) ≡ option_or o (option_or (change_of cs s) (if_slot b s))
    by None = refl
    by (Some x) = refl

pub push_here : (cs : List Change) (c : Change) (s : Slot) → same_slot c.slot s ≡ true → change_of (cs ++ c ∷ []) s ≡ Some c
push_here cs c s h = change_push cs c s ∙ ap (λ b. option_or (cond b (Some c) None) (change_of cs s)) h

pub push_other : (cs : List Change) (c : Change) (s : Slot) → same_slot c.slot s ≡ false → change_of (cs ++ c ∷ []) s ≡ change_of cs s
push_other cs c s h = change_push cs c s ∙ ap (λ b. option_or (cond b (Some c) None) (change_of cs s)) h

-- the last change of a slot among one more of a list
pub last_more : (cs : List Change) (i : ℕ) (d : Change) (s : Slot) (last next : Option Change) → i < length cs → next ≡ option_or (if_slot (get_or cs i d) s) last → last ≡ change_of (take i cs) s → next ≡ change_of (take (i + 1) cs) s
last_more cs i d s last next less is before = is ∙ ap (option_or (if_slot (get_or cs i d) s)) before ∙ sym (ap (λ (xs : List Change). change_of xs s) (take_more cs i d less) ∙ change_push (take i cs) (get_or cs i d) s)

pub push_some : (cs : List Change) (c : Change) → cs ++ c ∷ [] ≡ [] → ⊥
push_some [] c e = cc e
push_some (b ∷ cs) c e = cc e

-- the source of a change among those in spaces is in one
pub change_in_space : (cs : List Change) (s : Slot) (c : Change) → are_in_space cs ≡ true → change_of cs s ≡ Some c → is_in_space c.source ≡ true
change_in_space [] s c all h = absurd (cc h)
change_in_space (b ∷ cs) s c all h = by (change_in_space cs s c parts.1) (change_of cs s) refl (same_slot b.slot s) h
  where
    both : (x y : Bool) → (x && y) ≡ true → (x ≡ true) × (y ≡ true)
    both true y g = (refl, g)
    both false y g = absurd (cc g)

    parts : (is_in_space b.source ≡ true) × (are_in_space cs ≡ true)
    parts = both (is_in_space b.source) (are_in_space cs) all

    by : (change_of cs s ≡ Some c → is_in_space c.source ≡ true) → (o : Option Change) → change_of cs s ≡ o → (here : Bool) → option_or o (cond here (Some b) None) ≡ Some c → is_in_space c.source ≡ true
    by rest (Some d) is here g = rest (is ∙ g)
    by rest None is true g = let same : b ≡ c = cc g in ap (λ (x : Change). is_in_space x.source) (sym same) ∙ parts.0
    by rest None is false g = absurd (cc g)

-- how many names of a page an entry has
has_name : (x : PageName) (e : MapEntry) → cond (option_map_or (same_page x) (page_in e) false) 1 0 ≡ weight (same_page x) page_in e
has_name x Empty = refl
has_name x (Names n a) = refl
has_name x (Follows serial page a) = refl

pub taken_push : (x : PageName) (cs : List Change) (c : Change) (e : MapEntry) → c.old ≡ page_in e → taken_names x (cs ++ c ∷ []) ≡ taken_names x cs + weight (same_page x) page_in e
taken_push x cs c e is =
    sum_by-append (λ (d : Change). cond (option_map_or (same_page x) d.old false) 1 0) cs (c ∷ [])
    ∙ ap (λ (o : Option PageName). taken_names x cs + (0 + cond (option_map_or (same_page x) o false) 1 0)) is ∙ ap (λ k. taken_names x cs + k) (omega (arith, has_name x e))

positive : (k : ℕ) → nat_lt 0 k ≡ true → 1 ≤ k
positive k h = grind (arith, nat_tests)

present : (k : ℕ) → 1 ≤ k → nat_lt 0 k ≡ true
present k h = grind (arith, nat_tests)

-- a page that an entry names has a name at least
pub entry_names : (p : NumberedPages) → AreWhole p → (s : Slot) (x : PageName) (a : Access) → entry_at p.maps s ≡ Some (Names x a) → 1 ≤ uses p x
entry_names p w s x a h = positive (uses p x) (sym (w.named x) ∙ entry_there nat_cmp_total p w s x a h)

-- and is none that is still to be made
pub entry_not_next : (p : NumberedPages) → AreWhole p → (owner : Tty) → IsOwner owner → (s : Slot) (x : PageName) (a : Access) → entry_at p.maps s ≡ Some (Names x a) → x ≢ next_page p owner
entry_not_next p w owner own s x a h = not_next nat_cmp_total p w owner own x (entry_there nat_cmp_total p w s x a h)

-- ---- none, and one making more

pub none_changed : (p : NumberedPages) (owner : Tty) → AreWhole p → live p ≤ p.limit → AreChanged p p owner [] 0
none_changed p owner w room = record {
  slots = λ s. refl;
  there = λ s. refl;
  count = omega arith;
  limit = refl;
  room = room;
  whole = w;
  names = λ x h. omega arith;
  later = omega arith;
  kept = λ x there still. refl;
  still = λ e. refl;
}

module _ (p q r : NumberedPages) (owner : Tty) (own : IsOwner owner) (w : AreWhole p) (cs : List Change) (homes homes' : ℕ) (h : AreChanged p q owner cs homes) (c : Change) (words : List ℕ) (e : MapEntry) (m : IsMade q r owner c.slot c.access words e) where
  abbrev new : PageName
  new = next_page q owner

  -- a page of the pages before is none that is made
  old_not_new : (x : PageName) → map.contains_key p.objects x ≡ true → x ≢ new
  old_not_new x there = not_later nat_cmp_total p w owner own q h.later x there

  fresh : (b : Bool) → map.contains_key p.objects new ≡ b → map.contains_key p.objects new ≡ false
  fresh true there = absurd (old_not_new new there refl)
  fresh false there = there

  -- another page that is there was there
  was_there : (x : PageName) → map.contains_key p.objects x ≡ true → map.contains_key r.objects x ≡ true → map.contains_key q.objects x ≡ true
  was_there x before there =
      let none = at_zero x new (old_not_new x before) in
      let some = positive (uses r x) (sym (m.whole.named x) ∙ there) in
      h.whole.named x ∙ present (uses q x) (omega (arith, m.names x, none, some))

  module _ (was : entry_at q.maps c.slot ≡ Some e) (unmarked : c.access.c ≡ false) (is_source : words ≡ source_words p c.source) where
    new_here : NamesNew p r c.slot c
    new_here = record {
      name = new;
      there = m.here;
      unmarked = unmarked;
      fresh = fresh (map.contains_key p.objects new) refl;
      once = omega (arith, entry_names r m.whole c.slot new c.access m.here, m.names new, one, not_used);
      words = m.held ∙ is_source;
    }
      where
        one : tally new new ≡ 1
        one = ap (λ b. cond b 1 0) (same_itself new)

        not_used : uses q new ≡ 0
        not_used = Rattle.plain_pages.proofs.Whole.unmade q h.whole owner

    new_still : (s : Slot) (d : Change) → s ≢ c.slot → NamesNew p q s d → NamesNew p r s d
    new_still s d ne k = record {
      name = k.name;
      there = there;
      unmarked = k.unmarked;
      fresh = k.fresh;
      once = omega (arith, m.names k.name, none, k.once, entry_names r m.whole s k.name d.access there);
      words = ap (λ (o : Option (List ℕ)). unwrap_or o zero_words) (m.kept k.name (entry_there nat_cmp_total q h.whole s k.name d.access k.there) (entry_there nat_cmp_total r m.whole s k.name d.access there)) ∙ k.words;
    }
      where
        there : entry_at r.maps s ≡ Some (Names k.name d.access)
        there = m.others s ne ∙ k.there

        none : tally k.name new ≡ 0
        none = at_zero k.name new (entry_not_next q h.whole owner own s k.name d.access k.there)

    slot_changed : (s : Slot) → IsChanged p r s (change_of (cs ++ c ∷ []) s)
    slot_changed s = by (slots_tell c.slot s)
      where
        still : c.slot ≢ s → (o : Option Change) → IsChanged p q s o → IsChanged p r s o
        still ne None k = m.others s (λ z. ne (sym z)) ∙ k
        still ne (Some d) k = new_still s d (λ z. ne (sym z)) k

        by : SlotsTell c.slot s → IsChanged p r s (change_of (cs ++ c ∷ []) s)
        by (inl t) = subst (λ (o : Option Change). IsChanged p r s o) (sym (push_here cs c s t.0)) (subst (λ (u : Slot). NamesNew p r u c) t.1 new_here)
        by (inr t) = subst (λ (o : Option Change). IsChanged p r s o) (sym (push_other cs c s t.0)) (still t.1 (change_of cs s) (h.slots s))

    slot_there : (s : Slot) → is_some (entry_at r.maps s) ≡ is_some (entry_at p.maps s)
    slot_there s = by (slots_tell c.slot s)
      where
        by : SlotsTell c.slot s → is_some (entry_at r.maps s) ≡ is_some (entry_at p.maps s)
        by (inl t) = subst (λ (u : Slot). is_some (entry_at r.maps u) ≡ is_some (entry_at p.maps u)) t.1 (ap is_some m.here ∙ sym (ap is_some was) ∙ h.there c.slot)
        by (inr t) = ap is_some (m.others s (λ z. t.1 (sym z))) ∙ h.there s

    -- ONE MAKING MORE, whatever entry it replaces
    pub more_changed : c.old ≡ page_in e → live r ≡ live p + homes' → live r ≤ r.limit → AreChanged p r owner (cs ++ c ∷ []) homes'
    more_changed is_old count room = record {
      slots = slot_changed;
      there = slot_there;
      count = count;
      limit = m.limit ∙ h.limit;
      room = room;
      whole = m.whole;
      names = λ x there. omega (arith, m.names x, at_zero x new (old_not_new x there), taken_push x cs c e is_old, h.names x there);
      later = omega (arith, h.later, m.later);
      kept = λ x before there. m.kept x (was_there x before there) there ∙ h.kept x before (was_there x before there);
      still = λ z. absurd (push_some cs c z);
    }
