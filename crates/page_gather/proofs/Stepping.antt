-- What one reference more makes, and what it leaves of the pages.
use Rattle.std.proofs.Common.{◌≡◌, ℕ, ◌+◌, ◌≤◌, Bool, true, false, cond, List, [], ◌∷◌, ◌++◌, Option, None, Some, inl, inr, refl, sym, ◌∙◌, ap, arith}
use Rattle.std.specs.Prelude.{nat_le, find, is_some, if◌then◌else◌}
use Rattle.std.specs.Option.{option_map_or, option_and_then}
use Rattle.std.specs.Cmp.{nat_cmp_total}
use Rattle.std.specs.FinMap as map
use Rattle.std.proofs.lemmas.Bool.Decides.{nat_tests}
use Rattle.machine_names.specs.declared.names.Tty.{Tty}
use Rattle.machine_names.specs.declared.names.Slot.{Slot}
use Rattle.machine_names.specs.declared.names.PageName.{PageName}
use Rattle.machine_names.specs.declared.names.Access.{Access}
use Rattle.plain_pages.specs.declared.map.MapEntry.{MapEntry}
use Rattle.plain_pages.specs.declared.map.MapEntry.TheVariants.{Empty, Follows}
use Rattle.plain_pages.specs.PlainPages.{NumberedPages, page_serial}
use Rattle.plain_pages.specs.Maps.{Link, Chain, entry_at, full_access, chain, chain_within, permits}
use Rattle.plain_pages.specs.Room.{page_in, live, HasRoom}
use Rattle.plain_pages.specs.References.{in_map, Making, blank, copy, blanks, copies, along_chain, private_access, makings, make, make_all, granted, full, next_page, words_at, words_of}
use Rattle.machine_names.specs.PageWords.{zero_words}
use Rattle.page_contracts.specs.Pages.{Scene, is_sole}
use Rattle.machine_names.specs.Bounds.{IsOwner}
use Rattle.plain_pages.proofs.ChainEquations.{chain_is_four}
use Rattle.plain_pages.proofs.Chains.{marked, chain_empty, chain_filled}
use Rattle.plain_pages.proofs.Ends.{AtMark, mark_follows, mark_names, at_mark, mark_chain}
use Rattle.plain_pages.proofs.Made.{IsMade, not_later, is_blank, is_copy}
use Rattle.page_contracts.proofs.Rooms.{live_blank, room_blank, live_copy, room_copy}
use Rattle.plain_pages.proofs.ReferencesMade.{reference_makes, reference_stays, make_first, has_room}
use Rattle.page_gather.specs.declared.change.Change.{Change}
use Rattle.page_gather.specs.declared.reference.PageReference.{PageReference}
use Rattle.page_gather.specs.Changes.{source_of, AreChanged}
use Rattle.page_gather.specs.Gathering.{referred_to, IsNear, AreSourcesNear, AreSound, GoesOn}
use Rattle.page_gather.proofs.Changing.{SlotsTell, slots_tell, push_here, push_other, more_changed}
use Rattle.page_gather.proofs.Near.{page_is, new_in_frame, near_made}
use Rattle.page_gather.proofs.Words.{mark_words, source_near}

yes_le : (a b : ℕ) → a ≤ b → nat_le a b ≡ true
yes_le a b h = grind (arith, nat_tests)

not_le : (a b : ℕ) → (a ≤ b → ⊥) → nat_le a b ≡ false
not_le a b h = by (nat_le a b) refl
  where
    by : (c : Bool) → nat_le a b ≡ c → nat_le a b ≡ false
    by true is = absurd (h (grind (arith, nat_tests)))
    by false is = is

module _ (q : NumberedPages) (owner : Tty) where
  made_none : (z : NumberedPages) → make_all z owner [] ≡ granted z
  unfolding make_all
  made_none z = refl

  -- one making, and two, where there is room for them
  pub one_made : (m : Making ℕ) (b : Bool) → HasRoom (make q owner m) owner ≡ b → make_all q owner (m ∷ []) ≡ cond b (granted (make q owner m)) full
  one_made m b is = make_first q owner m [] ∙ ap (λ c. cond c (make_all (make q owner m) owner []) full) is ∙ ap (λ x. cond b x full) (made_none (make q owner m))

  pub two_made : (m n : Making ℕ) (a b : Bool) → HasRoom (make q owner m) owner ≡ a → HasRoom (make (make q owner m) owner n) owner ≡ b → make_all q owner (m ∷ n ∷ []) ≡ cond a (cond b (granted (make (make q owner m) owner n)) full) full
  two_made m n a b is at =
      let z = make q owner m in
      make_first q owner m (n ∷ []) ∙ ap (λ c. cond c (make_all z owner (n ∷ [])) full) is ∙ ap (λ x. cond a x full) (make_first z owner n [] ∙ ap (λ c. cond c (make_all (make z owner n) owner []) full) at ∙ ap (λ x. cond b x full) (made_none (make z owner n)))

-- the sources with one change more
source_push : (p : NumberedPages) (scene : Scene) (cs : List Change) (c : Change) → AreSourcesNear p scene cs → ((t : Slot) → c.source ≡ Some t → IsNear p scene t) → AreSourcesNear p scene (cs ++ c ∷ [])
source_push p scene cs c old new s t d at from = by (slots_tell c.slot s)
  where
    by : SlotsTell c.slot s → IsNear p scene t
    by (inl k) = let two : Some c ≡ Some d = sym (push_here cs c s k.0) ∙ at in let one : c ≡ d = cc two in new t (ap (λ (x : Change). x.source) one ∙ from)
    by (inr k) = old s t d (sym (push_other cs c s k.0) ∙ at) from

-- the next page of an owner is in no way out of a frame
next_in_frame : (p q : NumberedPages) (scene : Scene) → AreSound p scene → (owner : Tty) → IsOwner owner → page_serial p owner ≤ page_serial q owner → scene.page_away (next_page q owner) ≡ None
next_in_frame p q scene sound owner own later = new_in_frame p scene sound (next_page q owner) (by (map.contains_key p.objects (next_page q owner)) refl)
  where
    by : (b : Bool) → map.contains_key p.objects (next_page q owner) ≡ b → map.contains_key p.objects (next_page q owner) ≡ false
    by true there = absurd (not_later nat_cmp_total p sound.whole owner own q later (next_page q owner) there refl)
    by false is = is

module _ (p q : NumberedPages) (scene : Scene) (sound : AreSound p scene) (owner : Tty) (own : IsOwner owner) (cs : List Change) (homes : ℕ) (h : AreChanged p q owner cs homes) (r : PageReference) where
  within : live p + homes ≤ p.limit
  within = omega (arith, h.room, h.count, h.limit)

  module _ (c : Chain) (is : chain (entry_at q.maps) r.slot ≡ Some c) (may : permits r.kind c ≡ true) where
    is_four : chain_within 4 (entry_at q.maps) r.slot ≡ Some c
    is_four = sym (chain_is_four (entry_at q.maps) r.slot) ∙ is

    makes : makings q (in_map r.slot) r.kind ≡ Some (blanks c ++ copies r.kind c)
    unfolding makings
    makes = ap (option_and_then (along_chain r.kind)) is ∙ ap (λ b. if b then Some (blanks c ++ copies r.kind c) else None) may

    makes_list : (bs cs' : List (Making ℕ)) → blanks c ≡ bs → copies r.kind c ≡ cs' → makings q (in_map r.slot) r.kind ≡ Some (bs ++ cs')
    makes_list bs cs' b k = makes ∙ ap (λ xs. Some (xs ++ copies r.kind c)) b ∙ ap (λ xs. Some (bs ++ xs)) k

    no_blank : (x : PageName) → c.page ≡ Some x → blanks {K = ℕ} c ≡ []
    no_blank x page = ap (λ (n : Option PageName). if is_some n then [] else blank (in_map c.end) ∷ []) page

    one_blank : c.page ≡ None → blanks {K = ℕ} c ≡ blank (in_map c.end) ∷ []
    one_blank page = ap (λ (n : Option PageName). if is_some n then [] else blank (in_map c.end) ∷ []) page

    -- nothing
    pub goes_ready : (x : PageName) → c.page ≡ Some x → copies {K = ℕ} r.kind c ≡ [] → GoesOn p q scene owner r cs cs homes
    goes_ready x page none = record {
      fits = λ le. (q, reference_stays q owner (in_map r.slot) r.kind (makes_list [] [] (no_blank x page) none), h, λ s n. n);
      full_is = λ no. absurd (no within);
      sources = λ near old. old;
    }

    -- a zero page
    module _ (page : c.page ≡ None) where
      abbrev zero_change : Change
      zero_change = record { slot = c.end; access = full_access; source = None; old = None }

      abbrev zeroed : NumberedPages
      zeroed = make q owner (blank (in_map c.end))

      empty : entry_at q.maps c.end ≡ Some Empty
      empty = chain_empty 4 (entry_at q.maps) r.slot c is_four page

      zero_made : IsMade q zeroed owner c.end full_access zero_words Empty
      zero_made = is_blank nat_cmp_total q h.whole owner own c.end empty

      zero_room : HasRoom zeroed owner ≡ nat_le (live q + 1) q.limit
      zero_room = room_blank nat_cmp_total q h.whole owner own (in_map c.end) empty

      zero_count : live zeroed ≡ live p + (homes + 1)
      zero_count = omega (arith, live_blank nat_cmp_total q h.whole owner own (in_map c.end) empty, h.count)

      zero_yes : live p + (homes + 1) ≤ p.limit → HasRoom zeroed owner ≡ true
      zero_yes le = zero_room ∙ yes_le (live q + 1) q.limit (omega (arith, le, h.count, h.limit))

      zero_changed : HasRoom zeroed owner ≡ true → AreChanged p zeroed owner (cs ++ zero_change ∷ []) (homes + 1)
      zero_changed room = more_changed p q zeroed owner own sound.whole cs homes (homes + 1) h zero_change zero_words Empty zero_made empty refl refl refl zero_count (has_room zeroed owner room)

      zero_near : (s : Slot) → IsNear q scene s → IsNear zeroed scene s
      zero_near s near = near_made q zeroed scene owner c.end full_access zero_words Empty zero_made empty (next_in_frame p q scene sound owner own h.later) s near

      zero_sources : AreSourcesNear p scene cs → AreSourcesNear p scene (cs ++ zero_change ∷ [])
      zero_sources old = source_push p scene cs zero_change old (λ t e. absurd (cc e))

      pub goes_zero : copies {K = ℕ} r.kind c ≡ [] → GoesOn p q scene owner r cs (cs ++ zero_change ∷ []) (homes + 1)
      goes_zero none = record {
        fits = λ le. (zeroed, refers true (zero_yes le), zero_changed (zero_yes le), zero_near);
        full_is = λ no. refers false (zero_room ∙ not_le (live q + 1) q.limit (λ le. no (omega (arith, le, h.count, h.limit))));
        sources = λ near old. zero_sources old;
      }
        where
          refers : (b : Bool) → HasRoom zeroed owner ≡ b → referred_to q owner r ≡ cond b (granted zeroed) full
          refers b room = reference_makes q owner (in_map r.slot) r.kind (blank (in_map c.end) ∷ []) (makes_list (blank (in_map c.end) ∷ []) [] (one_blank page) none) ∙ one_made q owner (blank (in_map c.end)) b room

    -- a copy
    module _ (l : Link) (f : find marked c.links ≡ Some l) (copied_in : copies {K = ℕ} r.kind c ≡ copy l.slot (private_access c) ∷ []) where
      module _ (x : PageName) (page : c.page ≡ Some x) (e : MapEntry) (there : entry_at q.maps l.slot ≡ Some e) (sole : Bool) (alone : is_sole q (Some e) ≡ sole) where
        abbrev copy_change : Change
        copy_change = record { slot = l.slot; access = private_access c; source = source_of cs c.end; old = page_in e }

        abbrev copied : NumberedPages
        copied = make q owner (copy l.slot (private_access c))

        copy_made : IsMade q copied owner l.slot (private_access c) (words_at q (in_map l.slot)) e
        copy_made = is_copy nat_cmp_total q h.whole owner own l.slot (private_access c) e there

        copy_room_is : HasRoom copied owner ≡ nat_le (live q + cond sole 0 1) q.limit
        copy_room_is = room_copy nat_cmp_total q h.whole owner own l.slot (private_access c) e there ∙ ap (λ b. nat_le (live q + cond b 0 1) q.limit) alone

        copy_count : live copied ≡ live p + (homes + cond sole 0 1)
        copy_count = by sole (live_copy nat_cmp_total q h.whole owner own l.slot (private_access c) e there) alone
          where
            by : (b : Bool) → live copied + cond (is_sole q (Some e)) 1 0 ≡ live q + 1 → is_sole q (Some e) ≡ b → live copied ≡ live p + (homes + cond b 0 1)
            by true k b = omega (arith, sym (ap (λ (c : Bool). live copied + cond c 1 0) b) ∙ k, h.count)
            by false k b = omega (arith, sym (ap (λ (c : Bool). live copied + cond c 1 0) b) ∙ k, h.count)

        copy_yes : live p + (homes + cond sole 0 1) ≤ p.limit → HasRoom copied owner ≡ true
        copy_yes le = copy_room_is ∙ yes_le (live q + cond sole 0 1) q.limit (omega (arith, le, h.count, h.limit))

        pub goes_copy : GoesOn p q scene owner r cs (cs ++ copy_change ∷ []) (homes + cond sole 0 1)
        goes_copy = record {
          fits = λ le. (
            copied,
            refers true (copy_yes le),
            more_changed p q copied owner own sound.whole cs homes (homes + cond sole 0 1) h copy_change (words_at q (in_map l.slot)) e copy_made there refl (mark_words p q sound.whole owner cs homes h r.slot c l x is_four f page) refl copy_count (has_room copied owner (copy_yes le)),
            λ s near. near_made q copied scene owner l.slot (private_access c) (words_at q (in_map l.slot)) e copy_made there (next_in_frame p q scene sound owner own h.later) s near,
          );
          full_is = λ no. refers false (copy_room_is ∙ not_le (live q + cond sole 0 1) q.limit (λ le. no (omega (arith, le, h.count, h.limit))));
          sources = λ near old. source_push p scene cs copy_change old (λ t from. source_near p q sound.whole owner cs homes h scene old r.slot c x t is_four page near from);
        }
          where
            refers : (b : Bool) → HasRoom copied owner ≡ b → referred_to q owner r ≡ cond b (granted copied) full
            refers b room =
                reference_makes q owner (in_map r.slot) r.kind (copy l.slot (private_access c) ∷ []) (makes_list [] (copy l.slot (private_access c) ∷ []) (no_blank x page) copied_in)
                ∙ one_made q owner (copy l.slot (private_access c)) b room

      -- a zero page, and its copy
      module _ (page : c.page ≡ None) where
        abbrev both_change : Change
        both_change = record { slot = l.slot; access = private_access c; source = None; old = None }

        abbrev first : NumberedPages
        first = zeroed page

        abbrev second : NumberedPages
        second = make first owner (copy l.slot (private_access c))

        first_made : IsMade q first owner c.end full_access zero_words Empty
        first_made = zero_made page

        -- the marked entry follows another
        abbrev Followed : Type 0
        Followed = (serial to : ℕ) × (a : Access) × (entry_at first.maps l.slot ≡ Some (Follows serial to a))

        followed : Followed
        followed = by (at_mark 4 (entry_at q.maps) r.slot c l is_four f)
          where
            by : AtMark (entry_at q.maps) c l → Followed
            by (mark_follows serial to a there apart) = (serial, to, a, first_made.others l.slot apart ∙ there)
            by (mark_names x a there same named) = absurd (let z : Some x ≡ None = sym named ∙ page in cc z)

        abbrev entry : MapEntry
        entry = Follows followed.0 followed.1 followed.2

        -- the copied words are zeros
        zeros : words_at first (in_map l.slot) ≡ zero_words
        zeros =
            let d = mark_chain 4 (entry_at q.maps) r.slot c l is_four f in
            let filled = chain_filled (entry_at q.maps) (entry_at first.maps) c.end (next_page q owner) goes first_made.here 4 l.slot d.0 d.1 (d.3 ∙ page) d.2 in
            ap (λ (n : Option PageName). option_map_or (words_of first) n zero_words) (page_is first l.slot ∙ ap (option_and_then (λ (x : Chain). x.page)) filled) ∙ first_made.held
          where
            goes : (t : Slot) (serial at : ℕ) (a : Access) → entry_at q.maps t ≡ Some (Follows serial at a) → entry_at first.maps t ≡ Some (Follows serial at a)
            goes t serial at a there = first_made.others t (λ same. (let z : Some (Follows serial at a) ≡ Some Empty = sym there ∙ ap (entry_at q.maps) same ∙ empty page in cc z)) ∙ there

        module _ (room : HasRoom first owner ≡ true) where
          changed : AreChanged p first owner (cs ++ zero_change page ∷ []) (homes + 1)
          changed = zero_changed page room

          second_made : IsMade first second owner l.slot (private_access c) (words_at first (in_map l.slot)) entry
          second_made = is_copy nat_cmp_total first changed.whole owner own l.slot (private_access c) entry followed.3

          second_room : HasRoom second owner ≡ nat_le (live first + 1) first.limit
          second_room = room_copy nat_cmp_total first changed.whole owner own l.slot (private_access c) entry followed.3

          second_count : live second ≡ live p + (homes + 2)
          second_count = omega (arith, live_copy nat_cmp_total first changed.whole owner own l.slot (private_access c) entry followed.3, changed.count)

          second_yes : live p + (homes + 2) ≤ p.limit → HasRoom second owner ≡ true
          second_yes le = second_room ∙ yes_le (live first + 1) first.limit (omega (arith, le, changed.count, changed.limit))

          second_changed : HasRoom second owner ≡ true → AreChanged p second owner ((cs ++ zero_change page ∷ []) ++ both_change ∷ []) (homes + 2)
          second_changed more =
              more_changed p first second owner own sound.whole (cs ++ zero_change page ∷ []) (homes + 1) (homes + 2) changed both_change (words_at first (in_map l.slot)) entry second_made followed.3 refl zeros refl second_count (has_room second owner more)

          second_near : (s : Slot) → IsNear first scene s → IsNear second scene s
          second_near s near = near_made first second scene owner l.slot (private_access c) (words_at first (in_map l.slot)) entry second_made followed.3 (next_in_frame p first scene sound owner own changed.later) s near

        refers : (a b : Bool) → HasRoom first owner ≡ a → HasRoom second owner ≡ b → referred_to q owner r ≡ cond a (cond b (granted second) full) full
        refers a b first_is second_is =
            reference_makes q owner (in_map r.slot) r.kind (blank (in_map c.end) ∷ copy l.slot (private_access c) ∷ []) (makes_list (blank (in_map c.end) ∷ []) (copy l.slot (private_access c) ∷ []) (one_blank page) copied_in)
            ∙ two_made q owner (blank (in_map c.end)) (copy l.slot (private_access c)) a b first_is second_is

        pub goes_both : GoesOn p q scene owner r cs ((cs ++ zero_change page ∷ []) ++ both_change ∷ []) (homes + 2)
        goes_both = record {
          fits = λ le.
              let room = zero_yes page (omega (arith, le)) in
              let more = second_yes room le in
              (second, refers true true room more, second_changed room more, λ s near. second_near room s (zero_near page s near));
          full_is = λ no. by no (HasRoom first owner) refl (HasRoom second owner) refl;
          sources = λ near old. source_push p scene (cs ++ zero_change page ∷ []) both_change (zero_sources page old) (λ t e. absurd (cc e));
        }
          where
            by : (live p + (homes + 2) ≤ p.limit → ⊥) → (a : Bool) → HasRoom first owner ≡ a → (b : Bool) → HasRoom second owner ≡ b → referred_to q owner r ≡ full
            by none false x b y = refers false b x y
            by none true x false y = refers true false x y
            by none true x true y = absurd (none (let le = has_room second owner y in omega (arith, le, second_count x, (second_changed x y).limit)))
