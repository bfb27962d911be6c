-- Pages and forks with one more, and without it again.
use Rattle.std.proofs.Common.{◌≡◌, ◌≢◌, ℕ, zero, suc, ◌+◌, ◌<◌, Bool, true, false, cond, not, ◌||◌, ◌&&◌, List, [], ◌∷◌, length, Option, None, Some, refl, sym, ◌∙◌, ap, subst, arith, inl, inr, replicate}
use Rattle.std.specs.Prelude.{is_some, map as each, nat_le}
use Rattle.std.specs.List.{filter_map, range_with_len}
use Rattle.std.specs.Option.{option_map_or}
use Rattle.std.specs.FinMap as map
use Rattle.std.proofs.lemmas.Bool.{cases_eq, leb-false}
use Rattle.machine_names.specs.declared.names.Tty.{Tty}
use Rattle.machine_names.specs.declared.names.ForkName.{ForkName}
use Rattle.machine_names.specs.declared.names.TheConstants.{MOST_FORKS, SPACE_PAGES}
use Rattle.plain_pages.specs.declared.map.MapEntry.TheVariants.{Empty, Follows}
use Rattle.plain_pages.specs.declared.map.NewMap.{NewMap}
use Rattle.plain_pages.specs.declared.map.NewMap.TheVariants.{Empty as EmptyMap, FollowAll}
use Rattle.page_contracts.specs.declared.store.Room.TheVariants.{Enough, NeedFrame, Full}
use Rattle.plain_model.specs.declared.fork.Fork.{Fork}
use Rattle.plain_pages.specs.PlainPages.{NumberedPages, Map}
use Rattle.plain_pages.specs.Maps.{full_access}
use Rattle.plain_pages.specs.Room.{HasRoom, live, page_in}
use Rattle.plain_pages.specs.NewMaps.{empty_map, following_map, new_map, with_map}
use Rattle.plain_pages.specs.References.{drop_all_unnamed, without_fork}
use Rattle.plain_pages.specs.WholePages.{AreWhole}
use Rattle.machine_names.specs.Bounds.{IsTerminal}
use Rattle.plain_model.specs.Forks.{ForkMap, fork_in, forks_by_slot}
use Rattle.machine_names.specs.Orders.{same_fork}
use Rattle.page_contracts.specs.Pages.{Agrees, PagesMeaning, room_for as frames_for}
use Rattle.plain_model.specs.Trees.{free_slot}
use Rattle.plain_model.proofs.ForkMaps.{cases_name, get_put, get_put_other, get_gone, get_gone_other, names_same, same_forks, same_itself}
use Rattle.machine_names.proofs.OrderLemmas.{fork_cmp_total}
use Rattle.plain_pages.proofs.Whole.{live_named, live_whole, map_named}
use Rattle.fork_tree.specs.Trees.{AreSlotted, Lives}
use Rattle.fork_tree.proofs.Listed.{full_listed, listed_most}
use Rattle.fork_tree.proofs.Ranges.{first_tells}
use Rattle.fork_tree.proofs.Slots.{empty_of}
use Rattle.job_forks.specs.Holding.{Holds}
use Rattle.job_forks.proofs.Places.{one_fewer, others_same}
use Rattle.plain_model.proofs.Shorthands.{is_free}

-- ---- plain pages

none_empty : (n : ℕ) → filter_map page_in (replicate n Empty) ≡ []
none_empty zero = refl
none_empty (suc n) = none_empty n

none_following : (f : ForkName) (pages : List ℕ) → filter_map page_in (each (λ page. Follows f.serial page full_access) pages) ≡ []
none_following f [] = refl
none_following f (page ∷ pages) = none_following f pages

-- the map of a new fork names no page
none_named : (entries : NewMap) → filter_map page_in (new_map entries) ≡ []
unfolding empty_map following_map
none_named EmptyMap = none_empty SPACE_PAGES
none_named (FollowAll f) = none_following f (range_with_len 0 SPACE_PAGES)

module _ (p : NumberedPages) (f : ForkName) (entries : NewMap) (absent : map.get p.maps f ≡ None) where
  -- a map that is added and dropped again
  pub added_dropped : without_fork (with_map p f entries) f ≡ p
  unfolding without_fork
  added_dropped =
      let m = new_map entries in
      let there : map.get (map.insert p.maps f m) f ≡ Some m = get_put p.maps f f m refl in
      let maps : map.remove (map.insert p.maps f m) f ≡ p.maps = same_forks _ _ (λ q. elim (cases_name q f) [
        | inl e ↦ get_gone (map.insert p.maps f m) f q e ∙ sym absent ∙ ap (map.get p.maps) (sym e)
        | inr ne ↦ get_gone_other (map.insert p.maps f m) f q ne ∙ get_put_other p.maps f q m ne
      ]) in
      ap (λ (o : Option Map). drop_all_unnamed (record p { maps = map.remove (map.insert p.maps f m) f }) (option_map_or (filter_map page_in) o [])) there
      ∙ ap (drop_all_unnamed (record p { maps = map.remove (map.insert p.maps f m) f })) (none_named entries)
      ∙ λ i. record p { maps = maps i }

  -- it takes one home
  pub live_mapped : AreWhole p → live (with_map p f entries) ≡ live p + 1
  live_mapped w =
      let len : map.len (map.insert p.maps f (new_map entries)) ≡ map.len p.maps + 1 = map.len-insert fork_cmp_total p.maps f (new_map entries) ∙ ap (λ (o : Option Map). cond (is_some o) (map.len p.maps) (map.len p.maps + 1)) absent in
      omega (arith, live_named (with_map p f entries) (map_named p w f absent entries), live_whole p w, len)

  room_is : AreWhole p → HasRoom (with_map p f entries) f.tty ≡ nat_le (live p + 1) p.limit
  unfolding HasRoom
  room_is w = ap (λ (n : ℕ). nat_le n p.limit) (live_mapped w)

-- so it is told of pages in which that fork doesn't live, by their numbers
module _ {P : Type 0} (means : PagesMeaning P) (pages : P) (p : NumberedPages) (agrees : Agrees means pages p) (w : AreWhole p) (f : ForkName) (entries : NewMap) (dead : means.lives pages f ≡ false) where
  pub not_there : map.get p.maps f ≡ None
  not_there = empty_of (map.get p.maps f) (sym (agrees.living f) ∙ dead)

  pub room_told : HasRoom (with_map p f entries) f.tty ≡ nat_le (means.count pages + 1) (means.most pages)
  room_told = room_is p f entries not_there w ∙ (λ i. nat_le (sym agrees.number i + 1) (sym agrees.bound i))

-- what is told of the room for one more
pub enough_room : (count most frames : ℕ) → Enough ≡ frames_for count most frames 1 → nat_le (count + 1) most ≡ true
enough_room count most frames e = by (nat_le (count + 1) most) refl (nat_le 1 frames) e
  where
    by : (b : Bool) → nat_le (count + 1) most ≡ b → (c : Bool) → Enough ≡ cond b (cond c Enough NeedFrame) Full → nat_le (count + 1) most ≡ true
    by true is c h = is
    by false is c h = absurd (cc h)

pub no_frame : (count most frames : ℕ) → NeedFrame ≡ frames_for count most frames 1 → (nat_le (count + 1) most ≡ true) × (frames ≡ 0)
no_frame count most frames e = by (nat_le (count + 1) most) refl (nat_le 1 frames) refl e
  where
    by : (b : Bool) → nat_le (count + 1) most ≡ b → (c : Bool) → nat_le 1 frames ≡ c → NeedFrame ≡ cond b (cond c Enough NeedFrame) Full → (nat_le (count + 1) most ≡ true) × (frames ≡ 0)
    by true is false none h = (is, omega (arith, leb-false 1 frames none))
    by true is true some h = absurd (cc h)
    by false is c some h = absurd (cc h)

pub no_room : (count most frames : ℕ) → Full ≡ frames_for count most frames 1 → nat_le (count + 1) most ≡ false
no_room count most frames e = by (nat_le (count + 1) most) refl (nat_le 1 frames) e
  where
    by : (b : Bool) → nat_le (count + 1) most ≡ b → (c : Bool) → Full ≡ cond b (cond c Enough NeedFrame) Full → nat_le (count + 1) most ≡ false
    by false is c h = is
    by true is true h = absurd (cc h)
    by true is false h = absurd (cc h)

-- a job with a free slot has fewer than thirty forks
pub few_forks : (forks : ForkMap) (t : Tty) (slot : ℕ) → free_slot forks t ≡ Some slot → length (forks_by_slot forks t) < MOST_FORKS
unfolding free_slot
few_forks forks t slot is = elim (cases_eq (length (forks_by_slot forks t)) MOST_FORKS) [
  | inl full ↦
      let told = first_tells (is_free forks t) 1 MOST_FORKS slot is in
      let some = full_listed (fork_in forks t) 1 MOST_FORKS full slot told.0 told.1 in
      absurd (let both : true ≡ false = sym told.2 ∙ some in cc both)
  | inr other ↦ omega (arith, listed_most (fork_in forks t) 1 MOST_FORKS, other)
]

-- ---- pages and forks

module _ {P : Type 0} (means : PagesMeaning P) (old new : P) (name : ForkName) (lives : (f : ForkName) → means.lives new f ≡ (same_fork f name || means.lives old f))
    (own : means.forks_of new name.tty ≡ means.forks_of old name.tty + 1) (others : (t : Tty) → t ≢ name.tty → means.forks_of new t ≡ means.forks_of old t) where
  apart : (f : ForkName) → f ≢ name → same_fork f name ≡ false
  apart f ne = by (same_fork f name) refl
    where
      by : (b : Bool) → same_fork f name ≡ b → same_fork f name ≡ false
      by true is = absurd (ne (names_same f name is))
      by false is = is

  -- with the fork that is made
  pub added_holds : (forks : ForkMap) (f : Fork) → f.name ≡ name → map.get forks name ≡ None → AreSlotted forks → AreSlotted (map.insert forks name f) → Holds means old forks → Holds means new (map.insert forks name f)
  added_holds forks f is absent a b holds = record { living = living; counts = counts; roomy = holds.roomy }
    where
      more : ForkMap
      more = map.insert forks name f

      back : map.remove more f.name ≡ forks
      back = same_forks _ _ (λ q. elim (cases_name q f.name) [
        | inl e ↦ get_gone more f.name q e ∙ sym (ap (map.get forks) (e ∙ is) ∙ absent)
        | inr ne ↦ get_gone_other more f.name q ne ∙ get_put_other forks name q f (λ e. ne (e ∙ sym is))
      ])

      there : Lives more f
      there = get_put forks name f.name f is

      living : (q : ForkName) → means.lives new q ≡ map.contains_key more q
      living q = elim (cases_name q name) [
        | inl e ↦ lives q ∙ ap (λ b. b || means.lives old q) (ap (λ n. same_fork n name) e ∙ same_itself name) ∙ sym (ap is_some (get_put forks name q f e))
        | inr ne ↦ lives q ∙ ap (λ b. b || means.lives old q) (apart q ne) ∙ holds.living q ∙ sym (ap is_some (get_put_other forks name q f ne))
      ]

      slotted : AreSlotted (map.remove more f.name)
      slotted = subst AreSlotted (sym back) a

      counts : (t : Tty) → IsTerminal t → means.forks_of new t ≡ length (forks_by_slot more t)
      counts t terminal = elim (cases_eq t.0 name.tty.0) [
        | inl e ↦
            let same : t ≡ name.tty = λ i. record { 0 = e i } in
            let one : length (forks_by_slot forks f.name.tty) + 1 ≡ length (forks_by_slot more f.name.tty) = subst (λ (m : ForkMap). length (forks_by_slot m f.name.tty) + 1 ≡ length (forks_by_slot more f.name.tty)) back (one_fewer more f b slotted there) in
            let at : length (forks_by_slot forks name.tty) + 1 ≡ length (forks_by_slot more name.tty) = subst (λ (n : ForkName). length (forks_by_slot forks n.tty) + 1 ≡ length (forks_by_slot more n.tty)) is one in
            let before : means.forks_of old name.tty ≡ length (forks_by_slot forks name.tty) = holds.counts name.tty (subst IsTerminal same terminal) in
            let here : means.forks_of new name.tty ≡ length (forks_by_slot more name.tty) = omega (arith, at, before, own) in
            subst (λ (u : Tty). means.forks_of new u ≡ length (forks_by_slot more u)) (sym same) here
        | inr ne ↦
            let away : t ≢ name.tty = λ same. ne (ap (λ (u : Tty). u.0) same) in
            let away_of : t ≢ f.name.tty = λ same. away (same ∙ ap (λ (n : ForkName). n.tty) is) in
            others t away ∙ holds.counts t terminal
            ∙ sym (sym (others_same more f b slotted there t away_of) ∙ ap (λ (m : ForkMap). length (forks_by_slot m t)) back)
      ]

  -- and with it dropped again
  pub back_holds : (last : P) (forks : ForkMap) → map.get forks name ≡ None → ((f : ForkName) → means.lives last f ≡ (not (same_fork f name) && means.lives new f)) → means.forks_of last name.tty + 1 ≡ means.forks_of new name.tty
      → ((t : Tty) → t ≢ name.tty → means.forks_of last t ≡ means.forks_of new t) → Holds means old forks → Holds means last forks
  back_holds last forks absent lives' own' others' holds = record {
    living = λ q. elim (cases_name q name) [
      | inl e ↦ lives' q ∙ ap (λ b. not b && means.lives new q) (ap (λ n. same_fork n name) e ∙ same_itself name) ∙ sym (ap is_some (ap (map.get forks) e ∙ absent))
      | inr ne ↦
          lives' q ∙ ap (λ b. not b && means.lives new q) (apart q ne) ∙ lives q ∙ ap (λ b. b || means.lives old q) (apart q ne) ∙ holds.living q
    ];
    counts = λ t terminal. elim (cases_eq t.0 name.tty.0) [
      | inl e ↦
          let same : t ≡ name.tty = λ i. record { 0 = e i } in
          let equal : means.forks_of last name.tty ≡ means.forks_of old name.tty = omega (arith, own, own') in
          ap (means.forks_of last) same ∙ equal ∙ ap (means.forks_of old) (sym same) ∙ holds.counts t terminal
      | inr ne ↦
          let away : t ≢ name.tty = λ same. ne (ap (λ (u : Tty). u.0) same) in
          others' t away ∙ others t away ∙ holds.counts t terminal
    ];
    roomy = holds.roomy;
  }
