-- What a look at an entry tells of it, and of the chain that it begins.
use Rattle.std.proofs.Common.{◌≡◌, ℕ, zero, suc, ◌-◌, ◌<◌, Option, None, Some, Result, Ok, Err, refl, sym, ◌∙◌, ap, arith}
use Rattle.std.specs.Prelude.{unwrap_or}
use Rattle.std.specs.Option.{option_map, option_map_or, option_or, option_and_then}
use Rattle.machine_names.specs.declared.names.Access.{Access}
use Rattle.page_homes.specs.declared.homes.Home.{Home}
use Rattle.machine_names.specs.declared.names.PageName.{PageName}
use Rattle.machine_names.specs.declared.names.Slot.{Slot}
use Rattle.plain_pages.specs.declared.map.MapEntry.{MapEntry}
use Rattle.plain_pages.specs.declared.map.MapEntry.TheVariants.{Empty, Names, Follows}
use Rattle.page_contracts.specs.declared.answers.Need.{Need}
use Rattle.page_contracts.specs.declared.answers.Need.TheVariants as need
use Rattle.page_contracts.specs.declared.answers.Seen.TheVariants.{Is, Absent, Missing}
use Rattle.plain_pages.specs.PlainPages.{NumberedPages}
use Rattle.plain_pages.specs.References.{in_map, in_file, page_at}
use Rattle.machine_names.specs.Orders.{FilePage}
use Rattle.std.specs.FinMap as map
use Rattle.plain_pages.specs.Maps.{Entries, Chain, chain, chain_within, chain_from, entry_at, behind, followed}
use Rattle.page_contracts.specs.Pages.{Scene, seen_of, map_away_or}
use Rattle.plain_model.specs.Calls.{entry_of}
use Rattle.plain_pages.proofs.Chains.{chain_here}
use Rattle.call_turns.specs.Telling.{entry_need, need_behind, page_within, told, way_need}
use Rattle.call_turns.specs.declared.turn.Told.TheVariants.{Entry, Page}

-- what was told is so, and nothing was needed; and what was needed
pub told_is : {A : Type 0} (o : Option Need) (v x : A) → Ok x ≡ told o v → (o ≡ None) × (x ≡ v)
told_is None v x h = (refl, cc h)
told_is (Some n) v x h = absurd (cc h)

pub needed_is : {A : Type 0} (o : Option Need) (v : A) (n : Need) → Err n ≡ told o v → o ≡ Some n
needed_is None v n h = absurd (cc h)
needed_is (Some m) v n h = let e : n ≡ m = cc h in ap Some (sym e)

module _ (p : NumberedPages) (scene : Scene) (s : Slot) where
  abbrev needs : Option ℕ → Option MapEntry → Option Need
  needs away o = option_and_then (λ e. option_map (λ home. need.Page (record { 0 = home })) away) o

  pub is_entry : (e : MapEntry) → Is e ≡ seen_of p scene s → Ok e ≡ told (entry_need scene p s) (entry_of p s)
  unfolding seen_of
  is_entry e h = by (entry_at p.maps s) (scene.map_away s.fork) h
    where
      by : (o : Option MapEntry) (away : Option ℕ) → Is e ≡ option_map_or (λ x. map_away_or away (Is x)) o Missing → Ok e ≡ told (needs away o) (unwrap_or o Empty)
      by None away h = absurd (cc h)
      by (Some x) None h = let same : e ≡ x = cc h in ap Ok same
      by (Some x) (Some home) h = absurd (cc h)

  pub missing_entry : Missing ≡ seen_of p scene s → Ok Empty ≡ told (entry_need scene p s) (entry_of p s)
  unfolding seen_of
  missing_entry h = by (entry_at p.maps s) (scene.map_away s.fork) h
    where
      by : (o : Option MapEntry) (away : Option ℕ) → Missing ≡ option_map_or (λ x. map_away_or away (Is x)) o Missing → Ok Empty ≡ told (needs away o) (unwrap_or o Empty)
      by None away h = refl
      by (Some x) None h = absurd (cc h)
      by (Some x) (Some home) h = absurd (cc h)

  pub absent_map : (home : Home) → Absent home ≡ seen_of p scene s → Err (need.Page home) ≡ told (entry_need scene p s) (entry_of p s)
  unfolding seen_of
  absent_map home h = by (entry_at p.maps s) (scene.map_away s.fork) h
    where
      by : (o : Option MapEntry) (away : Option ℕ) → Absent home ≡ option_map_or (λ x. map_away_or away (Is x)) o Missing → Err (need.Page home) ≡ told (needs away o) (unwrap_or o Empty)
      by None away h = absurd (cc h)
      by (Some x) None h = absurd (cc h)
      by (Some x) (Some k) h = let e : home ≡ record { 0 = k } = cc in ap (λ (x : Home). Err (need.Page x)) e

  -- a way goes on behind an entry that was seen
  pub way_on : (n : ℕ) (e : MapEntry) → 0 < n → Ok e ≡ told (entry_need scene p s) (entry_of p s) → way_need n scene p s ≡ need_behind s e (way_need (n - 1) scene p)
  way_on zero e h is = absurd (omega (arith, h))
  way_on (suc n) e h is =
      let t = told_is (entry_need scene p s) (entry_of p s) e is in
      let k : n ≡ suc n - 1 = omega arith in
      ap (λ o. option_or o (need_behind s (entry_of p s) (way_need n scene p))) t.0 ∙ ap (λ x. need_behind s x (way_need n scene p)) (sym t.1) ∙ ap (λ m. need_behind s e (way_need m scene p)) k

  -- or needs it
  pub way_stops : (n : ℕ) (what : Need) → 0 < n → Err what ≡ told (entry_need scene p s) (entry_of p s) → way_need n scene p s ≡ Some what
  way_stops zero what h is = absurd (omega (arith, h))
  way_stops (suc n) what h is = ap (λ o. option_or o (need_behind s (entry_of p s) (way_need n scene p))) (needed_is (entry_need scene p s) (entry_of p s) what is)

module _ (entries : Entries) (s : Slot) where
  -- the chain goes on from its first entry, which is one of the links
  page_here : (n : ℕ) (o : Option MapEntry) → entries s ≡ o → 0 < n → page_within n entries s ≡ option_and_then (λ c. c.page) (chain_from s o (chain_within (n - 1) entries))
  page_here zero o e h = absurd (omega (arith, h))
  page_here (suc n) o e h =
      let k : n ≡ suc n - 1 = omega arith in
      ap (λ c. option_and_then (λ c. c.page) c) (chain_here n entries s o e) ∙ ap (λ m. option_and_then (λ c. c.page) (chain_from s o (chain_within m entries))) k

  pub no_page : (n : ℕ) → 0 < n → Empty ≡ unwrap_or (entries s) Empty → None ≡ page_within n entries s
  no_page n h e = by (entries s) refl e
    where
      by : (o : Option MapEntry) → entries s ≡ o → Empty ≡ unwrap_or o Empty → None ≡ page_within n entries s
      by None k e = sym (page_here n None k h)
      by (Some Empty) k e = sym (page_here n (Some Empty) k h)
      by (Some (Names m a)) k e = absurd (cc e)
      by (Some (Follows serial page a)) k e = absurd (cc e)

  pub named_page : (n : ℕ) (m : PageName) (a : Access) → 0 < n → Names m a ≡ unwrap_or (entries s) Empty → Some m ≡ page_within n entries s
  named_page n m a h e = by (entries s) refl e
    where
      by : (o : Option MapEntry) → entries s ≡ o → Names m a ≡ unwrap_or o Empty → Some m ≡ page_within n entries s
      by None k e = absurd (cc e)
      by (Some x) k e = let there : entries s ≡ Some (Names m a) = k ∙ ap Some (sym e) in sym (page_here n (Some (Names m a)) there h)

  pub followed_page : (n serial page : ℕ) (a : Access) → 0 < n → Follows serial page a ≡ unwrap_or (entries s) Empty → page_within n entries s ≡ page_within (n - 1) entries (followed s serial page)
  followed_page n serial page a h e = by (entries s) refl e
    where
      past : (c : Option Chain) → option_and_then (λ c. c.page) (option_map (behind s a) c) ≡ option_and_then (λ c. c.page) c
      past None = refl
      past (Some c) = refl

      by : (o : Option MapEntry) → entries s ≡ o → Follows serial page a ≡ unwrap_or o Empty → page_within n entries s ≡ page_within (n - 1) entries (followed s serial page)
      by None k e = absurd (cc e)
      by (Some x) k e =
          let there : entries s ≡ Some (Follows serial page a) = k ∙ ap Some (sym e) in
          page_here n (Some (Follows serial page a)) there h ∙ past (chain_within (n - 1) entries (followed s serial page))

  pub no_links : (n : ℕ) → n ≡ 0 → None ≡ page_within n entries s
  unfolding chain_within
  no_links zero e = refl
  no_links (suc n) e = absurd (omega (arith, e))

-- a chain has four links at most
pub page_found : (p : NumberedPages) (s : Slot) → page_within 4 (entry_at p.maps) s ≡ page_at p (in_map s)
unfolding page_at chain
page_found p s = refl

-- what is told of the page at the end of a chain
module _ (p : NumberedPages) (scene : Scene) (s : Slot) (n : ℕ) where
  abbrev Tells : Result (Option PageName) Need → Type 0
  Tells r = r ≡ told (way_need n scene p s) (page_within n (entry_at p.maps) s)

  abbrev Saw : MapEntry → Type 0
  Saw e = Ok e ≡ told (entry_need scene p s) (entry_of p s)

  seen_so : (e : MapEntry) → Saw e → e ≡ entry_of p s
  seen_so e is = let t = told_is (entry_need scene p s) (entry_of p s) e is in t.1

  tells : (page : Option PageName) (need : Option Need) → way_need n scene p s ≡ need → page ≡ page_within n (entry_at p.maps) s → told need page ≡ told (way_need n scene p s) (page_within n (entry_at p.maps) s)
  tells page need way is = ap (λ o. told o page) (sym way) ∙ ap (told (way_need n scene p s)) is

  pub none_told : n ≡ 0 → Tells (Ok None)
  none_told z = tells None None (way n z) (no_links (entry_at p.maps) s n z)
    where
      way : (n : ℕ) → n ≡ 0 → way_need n scene p s ≡ None
      way zero z = refl
      way (suc n) z = absurd (omega (arith, z))

  module _ (some : 0 < n) where
    pub empty_told : Saw Empty → Tells (Ok None)
    empty_told is = tells None None (way_on p scene s n Empty some is) (no_page (entry_at p.maps) s n some (seen_so Empty is))

    pub named_told : (m : PageName) (a : Access) → Saw (Names m a) → Tells (Ok (Some m))
    named_told m a is = tells (Some m) None (way_on p scene s n (Names m a) some is) (named_page (entry_at p.maps) s n m a some (seen_so (Names m a) is))

    pub followed_told : (serial page : ℕ) (a : Access) (r : Result (Option PageName) Need) → Saw (Follows serial page a)
        → r ≡ told (way_need (n - 1) scene p (followed s serial page)) (page_within (n - 1) (entry_at p.maps) (followed s serial page)) → Tells r
    followed_told serial page a r is same = same ∙ tells (page_within (n - 1) (entry_at p.maps) (followed s serial page)) (way_need (n - 1) scene p (followed s serial page))
        (way_on p scene s n (Follows serial page a) some is) (sym (followed_page (entry_at p.maps) s n serial page a some (seen_so (Follows serial page a) is)))

    pub needs_told : (what : Need) → Err what ≡ told (entry_need scene p s) (entry_of p s) → Tells (Err what)
    needs_told what is = sym (ap (λ o. told o (page_within n (entry_at p.maps) s)) (way_stops p scene s n what some is))

-- and so of what was asked
module _ (p : NumberedPages) (scene : Scene) (s : Slot) where
  -- the page at the end of a chain
  pub page_is : (r : Result (Option PageName) Need) → r ≡ told (way_need 4 scene p s) (page_within 4 (entry_at p.maps) s) → r ≡ told (way_need 4 scene p s) (page_at p (in_map s))
  page_is r is = is ∙ ap (told (way_need 4 scene p s)) (page_found p s)

  pub page_told : (page : Option PageName) → Ok page ≡ told (way_need 4 scene p s) (page_at p (in_map s)) → Ok (Page page) ≡ told (way_need 4 scene p s) (Page (page_at p (in_map s)))
  page_told page is = by (way_need 4 scene p s) is
    where
      by : (o : Option Need) → Ok page ≡ told o (page_at p (in_map s)) → Ok (Page page) ≡ told o (Page (page_at p (in_map s)))
      by None h = let e : page ≡ page_at p (in_map s) = cc h in ap (λ x. Ok (Page x)) e
      by (Some n) h = absurd (cc h)

  pub page_needed : (what : Need) → Err what ≡ told (way_need 4 scene p s) (page_at p (in_map s)) → Err what ≡ told (way_need 4 scene p s) (Page (page_at p (in_map s)))
  page_needed what is = sym (ap (λ o. told o (Page (page_at p (in_map s)))) (needed_is (way_need 4 scene p s) (page_at p (in_map s)) what is))

  pub entry_told : (e : MapEntry) → Ok e ≡ told (entry_need scene p s) (entry_of p s) → Ok (Entry e) ≡ told (entry_need scene p s) (Entry (entry_of p s))
  entry_told e is = by (entry_need scene p s) is
    where
      by : (o : Option Need) → Ok e ≡ told o (entry_of p s) → Ok (Entry e) ≡ told o (Entry (entry_of p s))
      by None h = let same : e ≡ entry_of p s = cc h in ap (λ x. Ok (Entry x)) same
      by (Some n) h = absurd (cc h)

  pub entry_needed : (what : Need) → Err what ≡ told (entry_need scene p s) (entry_of p s) → Err what ≡ told (entry_need scene p s) (Entry (entry_of p s))
  entry_needed what is = sym (ap (λ o. told o (Entry (entry_of p s))) (needed_is (entry_need scene p s) (entry_of p s) what is))

  -- where no fork is, no page is
  pub missing_page : Missing ≡ seen_of p scene s → page_at p (in_map s) ≡ None
  missing_page h =
      let four : 0 < 4 = omega arith in
      sym (no_page (entry_at p.maps) s 4 four (told_is (entry_need scene p s) (entry_of p s) Empty (missing_entry p scene s h)).1 ∙ page_found p s)

  -- a map that is in no frame is on the way
  pub absent_way : (home : Home) → Absent home ≡ seen_of p scene s → way_need 4 scene p s ≡ None → ⊥
  absent_way home h none =
      let four : 0 < 4 = omega arith in
      let two : None ≡ Some (need.Page home) = sym none ∙ way_stops p scene s 4 (need.Page home) four (absent_map p scene s home h) in
      cc two

-- what a file names is told
pub filed_told : (p : NumberedPages) (f : FilePage ℕ) (filed : FilePage ℕ → Option PageName) (page : Option PageName) → filed ≡ map.get p.files → page ≡ filed f → Ok (Page page) ≡ told None (Page (page_at p (in_file f)))
unfolding page_at
filed_told p f filed page is h = ap (λ n. Ok (Page n)) (h ∙ ap (λ (g : FilePage ℕ → Option PageName). g f) is)
