-- The plain pages once a page is made.
use Rattle.std.proofs.Common.{◌≡◌, ◌≢◌, ◌⊎◌, inl, inr, ℕ, zero, suc, ◌+◌, List, [], ◌∷◌, true, false, Option, None, Some, map, refl, sym, ◌∙◌, ap, arith, is_some}
use Rattle.std.specs.Prelude.{slice_set, slice_get, nat_lt}
use Rattle.std.specs.List.{sum_by}
use Rattle.std.specs.Option.{option_map, option_map_or, unwrap_or}
use Rattle.std.specs.FinMap as fin
use Rattle.std.proofs.lemmas.Bool.{cases_eq}
use Rattle.std.proofs.lemmas.List.{map-set}
use Rattle.machine_names.specs.declared.names.ForkName.{ForkName}
use Rattle.machine_names.specs.declared.names.PageName.{PageName}
use Rattle.machine_names.specs.declared.names.Slot.{Slot}
use Rattle.machine_names.specs.declared.names.Tty.{Tty}
use Rattle.plain_pages.specs.declared.map.MapEntry.TheVariants as entry
use Rattle.page_contracts.specs.DrumWords.{DrumWords}
use Rattle.plain_pages.specs.PlainPages.{Map, NumberedPages}
use Rattle.plain_pages.specs.Maps.{set_entry}
use Rattle.plain_pages.specs.Room.{uses}
use Rattle.machine_names.specs.PageWords.{zero_words}
use Rattle.plain_pages.specs.References.{next_page, words_of}
use Rattle.page_contracts.specs.Stores.{content}
use Rattle.plain_pages.proofs.Kept.{same_pages}
use Rattle.plain_pages.proofs.Made.{HasNew}
use Rattle.plain_pages.proofs.Whole.{map_uses, tally, uses_are}
use Rattle.flat_tables.specs.declared.held_entry.EntryAt.{EntryAt}
use Rattle.flat_tables.specs.declared.held_entry.HeldEntry.{HeldEntry}
use Rattle.flat_tables.specs.declared.held_entry.HeldEntry.TheVariants.{Empty, Page, Follows}
use Rattle.flat_tables.specs.declared.held_map.HeldMap.{HeldMap}
use Rattle.flat_tables.specs.HeldMaps.{map_at, fork_at, held_entry, with_entry, name_at, entry_of, entries_of, maps_held, points_at, AreHeld}
use Rattle.flat_tables.specs.Walks.{slot_of}
use Rattle.flat_tables.specs.SlotTables.{Tables, plain_of, share_of, filed_total, AreTables, AreSized}
use Rattle.flat_tables.proofs.HeldEntries.{held_within, map_set_same, map_set_other, fork_set, entry_other, total_with, total_le, points_here}
use Rattle.flat_tables.proofs.LivingMaps.{get_living, maps_changed}
use Rattle.flat_pages.proofs.Agreement.{Housed, housed, uses_home, uses_none, object_home, object_gone, tables_whole}

pub map_same : {A B : Type 0} (f g : A → B) (xs : List A) → ((i : ℕ) (x : A) → slice_get xs i ≡ Some x → f x ≡ g x) → map f xs ≡ map g xs
map_same f g [] same = refl
map_same f g (x ∷ xs) same = let rest = map_same f g xs (λ i. same (suc i)) in let first = same zero x refl in λ i. first i ∷ rest i

-- but at one place, where both have the same then
set_same : {A B : Type 0} (f g : A → B) (xs : List A) (at : ℕ) (y : B) → ((i : ℕ) (x : A) → i ≢ at → slice_get xs i ≡ Some x → f x ≡ g x) → slice_set (map f xs) at y ≡ slice_set (map g xs) at y
set_same f g [] at y same = refl
set_same f g (x ∷ xs) zero y same = let rest = map_same f g xs (λ i z e. same (suc i) z (λ h. (omega (arith, h))) e) in λ i. y ∷ rest i
set_same f g (x ∷ xs) (suc at) y same =
    let rest = set_same f g xs at y (λ i z ne e. same (suc i) z (λ h. ne (omega (arith, h))) e) in
    let first = same zero x (λ h. omega (arith, h)) refl in
    λ i. first i ∷ rest i

-- an entry is set; each other stands for what it stood for, under the names as they are now
module _ (names names' : List (Option PageName)) (maps : List HeldMap) (held : AreHeld maps) (at : EntryAt) (old e : HeldEntry) (s : Slot) (is : slot_of maps at ≡ Some s) (there : held_entry maps at ≡ Some old)
    (others : (b : EntryAt) (x : HeldEntry) → b ≢ at → held_entry maps b ≡ Some x → entry_of names' x ≡ entry_of names x) where
  read_in : (k page : ℕ) (x : HeldEntry) → slice_get (map_at maps k).entries page ≡ Some x → held_entry maps (record { map = k; page = page }) ≡ Some x
  read_in k page x h = h

  pub maps_set : maps_held names' (with_entry maps at e) ≡ set_entry (maps_held names maps) s (entry_of names' e)
  maps_set = by (fork_at maps at.map) refl is
    where
      m : Map
      m = slice_set (entries_of names (map_at maps at.map)) at.page (entry_of names' e)

      here : entries_of names' (map_at (with_entry maps at e) at.map) ≡ m
      here =
          ap (λ (x : HeldMap). entries_of names' x) (map_set_same maps at e (held_within maps at old there))
          ∙ map-set (entry_of names') (map_at maps at.map).entries at.page e
          ∙ set_same (entry_of names') (entry_of names) (map_at maps at.map).entries at.page (entry_of names' e) (λ page x ne h. others (record { map = at.map; page = page }) x (λ same. ne (ap (λ (y : EntryAt). y.page) same)) h)

      elsewhere : (k : ℕ) → k ≢ at.map → entries_of names' (map_at (with_entry maps at e) k) ≡ entries_of names (map_at maps k)
      elsewhere k ne =
          ap (λ (x : HeldMap). entries_of names' x) (map_set_other maps at e k ne)
          ∙ map_same (entry_of names') (entry_of names) (map_at maps k).entries (λ page x h. others (record { map = k; page = page }) x (λ same. ne (ap (λ (y : EntryAt). y.map) same)) h)

      by : (o : Option ForkName) → fork_at maps at.map ≡ o → option_map (λ f. record { fork = f; page = at.page }) o ≡ Some s → maps_held names' (with_entry maps at e) ≡ set_entry (maps_held names maps) s (entry_of names' e)
      by None f k = absurd (cc k)
      by (Some f) fork k =
          let same : ◌≡◌ {A = Slot} (record { fork = f; page = at.page }) s = cc k in
          maps_changed names names' maps (with_entry maps at e) held.once (fork_set maps at e) at.map m here elsewhere f fork
          ∙ ap (λ (o : Option Map). option_map_or (λ n. fin.insert (maps_held names maps) f (slice_set n at.page (entry_of names' e))) o (maps_held names maps)) (sym (get_living names maps held.once f at.map fork))
          ∙ ap (λ (x : Slot). set_entry (maps_held names maps) x (entry_of names' e)) same

-- no other entry names the page of a home that one has alone, or none
pub none_else : (t : Tables) → AreTables t → (at b : EntryAt) (q x : HeldEntry) (home : ℕ) → held_entry t.maps at ≡ Some q → share_of t.shares home ≡ points_at home q → b ≢ at → held_entry t.maps b ≡ Some x → points_at home x ≡ 0
none_else t a at b q x home there alone ne here =
    let w = total_with t.maps at Empty (points_at home) q there in
    let l = total_le (points_at home) (with_entry t.maps at Empty) b x refl (entry_other t.maps at Empty b ne ∙ here) in
    omega (arith, w, l, alone, a.shares home)

-- no file names the page of a home that an entry has alone, or none
pub none_filed : (t : Tables) → AreTables t → (at : EntryAt) (q : HeldEntry) (home : ℕ) → held_entry t.maps at ≡ Some q → share_of t.shares home ≡ points_at home q → filed_total home t.files ≡ 0
none_filed t a at q home there alone = omega (arith, total_le (points_at home) t.maps at q refl there, alone, a.shares home)

-- an entry stands for what it stood for, where its home keeps its name
pub entry_still : (names names' : List (Option PageName)) (home : ℕ) (x : HeldEntry) → ((k : ℕ) → k ≢ home → name_at names' k ≡ name_at names k) → points_at home x ≡ 0 → entry_of names' x ≡ entry_of names x
entry_still names names' home Empty same none = refl
entry_still names names' home (Follows l a) same none = refl
entry_still names names' home (Page k a) same none =
    ap (λ (n : Option PageName). entry.Names (unwrap_or n (record { tty = record { 0 = 0 }; serial = 0 })) a) (same k.0 (λ e. (let z = points_here home k a e in omega (arith, z, none))))

-- a home has a page of a new name, and each other home its page as before
module _ (t t' : Tables) (a : AreTables t) (a' : AreTables t') (d : DrumWords) (sized : AreSized t.places d) (sized' : AreSized t'.places d) (owner : Tty) (home : ℕ) where
  abbrev p : NumberedPages
  p = plain_of t d

  abbrev p' : NumberedPages
  p' = plain_of t' d

  module _ (q : NumberedPages) (words : List ℕ) (made : HasNew p q owner words) (maps : p'.maps ≡ q.maps) (files : p'.files ≡ q.files)
      (terminals : p'.page_serials ≡ q.page_serials) (console : p'.console_serial ≡ q.console_serial) (limit : p'.limit ≡ p.limit)
      (name : name_at t'.names home ≡ Some (next_page p owner)) (others : (k : ℕ) → k ≢ home → name_at t'.names k ≡ name_at t.names k)
      (held : content t'.places d home ≡ Some words) (kept : (k : ℕ) → k ≢ home → content t'.places d k ≡ content t.places d k) where
    uses_same : (x : PageName) → uses p' x ≡ uses q x
    uses_same x =
        uses_are p' x ∙ (λ i. sum_by (map_uses x) (fin.values (maps i)) + sum_by (tally x) (fin.values (files i))) ∙ sym (uses_are q x)

    there : (x : PageName) → fin.contains_key q.objects x ≡ nat_lt 0 (uses p' x)
    there x = made.whole.named x ∙ ap (nat_lt 0) (sym (uses_same x))

    found_words : (x : PageName) (w : List ℕ) (o : Option (List ℕ)) → is_some o ≡ true → unwrap_or o zero_words ≡ w → o ≡ Some w
    found_words x w None some e = absurd (cc some)
    found_words x w (Some v) some e = ap Some e

    named_objects : (k : ℕ) (x : PageName) → name_at t'.names k ≡ Some x → fin.get p'.objects x ≡ fin.get q.objects x
    named_objects k x is = object_home t' a' d sized' k x is ∙ by (cases_eq k home)
      where
        lives : fin.contains_key q.objects x ≡ true
        lives = there x ∙ ap (nat_lt 0) (uses_home t' a' d sized' k x is) ∙ sym (a'.shared k) ∙ ap is_some is

        by : (k ≡ home) ⊎ (k ≢ home) → content t'.places d k ≡ fin.get q.objects x
        by (inl same) =
            let new : next_page p owner ≡ x = (let z : Some (next_page p owner) ≡ Some x = sym name ∙ ap (name_at t'.names) (sym same) ∙ is in cc z) in
            ap (content t'.places d) same ∙ held ∙ sym (found_words x words (fin.get q.objects x) lives (ap (words_of q) (sym new) ∙ made.held))
        by (inr ne) =
            let was : name_at t.names k ≡ Some x = sym (others k ne) ∙ is in
            let old : fin.get p.objects x ≡ content t.places d k = object_home t a d sized k x was in
            kept k ne ∙ sym old
            ∙ sym (made.kept x ((tables_whole t a d sized).named x ∙ ap (nat_lt 0) (uses_home t a d sized k x was) ∙ sym (a.shared k) ∙ ap is_some was) lives)

    nothing : (o : Option (List ℕ)) → is_some o ≡ false → None ≡ o
    nothing None e = refl
    nothing (Some w) e = absurd (cc e)

    objects_same : (x : PageName) → fin.get p'.objects x ≡ fin.get q.objects x
    objects_same x = by (housed t'.names x)
      where
        by : Housed t'.names x → fin.get p'.objects x ≡ fin.get q.objects x
        by (inl r) = named_objects r.0 x r.1
        by (inr none) = object_gone t' a' d sized' x none ∙ nothing (fin.get q.objects x) (there x ∙ ap (nat_lt 0) (uses_none t' a' d sized' x none))

    -- the plain pages are those with the page made
    pub told_made : p' ≡ q
    told_made = same_pages p' q objects_same maps files terminals console (limit ∙ sym made.limit)
