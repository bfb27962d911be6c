-- The page of a map whose entries follow another's.
use Rattle.std.proofs.Common.{◌≡◌, inl, inr, ℕ, zero, suc, ◌+◌, ◌<◌, ◌≤◌, List, [], ◌∷◌, Bool, true, false, not, cond, ◌||◌, Option, Some, length, refl, sym, ◌∙◌, ap, subst, arith, add-one}
use Rattle.std.specs.Prelude.{IsSome, slice_index, slice_index_or, slice_set, filter}
use Rattle.std.specs.List.{list_any}
use Rattle.std.specs.Option.{option_map_or}
use Rattle.std.proofs.lemmas.List.{get_or-set_same, get_or-set_other, length-set, length-map, length-replicate, get_or-map}
use Rattle.std.proofs.lemmas.List.FromFn.{fill_by_all}
use Rattle.std.proofs.lemmas.Bool.{cases_eq}
use Rattle.outside.specs.declared.TheConstants.{PAGE_WORDS}
use Rattle.machine_names.specs.declared.names.ForkName.{ForkName}
use Rattle.machine_names.specs.declared.names.TheConstants.{LAST_SERIAL, SPACE_PAGES}
use Rattle.machine_names.specs.PageWords.{zero_words}
use Rattle.plain_pages.specs.declared.map.MapEntry.TheVariants as entry
use Rattle.plain_pages.specs.Maps.{full_access}
use Rattle.plain_pages.specs.NewMaps.{following_map}
use Rattle.share_table.specs.declared.pointer.Pointer.TheVariants.{Indirect}
use Rattle.page_contracts.proofs.Losing.{counts_on, used_once}
use Rattle.page_contracts.specs.declared.answers.Found.{Found}
use Rattle.page_contracts.specs.Stores.{StoreMeaning, HomePlace, is_here, Transfer, departs, without, noted_all, IsSound, IsMade, IsUsed}
use Rattle.pager_walk.specs.declared.paged_entry.PagedEntry.{PagedEntry}
use Rattle.pager_walk.specs.declared.paged_entry.PagedEntry.TheVariants.{Follows}
use Rattle.pager_walk.specs.NewPages.{following_word, following_words}
use Rattle.pager_walk.specs.PagedMaps.{Tables, entry_in, plain_entry, entry_of, row_of}
use Rattle.pager_walk.proofs.Changing.{entry_back}

pub following_none : (serial : ℕ) → following_words serial 0 ≡ zero_words
unfolding following_words
following_none serial = refl

pub following_more : (serial n : ℕ) → following_words serial (n + 1) ≡ slice_set (following_words serial n) n (following_word serial n)
unfolding following_words
following_more serial n = ap (following_words serial) (add-one n)

zero_length : length zero_words ≡ PAGE_WORDS
unfolding zero_words
zero_length = length-replicate {A = ℕ} PAGE_WORDS 0

following_length : (serial n : ℕ) → length (following_words serial n) ≡ PAGE_WORDS
unfolding following_words
following_length serial zero = zero_length
following_length serial (suc n) = length-set (following_words serial n) n (following_word serial n) ∙ following_length serial n

following_at : (serial n k : ℕ) → n ≤ PAGE_WORDS → k < n → slice_index (following_words serial n) k ≡ following_word serial k
unfolding following_words
following_at serial zero k most l = absurd (omega (arith, l))
following_at serial (suc n) k most l = elim (cases_eq k n) [
  | inl same ↦ ap (slice_index (slice_set (following_words serial n) n (following_word serial n))) same ∙ get_or-set_same (following_words serial n) n (following_word serial n) 0 (omega (arith, following_length serial n, most)) ∙ ap (following_word serial) (sym same)
  | inr other ↦ get_or-set_other (following_words serial n) n k (following_word serial n) 0 other ∙ following_at serial n k (omega (arith, most)) (omega (arith, l, other))
]

module _ (t : Tables) (serial : ℕ) (one : 1 ≤ serial) (last : serial ≤ LAST_SERIAL) where
  stands : (page : ℕ) → page < SPACE_PAGES → entry_in t (slice_index (following_words serial SPACE_PAGES) page) ≡ Some (Follows serial page full_access)
  stands page l = ap (entry_in t) (following_at serial SPACE_PAGES page (omega arith) l) ∙ entry_back t (Indirect serial page full_access) (one, last, l)

  -- each word is that of an entry
  pub following_there : (page : ℕ) → page < SPACE_PAGES → IsSome (entry_in t (slice_index (following_words serial SPACE_PAGES) page))
  following_there page l = subst (λ (o : Option PagedEntry). IsSome o) (sym (stands page l)) refl

  -- the page is the map that follows
  pub following_row : (f : ForkName) → f.serial ≡ serial → row_of t (Some (following_words serial SPACE_PAGES)) ≡ following_map f
  unfolding following_map
  following_row f is = fill_by_all (λ page. entry.Follows f.serial page full_access) (row_of t (Some (following_words serial SPACE_PAGES))) SPACE_PAGES entry.Empty size each
    where
      size : length (row_of t (Some (following_words serial SPACE_PAGES))) ≡ SPACE_PAGES
      size = length-map (following_words serial SPACE_PAGES) (entry_of t) ∙ following_length serial SPACE_PAGES

      each : (page : ℕ) → page < SPACE_PAGES → slice_index_or (row_of t (Some (following_words serial SPACE_PAGES))) page entry.Empty ≡ entry.Follows f.serial page full_access
      each page l = get_or-map (entry_of t) (following_words serial SPACE_PAGES) page 0 entry.Empty (omega (arith, l, following_length serial SPACE_PAGES))
          ∙ ap (λ (o : Option PagedEntry). option_map_or (plain_entry t.names) o entry.Empty) (stands page l)
          ∙ ap (λ n. entry.Follows n page full_access) (sym is)

-- nothing is taken from a queue where nothing of these stands
kept_all : (these : Transfer → Bool) (queue : List Transfer) → list_any these queue ≡ false → (without these queue ≡ queue) × (filter these queue ≡ [])
kept_all these [] e = (refl, refl)
kept_all these (t ∷ queue) e = by (these t) refl e (kept_all these queue)
  where
    by : (b : Bool) → these t ≡ b → (b || list_any these queue) ≡ false → (list_any these queue ≡ false → (without these queue ≡ queue) × (filter these queue ≡ [])) → (without these (t ∷ queue) ≡ t ∷ queue) × (filter these (t ∷ queue) ≡ [])
    by true is h rest = absurd (cc h)
    by false is h rest = (
      ap (λ c. cond (not c) (t ∷ without these queue) (without these queue)) is ∙ ap (λ ys. t ∷ ys) (rest h).0,
      ap (λ c. cond c (t ∷ filter these queue) (filter these queue)) is ∙ (rest h).1,
    )

set_twice : {A : Type 0} (xs : List A) (i : ℕ) (y z : A) → slice_set (slice_set xs i y) i z ≡ slice_set xs i z
set_twice [] i y z = refl
set_twice (w ∷ xs) zero y z = refl
set_twice (w ∷ xs) (suc i) y z = ap (λ ys. w ∷ ys) (set_twice xs i y z)

-- a page that was made and then used, with other words, is made with these
module _ {S : Type 0} (means : StoreMeaning S) (home : ℕ) (old mid new : S) (p q : HomePlace) (sound : IsSound means old) (m : IsMade means home p old mid) (u : IsUsed means home mid new)
    (homes : means.homes new ≡ slice_set (means.homes mid) home q) (in_frame : is_here q ≡ true) where
  none_departs : list_any (departs home) (means.queue old) ≡ false
  none_departs = by (list_any (departs home) (means.queue old)) refl
    where
      by : (b : Bool) → list_any (departs home) (means.queue old) ≡ b → list_any (departs home) (means.queue old) ≡ false
      by false e = e
      by true e = let z : false ≡ true = sym (ap is_here m.was_free) ∙ sound.goes home e in absurd (cc z)

  pub made_again : IsMade means home q old new
  made_again = record {
    below = m.below;
    was_free = m.was_free;
    in_frame = in_frame;
    homes = homes ∙ ap (λ ps. slice_set ps home q) m.homes ∙ set_twice (means.homes old) home p q;
    frames = u.framed.frames ∙ m.frames;
    spare = ap (λ n. n + 1) u.framed.spare ∙ m.spare;
    queued = record {
      queue = u.rescued.queue ∙ ap (without (departs home)) m.queued.queue ∙ (kept_all (departs home) (means.queue old) none_departs).0;
      untold = u.rescued.untold ∙ ap (λ ts. noted_all (filter (departs home) ts) (means.untold mid)) m.queued.queue
          ∙ ap (λ ts. noted_all ts (means.untold mid)) (kept_all (departs home) (means.queue old) none_departs).1 ∙ m.queued.untold;
    };
    holds = u.holds ∙ m.holds;
    members = u.framed.members ∙ m.members;
    found = λ k ne. ap (λ (g : ℕ → Option Found). g k) u.framed.found ∙ m.found k ne;
    tenants = λ frame ne. ap (λ (g : ℕ → Option ℕ). g frame) u.framed.tenant ∙ m.tenants frame (λ e. ne (ap (λ (g : ℕ → Option ℕ). g frame) u.framed.tenant ∙ e));
    ages = record {
      counted = counts_on home (means.tenant mid) (means.tenant new) (means.age mid) (means.age new) (means.uses old) (means.uses mid) (means.uses new)
          m.ages.counted (used_once home (means.tenant new) (means.age mid) (means.age new) (means.uses mid) (means.uses new) u.ages).counted;
      others = λ frame ne. u.ages.others frame ne ∙ m.ages.others frame (λ e. ne (ap (λ (g : ℕ → Option ℕ). g frame) u.framed.tenant ∙ e));
    };
  }
