-- What the clauses of stores say of one in memory.
use Rattle.std.specs.Prelude.{◌≡◌, ℕ, ◌+◌, ◌-◌, ◌^◌, ◌≤◌, List, [], ◌∷◌, count_by, length, Bool, true, false, if◌then◌else◌, Option, None, Some, is_some, slice_set}
use Rattle.std.specs.Option.{option_map_or}
use Rattle.std.proofs.Common.{refl, sym, ◌∙◌, ap, subst, arith}
use Rattle.std.proofs.Math.ListN.{get_or-map}
use Rattle.std.proofs.Math.Nat.{le_of_sub-eq-zero, not-suc-le-zero}
use Rattle.std.proofs.lemmas.Bool.{true≢false}
use Rattle.std.proofs.lemmas.List.{length-map, map-set}
use Rattle.outside.specs.Drums.{IsPage}
use Rattle.page_homes.specs.declared.homes.TheConstants.{MOST_HOMES}
use Rattle.page_contracts.specs.declared.answers.Found.{Found}
use Rattle.page_contracts.specs.Stores.{StoreMeaning, IsSound, HomePlace, free, here, place, is_arrival, is_free, is_taken, is_here, free_homes}
use Rattle.page_contracts.proofs.Sums.{count_cons, one_if}
use Rattle.flat_pages.specs.declared.flat_store.FlatStore.{FlatStore}
use Rattle.flat_pages.specs.StoredLists.{pages_of}
use Rattle.flat_pages.specs.StoredPages.{StoredPage, free_page, stored_at, place_of, places_of, found_at}

pub place_at : (pages : List StoredPage) (h : ℕ) → place (places_of pages) h ≡ place_of (stored_at pages h)
place_at pages h = get_or-map place_of pages h free_page

pub places_set : (pages : List StoredPage) (h : ℕ) (p : StoredPage) → places_of (slice_set pages h p) ≡ slice_set (places_of pages) h (place_of p)
places_set pages h p = map-set place_of pages h p

pub places_length : (pages : List StoredPage) → length (places_of pages) ≡ length pages
places_length pages = length-map pages place_of

-- a home is taken where its page is
pub taken_place : (p : StoredPage) → is_taken (place_of p) ≡ p.taken
taken_place p = by p.taken
  where
    by : (b : Bool) → is_taken (if b then here p.words else free) ≡ b
    by true = refl
    by false = refl

pub here_place : (p : StoredPage) → is_here (place_of p) ≡ p.taken
here_place p = by p.taken
  where
    by : (b : Bool) → is_here (if b then here p.words else free) ≡ b
    by true = refl
    by false = refl

pub taken_is : (pages : List StoredPage) (h : ℕ) → is_taken (place (places_of pages) h) ≡ (stored_at pages h).taken
taken_is pages h = ap is_taken (place_at pages h) ∙ taken_place (stored_at pages h)

pub here_is : (pages : List StoredPage) (h : ℕ) → is_here (place (places_of pages) h) ≡ (stored_at pages h).taken
here_is pages h = ap is_here (place_at pages h) ∙ here_place (stored_at pages h)

-- nothing is away
pub core_is : (pages : List StoredPage) (h : ℕ) → is_taken (place (places_of pages) h) ≡ is_here (place (places_of pages) h)
core_is pages h = taken_is pages h ∙ sym (here_is pages h)

pub finds_is : (pages : List StoredPage) (h : ℕ) → is_some (found_at (places_of pages) h) ≡ is_here (place (places_of pages) h)
finds_is pages h = by (is_taken (place (places_of pages) h)) ∙ core_is pages h
  where
    by : (b : Bool) → is_some {T = Found} (if b then Some (record { 0 = h }) else None) ≡ b
    by true = refl
    by false = refl

few_places : (pages : List StoredPage) → length pages ≤ MOST_HOMES → length (places_of pages) ≤ MOST_HOMES
few_places pages few = subst (λ (n : ℕ). n ≤ MOST_HOMES) (sym (places_length pages)) few

words_in : HomePlace → List ℕ
words_in (here words) = words
words_in p = []

-- the words of a page that is in memory
abbrev pub HasWords : List ℕ → Bool → List ℕ → Type 0
HasWords stored taken words = (if taken then here stored else free) ≡ here words → stored ≡ words

has_words : (stored : List ℕ) (taken : Bool) (words : List ℕ) → HasWords stored taken words
unfolding words_in
has_words stored true words e = ap words_in e
has_words stored false words e = absurd (true≢false (sym (ap is_taken e)))

pub words_here : (pages : List StoredPage) (h : ℕ) (words : List ℕ) → place (places_of pages) h ≡ here words → (stored_at pages h).words ≡ words
words_here pages h words e = has_words (stored_at pages h).words (stored_at pages h).taken words (sym (place_at pages h) ∙ e)

-- a page is found at its home
found_there : (b : Bool) (h : ℕ) (found : Found) → ◌≡◌ {A = Option Found} (if b then Some (record { 0 = h }) else None) (Some found) → h ≡ found.0
found_there true h found e = ap (λ (o : Option Found). option_map_or (λ (f : Found). f.0) o 0) e
found_there false h found e = absurd (true≢false (sym (ap is_some e)))

apart_is : (pages : List StoredPage) (h k : ℕ) (found : Found) → found_at (places_of pages) h ≡ Some found → found_at (places_of pages) k ≡ Some found → h ≡ k
apart_is pages h k found e f = found_there (is_taken (place (places_of pages) h)) h found e ∙ sym (found_there (is_taken (place (places_of pages) k)) k found f)

-- each home is free, or its page is in memory
here_or_free : (pages : List StoredPage) → free_homes (places_of pages) + count_by is_here (places_of pages) ≡ length (places_of pages)
here_or_free [] = refl
here_or_free (p ∷ ps) = (let own = one p.taken in let rest = here_or_free ps in omega (arith, own, rest, count_cons is_free (place_of p) (places_of ps), count_cons is_here (place_of p) (places_of ps)))
  where
    one : (b : Bool) → one_if (is_free (if b then here p.words else free)) + one_if (is_here (if b then here p.words else free)) ≡ 1
    one true = refl
    one false = refl

none_counted : 0 ≤ 1
none_counted = le_of_sub-eq-zero refl

-- nothing is away, nothing moves, nothing is held, nobody's pages are too many, and nothing has an age
abbrev pub flat_meaning : StoreMeaning FlatStore
flat_meaning = record {
  homes = λ s. places_of (pages_of s.pages);
  frames = λ s. length (places_of (pages_of s.pages));
  spare = λ s. free_homes (places_of (pages_of s.pages));
  queue = λ s. [];
  untold = λ s. [];
  holds = λ s holder. [];
  tenant = λ s frame. None;
  victim = λ s. None;
  age = λ s frame. 0;
  uses = λ s. 0;
  found = λ s. found_at (places_of (pages_of s.pages));
  members = λ s. 2 ^ 32 - 1;
  flat = true;
}

-- what holds of each store
pub flat_sound : (s : FlatStore) → IsSound flat_meaning s
flat_sound s = record {
  few = few_places (pages_of s.pages) s.stored.few;
  pages = λ home words is. subst IsPage (words_here (pages_of s.pages) home words is) (s.stored.words home);
  finds = finds_is (pages_of s.pages);
  apart = apart_is (pages_of s.pages);
  comes = λ home some. absurd (true≢false (sym some));
  goes = λ home some. absurd (true≢false (sym some));
  once = λ home. none_counted;
  held = λ holder home is. absurd (not-suc-le-zero is.1);
  unmoved = λ holder home is. absurd (not-suc-le-zero is.1);
  shared = (let none : count_by is_arrival [] ≡ 0 = refl in omega (arith, here_or_free (pages_of s.pages), none));
  seated = λ flat home is. absurd (true≢false flat);
  given = λ frame home is. absurd (true≢false (sym (ap is_some is)));
  single = λ frame other home is it. absurd (true≢false (sym (ap is_some is)));
  members = λ flat. absurd (true≢false flat);
  few_held = λ holder. omega arith;
  none_held = λ holder past apart. refl;
  held_once = λ holder home. none_counted;
  numbered = omega arith;
  aged = λ frame some. absurd (true≢false (sym some));
  next = λ frame home leaves. true≢false (sym (ap is_some leaves.there));
  core = λ flat home. core_is (pages_of s.pages) home;
  still = λ flat. refl;
  frames = λ flat. refl;
}
