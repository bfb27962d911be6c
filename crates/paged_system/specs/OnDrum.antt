-- Of the pages that live those in frames are no more than frames, and each other stands on the drum, at its home.
use Rattle.std.proofs.Common.{◌≡◌, ◌⊎◌, inl, inr, ℕ, zero, suc, ◌+◌, ◌<◌, ◌≤◌, ◌==◌, List, [], ◌∷◌, length, Bool, true, false, cond, ◌||◌, Option, None, Some, is_some, refl, sym, ◌∙◌, ap, subst, arith, Contains}
use Rattle.std.specs.Prelude.{count_by}
use Rattle.std.specs.FinMap as fin
use Rattle.std.specs.List.{find, list_any}
use Rattle.std.specs.Option.{option_map_or, unwrap_or}
use Rattle.std.specs.Ordering.{eq_by_cmp}
use Rattle.std.proofs.lemmas.Bool.{cases_lt}
use Rattle.std.proofs.lemmas.Bool.Decides.{eqb_tells}
use Rattle.std.proofs.lemmas.List.{get_or_past}
use Rattle.machine_names.specs.Orders.{page_cmp}
use Rattle.machine_names.specs.PageWords.{zero_words}
use Rattle.machine_names.specs.declared.names.PageName.{PageName}
use Rattle.machine_names.proofs.Keys.{same_key}
use Rattle.machine_names.proofs.OrderLemmas.{page_cmp_apart, page_cmp_total}
use Rattle.outside.specs.Drums.{page_at}
use Rattle.plain_pages.specs.References.{words_of}
use Rattle.page_contracts.specs.DrumWords.{DrumWords}
use Rattle.page_contracts.specs.Pages.{Agrees, AreHoused, AreThere, Housed, a_map, a_page}
use Rattle.page_contracts.specs.Stores.{HomePlace, away, content, free, here, is_here, is_taken, over_drum, place}
use Rattle.page_contracts.proofs.Sums.{count_cons, one_if}
use Rattle.monitor_core.specs.Systems.{state_of}
use Rattle.page_waits.specs.Placed.{AreOnDrum}
use Rattle.paged_system.specs.declared.paged.Paged.{Paged}

-- ---- the names of the pages that are in frames

-- a name before others, where there is one and it is wanted
abbrev pub with_name : Bool → Option PageName → List PageName → List PageName
with_name true (Some n) ns = n ∷ ns
with_name true None ns = ns
with_name false o ns = ns

-- of homes, from this number on, the names of those whose pages are in frames
abbrev pub names_here : (ℕ → Option PageName) → ℕ → List HomePlace → List PageName
names_here name home [] = []
names_here name home (p ∷ ps) = with_name (is_here p) (name home) (names_here name (suc home) ps)

few_with : (b : Bool) (o : Option PageName) (ns : List PageName) (most : ℕ) → length ns ≤ most → length (with_name b o ns) ≤ one_if b + most
few_with true (Some n) ns most few = (let own : one_if true ≡ 1 = refl in omega (arith, few, own))
few_with true None ns most few = (let own : one_if true ≡ 1 = refl in omega (arith, few, own))
few_with false o ns most few = (let own : one_if false ≡ 0 = refl in omega (arith, few, own))

-- they are no more than pages in frames
pub few_here : (name : ℕ → Option PageName) (home : ℕ) (ps : List HomePlace) → length (names_here name home ps) ≤ count_by is_here ps
few_here name home [] = omega arith
few_here name home (p ∷ ps) =
    let rest = few_here name (suc home) ps in
    let all = few_with (is_here p) (name home) (names_here name (suc home) ps) (count_by is_here ps) rest in
    omega (arith, all, count_cons is_here p ps)

behind : (m n : PageName) (ns : List PageName) → Contains ns n → Contains (m ∷ ns) n
behind m n ns at = (suc at.0, (let below = at.1 in omega (arith, below)), at.2)

with_rest : (b : Bool) (o : Option PageName) (n : PageName) (ns : List PageName) → Contains ns n → Contains (with_name b o ns) n
with_rest true (Some m) n ns at = behind m n ns at
with_rest true None n ns at = at
with_rest false o n ns at = at

with_first : (b : Bool) (o : Option PageName) (n : PageName) (ns : List PageName) → b ≡ true → o ≡ Some n → Contains (with_name b o ns) n
with_first b o n ns wanted is = subst (λ (w : Bool × Option PageName). Contains (with_name w.0 w.1 ns) n) (λ i. (sym wanted i, sym is i)) (zero, omega arith, refl)

-- and the name of each page in a frame is among them
pub found_here : (name : ℕ → Option PageName) (n : PageName) (ps : List HomePlace) (home k : ℕ) → k < length ps → is_here (place ps k) ≡ true → name (home + k) ≡ Some n → Contains (names_here name home ps) n
found_here name n [] home k below at is = absurd (omega (arith, below))
found_here name n (p ∷ ps) home zero below at is =
    let same : home ≡ home + 0 = omega arith in with_first (is_here p) (name home) n (names_here name (suc home) ps) at (ap name same ∙ is)
found_here name n (p ∷ ps) home (suc k) below at is =
    let same : suc home + k ≡ home + suc k = omega arith in
    let rest = found_here name n ps (suc home) k (omega (arith, below)) at (ap name same ∙ is) in
    with_rest (is_here p) (name home) n (names_here name (suc home) ps) rest

-- ---- the name of the page at a home

module _ (page_home : PageName → Option ℕ) where
  -- whether a page has this home
  abbrev pub has_home : ℕ → PageName → Bool
  has_home home n = option_map_or (λ h. h == home) (page_home n) false

  home_is : (home : ℕ) (n : PageName) (o : Option ℕ) → page_home n ≡ o → option_map_or (λ h. h == home) o false ≡ true → page_home n ≡ Some home
  home_is home n None is at = absurd (cc at)
  home_is home n (Some h) is at = elim (eqb_tells h home) [ inl t ↦ is ∙ ap Some t.1 | inr t ↦ absurd (let z : true ≡ false = sym at ∙ t.0 in cc z) ]

  has_it : (home : ℕ) (n : PageName) → page_home n ≡ Some home → has_home home n ≡ true
  has_it home n is = ap (λ (o : Option ℕ). option_map_or (λ h. h == home) o false) is ∙ elim (eqb_tells home home) [ inl t ↦ t.0 | inr t ↦ absurd (t.1 refl) ]

  module _ (home : ℕ) (n : PageName) (own : page_home n ≡ Some home) (once : (m : PageName) → page_home m ≡ Some home → m ≡ n) where
    name_found : (names : List PageName) → list_any (eq_by_cmp page_cmp n) names ≡ true → find (has_home home) names ≡ Some n
    name_found [] there = absurd (cc there)
    name_found (m ∷ ms) there = by (has_home home m) refl (eq_by_cmp page_cmp n m) refl (name_found ms)
      where
        by : (b : Bool) → has_home home m ≡ b → (c : Bool) → eq_by_cmp page_cmp n m ≡ c → (list_any (eq_by_cmp page_cmp n) ms ≡ true → find (has_home home) ms ≡ Some n) → find (has_home home) (m ∷ ms) ≡ Some n
        by true at c tied rest = ap (λ (b : Bool). cond b (Some m) (find (has_home home) ms)) at ∙ ap Some (once m (home_is home m (page_home m) refl at))
        by false at true tied rest = absurd (let z : true ≡ false = sym (has_it home n own) ∙ ap (has_home home) (same_key page_cmp_total page_cmp_apart n m tied) ∙ at in cc z)
        by false at false tied rest = ap (λ (b : Bool). cond b (Some m) (find (has_home home) ms)) at ∙ rest (sym (ap (λ (b : Bool). b || list_any (eq_by_cmp page_cmp n) ms) tied) ∙ there)

-- ---- pages over a drum

pub taken_below : (ps : List HomePlace) (home : ℕ) → is_taken (place ps home) ≡ true → home < length ps
taken_below ps home taken = elim (cases_lt home (length ps)) [
  | inl below ↦ below
  | inr past ↦ absurd (let z : false ≡ true = sym (ap is_taken (get_or_past ps home free past)) ∙ taken in cc z)
]

module _ {P : Type 0} {b : _} (s : Paged P b) (d : DrumWords) (housed : AreHoused b.means s.system.pages) (agrees : Agrees b.means s.system.pages (b.means.plain s.system.pages d)) (there : AreThere b.means s.system.pages d) where
  abbrev places : List HomePlace
  places = b.means.store.homes s.system.pages

  abbrev page_home : PageName → Option ℕ
  page_home = b.means.page_home s.system.pages

  abbrev Lives : PageName → Type 0
  Lives n = fin.contains_key (state_of s.system d).pages.objects n ≡ true

  -- the home of a page, which has one where it lives
  abbrev home : PageName → ℕ
  home n = unwrap_or (page_home n) 0

  some_home : (o : Option ℕ) → is_some o ≡ true → o ≡ Some (unwrap_or o 0)
  some_home None is = absurd (cc is)
  some_home (Some h) is = refl

  at_home : (n : PageName) → Lives n → page_home n ≡ Some (home n)
  at_home n lives = some_home (page_home n) (agrees.housed n ∙ lives)

  once : (n m : PageName) (h : ℕ) → page_home n ≡ Some h → page_home m ≡ Some h → n ≡ m
  once n m h is other = page_is (housed.apart (a_page n) (a_page m) h is other)
    where
      page_of : Housed → PageName
      page_of (a_page k) = k
      page_of (a_map f) = n

      page_is : a_page n ≡ a_page m → n ≡ m
      page_is e = ap page_of e

  below : (n : PageName) → Lives n → home n < (state_of s.system d).pages.limit
  below n lives =
      let low = taken_below places (home n) (housed.taken (a_page n) (home n) (at_home n lives)) in
      let limit : b.means.most s.system.pages ≡ (state_of s.system d).pages.limit = agrees.bound in
      omega (arith, low, housed.homes, limit)

  -- the pages that are in frames
  abbrev elsewhere : List PageName
  elsewhere = names_here (λ h. find (has_home page_home h) (fin.keys (state_of s.system d).pages.objects)) 0 places

  in_frame : (n : PageName) → Lives n → is_here (place places (home n)) ≡ true → Contains elsewhere n
  in_frame n lives at =
      let keys = fin.keys (state_of s.system d).pages.objects in
      let own = at_home n lives in
      let first : home n ≡ 0 + home n = omega arith in
      found_here (λ h. find (has_home page_home h) keys) n places 0 (home n) (taken_below places (home n) (housed.taken (a_page n) (home n) own)) at
      (ap (λ h. find (has_home page_home h) keys) (sym first)
      ∙ name_found page_home (home n) n own (λ m is. once m n (home n) is own) keys (sym (fin.contains_key-keys (state_of s.system d).pages.objects n) ∙ lives))

  words_there : (n : PageName) → Lives n → fin.get (state_of s.system d).pages.objects n ≡ over_drum (place places (home n)) (page_at d (home n))
  unfolding content
  words_there n lives = there n (home n) (at_home n lives)

  stands : (n : PageName) → Lives n → Contains elsewhere n ⊎ (words_of (state_of s.system d).pages n ≡ page_at d (home n))
  stands n lives = by (place places (home n)) refl
    where
      by : (p : HomePlace) → place places (home n) ≡ p → Contains elsewhere n ⊎ (words_of (state_of s.system d).pages n ≡ page_at d (home n))
      by free at = absurd (let z : false ≡ true = sym (ap is_taken at) ∙ housed.taken (a_page n) (home n) (at_home n lives) in cc z)
      by away at = inr (ap (λ (o : Option (List ℕ)). unwrap_or o zero_words) (words_there n lives ∙ ap (λ p. over_drum p (page_at d (home n))) at))
      by (here ws) at = inl (in_frame n lives (ap is_here at))

  -- ALL PAGES BUT AS MANY AS THERE ARE FRAMES ARE ON THE DRUM
  pub on_drum : AreOnDrum (b.means.store.frames s.system.pages) (state_of s.system d) d
  on_drum = record {
    home = home;
    below = below;
    apart = λ n m lives other same. once n m (home n) (at_home n lives) (at_home m other ∙ ap Some (sym same));
    elsewhere = elsewhere;
    few = (let few = few_here (λ h. find (has_home page_home h) (fin.keys (state_of s.system d).pages.objects)) 0 places in omega (arith, few, housed.sound.shared));
    there = stands;
  }
