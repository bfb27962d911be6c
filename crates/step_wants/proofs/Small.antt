-- Names that are maps of the forks of one terminal, but for so many.
use Rattle.std.proofs.Common.{◌≡◌, ℕ, zero, suc, ◌+◌, ◌≤◌, List, [], ◌∷◌, ◌++◌, length, map, Bool, true, false, ◌||◌, Option, None, Some, refl, sym, ◌∙◌, ap, arith, length-append}
use Rattle.std.specs.Prelude.{◌==◌}
use Rattle.std.specs.List.{cons_option, list_any}
use Rattle.std.specs.declared.cmp.Ordering.{Ordering}
use Rattle.std.proofs.lemmas.Bool.Decides.{nat_tests}
use Rattle.machine_names.specs.declared.names.ForkName.{ForkName}
use Rattle.machine_names.specs.declared.names.PageName.{PageName}
use Rattle.machine_names.specs.declared.names.Slot.{Slot}
use Rattle.machine_names.specs.declared.names.Tty.{Tty}
use Rattle.plain_pages.specs.declared.map.MapEntry.{MapEntry}
use Rattle.plain_pages.specs.declared.map.MapEntry.TheVariants.{Empty, Follows, Names}
use Rattle.plain_pages.specs.Maps.{Entries, entry_at, followed, maps_from, maps_on_way, maps_within}
use Rattle.plain_pages.specs.PlainPages.{PlainPages}
use Rattle.plain_pages.specs.References.{in_map, page_at}
use Rattle.step_wants.specs.Names.{Housed, a_map, home_for, homes_for, is_named, names_on_way, page_named}
use Rattle.step_wants.proofs.Away.{named_more, or_first, or_later}
use Rattle.step_wants.proofs.Few.{page_few}

module _ (map_home : ForkName → Option ℕ) (page_home : PageName → Option ℕ) where
  -- each home of one list is one of another
  abbrev pub Within : List Housed → List Housed → Type 0
  Within xs ys = (h : ℕ) → is_named map_home page_home xs h ≡ true → is_named map_home page_home ys h ≡ true

  -- these forks are all of a terminal whose maps have homes
  abbrev pub AreAll : Tty → List ForkName → Type 0
  AreAll t own = (g : ForkName) (h : ℕ) → g.tty ≡ t → map_home g ≡ Some h → is_named map_home page_home (map a_map own) h ≡ true

  either_of : {A : Type 0} (a b : Bool) → (a || b) ≡ true → (a ≡ true → A) → (b ≡ true → A) → A
  either_of true b is x y = x refl
  either_of false b is x y = y is

  pub homes_few : (names : List Housed) → length (homes_for map_home page_home names) ≤ length names
  homes_few [] = omega arith
  homes_few (x ∷ xs) = by (home_for map_home page_home x) (homes_few xs)
    where
      by : (o : Option ℕ) → length (homes_for map_home page_home xs) ≤ length xs → length (cons_option o (homes_for map_home page_home xs)) ≤ suc (length xs)
      by None rest = omega arith
      by (Some h) rest = omega arith

  -- a home of a name is that of the first or of one behind
  first_or : {A : Type 0} (x : Housed) (xs : List Housed) (h : ℕ) → is_named map_home page_home (x ∷ xs) h ≡ true → (home_for map_home page_home x ≡ Some h → A) → (is_named map_home page_home xs h ≡ true → A) → A
  first_or {A = A} x xs h is here behind = by (home_for map_home page_home x) refl is
    where
      by : (o : Option ℕ) → home_for map_home page_home x ≡ o → list_any (λ k. k == h) (cons_option o (homes_for map_home page_home xs)) ≡ true → A
      by None at e = behind e
      by (Some n) at e = whether (n == h) refl e
        where
          whether : (b : Bool) → (n == h) ≡ b → (b || is_named map_home page_home xs h) ≡ true → A
          whether true same f = let is_it : n ≡ h = grind (arith, nat_tests, same) in here (at ∙ ap Some is_it)
          whether false other f = behind f

  module _ (t : Tty) (own : List ForkName) (owns : AreAll t own) where
    -- the homes of names are those of the terminal's maps, and so many others at most
    pub record IsSmall (n : ℕ) (names : List Housed) : Type 0 where
      pub others : List Housed
      pub few : length others ≤ n
      pub within : Within names (map a_map own ++ others)

    in_own : (others : List Housed) (h : ℕ) → is_named map_home page_home (map a_map own) h ≡ true → is_named map_home page_home (map a_map own ++ others) h ≡ true
    in_own others h is = named_more map_home page_home h (map a_map own) others ∙ or_first (is_named map_home page_home (map a_map own) h) (is_named map_home page_home others h) is

    in_others : (others : List Housed) (h : ℕ) → is_named map_home page_home others h ≡ true → is_named map_home page_home (map a_map own ++ others) h ≡ true
    in_others others h is = named_more map_home page_home h (map a_map own) others ∙ or_later (is_named map_home page_home (map a_map own) h) (is_named map_home page_home others h) is

    pub none_small : IsSmall 0 []
    none_small = record { others = []; few = omega arith; within = λ h is. absurd (cc is) }

    -- names that are counted as they are
    pub all_small : (names : List Housed) (n : ℕ) → length names ≤ n → IsSmall n names
    all_small names n few = record { others = names; few = few; within = λ h is. in_others names h is }

    pub more_small : (n m : ℕ) (names : List Housed) → n ≤ m → IsSmall n names → IsSmall m names
    more_small n m names le small = let few = small.few in record { others = small.others; few = omega (arith, few, le); within = small.within }

    pub both_small : (n m : ℕ) (xs ys : List Housed) → IsSmall n xs → IsSmall m ys → IsSmall (n + m) (xs ++ ys)
    both_small n m xs ys x y = record {
      others = x.others ++ y.others;
      few = (let a = x.few in let b = y.few in omega (arith, a, b, length-append x.others y.others));
      within = λ h is. either_of (is_named map_home page_home xs h) (is_named map_home page_home ys h) (sym (named_more map_home page_home h xs ys) ∙ is)
          (λ first. longer h (either_of (is_named map_home page_home (map a_map own) h) (is_named map_home page_home x.others h) (sym (named_more map_home page_home h (map a_map own) x.others) ∙ x.within h first)
          (λ e. or_first (is_named map_home page_home (map a_map own) h) (is_named map_home page_home (x.others ++ y.others) h) e)
          (λ e. or_later (is_named map_home page_home (map a_map own) h) (is_named map_home page_home (x.others ++ y.others) h) (named_more map_home page_home h x.others y.others ∙ or_first (is_named map_home page_home x.others h) (is_named map_home page_home y.others h) e))))
          (λ later. longer h (either_of (is_named map_home page_home (map a_map own) h) (is_named map_home page_home y.others h) (sym (named_more map_home page_home h (map a_map own) y.others) ∙ y.within h later)
          (λ e. or_first (is_named map_home page_home (map a_map own) h) (is_named map_home page_home (x.others ++ y.others) h) e)
          (λ e. or_later (is_named map_home page_home (map a_map own) h) (is_named map_home page_home (x.others ++ y.others) h) (named_more map_home page_home h x.others y.others ∙ or_later (is_named map_home page_home x.others h) (is_named map_home page_home y.others h) e))));
    }
      where
        longer : (h : ℕ) → (is_named map_home page_home (map a_map own) h || is_named map_home page_home (x.others ++ y.others) h) ≡ true → is_named map_home page_home (map a_map own ++ (x.others ++ y.others)) h ≡ true
        longer h is = named_more map_home page_home h (map a_map own) (x.others ++ y.others) ∙ is

    -- the map of a fork of the terminal is none of the others
    pub own_small : (f : ForkName) (n : ℕ) (names : List Housed) → f.tty ≡ t → IsSmall n names → IsSmall n (a_map f ∷ names)
    own_small f n names same small = record {
      others = small.others;
      few = small.few;
      within = λ h is. first_or (a_map f) names h is (λ e. in_own small.others h (owns f h same e)) (λ e. small.within h e);
    }

    -- the maps from a slot of the terminal on
    maps_small : (n : ℕ) (entries : Entries) (s : Slot) → s.fork.tty ≡ t → IsSmall 0 (map a_map (maps_within n entries s))
    unfolding maps_within
    maps_small zero entries s same = none_small
    maps_small (suc n) entries s same = by (entries s) (maps_small n entries)
      where
        by : (o : Option MapEntry) → ((r : Slot) → r.fork.tty ≡ t → IsSmall 0 (map a_map (maps_within n entries r))) → IsSmall 0 (map a_map (maps_from s o (maps_within n entries)))
        by None rest = none_small
        by (Some Empty) rest = own_small s.fork 0 [] same none_small
        by (Some (Names m a)) rest = own_small s.fork 0 [] same none_small
        by (Some (Follows serial page a)) rest =
            let next = followed s serial page in own_small s.fork 0 (map a_map (maps_within n entries next)) same (rest next same)

    -- none but maps of the terminal are on a way
    pub maps_own : (entries : Entries) (s : Slot) → s.fork.tty ≡ t → Within (map a_map (maps_on_way entries s)) (map a_map own)
    unfolding maps_on_way
    maps_own entries s same h is = by (maps_small 4 entries s same)
      where
        only : (others : List Housed) → length others ≤ 0 → is_named map_home page_home (map a_map own ++ others) h ≡ true → is_named map_home page_home (map a_map own) h ≡ true
        only [] none e = either_of (is_named map_home page_home (map a_map own) h) (is_named map_home page_home [] h) (sym (named_more map_home page_home h (map a_map own) []) ∙ e) (λ there. there) (λ no. absurd (cc no))
        only (x ∷ xs) none e = absurd (omega (arith, none))

        by : IsSmall 0 (map a_map (maps_within 4 entries s)) → is_named map_home page_home (map a_map own) h ≡ true
        by small = only small.others small.few (small.within h is)

    module _ {K : Type 0} {file_cmp : K → K → Ordering} where
      -- the way to a page of a fork of the terminal
      pub way_small : (p : PlainPages file_cmp) (s : Slot) → s.fork.tty ≡ t → IsSmall 1 (names_on_way p (in_map s))
      unfolding maps_on_way
      way_small p s same = both_small 0 1 (map a_map (maps_within 4 (entry_at p.maps) s)) (page_named (page_at p (in_map s))) (maps_small 4 (entry_at p.maps) s same) (all_small (page_named (page_at p (in_map s))) 1 (page_few (page_at p (in_map s))))
