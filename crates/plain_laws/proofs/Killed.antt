-- What is left of pages where a fork is killed with all below it.
use Rattle.std.proofs.Common.{◌≡◌, ℕ, ◌≤◌, ◌||◌, Bool, true, false, cond, not, List, [], ◌∷◌, length, None, Some, refl, sym, ◌∙◌, ap, subst, arith, Ordering}
use Rattle.std.specs.Prelude.{◌==◌, is_some, nat_lt}
use Rattle.std.specs.Cmp.{IsTotalOrder}
use Rattle.std.specs.List.{sum_by}
use Rattle.std.specs.FinMap as map
use Rattle.std.proofs.lemmas.Bool.Decides.{nat_tests}
use Rattle.std.proofs.lemmas.List.{length-map}
use Rattle.std.proofs.lemmas.List.Sums.{sum_by-cons}
use Rattle.plain_model.specs.declared.call.ForkChange.TheVariants.{Kill}
use Rattle.machine_names.specs.declared.names.ForkName.{ForkName}
use Rattle.machine_names.specs.declared.names.PageName.{PageName}
use Rattle.machine_names.specs.Orders.{fork_cmp, page_cmp}
use Rattle.machine_names.proofs.OrderLemmas.{fork_cmp_apart, fork_cmp_total, page_cmp_apart, page_cmp_total}
use Rattle.plain_model.specs.declared.fork.Fork.{Fork}
use Rattle.plain_pages.specs.PlainPages.{PlainPages, Map, Maps}
use Rattle.plain_pages.specs.Room.{uses}
use Rattle.plain_pages.specs.WholePages.{AreWhole}
use Rattle.plain_pages.proofs.Counts.{values_split}
use Rattle.plain_pages.proofs.Kept.{AreKept, kept_whole, unnamed_gone}
use Rattle.plain_pages.proofs.Whole.{live_whole}
use Rattle.plain_model.specs.Inferiors.{is_in_branch, is_inferior}
use Rattle.plain_model.specs.ForkCalls.{ForkParts, fork_changed, killed, without_inferiors, without_maps}
use Rattle.plain_model.proofs.MapsGone.{get_left, gone_leaves, gone_uses, gone_words, left_uses, maps_left, stays}
use Rattle.fork_tree.proofs.Slots.{some_of}
use Rattle.plain_laws.specs.ForkLaws.{AreLeft}

-- what is left was there
pub left_was : {X : Type 0} (m : map.FinMap fork_cmp X) (goes : ForkName → Bool) (q : ForkName) (x : X) → map.get (map.retain_keys m (λ f. not (goes f))) q ≡ Some x → map.get m q ≡ Some x
left_was {X} m goes q x is = by (goes q) (sym (get_left m goes q) ∙ is)
  where
    by : (b : Bool) → cond (not b) (map.get m q) None ≡ Some x → map.get m q ≡ Some x
    by true h = absurd (cc h)
    by false h = h

-- and is not more
ones : {X : Type 0} (xs : List X) → sum_by (λ (x : X). 1) xs ≡ length xs
ones [] = refl
ones {X} (x ∷ xs) = omega (arith, sum_by-cons (λ (y : X). 1) x xs, ones xs)

fewer_keys : {K X : Type 0} {R : K → K → Ordering} → IsTotalOrder R → map.IsAntisymmetric R → (m : map.FinMap R X) (p : K → Bool) → map.len (map.retain_keys m p) ≤ map.len m
fewer_keys {K} {X} {R} o same m p = omega (arith, values_split R (λ (x : X). 1) o same m p, counted (map.retain_keys m p), counted m)
  where
    counted : (n : map.FinMap R X) → sum_by (λ (x : X). 1) (map.values n) ≡ map.len n
    counted n = ones (map.values n) ∙ length-map (map.entries n) (λ e. e.1) ∙ sym (map.len-entries n)

at_least : (j k : ℕ) → nat_lt 0 j ≡ true → j ≤ k → nat_lt 0 k ≡ true
at_least j k h le = grind (arith, nat_tests)

or_zero : (k : ℕ) → (k == 0) ≡ true → nat_lt 0 k ≡ false
or_zero k h = grind (arith, nat_tests)

module _ {K : Type 0} {file_cmp : K → K → Ordering} where
  -- fewer pages, and those that are named as they were, as they are by the same files
  pub record AreFewer (p q : PlainPages file_cmp) : Type 0 where
    pub whole : AreWhole q
    pub names : (n : PageName) → uses q n ≤ uses p n
    pub objects : (n : PageName) → map.get q.objects n ≡ cond (nat_lt 0 (uses q n)) (map.get p.objects n) None
    pub maps : (f : ForkName) (m : Map) → map.get q.maps f ≡ Some m → map.get p.maps f ≡ Some m
    pub files : q.files ≡ p.files
    pub fewer_pages : map.len q.objects ≤ map.len p.objects
    pub fewer_forks : map.len q.maps ≤ map.len p.maps

  gone_objects : (p : PlainPages file_cmp) (goes : ForkName → Bool) → (without_maps p goes).objects ≡ map.retain_keys p.objects (λ n. stays (uses p n) (uses (maps_left p goes) n))
  unfolding without_maps
  gone_objects p goes = refl

  -- without the maps of some forks
  gone_fewer : (p : PlainPages file_cmp) → AreWhole p → (goes : ForkName → Bool) → AreFewer p (without_maps p goes)
  gone_fewer p w goes = record {
    whole = kept_whole p left w kept (λ f m h. w.entries f m (were f m h)) keys (λ n named. at_least (uses left n) (uses p n) named (few n));
    names = few;
    objects = kept.objects;
    maps = were;
    files = kept.files;
    fewer_pages = subst (λ (m : map.FinMap page_cmp (List ℕ)). map.len m ≤ map.len p.objects) (sym (gone_objects p goes)) (fewer_keys page_cmp_total page_cmp_apart p.objects (λ n. stays (uses p n) (uses (maps_left p goes) n)));
    fewer_forks = subst (λ (m : Maps). map.len m ≤ map.len p.maps) (sym maps) (fewer_keys fork_cmp_total fork_cmp_apart p.maps (λ f. not (goes f)));
  }
    where
      left : PlainPages file_cmp
      left = without_maps p goes

      maps : left.maps ≡ map.retain_keys p.maps (λ f. not (goes f))
      maps = ap (λ (q : PlainPages file_cmp). q.maps) (gone_leaves p goes)

      few : (n : PageName) → uses left n ≤ uses p n
      few n = omega (arith, gone_uses p goes n, left_uses p goes n)

      were : (f : ForkName) (m : Map) → map.get left.maps f ≡ Some m → map.get p.maps f ≡ Some m
      were f m h = left_was p.maps goes f m (ap (λ (x : Maps). map.get x f) (sym maps) ∙ h)

      keys : (f : ForkName) → map.contains_key left.maps f ≡ true → map.contains_key p.maps f ≡ true
      keys f there = let m = some_of (map.get left.maps f) there in ap is_some (were f m.0 m.1)

      kept : AreKept p left
      kept = record {
        objects = λ n. gone_words p goes n ∙ by n (uses p n == 0) (nat_lt 0 (uses (maps_left p goes) n)) refl refl ∙ ap (λ k. cond (nat_lt 0 k) (map.get p.objects n) None) (sym (gone_uses p goes n));
        files = ap (λ (q : PlainPages file_cmp). q.files) (gone_leaves p goes);
        page_serials = ap (λ (q : PlainPages file_cmp). q.page_serials) (gone_leaves p goes);
        console_serial = ap (λ (q : PlainPages file_cmp). q.console_serial) (gone_leaves p goes);
        limit = ap (λ (q : PlainPages file_cmp). q.limit) (gone_leaves p goes);
      }
        where
          by : (n : PageName) (a b : Bool) → (uses p n == 0) ≡ a → nat_lt 0 (uses (maps_left p goes) n) ≡ b → cond (a || b) (map.get p.objects n) None ≡ cond (nat_lt 0 (uses (maps_left p goes) n)) (map.get p.objects n) None
          by n true true x y = ap (λ b. cond b (map.get p.objects n) None) (sym y)
          by n false true x y = ap (λ b. cond b (map.get p.objects n) None) (sym y)
          by n true false x y = unnamed_gone p w n (or_zero (uses p n) x) ∙ ap (λ b. cond b (map.get p.objects n) None) (sym y)
          by n false false x y = ap (λ b. cond b (map.get p.objects n) None) (sym y)

  -- without a fork's inferiors
  pub below_fewer : (f : ForkName) (v : ForkParts file_cmp) → AreWhole v.pages → AreFewer v.pages (without_inferiors v f).pages
  unfolding without_inferiors
  below_fewer f v w = gone_fewer v.pages w (is_inferior v.tree.forks f)

  -- and without the fork itself
  pub killed_fewer : (v : ForkParts file_cmp) (f : ForkName) → AreWhole v.pages → AreFewer v.pages (killed v f).pages
  unfolding killed
  killed_fewer v f w = gone_fewer v.pages w (is_in_branch v.tree.forks f)

  -- the forks that are left are as they were
  pub below_forks : (f : ForkName) (v : ForkParts file_cmp) (k : ForkName) (g : Fork) → map.get (without_inferiors v f).tree.forks k ≡ Some g → map.get v.tree.forks k ≡ Some g
  unfolding without_inferiors
  below_forks f v k g is = left_was v.tree.forks (is_inferior v.tree.forks f) k g is

  -- so it is where a fork is killed
  pub killed_left : (v : ForkParts file_cmp) (f : ForkName) → AreWhole v.pages → AreLeft v.pages (fork_changed (Kill f) v).pages
  unfolding fork_changed
  killed_left v f w = told (killed v f).pages (killed_fewer v f w)
    where
      told : (q : PlainPages file_cmp) → AreFewer v.pages q → AreLeft v.pages q
      told q a = record {
        whole = a.whole;
        objects = a.objects;
        maps = a.maps;
        fewer_pages = a.fewer_pages;
        fewer_forks = a.fewer_forks;
        live = omega (arith, live_whole v.pages w, live_whole q a.whole, a.fewer_pages, a.fewer_forks);
      }
