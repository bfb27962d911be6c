-- How many pages and forks there are once a page is made.
use Rattle.std.proofs.Common.{◌≡◌, ℕ, ◌+◌, ◌-◌, Bool, true, false, cond, List, Option, None, Some, refl, sym, ◌∙◌, ap, subst, arith, Ordering}
use Rattle.std.specs.Prelude.{◌==◌, nat_lt, nat_le, is_some}
use Rattle.std.specs.Option.{option_map_or}
use Rattle.std.specs.Cmp.{IsTotalOrder}
use Rattle.std.specs.FinMap as map
use Rattle.std.proofs.lemmas.Bool.Decides.{nat_tests}
use Rattle.machine_names.specs.declared.names.Tty.{Tty}
use Rattle.machine_names.specs.declared.names.PageName.{PageName}
use Rattle.machine_names.specs.declared.names.Slot.{Slot}
use Rattle.machine_names.specs.declared.names.Access.{Access}
use Rattle.plain_pages.specs.declared.map.MapEntry.{MapEntry}
use Rattle.plain_pages.specs.declared.map.MapEntry.TheVariants.{Empty, Names, Follows}
use Rattle.plain_pages.specs.PlainPages.{PlainPages}
use Rattle.machine_names.specs.Orders.{page_cmp}
use Rattle.plain_pages.specs.Maps.{entry_at, full_access}
use Rattle.plain_pages.specs.Room.{same_page, page_in, uses, live, HasRoom}
use Rattle.plain_pages.specs.References.{Spot, in_map, in_file, blank, copy, make, next_page, new_page, drop_copied, page_at, words_at}
use Rattle.machine_names.specs.PageWords.{zero_words}
use Rattle.machine_names.specs.Bounds.{IsOwner}
use Rattle.page_contracts.specs.Pages.{is_sole}
use Rattle.plain_pages.specs.WholePages.{AreWhole}
use Rattle.machine_names.proofs.OrderLemmas.{page_cmp_total}
use Rattle.plain_pages.proofs.Counts.{weight, same_itself}
use Rattle.plain_pages.proofs.Chains.{len_set}
use Rattle.plain_pages.proofs.Whole.{tally, live_whole, unmade}
use Rattle.plain_pages.proofs.Makings.{lost, uses_new, CanMake, make_whole, entry_there, page_there, named_end, page_fits, at_zero}
use Rattle.plain_pages.proofs.Settles.{copy_maps}
use Rattle.std.specs.Ordering.{eq_by_cmp}

module _ {K : Type 0} {file_cmp : K → K → Ordering} (o : IsTotalOrder file_cmp) (p : PlainPages file_cmp) (w : AreWhole p) (owner : Tty) (own : IsOwner owner) where
  not_there : map.contains_key p.objects (next_page p owner) ≡ false
  not_there = w.named (next_page p owner) ∙ ap (nat_lt 0) (unmade p w owner)

  one_object : (words : List ℕ) → map.len (map.insert p.objects (next_page p owner) words) ≡ map.len p.objects + 1
  one_object words = map.len-insert page_cmp_total p.objects (next_page p owner) words ∙ ap (λ b. cond b (map.len p.objects) (map.len p.objects + 1)) not_there

  -- a zero page is one page more
  pub live_blank : (at : Spot K) → CanMake p (blank at) → live (make p owner (blank at)) ≡ live p + 1
  unfolding make
  live_blank (in_map s) h =
      let q = make_whole o p w owner own (blank (in_map s)) h in
      let maps = len_set p.maps s Empty (Names (next_page p owner) full_access) h in
      omega (arith, live_whole p w, live_whole (make p owner (blank (in_map s))) q, one_object zero_words, maps)
  live_blank (in_file f) h = let q = make_whole o p w owner own (blank (in_file f)) h in omega (arith, live_whole p w, live_whole (make p owner (blank (in_file f))) q, one_object zero_words)

  -- no making changes how many there may be
  limit_blank : (at : Spot K) → (make p owner (blank at)).limit ≡ p.limit
  unfolding make
  limit_blank (in_map s) = refl
  limit_blank (in_file f) = refl

  room_of : (q : PlainPages file_cmp) (n : ℕ) → live q ≡ n → q.limit ≡ p.limit → HasRoom q owner ≡ nat_le n p.limit
  unfolding HasRoom
  room_of q n h l = ap (λ k. nat_le k q.limit) h ∙ ap (λ k. nat_le n k) l

  -- there is room for a zero page where there is for one page more
  pub room_blank : (at : Spot K) → CanMake p (blank at) → HasRoom (make p owner (blank at)) owner ≡ nat_le (live p + 1) p.limit
  room_blank at h = room_of (make p owner (blank at)) (live p + 1) (live_blank at h) (limit_blank at)

  module _ (s : Slot) (a : Access) where
    abbrev q : PlainPages file_cmp
    q = new_page p owner (in_map s) a (words_at p (in_map s))

    -- where the old page keeps a name there is one page more, and where it does not there are as many
    abbrev Counted : Bool → Option PageName → Type 0
    Counted sole n = map.len (drop_copied q n).objects + cond sole 1 0 ≡ map.len p.objects + 1

    has_old : (old : PageName) → map.contains_key p.objects old ≡ true → map.contains_key q.objects old ≡ true
    has_old old there = ap is_some (map.get-insert page_cmp_total p.objects (next_page p owner) (words_at p (in_map s)) old) ∙ by (eq_by_cmp page_cmp old (next_page p owner)) (map.get p.objects old) there
      where
        by : (b : Bool) (x : Option (List ℕ)) → is_some x ≡ true → is_some (cond b (Some (words_at p (in_map s))) x) ≡ true
        by true x t = refl
        by false x t = t

    kept : (old : PageName) (b : Bool) → (uses q old == 0) ≡ b → map.contains_key p.objects old ≡ true → Counted b (Some old)
    kept old b is there = subst (λ (c : Bool). map.len (cond c (record q { objects = map.remove q.objects old }) q).objects + cond b 1 0 ≡ map.len p.objects + 1) (sym is) (by b)
      where
        by : (b : Bool) → map.len (cond b (record q { objects = map.remove q.objects old }) q).objects + cond b 1 0 ≡ map.len p.objects + 1
        by true =
            let less : map.len (map.remove q.objects old) ≡ map.len q.objects - 1 = map.len-remove page_cmp_total q.objects old ∙ ap (λ c. cond c (map.len q.objects - 1) (map.len q.objects)) (has_old old there) in
            omega (arith, one_object (words_at p (in_map s)), less)
        by false = omega (arith, one_object (words_at p (in_map s)))

    -- the new page is none of those that are there
    not_new : (old : PageName) → map.contains_key p.objects old ≡ true → tally old (next_page p owner) ≡ 0
    not_new old there = at_zero old (next_page p owner) (λ e. (let z : true ≡ false = sym there ∙ ap (map.contains_key p.objects) e ∙ not_there in cc z))

    lost_by : (e : MapEntry) (x : PageName) → entry_at p.maps s ≡ Some e → lost o p (in_map s) x ≡ weight (same_page x) page_in e
    lost_by e x h = ap (λ (d : Option MapEntry). option_map_or (weight (same_page x) page_in) d 0) h

    one_less : (k n : ℕ) → k + 1 ≡ n → (k == 0) ≡ (n == 1)
    one_less k n h = grind (arith, nat_tests)

    some_left : (k n : ℕ) → k ≡ n → nat_lt 0 n ≡ true → (k == 0) ≡ false
    some_left k n h m = grind (arith, nat_tests)

    uses_of : (e : MapEntry) → entry_at p.maps s ≡ Some e → (x : PageName) → uses q x + weight (same_page x) page_in e ≡ uses p x + tally x (next_page p owner)
    uses_of e h x = ap (λ k. uses q x + k) (sym (lost_by e x h)) ∙ uses_new o p w owner own (in_map s) (e, h) a (words_at p (in_map s)) (page_fits o p w (page_at p (in_map s))) x

    unnamed : (e : MapEntry) → entry_at p.maps s ≡ Some e → ((x : PageName) → weight (same_page x) page_in e ≡ 0) → (n : Option PageName) → page_at p (in_map s) ≡ n → Counted false n
    unnamed e h none None is = omega (arith, one_object (words_at p (in_map s)))
    unnamed e h none (Some old) is =
        let there = page_there o p w s old is in
        let left : uses q old ≡ uses p old = omega (arith, uses_of e h old, none old, not_new old there) in
        kept old false (some_left (uses q old) (uses p old) left (sym (w.named old) ∙ there)) there

    counted : (e : MapEntry) → entry_at p.maps s ≡ Some e → Counted (is_sole p (Some e)) (page_at p (in_map s))
    counted Empty h = unnamed Empty h (λ x. refl) (page_at p (in_map s)) refl
    counted (Follows serial page b) h = unnamed (Follows serial page b) h (λ x. refl) (page_at p (in_map s)) refl
    counted (Names n b) h =
        let there = entry_there o p w s n b h in
        let one : tally n n ≡ 1 = ap (λ c. cond c 1 0) (same_itself n) in
        let less : uses q n + 1 ≡ uses p n = omega (arith, uses_of (Names n b) h n, one, not_new n there) in
        subst (λ (m : Option PageName). Counted (uses p n == 1) m) (sym (named_end o p w s n b h)) (kept n (uses p n == 1) (one_less (uses q n) (uses p n) less) there)

    made_objects : map.len (make p owner (copy s a)).objects ≡ map.len (drop_copied q (page_at p (in_map s))).objects
    unfolding make
    made_objects = refl

    -- a copy is one page more, unless its slot has the only name of the old page
    pub live_copy : (e : MapEntry) → entry_at p.maps s ≡ Some e → live (make p owner (copy s a)) + cond (is_sole p (Some e)) 1 0 ≡ live p + 1
    live_copy e h =
        let c = counted e h in
        let l = live_whole (make p owner (copy s a)) (make_whole o p w owner own (copy s a) (e, h)) in
        let maps : map.len (make p owner (copy s a)).maps ≡ map.len p.maps = ap map.len (copy_maps o p owner s a) ∙ len_set p.maps s e (Names (next_page p owner) a) h in
        omega (arith, l, live_whole p w, maps, made_objects, c)

    limit_copy : (make p owner (copy s a)).limit ≡ p.limit
    unfolding make
    limit_copy = by (page_at p (in_map s))
      where
        dropped : (n : PageName) (b : Bool) → (cond b (record q { objects = map.remove q.objects n }) q).limit ≡ p.limit
        dropped n true = refl
        dropped n false = refl

        by : (n : Option PageName) → (drop_copied q n).limit ≡ p.limit
        by None = refl
        by (Some n) = dropped n (uses q n == 0)

    -- there is room for a copy where there is for one page more, or for none more where it is sole
    pub room_copy : (e : MapEntry) → entry_at p.maps s ≡ Some e → HasRoom (make p owner (copy s a)) owner ≡ nat_le (live p + cond (is_sole p (Some e)) 0 1) p.limit
    room_copy e h = room_of (make p owner (copy s a)) (live p + cond (is_sole p (Some e)) 0 1) (more (is_sole p (Some e)) (live_copy e h)) limit_copy
      where
        more : (b : Bool) → live (make p owner (copy s a)) + cond b 1 0 ≡ live p + 1 → live (make p owner (copy s a)) ≡ live p + cond b 0 1
        more true k = omega (arith, k)
        more false k = omega (arith, k)
