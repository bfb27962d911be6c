-- What a slab's changes make of the shares.
use Rattle.std.proofs.Common.{◌≡◌, ◌≢◌, ℕ, ◌+◌, ◌-◌, ◌^◌, ◌<◌, ◌≤◌, ◌==◌, ◌⊎◌, inl, inr, List, [], ◌∷◌, Option, None, Some, is_some, Bool, true, false, cond, count_by, refl, sym, ◌∙◌, ap, subst, arith, get_or}
use Rattle.std.specs.Ordering.{nat_cmp}
use Rattle.std.specs.FinMap as map
use Rattle.std.proofs.lemmas.Bool.{cases_eq}
use Rattle.std.proofs.lemmas.Cmp.{nat_cmp_total}
use Rattle.std.proofs.lemmas.List.Sums.{sum_by-cons}
use Rattle.slab.specs.Slab.{Slab, get, slab_len, Updates, with_value}
use Rattle.slab.proofs.SlabLemmas.{Updates-with_value}
use Rattle.number_map.specs.Numbers.{held}
use Rattle.number_map.proofs.Keys.{get_put, get_put_other, get_gone, get_gone_other, same}
use Rattle.number_map.proofs.Places.{get_held, held_below, held_none}
use Rattle.std.specs.Borrow.{Bor}
use Rattle.std.specs.Option.{option_copied}
use Rattle.share_table.specs.declared.shares.SharedPage.{SharedPage}
use Rattle.share_table.specs.declared.shares.TheConstants.{LAST_COUNT}
use Rattle.share_table.specs.Shares.{Shares, page_at, with_page, without, joined_to, left_by, joined, left, one_more, one_fewer, AreCounted, IsRoomy, shares_of}

gone_fewer : (b : Bool) (n : ℕ) → cond b (n - 1) n ≤ n
gone_fewer true n = omega arith
gone_fewer false n = omega arith

module _ {V : Type 0} where
  -- a value is under a key after a write of it, and none after a removal
  held_updated : (old new : Slab V) (k : ℕ) (v : V) → Updates old new k (Some v) → held 0 new.slots ≡ map.insert (held 0 old.slots) k v
  held_updated old new k v is = same (held 0 new.slots) (map.insert (held 0 old.slots) k v) (λ q. get_held new.slots q ∙ there q (cases_eq q k))
    where
      there : (q : ℕ) → (q ≡ k) ⊎ (q ≢ k) → get_or new.slots q None ≡ map.get (map.insert (held 0 old.slots) k v) q
      there q (inl e) = ap (get new) e ∙ is.changed ∙ sym (get_put (held 0 old.slots) k q v e)
      there q (inr ne) = is.others q ne ∙ sym (get_put_other (held 0 old.slots) k q v ne ∙ get_held old.slots q)

  held_removed : (old new : Slab V) (k : ℕ) → Updates old new k None → held 0 new.slots ≡ map.remove (held 0 old.slots) k
  held_removed old new k is = same (held 0 new.slots) (map.remove (held 0 old.slots) k) (λ q. get_held new.slots q ∙ there q (cases_eq q k))
    where
      there : (q : ℕ) → (q ≡ k) ⊎ (q ≢ k) → get_or new.slots q None ≡ map.get (map.remove (held 0 old.slots) k) q
      there q (inl e) = ap (get new) e ∙ is.changed ∙ sym (get_gone (held 0 old.slots) k q e)
      there q (inr ne) = is.others q ne ∙ sym (get_gone_other (held 0 old.slots) k q ne ∙ get_held old.slots q)

  -- one more value, and no more and no fewer where there was one
  pub len_put_new : (m : map.FinMap nat_cmp V) (k : ℕ) (v : V) → map.get m k ≡ None → map.len (map.insert m k v) ≡ map.len m + 1
  len_put_new m k v none = map.len-insert nat_cmp_total m k v ∙ ap (λ o. cond (is_some o) (map.len m) (map.len m + 1)) none

  pub len_put_old : (m : map.FinMap nat_cmp V) (k : ℕ) (v w : V) → map.get m k ≡ Some w → map.len (map.insert m k v) ≡ map.len m
  len_put_old m k v w there = map.len-insert nat_cmp_total m k v ∙ ap (λ o. cond (is_some o) (map.len m) (map.len m + 1)) there

  pub len_gone : (m : map.FinMap nat_cmp V) (k : ℕ) → map.len (map.remove m k) ≤ map.len m
  len_gone m k = omega (arith, map.len-remove nat_cmp_total m k, gone_fewer (map.contains_key m k) (map.len m))

  -- as many values are held as there are slots with a value
  len_held_from : (n : ℕ) (slots : List (Option V)) → map.len (held n slots) ≡ count_by is_some slots
  unfolding held
  len_held_from n [] = map.len-empty nat_cmp V
  len_held_from n (None ∷ slots) = omega (arith, len_held_from (n + 1) slots, sum_by-cons (λ o. cond (is_some o) 1 0) None slots)
  len_held_from n (Some v ∷ slots) =
      omega (arith, len_put_new (held (n + 1) slots) n v (held_below (n + 1) slots n (omega arith)), len_held_from (n + 1) slots, sum_by-cons (λ o. cond (is_some o) 1 0) (Some v) slots)

  pub len_held : (s : Slab V) → map.len (held 0 s.slots) ≡ slab_len s
  len_held s = len_held_from 0 s.slots

-- a page at a number, put there or there before
counted_put : (t : Shares) (k : ℕ) (v : SharedPage) → AreCounted t → 1 ≤ v.count → k < t.room → map.len (map.insert t.pages k v) ≤ t.room → AreCounted (with_page t k v)
counted_put t k v is named below few = record {
  named = λ s p at. (one s p at (cases_eq s k)).0;
  below = λ s p at. (one s p at (cases_eq s k)).1;
  few = few;
}
  where
    one : (s : ℕ) (p : SharedPage) → map.get (map.insert t.pages k v) s ≡ Some p → (s ≡ k) ⊎ (s ≢ k) → (1 ≤ p.count) × (s < t.room)
    one s p at (inl e) =
        let it : Some v ≡ Some p = sym (get_put t.pages k s v e) ∙ at in
        let is_it : v ≡ p = cc in
        (subst (λ (r : SharedPage). 1 ≤ r.count) is_it named, omega arith)
    one s p at (inr ne) =
        let before : map.get t.pages s ≡ Some p = sym (get_put_other t.pages k s v ne) ∙ at in
        (is.named s p before, is.below s p before)

counted_gone : (t : Shares) (k : ℕ) → AreCounted t → AreCounted (without t k)
counted_gone t k is = record {
  named = λ s p at. is.named s p (before s p at (cases_eq s k));
  below = λ s p at. is.below s p (before s p at (cases_eq s k));
  few = omega (arith, len_gone t.pages k, is.few);
}
  where
    before : (s : ℕ) (p : SharedPage) → map.get (map.remove t.pages k) s ≡ Some p → (s ≡ k) ⊎ (s ≢ k) → map.get t.pages s ≡ Some p
    before s p at (inl e) = let no : None ≡ Some p = sym (get_gone t.pages k s e) ∙ at in absurd cc
    before s p at (inr ne) = sym (get_gone_other t.pages k s ne) ∙ at

-- a slab stands for shares, and these are they
pub record Becomes (room : ℕ) (s : Slab SharedPage) (t : Shares) : Type 0 where
  pub roomy : IsRoomy room s
  pub view : shares_of room s ≡ t

-- the page of a share is the value under its number
pub page_is : (room : ℕ) (s : Slab SharedPage) (t : Shares) (k : ℕ) → shares_of room s ≡ t → page_at t k ≡ get s k
page_is room s t k view = ap (λ (u : Shares). page_at u k) (sym view) ∙ get_held s.slots k

put_at : (room : ℕ) (old new : Slab SharedPage) (k : ℕ) (v : SharedPage) → IsRoomy room old → Updates old new k (Some v) → new.capacity ≡ old.capacity
    → 1 ≤ v.count → k < room → map.len (map.insert (held 0 old.slots) k v) ≤ room → Becomes room new (with_page (shares_of room old) k v)
put_at room old new k v is updates capacity named below few =
    let view : shares_of room new ≡ with_page (shares_of room old) k v = ap (λ (m : map.FinMap nat_cmp SharedPage). record { room = room; pages = m }) (held_updated old new k v updates) in
    record {
      roomy = record {
        small = is.small;
        capacity = capacity ∙ is.capacity;
        counted = subst AreCounted (sym view) (counted_put (shares_of room old) k v is.counted named below few);
      };
      view = view;
    }

-- a new share
pub shared : (room : ℕ) (old new : Slab SharedPage) (t : Shares) (k : ℕ) (v : SharedPage) → IsRoomy room old → shares_of room old ≡ t
    → Updates old new k (Some v) → get old k ≡ None → k < new.capacity → new.capacity ≡ old.capacity → 1 ≤ v.count → map.len t.pages < t.room
    → Becomes room new (with_page t k v)
shared room old new t k v is view updates none below capacity named space =
    let less : map.len (held 0 old.slots) < room = subst (λ (u : Shares). map.len u.pages < u.room) (sym view) space in
    let more : map.len (map.insert (held 0 old.slots) k v) ≡ map.len (held 0 old.slots) + 1 = len_put_new (held 0 old.slots) k v (get_held old.slots k ∙ none) in
    let whole = is.capacity in
    subst (λ (u : Shares). Becomes room new (with_page u k v)) view (put_at room old new k v is updates capacity named (omega arith) (omega arith))

-- the page of a share is written again
pub written : (room : ℕ) (old new : Slab SharedPage) (t : Shares) (k : ℕ) (p v : SharedPage) → IsRoomy room old → shares_of room old ≡ t
    → Updates old new k (Some v) → new.capacity ≡ old.capacity → page_at t k ≡ Some p → 1 ≤ v.count
    → Becomes room new (with_page t k v)
written room old new t k p v is view updates capacity there named =
    let before : map.get (held 0 old.slots) k ≡ Some p = ap (λ (u : Shares). page_at u k) view ∙ there in
    let few = is.counted.few in
    subst (λ (u : Shares). Becomes room new (with_page u k v)) view
    (put_at room old new k v is updates capacity named (is.counted.below k p before) (omega (arith, len_put_old (held 0 old.slots) k v p before)))

-- a share goes
pub gone : (room : ℕ) (old new : Slab SharedPage) (t : Shares) (k : ℕ) → IsRoomy room old → shares_of room old ≡ t
    → Updates old new k None → new.capacity ≡ old.capacity → Becomes room new (without t k)
gone room old new t k is view updates capacity =
    let now : shares_of room new ≡ without (shares_of room old) k = ap (λ (m : map.FinMap nat_cmp SharedPage). record { room = room; pages = m }) (held_removed old new k updates) in
    subst (λ (u : Shares). Becomes room new (without u k)) view (record {
      roomy = record { small = is.small; capacity = capacity ∙ is.capacity; counted = subst AreCounted (sym now) (counted_gone (shares_of room old) k is.counted) };
      view = now;
    })

-- no share is there at the beginning
pub none_held : (room : ℕ) (s : Slab SharedPage) → room < 2 ^ 32 → s.slots ≡ [] → s.capacity ≡ room → Becomes room s (record { room = room; pages = map.empty })
none_held room s small none capacity =
    let view : shares_of room s ≡ record { room = room; pages = map.empty } = ap (λ (m : map.FinMap nat_cmp SharedPage). record { room = room; pages = m }) (ap (held 0) none ∙ held_none 0) in
    record {
      roomy = record {
        small = small;
        capacity = capacity;
        counted = subst AreCounted (sym view) (record {
          named = λ k p at. let no : None ≡ Some p = sym (map.get-empty nat_cmp k) ∙ at in absurd cc;
          below = λ k p at. let no : None ≡ Some p = sym (map.get-empty nat_cmp k) ∙ at in absurd cc;
          few = omega (arith, map.len-empty nat_cmp SharedPage);
        });
      };
      view = view;
    }

-- the page of a share has another count
pub counted_again : (room : ℕ) (s : Slab SharedPage) (t : Shares) (k n : ℕ) (p q : SharedPage) → IsRoomy room s → shares_of room s ≡ t
    → page_at t k ≡ Some p → get s k ≡ Some q → 1 ≤ n
    → Becomes room (with_value s k (record { home = q.home; count = n })) (with_page t k (record p { count = n }))
counted_again room s t k n p q is view at there named =
    let both : Some p ≡ Some q = sym at ∙ page_is room s t k view ∙ there in
    let one : p ≡ q = cc in
    let v : SharedPage = record { home = q.home; count = n } in
    subst (λ (r : SharedPage). Becomes room (with_value s k v) (with_page t k (record { home = r.home; count = n }))) (sym one)
    (written room s (with_value s k v) t k p v is view (Updates-with_value s k v (ap is_some there)) refl at named)

-- as many shares are there as values in the slab, and no more than there is room for
pub len_is : (room : ℕ) (s : Slab SharedPage) (t : Shares) → IsRoomy room s → shares_of room s ≡ t → (slab_len s ≡ map.len t.pages) × (slab_len s < 2 ^ 32)
len_is room s t is view =
    let few = is.counted.few in
    let small = is.small in
    (sym (len_held s) ∙ ap (λ (u : Shares). map.len u.pages) view, omega (arith, len_held s))

-- there is room for one more
pub room_more : (room : ℕ) (s : Slab SharedPage) (t : Shares) → IsRoomy room s → shares_of room s ≡ t → map.len t.pages < t.room → slab_len s + 1 ≤ s.capacity
room_more room s t is view space =
    let less : map.len (held 0 s.slots) < room = subst (λ (u : Shares). map.len u.pages < u.room) (sym view) space in
    let capacity = is.capacity in
    omega (arith, len_held s)

same_test : (a b : ℕ) → a ≡ b → (a == b) ≡ true
same_test a b e = grind arith

other_test : (a b : ℕ) → a ≢ b → (a == b) ≡ false
other_test a b e = grind arith

-- the last name goes, and with it the share
pub left_last : (t : Shares) (k : ℕ) (p : SharedPage) → page_at t k ≡ Some p → p.count ≡ 1 → left t k ≡ without t k
left_last t k p at last =
    ap (left_by t k) at ∙ ap (λ (b : Bool). cond b (without t k) (with_page t k (record p { count = one_fewer p.count }))) (same_test p.count 1 last)

-- a page that is shared has a name
pub named_at : (room : ℕ) (s : Slab SharedPage) (k : ℕ) (p : SharedPage) → IsRoomy room s → get s k ≡ Some p → 1 ≤ p.count
named_at room s k p is there = is.counted.named k p (get_held s.slots k ∙ there)

pub copied_some : (r : Option (Bor SharedPage)) → is_some r ≡ is_some (option_copied r)
copied_some None = refl
copied_some (Some x) = refl

-- a page that is put in the place of another, and the other again
put_again : (m : map.FinMap nat_cmp SharedPage) (k : ℕ) (v w : SharedPage) → map.get m k ≡ Some w → map.insert (map.insert m k v) k w ≡ m
put_again m k v w there = same (map.insert (map.insert m k v) k w) m (λ q. back q (cases_eq q k))
  where
    back : (q : ℕ) → (q ≡ k) ⊎ (q ≢ k) → map.get (map.insert (map.insert m k v) k w) q ≡ map.get m q
    back q (inl e) = get_put (map.insert m k v) k q w e ∙ sym (ap (λ n. map.get m n) e ∙ there)
    back q (inr ne) = get_put_other (map.insert m k v) k q w ne ∙ get_put_other m k q v ne

-- a page that does not lose its last name
left_not_last : (t : Shares) (k : ℕ) (p : SharedPage) → page_at t k ≡ Some p → p.count ≢ 1 → left t k ≡ with_page t k (record p { count = one_fewer p.count })
left_not_last t k p at more =
    ap (left_by t k) at ∙ ap (λ (b : Bool). cond b (without t k) (with_page t k (record p { count = one_fewer p.count }))) (other_test p.count 1 more)

fewer_of_more : (n : ℕ) → n + 1 < LAST_COUNT → one_fewer (one_more n) ≡ n
fewer_of_more n few =
    let more : one_more n ≡ n + 1 = ap (λ (b : Bool). cond b n (n + 1)) (other_test n LAST_COUNT (omega arith)) in
    ap one_fewer more ∙ ap (λ (b : Bool). cond b (n + 1) (n + 1 - 1)) (other_test (n + 1) LAST_COUNT (omega arith)) ∙ omega arith

more_than_one : (n : ℕ) → 0 < n → n + 1 < LAST_COUNT → one_more n ≢ 1
more_than_one n some few one =
    let more : one_more n ≡ n + 1 = ap (λ (b : Bool). cond b n (n + 1)) (other_test n LAST_COUNT (omega arith)) in
    omega (arith, more, one)

-- a name that comes and goes changes nothing
pub joined_and_left : (t : Shares) (k : ℕ) (p : SharedPage) → page_at t k ≡ Some p → 0 < p.count → p.count + 1 < LAST_COUNT → left (joined t k) k ≡ t
joined_and_left t k p at some few =
    let q : SharedPage = record p { count = one_more p.count } in
    let there : page_at (with_page t k q) k ≡ Some q = get_put t.pages k k q refl in
    ap (λ (u : Shares). left u k) (ap (joined_to t k) at)
    ∙ left_not_last (with_page t k q) k q there (more_than_one p.count some few)
    ∙ ap (λ (n : ℕ). with_page (with_page t k q) k (record p { count = n })) (fewer_of_more p.count few)
    ∙ ap (λ (m : map.FinMap nat_cmp SharedPage). record t { pages = m }) (put_again t.pages k q p at)
