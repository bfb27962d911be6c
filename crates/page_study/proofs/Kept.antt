-- What a stack keeps is kept by a reference more.
use Rattle.std.proofs.Common.{◌≡◌, ℕ, min, zero, suc, ◌+◌, ◌-◌, ◌<◌, ◌≤◌, Bool, true, false, cond, ◌||◌, List, [], ◌∷◌, length, take, map as each, get_or, Option, None, Some, option_map, is_some, refl, sym, ◌∙◌, ap, subst, arith, inl, inr}
use Rattle.std.specs.Prelude.{MatchOption, slice_index}
use Rattle.std.specs.List.{remove}
use Rattle.std.proofs.lemmas.Bool.{cases_lt}
use Rattle.std.proofs.lemmas.Bool.Decides.{nat_tests}
use Rattle.std.proofs.lemmas.List.{get_or_past}
use Rattle.machine_names.specs.declared.names.PageName.{PageName}
use Rattle.page_study.specs.Memories.{has, is_page, without}
use Rattle.page_study.specs.declared.seats.LastUse.{LastUse}
use Rattle.page_study.specs.declared.seats.Found.{Found}
use Rattle.page_study.specs.declared.stack.Stack.{Stack}
use Rattle.page_study.specs.Seats.{IsCut, IsTidy, Refers, TakesOut, no_use, pages_of, uses_of}
use Rattle.page_study.specs.Stacks.{place, latest, tally, near, soon, last_of, use_of, room_of, Keeps}
use Rattle.page_study.proofs.Latest.{Same, page_tells, same_itself, latest_apart, among_pages, first_none, gone, one_list, AreApart}
use Rattle.page_study.proofs.Moved.{take_again}
use Rattle.page_study.proofs.Places.{first_place, has_place, last_place, no_tally, removed, was_there}

-- ---- lists

module _ {X : Type 0} where
  module _ {Y : Type 0} (f : X → Y) where
    each_removed : (xs : List X) (d : ℕ) → each f (remove xs d) ≡ remove (each f xs) d
    each_removed [] zero = refl
    each_removed [] (suc d) = refl
    each_removed (x ∷ xs) zero = refl
    each_removed (x ∷ xs) (suc d) = ap (λ l. f x ∷ l) (each_removed xs d)

    each_taken : (xs : List X) (n : ℕ) → each f (take n xs) ≡ take n (each f xs)
    each_taken xs zero = refl
    each_taken [] (suc n) = refl
    each_taken (x ∷ xs) (suc n) = ap (λ l. f x ∷ l) (each_taken xs n)

    each_many : (xs : List X) → length (each f xs) ≡ length xs
    each_many [] = refl
    each_many (x ∷ xs) = ap suc (each_many xs)

    each_got : (xs : List X) (d : ℕ) (x : X) (y : Y) → d < length xs → get_or (each f xs) d y ≡ f (get_or xs d x)
    each_got [] d x y h = absurd (omega arith)
    each_got (a ∷ xs) zero x y h = refl
    each_got (a ∷ xs) (suc d) x y h = each_got xs d x y (omega arith)

-- ---- places

some_of : (p : Option ℕ) → is_some p ≡ true → (k : ℕ) × (p ≡ Some k)
some_of None h = absurd (cc h)
some_of (Some k) h = (k, refl)

none_of : (o : Option ℕ) → is_some o ≡ false → o ≡ None
none_of None h = refl
none_of (Some j) h = absurd (cc h)

-- who stands at a place of a list isn't before it
has_got : (n : PageName) (l : List PageName) (d : ℕ) (m : PageName) → d < length l → get_or l d m ≡ n → has n l ≡ true
has_got n [] d m h is = absurd (omega arith)
has_got n (x ∷ xs) zero m h is = ap (λ b. b || has n xs) (ap (is_page n) is ∙ same_itself n)
has_got n (x ∷ xs) (suc d) m h is = by (is_page n x) (has_got n xs d m (omega arith) is)
  where
    by : (b : Bool) → has n xs ≡ true → (b || has n xs) ≡ true
    by true r = refl
    by false r = r

place_got : (n : PageName) (l : List PageName) (d : ℕ) (m : PageName) → AreApart l → d < length l → get_or l d m ≡ n → place n l ≡ Some d
place_got n [] d m apart h is = absurd (omega arith)
place_got n (x ∷ xs) zero m apart h is = ap (λ b. cond b (Some 0) (option_map suc (place n xs))) (ap (is_page n) is ∙ same_itself n)
place_got n (x ∷ xs) (suc d) m apart h is = by (page_tells n x) (place_got n xs d m apart.1 (omega arith) is)
  where
    by : Same n x → place n xs ≡ Some d → place n (x ∷ xs) ≡ Some (suc d)
    by (inl t) r = absurd (cc (sym (subst (λ (y : PageName). has y xs ≡ false) (sym t.1) apart.0) ∙ has_got n xs d m (omega arith) is))
    by (inr t) r = ap (λ b. cond b (Some 0) (option_map suc (place n xs))) t.0 ∙ ap (option_map suc) r

apart_first : (m : ℕ) (l : List PageName) → AreApart l → AreApart (take m l)
apart_first zero l a = tt
apart_first (suc m) [] a = tt
apart_first (suc m) (x ∷ xs) a = (first_none x m xs a.0, apart_first m xs a.1)

-- a list's first pages without one that isn't among them
taken_absent : (n : PageName) (m : ℕ) (l : List PageName) → has n (take m l) ≡ false → take m (without n l) ≡ take m l
taken_absent n zero l h = refl
taken_absent n (suc m) [] h = refl
taken_absent n (suc m) (x ∷ xs) h = by (taken_absent n m xs) (page_tells n x)
  where
    by : (has n (take m xs) ≡ false → take m (without n xs) ≡ take m xs) → Same n x → take (suc m) (without n (x ∷ xs)) ≡ take (suc m) (x ∷ xs)
    by r (inl t) = absurd (cc (ap (λ b. b || has n (take m xs)) t.0, h))
    by r (inr t) = rw t.0 (ap (λ l. x ∷ l) (r (ap (λ b. b || has n (take m xs)) (sym t.0) ∙ h)))

-- ---- uses

abbrev pub numbered : PageName → ℕ → LastUse
numbered n i = record { page = n; number = i }

pages_are : (before l : List PageName) → pages_of (each (use_of before) l) ≡ l
pages_are before [] = refl
pages_are before (x ∷ xs) = ap (λ l. x ∷ l) (pages_are before xs)

other_use : (before : List PageName) (n : PageName) (l : List PageName) → has n l ≡ false → each (use_of (n ∷ before)) l ≡ each (use_of before) l
other_use before n [] h = refl
other_use before n (x ∷ xs) h = by (other_use before n xs) (page_tells n x) (page_tells x n)
  where
    by : (has n xs ≡ false → each (use_of (n ∷ before)) xs ≡ each (use_of before) xs) → Same n x → Same x n → each (use_of (n ∷ before)) (x ∷ xs) ≡ each (use_of before) (x ∷ xs)
    by r (inl t) u = absurd (cc (ap (λ b. b || has n xs) t.0, h))
    by r (inr t) (inl u) = absurd (t.1 (sym u.1))
    by r (inr t) (inr u) = rw u.0 (ap (λ l. use_of before x ∷ l) (r (ap (λ b. b || has n xs) (sym t.0) ∙ h)))

itself_used : (before : List PageName) (n : PageName) → last_of (n ∷ before) n ≡ length before
itself_used before n = ap (λ b. cond b (length before) (last_of before n)) (same_itself n)

-- ---- counts

one_at_most : (o : Option ℕ) (i : ℕ) → tally o i ≤ 1
one_at_most None i = omega arith
one_at_most (Some j) i = grind (arith, nat_tests)

pub near_few : (before : List PageName) (i : ℕ) → near before i ≤ length before
near_few [] i = omega arith
near_few (n ∷ before) i = omega (arith, near_few before i, one_at_most (place n (latest before)) i)

pub soon_few : (before : List PageName) (i : ℕ) → soon before i ≤ length before
soon_few [] i = omega arith
soon_few (n ∷ before) i = omega (arith, soon_few before i, one_at_most (place n before) i)

-- ---- a reference more

module _ (before : List PageName) (n : PageName) (m : ℕ) where
  abbrev front : List PageName
  front = take m (latest before)

  module _ (d : ℕ) (some : 1 ≤ m) (at : place n front ≡ Some d) where
    -- a page that is found comes first
    found_next : take m (latest (n ∷ before)) ≡ n ∷ remove front d
    found_next = by m some at
      where
        by : (m : ℕ) → 1 ≤ m → place n (take m (latest before)) ≡ Some d → take m (latest (n ∷ before)) ≡ n ∷ remove (take m (latest before)) d
        by zero h at = absurd (omega arith)
        by (suc j) h at =
            let stays = take (suc j) (latest before) in
            let there : has n stays ≡ true = has_place n stays ∙ ap is_some at in
            sym (one_list j n before) ∙ ap (λ b. cond b (n ∷ without n stays) (take (suc j) (n ∷ stays))) there
            ∙ ap (λ l. n ∷ l) (removed n stays d (apart_first (suc j) (latest before) (latest_apart before)) at)

  -- and so does a new one
  new_next : has n front ≡ false → take (suc m) (latest (n ∷ before)) ≡ n ∷ front
  new_next none = ap (λ l. n ∷ l) (taken_absent n m (latest before) none)

  none_again : (k : ℕ) (rest : List PageName) → take k (latest (n ∷ before)) ≡ n ∷ rest → has n rest ≡ false
  none_again zero rest e = absurd (cc e)
  none_again (suc k) rest e =
      let g : take k (without n (latest before)) ≡ rest = cc e in
      ap (has n) (sym g) ∙ first_none n k (without n (latest before)) (gone n (latest before))

  uses_next : (k : ℕ) (rest : List PageName) → take k (latest (n ∷ before)) ≡ n ∷ rest
      → numbered n (length before) ∷ each (use_of before) rest ≡ each (use_of (n ∷ before)) (take k (latest (n ∷ before)))
  uses_next k rest e =
      ap (λ (l : List LastUse). numbered n (length before) ∷ l) (sym (other_use before n rest (none_again k rest e)))
      ∙ ap (λ (i : ℕ). numbered n i ∷ each (use_of (n ∷ before)) rest) (sym (itself_used before n))
      ∙ sym (ap (each (use_of (n ∷ before))) e)

-- what a reference finds, in the definitions' words
pub record Tells (before : List PageName) (n : PageName) (room : ℕ) (new : List LastUse) (found : Option Found) : Type 0 where
  pub kept : ℕ
  pub most : room ≤ kept
  pub uses : new ≡ each (use_of (n ∷ before)) (take kept (latest (n ∷ before)))
  pub counted : MatchOption found
      (((i : ℕ) → i < room → near (n ∷ before) i ≡ near before i) × ((i : ℕ) → i < room → soon (n ∷ before) i ≡ soon before i))
      (λ f. (f.number < length before)
      × ((i : ℕ) → near (n ∷ before) i ≡ near before i + tally (Some f.distance) i)
      × ((i : ℕ) → soon (n ∷ before) i ≡ soon before i + tally (Some (length before - 1 - f.number)) i))

module _ (before : List PageName) (n : PageName) (s : Stack) (k : Keeps before s) (new : List LastUse) where
  abbrev this : LastUse
  this = numbered n (length before)

  module _ (cut left : List LastUse) (is_cut : IsCut (room_of s) (uses_of s.latest) cut) (first : new ≡ this ∷ left) where
    abbrev m : ℕ
    m = min k.kept is_cut.kept

    enough : room_of s ≤ m
    enough = omega (arith, k.most, is_cut.most)

    cut_is : cut ≡ each (use_of before) (take m (latest before))
    cut_is =
        is_cut.is ∙ ap (take is_cut.kept) k.uses ∙ sym (each_taken (use_of before) (take k.kept (latest before)) is_cut.kept)
        ∙ ap (each (use_of before)) (take_again (latest before) is_cut.kept k.kept m refl)

    when_found : (f : Found) → f.distance < length cut → get_or cut f.distance no_use ≡ record { page = n; number = f.number } → left ≡ remove cut f.distance → Tells before n (room_of s) new (Some f)
    when_found f inside got rest =
        let l = take m (latest before) in
        let within : f.distance < length l = omega (arith, inside, ap length cut_is, each_many (use_of before) l) in
        let both : use_of before (get_or l f.distance no_use.page) ≡ record { page = n; number = f.number } =
        sym (each_got (use_of before) l f.distance no_use.page no_use within) ∙ sym (ap (λ (c : List LastUse). get_or c f.distance no_use) cut_is) ∙ got in
        let page : get_or l f.distance no_use.page ≡ n = ap (λ (u : LastUse). u.page) both in
        let number : last_of before n ≡ f.number = ap (last_of before) (sym page) ∙ ap (λ (u : LastUse). u.number) both in
        let at : place n l ≡ Some f.distance = place_got n l f.distance no_use.page (apart_first m (latest before) (latest_apart before)) within page in
        let everywhere : place n (latest before) ≡ Some f.distance = first_place n m (latest before) f.distance at in
        let seen = some_of (place n before) (sym (has_place n before) ∙ was_there n before (has_place n (latest before) ∙ ap is_some everywhere)) in
        let far : last_of before n + seen.0 + 1 ≡ length before = last_place n before seen.0 seen.1 in
        let since : seen.0 ≡ length before - 1 - f.number = omega (arith, far, number) in
        let next = found_next before n m f.distance (omega (arith, enough, k.some)) at in
        record {
          kept = m;
          most = enough;
          uses = first ∙ ap (λ (r : List LastUse). this ∷ r) (rest ∙ ap (λ (c : List LastUse). remove c f.distance) cut_is ∙ sym (each_removed (use_of before) l f.distance))
              ∙ uses_next before n m m (remove l f.distance) next;
          counted = (omega (arith, far, number), λ i. ap (λ o. near before i + tally o i) everywhere, λ i. ap (λ o. soon before i + tally o i) (seen.1 ∙ ap Some since));
        }

    when_new : has n (pages_of cut) ≡ false → left ≡ cut → Tells before n (room_of s) new None
    when_new none rest =
        let l = take m (latest before) in
        let absent : has n l ≡ false = ap (has n) (sym (pages_are before l) ∙ ap pages_of (sym cut_is)) ∙ none in
        let at : place n l ≡ None = none_of (place n l) (sym (has_place n l) ∙ absent) in
        let unseen : has n (take m before) ≡ false = not_seen (has n (take m before)) refl absent in
        let at_all : place n (take m before) ≡ None = none_of (place n (take m before)) (sym (has_place n (take m before)) ∙ unseen) in
        record {
          kept = suc m;
          most = omega (arith, enough);
          uses = first ∙ ap (λ (r : List LastUse). this ∷ r) (rest ∙ cut_is) ∙ uses_next before n m (suc m) l (new_next before n m absent);
          counted = (λ i h. omega (arith, no_tally n m (latest before) at i (omega (arith, h, enough))), λ i h. omega (arith, no_tally n m before at_all i (omega (arith, h, enough))));
        }
      where
        not_seen : (b : Bool) → has n (take m before) ≡ b → has n (take m (latest before)) ≡ false → b ≡ false
        not_seen false e absent = refl
        not_seen true e absent = absurd (cc (sym (among_pages n before m e) ∙ absent))

    whichever : (found : Option Found) → TakesOut cut n left found → Tells before n (room_of s) new found
    whichever None t = when_new t.0 t.1
    whichever (Some f) t = when_found f t.0 t.1 t.2

  -- WHAT A REFERENCE FINDS IS TOLD IN THE DEFINITIONS' WORDS
  pub told : (found : Option Found) → Refers (room_of s) (uses_of s.latest) this new found → Tells before n (room_of s) new found
  told found r = whichever r.cut r.left r.is_cut r.first found r.taken_out

-- ---- the numbers of a stack

pub counts_few : (xs : List ℕ) (f : ℕ → ℕ) (room limit : ℕ) → length xs ≡ room → ((d : ℕ) → d < room → slice_index xs d ≡ f d) → ((d : ℕ) → f d ≤ limit) → (i : ℕ) → slice_index xs i ≤ limit
counts_few xs f room limit long same few i = elim (cases_lt i (length xs)) [
  | inl inside ↦ omega (arith, same i (omega (arith, inside, long)), few i)
  | inr past ↦ let none : slice_index xs i ≡ 0 = get_or_past xs i 0 past in omega (arith, none)
]

pub refers_told : (before : List PageName) (n : PageName) (s : Stack) (number : ℕ) (new : List LastUse) (found : Option Found) → Keeps before s → number ≡ length before
    → Refers s.latest.room (uses_of s.latest) (numbered n number) new found → Tells before n (room_of s) new found
refers_told before n s number new found k is r =
    told before n s k new found (subst (λ m. Refers m (uses_of s.latest) (numbered n (length before)) new found) k.latest_room
    (subst (λ i. Refers s.latest.room (uses_of s.latest) (numbered n i) new found) is r))

-- WHAT A STACK KEEPS IS KEPT BY A REFERENCE MORE
pub goes_on : (before : List PageName) (n : PageName) (s t : Stack) (found : Option Found) → Keeps before s → Tells before n (room_of s) (uses_of t.latest) found
    → IsTidy t.latest → t.latest.room ≡ s.latest.room → length t.near.items ≡ room_of s → length t.soon.items ≡ room_of s → t.references ≡ s.references + 1
    → ((i : ℕ) → i < room_of s → slice_index t.near.items i ≡ near (n ∷ before) i) → ((i : ℕ) → i < room_of s → slice_index t.soon.items i ≡ soon (n ∷ before) i) → Keeps (n ∷ before) t
goes_on before n s t found k tells tidy room near_room soon_room references nears soons = record {
  some = omega (arith, k.some, near_room);
  latest_room = room ∙ k.latest_room ∙ sym near_room;
  soon_room = soon_room ∙ sym near_room;
  tidy = tidy;
  kept = tells.kept;
  most = omega (arith, tells.most, near_room);
  uses = tells.uses;
  references = omega (arith, references, k.references);
  nears = λ i h. nears i (omega (arith, h, near_room));
  soons = λ i h. soons i (omega (arith, h, near_room));
}
