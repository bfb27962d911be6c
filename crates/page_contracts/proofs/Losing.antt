-- What calls lose of what is queued and held, one after another.
use Rattle.std.proofs.Common.{◌≡◌, ◌≢◌, ◌⊎◌, inl, inr, ℕ, List, [], ◌∷◌, ◌++◌, Bool, true, false, cond, not, ◌==◌, refl, sym, ◌∙◌, ap, subst, arith, ◌≤◌}
use Rattle.std.specs.Prelude.{◌||◌, ◌&&◌, Option, None, Some, IsSome, length, slice_set}
use Rattle.std.specs.List.{filter, list_any}
use Rattle.std.specs.Option.{option_map_or}
use Rattle.std.proofs.lemmas.Bool.{cases_eq, cases_lt}
use Rattle.std.proofs.lemmas.Bool.Decides.{eqb_tells}
use Rattle.std.proofs.lemmas.List.{get_or-set_other, get_or-set_same, get_or_past, length-set}
use Rattle.page_homes.specs.declared.homes.Home.{Home}
use Rattle.page_contracts.specs.declared.answers.Need.{Need}
use Rattle.page_contracts.specs.declared.answers.Need.TheVariants.{Page, Frame}
use Rattle.page_contracts.specs.Stores.{StoreMeaning, Transfer, arrival, departure, Traffic, Loses, Cancels, StaysQueued, IsUsed, IsMade, IsFreed, arrives, departs, moves, need_of, next_use, noted, noted_all, place, same_need, traffic, with_word_in, without, CanFetch, IsNeeded, HomePlace, free, away, here, is_here, KeepsFrame, NoneLeft, Renews, RenewsLeft, RenewsNone, RenewsOne, RenewsSome, RenewsThere, tenant_left, CountsAgain, RenewsAgain}

or_assoc : (a b c : Bool) → ((a || b) || c) ≡ (a || (b || c))
or_assoc true b c = refl
or_assoc false b c = refl

or_none : (b : Bool) → b ≡ (b || false)
or_none true = refl
or_none false = refl

or_true : (b : Bool) → (b || true) ≡ true
or_true true = refl
or_true false = refl

or_swap : (a b c : Bool) → (a || (b || c)) ≡ (b || (a || c))
or_swap true b c = sym (or_true b)
or_swap false b c = refl

or_either : (b c : Bool) → (b || c) ≡ true → (b ≡ true) ⊎ (c ≡ true)
or_either true c h = inl refl
or_either false c h = inr h

-- what is so only where another is adds nothing to that
or_implied : (b c : Bool) → (c ≡ true → b ≡ true) → b ≡ (b || c)
or_implied b true h = h refl ∙ sym (or_true b)
or_implied b false h = or_none b

module _ {A : Type 0} where
  -- what is left of what a test left
  filter_on : (p q : A → Bool) (xs : List A) → filter (λ x. not (q x)) (filter (λ x. not (p x)) xs) ≡ filter (λ x. not (p x || q x)) xs
  filter_on p q [] = refl
  filter_on p q (x ∷ xs) = by (p x) (filter_on p q xs)
    where
      by : (a : Bool) → filter (λ y. not (q y)) (filter (λ y. not (p y)) xs) ≡ filter (λ y. not (p y || q y)) xs
          → filter (λ y. not (q y)) (cond (not a) (x ∷ filter (λ y. not (p y)) xs) (filter (λ y. not (p y)) xs)) ≡ cond (not (a || q x)) (x ∷ filter (λ y. not (p y || q y)) xs) (filter (λ y. not (p y || q y)) xs)
      by true rest = rest
      by false rest = ap (λ ys. cond (not (q x)) (x ∷ ys) ys) rest

  -- nothing is left out
  filter_all : (xs : List A) → filter (λ x. not false) xs ≡ xs
  filter_all [] = refl
  filter_all (x ∷ xs) = ap (λ ys. x ∷ ys) (filter_all xs)

  any_filter : (p f : A → Bool) (xs : List A) → list_any p (filter f xs) ≡ list_any (λ x. f x && p x) xs
  any_filter p f [] = refl
  any_filter p f (x ∷ xs) = by (f x) (any_filter p f xs)
    where
      by : (a : Bool) → list_any p (filter f xs) ≡ list_any (λ y. f y && p y) xs → list_any p (cond a (x ∷ filter f xs) (filter f xs)) ≡ ((a && p x) || list_any (λ y. f y && p y) xs)
      by true rest = ap (λ b. p x || b) rest
      by false rest = rest

  any_none : (p : A → Bool) (xs : List A) → list_any (λ x. false && p x) xs ≡ false
  any_none p [] = refl
  any_none p (x ∷ xs) = any_none p xs

  any_push : (p : A → Bool) (xs : List A) (y : A) → list_any p (xs ++ y ∷ []) ≡ (list_any p xs || p y)
  any_push p [] y = sym (or_none (p y))
  any_push p (x ∷ xs) y = ap (λ b. p x || b) (any_push p xs y) ∙ sym (or_assoc (p x) (list_any p xs) (p y))

  -- what was taken first, or then, was taken
  any_on : (a b m : A → Bool) (xs : List A) → (list_any (λ x. a x && m x) xs || list_any (λ x. b x && m x) (filter (λ x. not (a x)) xs)) ≡ list_any (λ x. (a x || b x) && m x) xs
  any_on a b m [] = refl
  any_on a b m (x ∷ xs) = by (a x) (any_on a b m xs)
    where
      by : (c : Bool) → (list_any (λ y. a y && m y) xs || list_any (λ y. b y && m y) (filter (λ y. not (a y)) xs)) ≡ list_any (λ y. (a y || b y) && m y) xs
          → (((c && m x) || list_any (λ y. a y && m y) xs) || list_any (λ y. b y && m y) (cond (not c) (x ∷ filter (λ y. not (a y)) xs) (filter (λ y. not (a y)) xs))) ≡ (((c || b x) && m x) || list_any (λ y. (a y || b y) && m y) xs)
      by true rest = or_assoc (m x) (list_any (λ y. a y && m y) xs) (list_any (λ y. b y && m y) (filter (λ y. not (a y)) xs)) ∙ ap (λ d. m x || d) rest
      by false rest = or_swap (list_any (λ y. a y && m y) xs) (b x && m x) (list_any (λ y. b y && m y) (filter (λ y. not (a y)) xs)) ∙ ap (λ d. (b x && m x) || d) rest

  -- what a test finds was taken, or is left
  any_apart : (a m : A → Bool) (xs : List A) → list_any m xs ≡ true → (list_any m (filter (λ x. not (a x)) xs) ≡ true) ⊎ (list_any (λ x. a x && m x) xs ≡ true)
  any_apart a m xs h = or_either (list_any m (filter (λ x. not (a x)) xs)) (list_any (λ x. a x && m x) xs) (by xs ∙ h)
    where
      at : (c : Bool) (x : A) (ys : List A) → (list_any m (filter (λ y. not (a y)) ys) || list_any (λ y. a y && m y) ys) ≡ list_any m ys
          → (list_any m (cond (not c) (x ∷ filter (λ y. not (a y)) ys) (filter (λ y. not (a y)) ys)) || ((c && m x) || list_any (λ y. a y && m y) ys)) ≡ (m x || list_any m ys)
      at true x ys rest = or_swap (list_any m (filter (λ y. not (a y)) ys)) (m x) (list_any (λ y. a y && m y) ys) ∙ ap (λ e. m x || e) rest
      at false x ys rest = or_assoc (m x) (list_any m (filter (λ y. not (a y)) ys)) (list_any (λ y. a y && m y) ys) ∙ ap (λ e. m x || e) rest

      by : (ys : List A) → (list_any m (filter (λ y. not (a y)) ys) || list_any (λ y. a y && m y) ys) ≡ list_any m ys
      by [] = refl
      by (y ∷ ys) = at (a y) y ys (by ys)

-- needs that are the same are one
same_is : (n m : Need) → same_need n m ≡ true → n ≡ m
same_is (Page home) (Page other) h = by (eqb_tells home.0 other.0)
  where
    by : ((home.0 == other.0) ≡ true) × (home.0 ≡ other.0) ⊎ ((home.0 == other.0) ≡ false) × (home.0 ≡ other.0 → ⊥) → Page home ≡ Page other
    by (inl t) = ap (λ (k : ℕ). Page (record { 0 = k })) t.1
    by (inr t) = absurd (let z : true ≡ false = sym h ∙ t.0 in cc z)
same_is Frame Frame h = refl
same_is (Page home) Frame h = absurd (cc h)
same_is Frame (Page home) h = absurd (cc h)

any_noted : (need n : Need) (needs : List Need) → list_any (same_need need) (noted n needs) ≡ (list_any (same_need need) needs || same_need need n)
any_noted need n needs = by (list_any (same_need n) needs) refl
  where
    by : (b : Bool) → list_any (same_need n) needs ≡ b → list_any (same_need need) (cond b needs (needs ++ n ∷ [])) ≡ (list_any (same_need need) needs || same_need need n)
    by true is = or_implied (list_any (same_need need) needs) (same_need need n) (λ same. ap (λ (k : Need). list_any (same_need k) needs) (same_is need n same) ∙ is)
    by false is = any_push (same_need need) needs n

any_noted_all : (need : Need) (ts : List Transfer) (needs : List Need) → list_any (same_need need) (noted_all ts needs) ≡ (list_any (same_need need) needs || list_any (λ t. same_need need (need_of t)) ts)
any_noted_all need [] needs = or_none (list_any (same_need need) needs)
any_noted_all need (t ∷ ts) needs =
    any_noted_all need ts (noted (need_of t) needs) ∙ ap (λ b. b || list_any (λ u. same_need need (need_of u)) ts) (any_noted need (need_of t) needs)
    ∙ or_assoc (list_any (same_need need) needs) (same_need need (need_of t)) (list_any (λ u. same_need need (need_of u)) ts)

-- what was used or given up by one call and then by another was so by both
pub renews_on : (t u v : Traffic) → RenewsSome t u → RenewsSome u v → RenewsSome t v
renews_on t u v first then = record {
  renewed = λ frame. first.renewed frame || then.renewed frame;
  others = λ frame not there. (let last = then.others frame (split frame not).1 there in let k = first.others frame (split frame not).0 (stood frame last there) in record { tenant = last.tenant ∙ k.tenant; age = last.age ∙ k.age });
  younger = λ frame is there. by frame (then.renewed frame) refl is there;
  grows = omega (arith, first.grows, then.grows);
}
  where
    neither : (b c : Bool) → (b || c) ≡ false → (b ≡ false) × (c ≡ false)
    neither true c h = absurd (cc h)
    neither false c h = (refl, h)

    split : (frame : ℕ) → (first.renewed frame || then.renewed frame) ≡ false → (first.renewed frame ≡ false) × (then.renewed frame ≡ false)
    split frame not = neither (first.renewed frame) (then.renewed frame) not

    stood : (frame : ℕ) → KeepsFrame u v frame → IsSome (v.tenant frame) → IsSome (u.tenant frame)
    stood frame k there = subst IsSome k.tenant there

    by : (frame : ℕ) (c : Bool) → then.renewed frame ≡ c → (first.renewed frame || then.renewed frame) ≡ true → IsSome (v.tenant frame) → t.uses ≤ v.age frame
    by frame true then_is is there = (let young = then.younger frame then_is there in omega (arith, young, first.grows))
    by frame false then_is is there =
        let k = then.others frame then_is there in
        let own : first.renewed frame ≡ true = or_none (first.renewed frame) ∙ ap (λ b. first.renewed frame || b) (sym then_is) ∙ is in
        let young = first.younger frame own (stood frame k there) in
        omega (arith, young, k.age)

-- where no page was used none was
pub renews_none : (t u : Traffic) → RenewsNone t u → RenewsSome t u
renews_none t u none = record {
  renewed = λ frame. false;
  others = λ frame not there. none.kept frame there;
  younger = λ frame is there. absurd (cc is);
  grows = none.grows;
}

-- nor was any by two calls of which neither used one
pub none_on : (t u v : Traffic) → RenewsNone t u → RenewsNone u v → RenewsNone t v
none_on t u v first then = record {
  kept = λ frame there. (let k = then.kept frame there in let j = first.kept frame (subst IsSome k.tenant there) in record { tenant = k.tenant ∙ j.tenant; age = k.age ∙ j.age });
  grows = omega (arith, first.grows, then.grows);
}

-- a use is one, none again
pub used_once : (home : ℕ) (tenant : ℕ → Option ℕ) (old new : ℕ → ℕ) (uses uses' : ℕ) → Renews home tenant old new uses uses' → RenewsAgain home tenant old new uses uses'
used_once home tenant old new uses uses' ages = record {
  counted = record {
    own = λ frame is. (let own = ages.counted.own frame is in (omega (arith, own.0), own.1 ∙ ap next_use (sym own.0)));
    grows = ages.counted.grows;
  };
  others = ages.others;
}

-- a home's page was used or made, and each other frame has its page
renews_one : (t u : Traffic) (home : ℕ) → ((frame : ℕ) → (u.tenant frame ≡ Some home → ⊥) → u.tenant frame ≡ t.tenant frame) → RenewsAgain home u.tenant t.age u.age t.uses u.uses → RenewsOne home t u
renews_one t u home tenants ages = record { counted = ages.counted; others = λ frame not. record { tenant = tenants frame not; age = ages.others frame not } }

-- it was used in the frame that it had, and pages may have been given up before, but not that
pub renews_left : (t u v : Traffic) (home : ℕ) → RenewsNone t u → ((frame : ℕ) → t.tenant frame ≡ Some home → u.tenant frame ≡ Some home) → RenewsThere home u v → RenewsLeft home t v
renews_left t u v home first stays then = record {
  own = λ frame. (λ is. (then.own frame).0 (stays frame is), λ is. (let k = (then.own frame).1 is in sym (first.kept frame (subst IsSome (sym k) refl)).tenant ∙ k));
  counted = record {
    own = λ frame is. (let own = then.ages.counted.own frame is in (omega (arith, own.0, first.grows), own.1));
    grows = omega (arith, first.grows, then.ages.counted.grows);
  };
  others = λ frame there not. (let k = then.ages.others frame not in let j = first.kept frame (subst IsSome k.tenant there) in record { tenant = k.tenant ∙ j.tenant; age = k.age ∙ j.age });
}

-- a page was used, once or again, and then it was
pub counts_on : (home : ℕ) (t u : ℕ → Option ℕ) (age age' : ℕ → ℕ) (uses uses' uses'' : ℕ) → CountsAgain home t age uses uses' → CountsAgain home u age' uses' uses'' → CountsAgain home u age' uses uses''
counts_on home t u age age' uses uses' uses'' first then = record {
  own = λ frame is. (let last = then.own frame is in (omega (arith, last.0, first.grows), last.1));
  grows = omega (arith, first.grows, then.grows);
}

-- and it may have been used before
pub left_again : (t u v : Traffic) (home : ℕ) → RenewsLeft home t u → RenewsLeft home u v → RenewsLeft home t v
left_again t u v home first then = record {
  own = λ frame. (λ is. (then.own frame).0 ((first.own frame).0 is), λ is. (first.own frame).1 ((then.own frame).1 is));
  counted = counts_on home u.tenant v.tenant u.age v.age t.uses u.uses v.uses first.counted then.counted;
  others = λ frame there not. (let k = then.others frame there not in let j = first.others frame (subst IsSome k.tenant there) (λ is. not (k.tenant ∙ is)) in record { tenant = k.tenant ∙ j.tenant; age = k.age ∙ j.age });
}

-- of these pages one was used
renews_home : (t u : Traffic) (home : ℕ) → RenewsOne home t u → RenewsSome t u
renews_home t u home one = record {
  renewed = λ frame. has (u.tenant frame);
  others = λ frame not there. one.others frame (unlike frame not);
  younger = λ frame is there. (one.counted.own frame (like (u.tenant frame) is)).0;
  grows = one.counted.grows;
}
  where
    has : Option ℕ → Bool
    has o = option_map_or (λ h. h == home) o false

    like : (o : Option ℕ) → option_map_or (λ h. h == home) o false ≡ true → o ≡ Some home
    like None is = absurd (cc is)
    like (Some h) is = elim (eqb_tells h home) [ inl k ↦ ap Some k.1 | inr k ↦ absurd (let z : true ≡ false = sym is ∙ k.0 in cc z) ]

    itself : option_map_or (λ h. h == home) (Some home) false ≡ true
    itself = elim (eqb_tells home home) [ inl k ↦ k.0 | inr k ↦ absurd (k.1 refl) ]

    unlike : (frame : ℕ) → has (u.tenant frame) ≡ false → u.tenant frame ≡ Some home → ⊥
    unlike frame not is = (let z : true ≡ false = sym itself ∙ ap (λ o. option_map_or (λ h. h == home) o false) (sym is) ∙ not in cc z)

-- a home was given up
pub none_renewed : (t u : Traffic) (home : ℕ) → ((frame : ℕ) → u.tenant frame ≡ tenant_left home (t.tenant frame)) → ((frame : ℕ) → (t.tenant frame ≡ Some home → ⊥) → u.age frame ≡ t.age frame) → t.uses ≤ u.uses → RenewsNone t u
none_renewed t u home tenants ages uses = record {
  kept = λ frame there. (let k = by (t.tenant frame) (subst IsSome (tenants frame) there) in record { tenant = tenants frame ∙ k.0; age = ages frame k.1 });
  grows = uses;
}
  where
    by : (o : Option ℕ) → IsSome (tenant_left home o) → (tenant_left home o ≡ o) × (o ≡ Some home → ⊥)
    by None there = absurd (cc there)
    by (Some h) there = elim (eqb_tells h home) [
      | inl k ↦ absurd (let z : IsSome {T = ℕ} None = subst (λ b. IsSome (cond b None (Some h))) k.0 there in cc z)
      | inr k ↦ (ap (λ b. cond b None (Some h)) k.0, λ is. k.1 (ap (λ (o : Option ℕ). option_map_or (λ x. x) o 0) is))
    ]

-- no page has left its frame where each home has what it had
pub left_same : (old new : List HomePlace) → new ≡ old → NoneLeft old new
left_same old new same home is = ap (λ (ps : List HomePlace). place ps home) (sym same) ∙ is

-- or one alone has something else, in a frame or free
pub left_set : (old new : List HomePlace) (home : ℕ) (p : HomePlace) → (p ≡ away → place old home ≡ away) → new ≡ slice_set old home p → NoneLeft old new
left_set old new home p own same k is = elim (cases_eq k home) [
  | inr ne ↦ sym (get_or-set_other old home k p free ne) ∙ there
  | inl e ↦ elim (cases_lt home (length old)) [
    | inl l ↦ ap (place old) e ∙ own (sym (get_or-set_same old home p free l) ∙ ap (place (slice_set old home p)) (sym e) ∙ there)
    | inr past ↦ absurd (let z : free ≡ away = sym (get_or_past (slice_set old home p) home free (omega (arith, past, length-set old home p))) ∙ ap (place (slice_set old home p)) (sym e) ∙ there in cc z)
  ]
]
  where
    there : place (slice_set old home p) k ≡ away
    there = ap (λ (ps : List HomePlace). place ps k) (sym same) ∙ is

-- or a word of one page is another
pub left_put : (old new : List HomePlace) (home at w : ℕ) → new ≡ slice_set old home (with_word_in (place old home) at w) → NoneLeft old new
left_put old new home at w = left_set old new home (with_word_in (place old home) at w) (by (place old home))
  where
    by : (p : HomePlace) → with_word_in p at w ≡ away → p ≡ away
    by free gone = absurd (cc gone)
    by away gone = refl
    by (here ws) gone = absurd (cc gone)

-- nothing is lost
pub loses_none : (t u : Traffic) → u.queue ≡ t.queue → u.untold ≡ t.untold → u.holds ≡ t.holds → u.members ≡ t.members → u.frames ≡ t.frames → NoneLeft t.homes u.homes → RenewsSome t u → Loses t u
loses_none t u queue untold holds members frames left ages = record {
  these = λ x. false;
  queue = queue ∙ sym (filter_all t.queue);
  untold = λ need. ap (list_any (same_need need)) untold ∙ or_none (list_any (same_need need) t.untold) ∙ ap (λ b. list_any (same_need need) t.untold || b) (sym (any_none (λ x. same_need need (need_of x)) t.queue));
  given = λ home. false;
  holds = λ holder. ap (λ (f : ℕ → List ℕ). f holder) holds ∙ sym (filter_all (t.holds holder));
  members = members;
  frames = frames;
  left = left;
  ages = ages;
}

-- nothing changed
pub keeps_frames : (t : Traffic) → RenewsNone t t
keeps_frames t = record { kept = λ frame there. record { tenant = refl; age = refl }; grows = omega arith }

pub loses_nothing : (t : Traffic) → Loses t t
loses_nothing t = loses_none t t refl refl refl refl refl (λ home is. is) (renews_none t t (keeps_frames t))

-- what is lost by one call and then by another is lost by both
pub loses_on : (t u v : Traffic) → Loses t u → Loses u v → Loses t v
loses_on t u v first then = record {
  these = λ x. first.these x || then.these x;
  queue = then.queue ∙ ap (without then.these) first.queue ∙ filter_on first.these then.these t.queue;
  untold = λ need.
      then.untold need
      ∙ ap (λ b. b || list_any (λ x. then.these x && same_need need (need_of x)) u.queue) (first.untold need)
      ∙ ap (λ (q : List Transfer). (list_any (same_need need) t.untold || list_any (λ x. first.these x && same_need need (need_of x)) t.queue) || list_any (λ x. then.these x && same_need need (need_of x)) q) first.queue
      ∙ or_assoc (list_any (same_need need) t.untold) (list_any (λ x. first.these x && same_need need (need_of x)) t.queue) (list_any (λ x. then.these x && same_need need (need_of x)) (without first.these t.queue))
      ∙ ap (λ b. list_any (same_need need) t.untold || b) (any_on first.these then.these (λ x. same_need need (need_of x)) t.queue);
  given = λ home. first.given home || then.given home;
  holds = λ holder. then.holds holder ∙ ap (filter (λ home. not (then.given home))) (first.holds holder) ∙ filter_on first.given then.given (t.holds holder);
  members = then.members ∙ first.members;
  frames = then.frames ∙ first.frames;
  left = λ home is. first.left home (then.left home is);
  ages = renews_on t u v first.ages then.ages;
}

-- each page that was on its way still is, or is to be told
pub still_comes : (t u : Traffic) → Loses t u → (home : Home) → list_any (arrives home.0) t.queue ≡ true → (list_any (arrives home.0) u.queue ≡ true) ⊎ (list_any (same_need (Page home)) u.untold ≡ true)
still_comes t u l home h = elim (any_apart l.these (arrives home.0) t.queue h) [
  | inl left ↦ inl (ap (list_any (arrives home.0)) l.queue ∙ left)
  | inr taken ↦ inr (l.untold (Page home) ∙ ap (λ b. list_any (same_need (Page home)) t.untold || b) (same_test t.queue ∙ taken) ∙ or_true (list_any (same_need (Page home)) t.untold))
]
  where
    one : (x : Transfer) → same_need (Page home) (need_of x) ≡ arrives home.0 x
    one (arrival other) = refl
    one (departure other) = refl

    same_test : (ts : List Transfer) → list_any (λ x. l.these x && same_need (Page home) (need_of x)) ts ≡ list_any (λ x. l.these x && arrives home.0 x) ts
    same_test [] = refl
    same_test (x ∷ xs) = (λ i. (l.these x && one x i) || same_test xs i)

-- what was to be told still is
pub still_told : (t u : Traffic) → Loses t u → (need : Need) → list_any (same_need need) t.untold ≡ true → list_any (same_need need) u.untold ≡ true
still_told t u l need h = l.untold need ∙ ap (λ b. b || list_any (λ x. l.these x && same_need need (need_of x)) t.queue) h

-- where nothing is queued and nothing to be told, nothing was queued
pub none_lost : (t u : Traffic) → Loses t u → u.queue ≡ [] → u.untold ≡ [] → t.queue ≡ []
none_lost t u l queue untold = by t.queue (sym l.queue ∙ queue) (λ need. sym (l.untold need) ∙ ap (list_any (same_need need)) untold)
  where
    both_none : (b c : Bool) → (b || c) ≡ false → c ≡ false
    both_none true c h = absurd (cc h)
    both_none false c h = h

    itself : (need : Need) → same_need need need ≡ true
    itself (Page home) = elim (eqb_tells home.0 home.0) [ inl k ↦ k.0 | inr k ↦ absurd (k.1 refl) ]
    itself Frame = refl

    at : (c : Bool) (x : Transfer) (xs : List Transfer) → cond (not c) (x ∷ without l.these xs) (without l.these xs) ≡ [] → ((c && same_need (need_of x) (need_of x)) || list_any (λ y. l.these y && same_need (need_of x) (need_of y)) xs) ≡ false → ⊥
    at true x xs q n = (let z : true ≡ false = sym (ap (λ b. b || list_any (λ y. l.these y && same_need (need_of x) (need_of y)) xs) (itself (need_of x))) ∙ n in cc z)
    at false x xs q n = cc q

    by : (ts : List Transfer) → without l.these ts ≡ [] → ((need : Need) → (list_any (same_need need) t.untold || list_any (λ y. l.these y && same_need need (need_of y)) ts) ≡ false) → ts ≡ []
    by [] q n = refl
    by (x ∷ xs) q n = absurd (at (l.these x) x xs q (both_none (list_any (same_need (need_of x)) t.untold) (list_any (λ y. l.these y && same_need (need_of x) (need_of y)) (x ∷ xs)) (n (need_of x))))

-- nothing more is held
pub holds_less : (t u : Traffic) → Loses t u → (holder home : ℕ) → list_any (λ h. h == home) (u.holds holder) ≡ true → list_any (λ h. h == home) (t.holds holder) ≡ true
holds_less t u l holder home h = within (t.holds holder) (sym (ap (list_any (λ k. k == home)) (l.holds holder)) ∙ h)
  where
    at : (c : Bool) (x : ℕ) (xs : List ℕ) → (list_any (λ k. k == home) (filter (λ k. not (l.given k)) xs) ≡ true → list_any (λ k. k == home) xs ≡ true)
        → list_any (λ k. k == home) (cond (not c) (x ∷ filter (λ k. not (l.given k)) xs) (filter (λ k. not (l.given k)) xs)) ≡ true → ((x == home) || list_any (λ k. k == home) xs) ≡ true
    at true x xs rest e = ap (λ b. (x == home) || b) (rest e) ∙ or_true (x == home)
    at false x xs rest e = elim (or_either (x == home) (list_any (λ k. k == home) (filter (λ k. not (l.given k)) xs)) e) [
      | inl own ↦ ap (λ b. b || list_any (λ k. k == home) xs) own
      | inr other ↦ ap (λ b. (x == home) || b) (rest other) ∙ or_true (x == home)
    ]

    within : (xs : List ℕ) → list_any (λ k. k == home) (filter (λ k. not (l.given k)) xs) ≡ true → list_any (λ k. k == home) xs ≡ true
    within [] e = e
    within (x ∷ xs) e = at (l.given x) x xs (within xs) e

-- what no transfer is taken from stays
without_none : (these : Transfer → Bool) (ts : List Transfer) → list_any these ts ≡ false → without these ts ≡ ts
without_none these [] none = refl
without_none these (t ∷ ts) none = at (these t) none (λ rest. without_none these ts rest)
  where
    at : (b : Bool) → (b || list_any these ts) ≡ false → (list_any these ts ≡ false → without these ts ≡ ts) → cond (not b) (t ∷ without these ts) (without these ts) ≡ t ∷ ts
    at true some rest = absurd (cc some)
    at false none rest = ap (λ us. t ∷ us) (rest none)

taken_none : (these : Transfer → Bool) (ts : List Transfer) → list_any these ts ≡ false → filter these ts ≡ []
taken_none these [] none = refl
taken_none these (t ∷ ts) none = at (these t) none (λ rest. taken_none these ts rest)
  where
    at : (b : Bool) → (b || list_any these ts) ≡ false → (list_any these ts ≡ false → filter these ts ≡ []) → cond b (t ∷ filter these ts) (filter these ts) ≡ []
    at true some rest = absurd (cc some)
    at false none rest = rest none

-- what no transfer moves doesn't depart
pub still_here : (home : ℕ) (ts : List Transfer) → list_any (moves home) ts ≡ false → list_any (departs home) ts ≡ false
still_here home [] none = refl
still_here home (departure other ∷ ts) none = at (home == other) none (λ rest. still_here home ts rest)
  where
    at : (b : Bool) → (b || list_any (moves home) ts) ≡ false → (list_any (moves home) ts ≡ false → list_any (departs home) ts ≡ false) → (b || list_any (departs home) ts) ≡ false
    at true some rest = absurd (cc some)
    at false none rest = rest none
still_here home (arrival other ∷ ts) none = at (home == other) none (λ rest. still_here home ts rest)
  where
    at : (b : Bool) → (b || list_any (moves home) ts) ≡ false → (list_any (moves home) ts ≡ false → list_any (departs home) ts ≡ false) → list_any (departs home) ts ≡ false
    at true some rest = absurd (cc some)
    at false none rest = rest none

-- so does what is held
pub given_none : (home : ℕ) (hs : List ℕ) → list_any (λ h. h == home) hs ≡ false → filter (λ h. not (h == home)) hs ≡ hs
given_none home [] none = refl
given_none home (h ∷ hs) none = at (h == home) none (λ rest. given_none home hs rest)
  where
    at : (b : Bool) → (b || list_any (λ k. k == home) hs) ≡ false → (list_any (λ k. k == home) hs ≡ false → filter (λ k. not (k == home)) hs ≡ hs) → cond (not b) (h ∷ filter (λ k. not (k == home)) hs) (filter (λ k. not (k == home)) hs) ≡ h ∷ hs
    at true some rest = absurd (cc some)
    at false none rest = ap (λ ks. h ∷ ks) (rest none)

-- and no more is told
pub cancels_none : {S : Type 0} (means : StoreMeaning S) (these : Transfer → Bool) (old new : S) → list_any these (means.queue old) ≡ false → Cancels means these old new → StaysQueued means old new
cancels_none means these old new none c = record {
  queue = c.queue ∙ without_none these (means.queue old) none;
  untold = c.untold ∙ ap (λ ts. noted_all ts (means.untold old)) (taken_none these (means.queue old) none);
}

module _ {S : Type 0} (means : StoreMeaning S) (old new : S) where
  -- transfers that are taken from the queue, and pages that are held no more
  loses_taken : (these : Transfer → Bool) → Cancels means these old new → (given : ℕ → Bool) → ((holder : ℕ) → means.holds new holder ≡ filter (λ home. not (given home)) (means.holds old holder)) → means.members new ≡ means.members old → means.frames new ≡ means.frames old → NoneLeft (means.homes old) (means.homes new) → RenewsSome (traffic means old) (traffic means new) → Loses (traffic means old) (traffic means new)
  loses_taken these c given holds members frames left ages = record {
    these = these;
    queue = c.queue;
    untold = λ need.
        ap (list_any (same_need need)) c.untold ∙ any_noted_all need (filter these (means.queue old)) (means.untold old)
        ∙ ap (λ b. list_any (same_need need) (means.untold old) || b) (any_filter (λ x. same_need need (need_of x)) these (means.queue old));
    given = given;
    holds = holds;
    members = members;
    frames = frames;
    left = left;
    ages = ages;
  }

  abbrev t : Traffic
  t = traffic means old

  abbrev u : Traffic
  u = traffic means new

  -- a use and a making renew one page
  pub used_one : (home : ℕ) → IsUsed means home old new → RenewsOne home (traffic means old) (traffic means new)
  used_one home k = renews_one t u home (λ frame other. ap (λ (f : ℕ → Option ℕ). f frame) k.framed.tenant) (used_once home u.tenant t.age u.age t.uses u.uses k.ages)

  pub used_there : (home : ℕ) → IsUsed means home old new → RenewsThere home (traffic means old) (traffic means new)
  used_there home k = record {
    own = λ frame. (let same = ap (λ (f : ℕ → Option ℕ). f frame) k.framed.tenant in (λ is. same ∙ is, λ is. sym same ∙ is));
    ages = used_one home k;
  }

  -- where nothing was given up
  pub used_left : (home : ℕ) → IsUsed means home old new → RenewsLeft home (traffic means old) (traffic means new)
  used_left home k = renews_left t t u home (keeps_frames t) (λ frame is. is) (used_there home k)

  pub made_one : (home : ℕ) (page : HomePlace) → IsMade means home page old new → RenewsOne home (traffic means old) (traffic means new)
  made_one home page m = renews_one t u home m.tenants m.ages

  -- a use, a making and a giving up lose so
  pub loses_used : (home : ℕ) → IsUsed means home old new → Loses (traffic means old) (traffic means new)
  loses_used home k =
      loses_taken (departs home) k.rescued (λ h. false) (λ holder. ap (λ (f : ℕ → List ℕ). f holder) k.holds ∙ sym (filter_all (means.holds old holder))) k.framed.members k.framed.frames k.left
      (renews_home t u home (used_one home k))

  pub loses_made : (home : ℕ) (page : HomePlace) → IsMade means home page old new → Loses (traffic means old) (traffic means new)
  loses_made home page m = loses_none t u m.queued.queue m.queued.untold m.holds m.members m.frames (left_set (means.homes old) (means.homes new) home page (λ gone. absurd (let z : false ≡ true = sym (ap is_here gone) ∙ m.in_frame in cc z)) m.homes) (renews_home t u home (made_one home page m))

  pub freed_none : (home : ℕ) → IsFreed means home old new → RenewsNone (traffic means old) (traffic means new)
  freed_none home f = none_renewed t u home f.tenants f.ages (let same = f.uses in omega (arith, same))

  -- each other page stays where it is
  pub freed_stays : (home other : ℕ) → other ≢ home → IsFreed means home old new → (frame : ℕ) → means.tenant old frame ≡ Some other → means.tenant new frame ≡ Some other
  freed_stays home other ne f frame is =
      f.tenants frame ∙ ap (tenant_left home) is
      ∙ elim (eqb_tells other home) [ inl k ↦ absurd (ne k.1) | inr k ↦ ap (λ b. cond b None (Some other)) k.0 ]

  pub loses_freed : (home : ℕ) → IsFreed means home old new → Loses (traffic means old) (traffic means new)
  loses_freed home f = loses_taken (moves home) f.cancelled (λ k. k == home) (λ holder. ap (λ (g : ℕ → List ℕ). g holder) f.holds) f.members f.frames (left_set (means.homes old) (means.homes new) home free (λ gone. absurd (cc gone)) f.homes) (renews_none t u (freed_none home f))

-- what is needed can be asked for
pub can_fetch : {S : Type 0} (means : StoreMeaning S) (most : ℕ) (s : S) (need : Need) → IsNeeded means most s need → CanFetch means s need
can_fetch means most s (Page home) h = h
can_fetch means most s Frame h = tt

-- and is needed where more may be
pub needed_more : {S : Type 0} (means : StoreMeaning S) (least most : ℕ) (s : S) (need : Need) → least ≤ most → IsNeeded means least s need → IsNeeded means most s need
needed_more means least most s (Page home) more h = h
needed_more means least most s Frame more h = omega (arith, h, more)
