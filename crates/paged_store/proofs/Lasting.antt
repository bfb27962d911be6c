-- Where pages stand, and what becomes of them while transfers end.
use Rattle.std.proofs.Common.{◌≡◌, ◌≢◌, ◌⊎◌, ℕ, zero, suc, ◌+◌, ◌<◌, ◌≤◌, ◌==◌, inl, inr, List, [], ◌∷◌, ◌++◌, length, count_by, Option, Some, MatchOption, Bool, true, false, not, cond, ◌||◌, refl, sym, ◌∙◌, ap, subst, arith}
use Rattle.std.specs.Prelude.{nat_lt}
use Rattle.std.specs.List.{list_any}
use Rattle.std.specs.Option.{option_map_or}
use Rattle.std.proofs.lemmas.Bool.{cases_eq, false≢true, true≢false, eq-eqb, ne_eqb, true_from_ne_false}
use Rattle.std.proofs.lemmas.List.{append-nil, get_or-set_other}
use Rattle.std.proofs.lemmas.List.Sums.{sum_by-append, sum_by-cons}
use Rattle.page_homes.specs.declared.homes.Home.{Home}
use Rattle.page_contracts.specs.declared.answers.Need.{Need}
use Rattle.page_contracts.specs.declared.answers.Need.TheVariants.{Page, Frame}
use Rattle.outside.specs.Drums.{page_at}
use Rattle.page_contracts.specs.DrumWords.{DrumWords}
use Rattle.drum_queue.specs.Transfers.{transfer_of}
use Rattle.page_residence.specs.Resident.{page_in, reads}
use Rattle.page_contracts.specs.Stores.{Ends, HomePlace, IsFetched, content, over_drum, AllStay, IsNext, Meeting, departure_of, Transfer, arrival, arrives, away, awaited, begins, departure, free, here, home_of, is_arrival, is_here, is_taken, joins, meeting, moves, place, queued, waits}
use Rattle.page_residence.proofs.Aging.{tenant_given, tenant_shown}
use Rattle.page_residence.proofs.Placing.{here_at}
use Rattle.paged_store.specs.declared.store.PagedStore.{PagedStore}
use Rattle.paged_store.specs.OnePlace.{HasOnePlace, HaveEnded, words_over}
use Rattle.paged_store.specs.StoreMeaning.{homes_of, paged_meaning}
use Rattle.paged_store.specs.StoreSound.{at_frame, paged_sound}
use Rattle.paged_store.proofs.Using.{shown_words}

-- a page that is taken is here or away
away_from : (p : HomePlace) → is_taken p ≡ true → is_here p ≡ false → p ≡ away
away_from free taken gone = absurd (false≢true taken)
away_from away taken gone = refl
away_from (here words) taken gone = absurd (true≢false gone)

-- the words of a page that has this place
over_words : (s : PagedStore) (d : DrumWords) (h : ℕ) (p : HomePlace) → place (homes_of s) h ≡ p → words_over s d h ≡ over_drum p (page_at d h)
unfolding content
over_words s d h p is = ap (λ (q : HomePlace). over_drum q (page_at d h)) is

pub one_place : (s : PagedStore) (h : ℕ) → is_taken (place (homes_of s) h) ≡ true → HasOnePlace s h
one_place s h taken = at (is_here (place (homes_of s) h)) refl
  where
    at : (b : Bool) → is_here (place (homes_of s) h) ≡ b → HasOnePlace s h
    at true is =
        let there = (here_at s.homes s.core.frames.seats s.core.frames.words s.core.queue.queued h is).1 in
        inl (record {
          frame = there.frame;
          given = there.given;
          only = λ other has. s.core.resident.single other there.frame h has there.given;
          read = there.read;
          has = tenant_shown s.core.frames.seats s.core.queue.queued there.frame there.read ∙ there.given;
          words = λ d. over_words s d h (here (page_in s.core.frames.words there.frame)) (at_frame s h there.frame there.given ∙ there.shown);
        })
    at false is = inr (record {
      reading = λ frame given. true_from_ne_false (reads (transfer_of frame s.core.queue.queued)) (λ read. true≢false (sym (ap is_here (shown_words s frame h given read)) ∙ is));
      none = λ frame has.
          let own = tenant_given s.core.frames.seats s.core.queue.queued frame h has in
          true≢false (sym (ap is_here (shown_words s frame h own.0 own.1)) ∙ is);
      words = λ d. over_words s d h away (away_from (place (homes_of s) h) taken is);
    })

-- so many transfers as are queued
pub all_ended : (k : ℕ) (s n : PagedStore) → k ≡ length (paged_meaning.queue s) → HaveEnded k s n → paged_meaning.queue n ≡ []
all_ended zero s n long ended = ap paged_meaning.queue (sym ended) ∙ none (paged_meaning.queue s) (sym long)
  where
    none : (q : List Transfer) → length q ≡ 0 → q ≡ []
    none [] e = refl
    none (t ∷ ts) e = absurd (omega (arith, e))
all_ended (suc k) s n long ended =
    let e = ended.2 in
    let more = ap (λ (q : List Transfer). length q) e.oldest in
    all_ended k ended.0 n (omega (arith, long, more)) ended.3

-- a transfer that is there is counted
arrival_counts : (h : ℕ) (q : List Transfer) → list_any (arrives h) q ≡ true → 0 < count_by (moves h) q
arrival_counts h [] some = absurd (false≢true some)
arrival_counts h (t ∷ ts) some =
    let cons = sum_by-cons (λ (x : Transfer). cond (moves h x) 1 0) t ts in
    at t cons some (arrival_counts h ts)
  where
    own : (b : Bool) → (b || list_any (arrives h) ts) ≡ true → (list_any (arrives h) ts ≡ true → 0 < count_by (moves h) ts) → 0 < cond b 1 0 + count_by (moves h) ts
    own true is rest = omega arith
    own false is rest = let r = rest is in omega (arith, r)

    at : (u : Transfer) → count_by (moves h) (u ∷ ts) ≡ cond (moves h u) 1 0 + count_by (moves h) ts → list_any (arrives h) (u ∷ ts) ≡ true → (list_any (arrives h) ts ≡ true → 0 < count_by (moves h) ts)
        → 0 < count_by (moves h) (u ∷ ts)
    at (arrival k) cons is rest = let r = own (h == k) is rest in omega (arith, cons, r)
    at (departure k) cons is rest = let r = rest is in omega (arith, cons, r)

-- the arrival of a home's page is queued, and nothing else of it; or the page is in a frame, and nothing of it is queued
abbrev Comes : ℕ → PagedStore → Type 0
Comes h s = (list_any (arrives h) (paged_meaning.queue s) ≡ true) × (count_by (moves h) (paged_meaning.queue s) ≤ 1)

abbrev HasCome : ℕ → PagedStore → Type 0
HasCome h s = (is_here (place (paged_meaning.homes s) h) ≡ true) × (count_by (moves h) (paged_meaning.queue s) ≡ 0)

arrival_only : (h : ℕ) (t : Transfer) (ts : List Transfer) → h ≡ home_of t → count_by (moves h) ts ≡ 0 → list_any (arrives h) (t ∷ ts) ≡ true → is_arrival t ≡ true
arrival_only h (arrival k) ts same none some = refl
arrival_only h (departure k) ts same none some = let more = arrival_counts h ts some in absurd (omega (arith, more, none))

not_arrives : (h : ℕ) (t : Transfer) → h ≢ home_of t → arrives h t ≡ false
not_arrives h (arrival k) ne = ne_eqb h k ne
not_arrives h (departure k) ne = refl

module _ (h : ℕ) (need : Need) (s m : PagedStore) (e : Ends paged_meaning need s m) where
  count_was : count_by (moves h) (paged_meaning.queue s) ≡ cond (moves h e.transfer) 1 0 + count_by (moves h) (paged_meaning.queue m)
  count_was = ap (count_by (moves h)) e.oldest ∙ sum_by-cons (λ (x : Transfer). cond (moves h x) 1 0) e.transfer (paged_meaning.queue m)

  counted_own : h ≡ home_of e.transfer → count_by (moves h) (paged_meaning.queue s) ≡ 1 + count_by (moves h) (paged_meaning.queue m)
  counted_own same = count_was ∙ ap (λ (b : Bool). cond b 1 0 + count_by (moves h) (paged_meaning.queue m)) (eq-eqb h (home_of e.transfer) same)

  counted_other : h ≢ home_of e.transfer → count_by (moves h) (paged_meaning.queue s) ≡ 0 + count_by (moves h) (paged_meaning.queue m)
  counted_other ne = count_was ∙ ap (λ (b : Bool). cond b 1 0 + count_by (moves h) (paged_meaning.queue m)) (ne_eqb h (home_of e.transfer) ne)

  stays_placed : h ≢ home_of e.transfer → place (paged_meaning.homes m) h ≡ place (paged_meaning.homes s) h
  stays_placed ne = ap (λ (ps : List HomePlace). place ps h) e.homes ∙ get_or-set_other (paged_meaning.homes s) (home_of e.transfer) h (place (paged_meaning.homes m) (home_of e.transfer)) free ne

  goes_on : Comes h s ⊎ HasCome h s → Comes h m ⊎ HasCome h m
  goes_on (inl comes) = elim (cases_eq h (home_of e.transfer)) [
    | inl same ↦
        let count = counted_own same in
        let none : count_by (moves h) (paged_meaning.queue m) ≡ 0 = omega (arith, count, comes.1) in
        let is = arrival_only h e.transfer (paged_meaning.queue m) same none (ap (list_any (arrives h)) (sym e.oldest) ∙ comes.0) in
        inr (ap (λ (k : ℕ). is_here (place (paged_meaning.homes m) k)) same ∙ e.moved ∙ is, none)
    | inr ne ↦
        let count = counted_other ne in
        inl (
          sym (ap (list_any (arrives h)) e.oldest ∙ ap (λ (b : Bool). b || list_any (arrives h) (paged_meaning.queue m)) (not_arrives h e.transfer ne)) ∙ comes.0,
          omega (arith, count, comes.1),
        )
  ]
  goes_on (inr has) = elim (cases_eq h (home_of e.transfer)) [
    | inl same ↦ absurd (let count = counted_own same in omega (arith, count, has.1))
    | inr ne ↦ let count = counted_other ne in inr (ap is_here (stays_placed ne) ∙ has.0, omega (arith, count, has.1))
  ]

has_come : (h k : ℕ) (s n : PagedStore) → HaveEnded k s n → Comes h s ⊎ HasCome h s → Comes h n ⊎ HasCome h n
has_come h zero s n ended is = subst (λ (x : PagedStore). Comes h x ⊎ HasCome h x) ended is
has_come h (suc k) s n ended is = has_come h k ended.0 n ended.3 (goes_on h ended.1 s ended.0 ended.2 is)

any_last : (h : ℕ) (q : List Transfer) → list_any (arrives h) (q ++ (arrival h ∷ [])) ≡ true
any_last h [] = ap (λ (b : Bool). b || false) (eq-eqb h h refl)
any_last h (t ∷ ts) = at (arrives h t) (any_last h ts)
  where
    at : (b : Bool) → list_any (arrives h) (ts ++ (arrival h ∷ [])) ≡ true → (b || list_any (arrives h) (ts ++ (arrival h ∷ []))) ≡ true
    at true rest = refl
    at false rest = rest

-- what is asked for, and not a frame, is queued
asked_comes : (s m : PagedStore) (home : Home) → awaited (meeting (paged_meaning.queue s) (paged_meaning.spare s) (Page home)) ≡ Page home → IsFetched paged_meaning (Page home) s m
    → list_any (arrives home.0) (paged_meaning.queue m) ≡ true
asked_comes s m home told fetched = at (list_any (arrives home.0) (paged_meaning.queue s)) (nat_lt 0 (paged_meaning.spare s)) refl told fetched.queue
  where
    at : (b c : Bool) → list_any (arrives home.0) (paged_meaning.queue s) ≡ b → awaited (cond b (joins home.0) (cond c (begins home.0) waits)) ≡ Page home
        → paged_meaning.queue m ≡ paged_meaning.queue s ++ queued paged_meaning s (cond b (joins home.0) (cond c (begins home.0) waits)) → list_any (arrives home.0) (paged_meaning.queue m) ≡ true
    at true c some is queue = ap (list_any (arrives home.0)) (queue ∙ append-nil (paged_meaning.queue s)) ∙ some
    at false true none is queue = ap (list_any (arrives home.0)) queue ∙ any_last home.0 (paged_meaning.queue s)
    at false false none is queue = absurd (cc is)

pub asked_gets : (s m n : PagedStore) (home : Home) → awaited (meeting (paged_meaning.queue s) (paged_meaning.spare s) (Page home)) ≡ Page home → IsFetched paged_meaning (Page home) s m
    → HaveEnded (length (paged_meaning.queue m)) m n → is_here (place (paged_meaning.homes n) home.0) ≡ true
asked_gets s m n home told fetched ended = at (has_come home.0 (length (paged_meaning.queue m)) m n ended (inl (asked_comes s m home told fetched, (paged_sound m).once home.0)))
  where
    none : paged_meaning.queue n ≡ []
    none = all_ended (length (paged_meaning.queue m)) m n refl ended

    at : Comes home.0 n ⊎ HasCome home.0 n → is_here (place (paged_meaning.homes n) home.0) ≡ true
    at (inl comes) = absurd (false≢true (sym (ap (list_any (arrives home.0)) none) ∙ comes.0))
    at (inr has) = has.0

-- whether a page leaves its frame
abbrev is_departure : Transfer → Bool
is_departure t = not (is_arrival t)

one_more : (t : Transfer) (ts : List Transfer) → count_by is_departure (t ∷ ts) ≡ cond (is_arrival t) 0 1 + count_by is_departure ts
one_more (arrival h) ts = sum_by-cons (λ (x : Transfer). cond (is_departure x) 1 0) (arrival h) ts
one_more (departure h) ts = sum_by-cons (λ (x : Transfer). cond (is_departure x) 1 0) (departure h) ts

-- each page that was leaving has left a frame free, once all transfers have ended that were queued
frames_left : (k : ℕ) (s n : PagedStore) → k ≡ length (paged_meaning.queue s) → HaveEnded k s n → paged_meaning.spare n ≡ paged_meaning.spare s + count_by is_departure (paged_meaning.queue s)
frames_left zero s n long ended =
    let none = none_leave (paged_meaning.queue s) (sym long) in
    let same = ap paged_meaning.spare ended in
    omega (arith, none, same)
  where
    none_leave : (q : List Transfer) → length q ≡ 0 → count_by is_departure q ≡ 0
    none_leave [] e = refl
    none_leave (t ∷ ts) e = absurd (omega (arith, e))
frames_left (suc k) s n long ended =
    let e = ended.2 in
    let more = ap (λ (q : List Transfer). length q) e.oldest in
    let rest = frames_left k ended.0 n (omega (arith, long, more)) ended.3 in
    let own = ap (count_by is_departure) e.oldest ∙ one_more e.transfer (paged_meaning.queue ended.0) in
    omega (arith, rest, own, e.spare)

-- who is told to wait for a frame sends off the page that is next to leave
sent_off : (s : PagedStore) (frame home : ℕ) (met : Meeting) → awaited met ≡ Frame → paged_meaning.victim s ≡ Some frame → paged_meaning.tenant s frame ≡ Some home
    → queued paged_meaning s met ≡ departure home ∷ []
sent_off s frame home (joins h) told some there = absurd (cc told)
sent_off s frame home (begins h) told some there = absurd (cc told)
sent_off s frame home waits told some there =
    ap (departure_of paged_meaning s) some ∙ ap (λ (o : Option ℕ). option_map_or (λ (h : ℕ). departure h ∷ []) o []) there

pub waits_gets : (s m n : PagedStore) (need : Need) (frame : ℕ) → awaited (meeting (paged_meaning.queue s) (paged_meaning.spare s) need) ≡ Frame → paged_meaning.victim s ≡ Some frame
    → IsFetched paged_meaning need s m → HaveEnded (length (paged_meaning.queue m)) m n → 0 < paged_meaning.spare n
waits_gets s m n need frame told some fetched ended =
    let next : IsNext paged_meaning s frame = subst (λ (o : Option ℕ). MatchOption o (AllStay paged_meaning s) (IsNext paged_meaning s)) some (paged_sound s).next in
    let sent = sent_off s frame next.home (meeting (paged_meaning.queue s) (paged_meaning.spare s) need) told some next.leaves.there in
    let queue = fetched.queue ∙ ap (λ (q : List Transfer). paged_meaning.queue s ++ q) sent in
    let left = frames_left (length (paged_meaning.queue m)) m n refl ended in
    let one = one_more (departure next.home) [] in
    let last = ap (count_by is_departure) queue ∙ sum_by-append (λ (x : Transfer). cond (is_departure x) 1 0) (paged_meaning.queue s) (departure next.home ∷ []) in
    omega (arith, left, last, one)
