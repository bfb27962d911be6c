-- Where the pages of all homes are.
use Rattle.std.proofs.Common.{◌≡◌, ◌≢◌, ℕ, zero, suc, ◌+◌, ◌≤◌, List, [], ◌∷◌, length, map, replicate, count_by, Option, None, Some, is_some, Bool, true, false, not, cond, refl, sym, ◌∙◌, ap, subst, arith, set, get_or, zero-add}
use Rattle.std.proofs.lemmas.Bool.{false≢true, true≢false}
use Rattle.std.proofs.lemmas.List.{set-get_or}
use Rattle.std.proofs.lemmas.List.Sums.{sum_by-cons}
use Rattle.page_contracts.specs.declared.answers.Found.{Found}
use Rattle.page_contracts.specs.Stores.{HomePlace, free, away, here, place, is_free, is_taken, is_here, free_homes}
use Rattle.drum_queue.specs.declared.transfer.Transfer.{Transfer}
use Rattle.drum_queue.specs.Transfers.{transfer_of}
use Rattle.page_residence.specs.Resident.{Seats, home_at, frame_for, framed, found_at, found_in, place_in, placed, places, places_from, page_in, reads, IsSingle}
use Rattle.page_residence.proofs.Seating.{frame_has, frame_alike}

places_length_from : (n : ℕ) (flags : List Bool) (p : ℕ → HomePlace) → length (places_from n flags p) ≡ length flags
unfolding places_from
places_length_from n [] p = refl
places_length_from n (b ∷ flags) p = ap suc (places_length_from (suc n) flags p)

pub places_length : (flags : List Bool) (p : ℕ → HomePlace) → length (places flags p) ≡ length flags
places_length flags p = places_length_from 0 flags p

place_from : (n : ℕ) (flags : List Bool) (p : ℕ → HomePlace) (h : ℕ) → place (places_from n flags p) h ≡ placed (get_or flags h false) (p (n + h))
unfolding places_from
place_from n [] p h = refl
place_from n (b ∷ flags) p zero = ap (λ (k : ℕ). placed b (p k)) (let e : n ≡ n + 0 = omega arith in e)
place_from n (b ∷ flags) p (suc h) = place_from (suc n) flags p h ∙ ap (λ (k : ℕ). placed (get_or flags h false) (p k)) (let e : suc n + h ≡ n + suc h = omega arith in e)

-- the place of a home
pub place_at : (flags : List Bool) (p : ℕ → HomePlace) (h : ℕ) → place (places flags p) h ≡ placed (get_or flags h false) (p h)
place_at flags p h = place_from 0 flags p h ∙ ap (λ (k : ℕ). placed (get_or flags h false) (p k)) (zero-add h)

places_same_from : (n : ℕ) (flags : List Bool) (p q : ℕ → HomePlace) → ((k : ℕ) → n ≤ k → p k ≡ q k) → places_from n flags p ≡ places_from n flags q
unfolding places_from
places_same_from n [] p q same = refl
places_same_from n (b ∷ flags) p q same = λ i. placed b (same n (omega arith) i) ∷ places_same_from (suc n) flags p q (λ k le. same k (omega arith)) i

-- places are the same where they are at each home
pub places_same : (flags : List Bool) (p q : ℕ → HomePlace) → ((k : ℕ) → p k ≡ q k) → places flags p ≡ places flags q
places_same flags p q same = places_same_from 0 flags p q (λ k le. same k)

places_set_from : (n : ℕ) (flags : List Bool) (p q : ℕ → HomePlace) (h : ℕ) (b : Bool) → ((k : ℕ) → k ≢ n + h → q k ≡ p k) → places_from n (set flags h b) q ≡ set (places_from n flags p) h (placed b (q (n + h)))
unfolding places_from
places_set_from n [] p q h b same = refl
places_set_from n (c ∷ flags) p q zero b same = λ i. placed b (q ((let e : n ≡ n + 0 = omega arith in e) i)) ∷ places_same_from (suc n) flags q p (λ k le. same k (λ e. absurd (omega arith))) i
places_set_from n (c ∷ flags) p q (suc h) b same =
    λ i. placed c (same n (λ e. absurd (omega arith)) i)
    ∷ (places_set_from (suc n) flags p q h b (λ k ne. same k (λ e. ne (omega arith)))
    ∙ ap (λ (k : ℕ). set (places_from (suc n) flags p) h (placed b (q k))) (let e : suc n + h ≡ n + suc h = omega arith in e)) i

-- one home alone is elsewhere
pub places_set : (flags : List Bool) (p q : ℕ → HomePlace) (h : ℕ) (b : Bool) → ((k : ℕ) → k ≢ h → q k ≡ p k) → places (set flags h b) q ≡ set (places flags p) h (placed b (q h))
places_set flags p q h b same =
    places_set_from 0 flags p q h b (λ k ne. same k (λ e. ne (e ∙ sym (zero-add h)))) ∙ ap (λ (k : ℕ). set (places flags p) h (placed b (q k))) (zero-add h)

-- and it was taken before
pub places_changed : (flags : List Bool) (p q : ℕ → HomePlace) (h : ℕ) → get_or flags h false ≡ true → ((k : ℕ) → k ≢ h → q k ≡ p k) → places flags q ≡ set (places flags p) h (q h)
places_changed flags p q h taken same =
    let flag : set flags h true ≡ flags = ap (set flags h) (sym taken) ∙ set-get_or flags h false in
    ap (λ (fs : List Bool). places fs q) (sym flag) ∙ places_set flags p q h true same

placed_free : (b : Bool) (p : HomePlace) → is_free p ≡ false → is_free (placed b p) ≡ not b
placed_free true p busy = busy
placed_free false p busy = refl

-- where it is known which homes are taken, the others are free
free_from : (n : ℕ) (flags : List Bool) (p : ℕ → HomePlace) → ((k : ℕ) → is_free (p k) ≡ false) → free_homes (places_from n flags p) ≡ count_by not flags
unfolding places_from
free_from n [] p busy = refl
free_from n (b ∷ flags) p busy =
    sum_by-cons (λ (q : HomePlace). cond (is_free q) 1 0) (placed b (p n)) (places_from (suc n) flags p)
    ∙ (let rest = free_from (suc n) flags p busy in
    let own = ap (λ (c : Bool). let m : ℕ = cond c 1 0 in m) (placed_free b (p n) (busy n)) in
    let cons = sum_by-cons (λ (c : Bool). cond (not c) 1 0) b flags in
    omega (arith, rest, own, cons))

pub free_is : (flags : List Bool) (p : ℕ → HomePlace) → ((k : ℕ) → is_free (p k) ≡ false) → free_homes (places flags p) ≡ count_by not flags
free_is flags p busy = free_from 0 flags p busy

busy_in : (words : List (List ℕ)) (queue : List Transfer) (o : Option ℕ) → is_free (place_in words queue o) ≡ false
busy_in words queue None = refl
busy_in words queue (Some f) = at (reads (transfer_of f queue))
  where
    at : (b : Bool) → is_free (cond b away (here (page_in words f))) ≡ false
    at true = refl
    at false = refl

pub framed_is : (seats : Seats) (words : List (List ℕ)) (queue : List Transfer) (h : ℕ) (o : Option ℕ) → frame_for seats h ≡ o → framed seats words queue h ≡ place_in words queue o
unfolding framed
framed_is seats words queue h o is = ap (place_in words queue) is

pub framed_busy : (seats : Seats) (words : List (List ℕ)) (queue : List Transfer) (h : ℕ) → is_free (framed seats words queue h) ≡ false
framed_busy seats words queue h = ap is_free (framed_is seats words queue h (frame_for seats h) refl) ∙ busy_in words queue (frame_for seats h)

placed_taken : (b : Bool) (p : HomePlace) → is_free p ≡ false → is_taken (placed b p) ≡ b
placed_taken true free busy = absurd (true≢false busy)
placed_taken true away busy = refl
placed_taken true (here ws) busy = refl
placed_taken false p busy = refl

-- a home is taken where it is marked so
pub taken_at : (flags : List Bool) (seats : Seats) (words : List (List ℕ)) (queue : List Transfer) (h : ℕ) → is_taken (place (places flags (framed seats words queue)) h) ≡ get_or flags h false
taken_at flags seats words queue h = ap is_taken (place_at flags (framed seats words queue) h) ∙ placed_taken (get_or flags h false) (framed seats words queue h) (framed_busy seats words queue h)

-- a page in a frame
pub record IsHereIn (seats : Seats) (words : List (List ℕ)) (queue : List Transfer) (h : ℕ) : Type 0 where
  pub frame : ℕ
  pub is : frame_for seats h ≡ Some frame
  pub given : home_at seats frame ≡ Some h
  pub read : reads (transfer_of frame queue) ≡ false
  pub shown : framed seats words queue h ≡ here (page_in words frame)

here_in : (words : List (List ℕ)) (queue : List Transfer) (f : ℕ) → is_here (place_in words queue (Some f)) ≡ true → reads (transfer_of f queue) ≡ false
here_in words queue f is = at (reads (transfer_of f queue)) is
  where
    at : (b : Bool) → is_here (cond b away (here (page_in words f))) ≡ true → b ≡ false
    at true e = absurd (false≢true e)
    at false e = refl

pub shown_in : (seats : Seats) (words : List (List ℕ)) (queue : List Transfer) (h f : ℕ) → frame_for seats h ≡ Some f → reads (transfer_of f queue) ≡ false → framed seats words queue h ≡ here (page_in words f)
shown_in seats words queue h f is read = framed_is seats words queue h (Some f) is ∙ ap (λ (b : Bool). cond b away (here (page_in words f))) read

pub is_here_in : (seats : Seats) (words : List (List ℕ)) (queue : List Transfer) (h : ℕ) → is_here (framed seats words queue h) ≡ true → IsHereIn seats words queue h
is_here_in seats words queue h is = at (frame_for seats h) refl
  where
    at : (o : Option ℕ) → frame_for seats h ≡ o → IsHereIn seats words queue h
    at None e = absurd (false≢true (sym (ap is_here (framed_is seats words queue h None e)) ∙ is))
    at (Some f) e =
        let read = here_in words queue f (sym (ap is_here (framed_is seats words queue h (Some f) e)) ∙ is) in
        record { frame = f; is = e; given = frame_has seats h f e; read = read; shown = shown_in seats words queue h f e read }

-- a page on the drum alone: it has no frame, or it is still to be read into it
pub away_in : (seats : Seats) (words : List (List ℕ)) (queue : List Transfer) (h f : ℕ) → frame_for seats h ≡ Some f → framed seats words queue h ≡ away → reads (transfer_of f queue) ≡ true
away_in seats words queue h f is gone = at (reads (transfer_of f queue)) refl
  where
    at : (b : Bool) → reads (transfer_of f queue) ≡ b → b ≡ true
    at true e = refl
    at false e = absurd (let no : is_here (here (page_in words f)) ≡ is_here away = ap is_here (sym (shown_in seats words queue h f is e) ∙ gone) in true≢false no)

pub gone_in : (seats : Seats) (words : List (List ℕ)) (queue : List Transfer) (h : ℕ) → frame_for seats h ≡ None → framed seats words queue h ≡ away
gone_in seats words queue h is = framed_is seats words queue h None is

pub reading_in : (seats : Seats) (words : List (List ℕ)) (queue : List Transfer) (h f : ℕ) → frame_for seats h ≡ Some f → reads (transfer_of f queue) ≡ true → framed seats words queue h ≡ away
reading_in seats words queue h f is read = framed_is seats words queue h (Some f) is ∙ ap (λ (b : Bool). cond b away (here (page_in words f))) read

-- each frame keeps its home, and is still read into, or not
pub framed_alike : (seats seats' : Seats) (words : List (List ℕ)) (queue queue' : List Transfer) (h : ℕ) → IsSingle seats → ((g : ℕ) → home_at seats' g ≡ home_at seats g)
    → ((g : ℕ) → reads (transfer_of g queue') ≡ reads (transfer_of g queue)) → framed seats' words queue' h ≡ framed seats words queue h
framed_alike seats seats' words queue queue' h single homes read =
    framed_is seats' words queue' h (frame_for seats h) (frame_alike seats seats' h single homes) ∙ at (frame_for seats h) ∙ sym (framed_is seats words queue h (frame_for seats h) refl)
  where
    at : (o : Option ℕ) → place_in words queue' o ≡ place_in words queue o
    at None = refl
    at (Some g) = ap (λ (b : Bool). cond b away (here (page_in words g))) (read g)

pub found_alike : (seats seats' : Seats) (queue queue' : List Transfer) (h : ℕ) → IsSingle seats → ((g : ℕ) → home_at seats' g ≡ home_at seats g)
    → ((g : ℕ) → reads (transfer_of g queue') ≡ reads (transfer_of g queue)) → found_at seats' queue' h ≡ found_at seats queue h
unfolding found_at
found_alike seats seats' queue queue' h single homes read = ap (found_in queue') (frame_alike seats seats' h single homes) ∙ at (frame_for seats h)
  where
    at : (o : Option ℕ) → found_in queue' o ≡ found_in queue o
    at None = refl
    at (Some g) = ap (λ (b : Bool). cond b None (Some (let x : Found = record { 0 = g } in x))) (read g)

-- one frame alone changes its home, its words or its transfer: other homes' pages are where they were
pub framed_other : (seats seats' : Seats) (words words' : List (List ℕ)) (queue queue' : List Transfer) (f h k : ℕ) → ((x : ℕ) → home_at seats f ≡ Some x → x ≡ h) → frame_for seats' k ≡ frame_for seats k
    → ((g : ℕ) → g ≢ f → page_in words' g ≡ page_in words g) → ((g : ℕ) → g ≢ f → reads (transfer_of g queue') ≡ reads (transfer_of g queue)) → k ≢ h
    → framed seats' words' queue' k ≡ framed seats words queue k
framed_other seats seats' words words' queue queue' f h k own same pages read other = at (frame_for seats k) refl
  where
    at : (o : Option ℕ) → frame_for seats k ≡ o → framed seats' words' queue' k ≡ framed seats words queue k
    at None is = framed_is seats' words' queue' k None (same ∙ is) ∙ sym (framed_is seats words queue k None is)
    at (Some g) is =
        let ne : g ≢ f = λ e. other (own k (ap (home_at seats) (sym e) ∙ frame_has seats k g is)) in
        framed_is seats' words' queue' k (Some g) (same ∙ is) ∙ ap (λ (b : Bool). cond b away (here (page_in words' g))) (read g ne)
        ∙ ap (λ (ws : List ℕ). cond (reads (transfer_of g queue)) away (here ws)) (pages g ne) ∙ sym (framed_is seats words queue k (Some g) is)

-- a page is found exactly where it is in a frame
found_here : (words : List (List ℕ)) (queue : List Transfer) (o : Option ℕ) → is_some (found_in queue o) ≡ is_here (place_in words queue o)
found_here words queue None = refl
found_here words queue (Some f) = at (reads (transfer_of f queue))
  where
    at : (b : Bool) → is_some (cond b None (Some (let x : Found = record { 0 = f } in x))) ≡ is_here (cond b away (here (page_in words f)))
    at true = refl
    at false = refl

pub finds : (seats : Seats) (words : List (List ℕ)) (queue : List Transfer) (h : ℕ) → is_some (found_at seats queue h) ≡ is_here (framed seats words queue h)
unfolding found_at
finds seats words queue h = found_here words queue (frame_for seats h) ∙ ap is_here (sym (framed_is seats words queue h (frame_for seats h) refl))

-- what is found of a home is its frame, whose words have been read
pub found_frame : (seats : Seats) (queue : List Transfer) (h : ℕ) (found : Found) → found_at seats queue h ≡ Some found → (frame_for seats h ≡ Some found.0) × (reads (transfer_of found.0 queue) ≡ false)
unfolding found_at
found_frame seats queue h found is = at (frame_for seats h) refl is
  where
    at : (o : Option ℕ) → frame_for seats h ≡ o → found_in queue o ≡ Some found → (frame_for seats h ≡ Some found.0) × (reads (transfer_of found.0 queue) ≡ false)
    at None e f = absurd cc
    at (Some g) e f = by (reads (transfer_of g queue)) refl f
      where
        by : (b : Bool) → reads (transfer_of g queue) ≡ b → cond b None (Some (let x : Found = record { 0 = g } in x)) ≡ Some found → (frame_for seats h ≡ Some found.0) × (reads (transfer_of found.0 queue) ≡ false)
        by true r got = absurd cc
        by false r got =
            let same : g ≡ found.0 = cc in
            (e ∙ ap (λ (n : ℕ). let x : Option ℕ = Some n in x) same, subst (λ (n : ℕ). reads (transfer_of n queue) ≡ false) same r)

-- a home with a frame is taken, so its place is that of its frame
pub place_taken : (flags : List Bool) (p : ℕ → HomePlace) (h : ℕ) → get_or flags h false ≡ true → place (places flags p) h ≡ p h
place_taken flags p h taken = place_at flags p h ∙ ap (λ (b : Bool). placed b (p h)) taken

here_placed : (b : Bool) (p : HomePlace) → is_here (placed b p) ≡ true → (b ≡ true) × (is_here p ≡ true)
here_placed true p is = (refl, is)
here_placed false p is = absurd (false≢true is)

-- a home whose page is in a frame
pub here_at : (flags : List Bool) (seats : Seats) (words : List (List ℕ)) (queue : List Transfer) (h : ℕ) → is_here (place (places flags (framed seats words queue)) h) ≡ true
    → (get_or flags h false ≡ true) × IsHereIn seats words queue h
here_at flags seats words queue h is =
    let both = here_placed (get_or flags h false) (framed seats words queue h) (sym (ap is_here (place_at flags (framed seats words queue) h)) ∙ is) in
    (both.0, is_here_in seats words queue h both.1)

none_from : (m n : ℕ) (p : ℕ → HomePlace) → places_from m (replicate n false) p ≡ replicate n free
unfolding places_from
none_from m zero p = refl
none_from m (suc n) p = ap (λ (l : List HomePlace). free ∷ l) (none_from (suc m) n p)

-- no page is anywhere at the beginning
pub places_none : (n : ℕ) (p : ℕ → HomePlace) → places (replicate n false) p ≡ replicate n free
places_none n p = none_from 0 n p

taken_from : (n : ℕ) (flags : List Bool) (p : ℕ → HomePlace) → ((k : ℕ) → is_free (p k) ≡ false) → map is_taken (places_from n flags p) ≡ flags
unfolding places_from
taken_from n [] p busy = refl
taken_from n (b ∷ flags) p busy = λ i. placed_taken b (p n) (busy n) i ∷ taken_from (suc n) flags p busy i

-- which homes are taken doesn't depend on frames
pub taken_all : (flags : List Bool) (seats : Seats) (words : List (List ℕ)) (queue : List Transfer) → map is_taken (places flags (framed seats words queue)) ≡ flags
taken_all flags seats words queue = taken_from 0 flags (framed seats words queue) (framed_busy seats words queue)
