-- The oldest transfer ends: what it leaves of the pages, and of the words that a drum tells.
use Rattle.std.proofs.Common.{◌≡◌, ◌≢◌, ℕ, ◌<◌, ◌≤◌, inl, inr, List, [], length, map, Option, None, Some, Bool, true, false, cond, refl, sym, ◌∙◌, ap, subst, set, get_or}
use Rattle.std.specs.Option.{option_map}
use Rattle.std.proofs.Math.Path.{fun_ext}
use Rattle.std.proofs.lemmas.Bool.{cases_eq, false≢true, ne_eqb}
use Rattle.std.proofs.lemmas.List.{get_or-set_same, get_or-set_other, length-set, set-get_or, map-set}
use Rattle.outside.specs.Drums.{IsPage, page_at}
use Rattle.page_contracts.specs.DrumWords.{DrumWords, Stands}
use Rattle.page_contracts.specs.Stores.{HomePlace, free, away, here, place, is_taken, content, over_drum, FitsHomes, tenant_left}
use Rattle.page_contracts.specs.declared.answers.Found.{Found}
use Rattle.drum_queue.specs.declared.transfer.Transfer.{Transfer}
use Rattle.drum_queue.specs.Transfers.{transfer_of}
use Rattle.page_residence.specs.Resident.{Seats, seat, home_at, found_at, found_in, frame_for, framed, tenant_at, page_in, places, reads, IsSingle, SeatsStay, IsTakenFrom}
use Rattle.page_residence.proofs.Seating.{frame_has, frame_is, frame_none, frame_alike, frame_other, seat_same, seat_other, home_below}
use Rattle.page_residence.proofs.Aging.{tenant_given, tenant_shown}
use Rattle.page_residence.proofs.Renewing.{tenant_same}
use Rattle.page_residence.proofs.Placing.{places_changed, framed_other, shown_in, gone_in}

-- one home's page is elsewhere, and its content is the same: the words of the drum there are those that it had, or it has those that were there
module _ (old new : List HomePlace) (d e : DrumWords) (h : ℕ) where
  -- a page that was read has the words of the drum
  pub content_read : (words : List ℕ) → new ≡ set old h (here words) → place old h ≡ away → words ≡ page_at d h → h < length old → content new d ≡ content old d
  unfolding content
  content_read words changed gone told below = fun_ext (λ k. elim (cases_eq k h) [
    | inl same ↦
        ap (λ (p : HomePlace). over_drum p (page_at d k)) (ap (λ (ps : List HomePlace). place ps k) changed ∙ ap (place (set old h (here words))) same ∙ get_or-set_same old h (here words) free below)
        ∙ ap (λ (ws : List ℕ). let o : Option (List ℕ) = Some ws in o) (told ∙ ap (page_at d) (sym same))
        ∙ sym (ap (λ (p : HomePlace). over_drum p (page_at d k)) (ap (place old) same ∙ gone))
    | inr other ↦ ap (λ (p : HomePlace). over_drum p (page_at d k)) (ap (λ (ps : List HomePlace). place ps k) changed ∙ get_or-set_other old h k (here words) free other)
  ])

  -- a page that was written has left its words on the drum
  pub content_written : (words : List ℕ) → new ≡ set old h away → place old h ≡ here words → e ≡ set d h words → h < length old → h < length d → content new e ≡ content old d
  unfolding content
  content_written words changed was put below fits = fun_ext (λ k. elim (cases_eq k h) [
    | inl same ↦
        ap (λ (p : HomePlace). over_drum p (page_at e k)) (ap (λ (ps : List HomePlace). place ps k) changed ∙ ap (place (set old h away)) same ∙ get_or-set_same old h away free below)
        ∙ ap (λ (ws : List ℕ). let o : Option (List ℕ) = Some ws in o) (ap (λ (x : DrumWords). page_at x k) put ∙ ap (page_at (set d h words)) same ∙ get_or-set_same d h words [] fits)
        ∙ sym (ap (λ (p : HomePlace). over_drum p (page_at d k)) (ap (place old) same ∙ was))
    | inr other ↦
        ap (λ (p : HomePlace). over_drum p (page_at e k)) (ap (λ (ps : List HomePlace). place ps k) changed ∙ get_or-set_other old h k away free other)
        ∙ ap (over_drum (place old k)) (ap (λ (x : DrumWords). page_at x k) put ∙ get_or-set_other d h k words [] other)
  ])

  -- what fits goes on fitting
  pub fits_read : (p : HomePlace) → new ≡ set old h p → FitsHomes old d → FitsHomes new d
  fits_read p changed fits = record {
    enough = subst (λ (n : ℕ). n ≤ length d) (sym (ap (λ (ps : List HomePlace). length ps) changed ∙ length-set old h p)) fits.enough;
    pages = fits.pages;
  }

  pub fits_written : (p : HomePlace) (words : List ℕ) → new ≡ set old h p → e ≡ set d h words → IsPage words → FitsHomes old d → FitsHomes new e
  fits_written p words changed put page fits =
      let long : length e ≡ length d = ap (λ (x : DrumWords). length x) put ∙ length-set d h words in
      record {
        enough = subst (λ (n : ℕ). n ≤ length e) (sym (ap (λ (ps : List HomePlace). length ps) changed ∙ length-set old h p)) (subst (λ (n : ℕ). length old ≤ n) (sym long) fits.enough);
        pages = λ k below. elim (cases_eq k h) [
          | inl same ↦
              let within : h < length d = subst (λ (n : ℕ). n < length d) same (subst (λ (n : ℕ). k < n) long below) in
              subst IsPage (sym (ap (λ (x : DrumWords). page_at x k) put ∙ ap (page_at (set d h words)) same ∙ get_or-set_same d h words [] within)) page
          | inr other ↦
              subst IsPage (sym (ap (λ (x : DrumWords). page_at x k) put ∙ get_or-set_other d h k words [] other)) (fits.pages k (subst (λ (n : ℕ). k < n) long below))
        ];
      }

-- the homes that are taken stay so
pub taken_stays : (old new : List HomePlace) (h : ℕ) (p : HomePlace) → new ≡ set old h p → is_taken p ≡ is_taken (place old h) → map is_taken new ≡ map is_taken old
taken_stays old new h p changed same =
    ap (map is_taken) changed ∙ map-set is_taken old h p ∙ ap (set (map is_taken old) h) (same ∙ sym (flag h)) ∙ set-get_or (map is_taken old) h false
  where
    flag : (k : ℕ) → get_or (map is_taken old) k false ≡ is_taken (place old k)
    flag k = Rattle.std.proofs.Math.ListN.get_or-map is_taken old k free

-- of a drum that has to tell, what stands is what it tells
pub told_words : (held : Option DrumWords) (d : DrumWords) → Stands false held d → held ≡ Some d
told_words held d (inl told) = told
told_words held d (inr no_drum) = absurd (false≢true no_drum)

-- a page has come into its frame
pub arrived_places : (flags : List Bool) (seats seats' : Seats) (words words' : List (List ℕ)) (queue queue' : List Transfer) (f h : ℕ) (ws : List ℕ) → IsSingle seats → IsSingle seats' → SeatsStay seats seats'
    → home_at seats f ≡ Some h → get_or flags h false ≡ true → words' ≡ set words f ws → f < length words
    → ((g : ℕ) → g ≢ f → reads (transfer_of g queue') ≡ reads (transfer_of g queue)) → reads (transfer_of f queue') ≡ false
    → places flags (framed seats' words' queue') ≡ set (places flags (framed seats words queue)) h (here (page_in words' f))
arrived_places flags seats seats' words words' queue queue' f h ws single single' stays given taken changed below read own =
    places_changed flags (framed seats words queue) (framed seats' words' queue') h taken
    (λ k other. framed_other seats seats' words words' queue queue' f h k
    (λ x has. let two : Some x ≡ Some h = sym has ∙ given in let e : x ≡ h = cc in e)
    (frame_alike seats seats' k single stays.homes)
    (λ g ne. ap (λ (l : List (List ℕ)). page_in l g) changed ∙ get_or-set_other words f g ws [] ne) read other)
    ∙ ap (set (places flags (framed seats words queue)) h)
    (shown_in seats' words' queue' h f (frame_is seats' h f single' (stays.homes f ∙ given)) own)

-- a page has left its frame
pub departed_places : (flags : List Bool) (seats seats' : Seats) (words : List (List ℕ)) (queue queue' : List Transfer) (f h : ℕ) → IsSingle seats → IsSingle seats' → IsTakenFrom h f seats seats'
    → get_or flags h false ≡ true → ((g : ℕ) → g ≢ f → reads (transfer_of g queue') ≡ reads (transfer_of g queue))
    → places flags (framed seats' words queue') ≡ set (places flags (framed seats words queue)) h away
departed_places flags seats seats' words queue queue' f h single single' from taken read =
    places_changed flags (framed seats words queue) (framed seats' words queue') h taken
    (λ k other. framed_other seats seats' words words queue queue' f h k own (others k other) (λ g ne. refl) read other)
    ∙ ap (set (places flags (framed seats words queue)) h) (gone_in seats' words queue' h (none h refl))
  where
    below : f < length seats
    below = home_below seats f h from.had

    own : (x : ℕ) → home_at seats f ≡ Some x → x ≡ h
    own x has = let two : Some x ≡ Some h = sym has ∙ from.had in let e : x ≡ h = cc in e

    single_set' : IsSingle (set seats f None)
    single_set' = subst IsSingle from.seats single'

    others : (k : ℕ) → k ≢ h → frame_for seats' k ≡ frame_for seats k
    others k other = ap (λ (ss : Seats). frame_for ss k) from.seats ∙ frame_other seats f h k None single single_set' below own (λ x has. absurd cc) other

    none : (k : ℕ) → k ≡ h → frame_for seats' k ≡ None
    none k e = frame_none seats' k (λ g has. elim (cases_eq g f) [
      | inl same ↦
          let gone : seat seats' g ≡ None = ap (λ (ss : Seats). seat ss g) from.seats ∙ ap (seat (set seats f None)) same ∙ seat_same seats f None below in
          let no : None ≡ Some k = sym (ap (option_map (λ t. t.home.0)) gone) ∙ has in
          absurd cc
      | inr ne ↦ ne (single g f h (sym (ap (option_map (λ t. t.home.0)) (ap (λ (ss : Seats). seat ss g) from.seats ∙ seat_other seats f g None ne)) ∙ has ∙ ap Some e) from.had)
    ])

-- each other page is found where it was
module _ (seats seats' : Seats) (queue queue' : List Transfer) (f h : ℕ) where
  found_by : (k : ℕ) → frame_for seats' k ≡ frame_for seats k → ((g : ℕ) → frame_for seats k ≡ Some g → reads (transfer_of g queue') ≡ reads (transfer_of g queue)) → found_at seats' queue' k ≡ found_at seats queue k
  unfolding found_at
  found_by k same read = ap (found_in queue') same ∙ at (frame_for seats k) refl
    where
      at : (o : Option ℕ) → frame_for seats k ≡ o → found_in queue' o ≡ found_in queue o
      at None is = refl
      at (Some g) is = ap (λ (b : Bool). cond b None (Some (let x : Found = record { 0 = g } in x))) (read g is)

  apart_from : (k g : ℕ) → k ≢ h → home_at seats f ≡ Some h → frame_for seats k ≡ Some g → g ≢ f
  apart_from k g other given is e =
      let two : Some k ≡ Some h = sym (frame_has seats k g is) ∙ ap (home_at seats) e ∙ given in
      let same : k ≡ h = cc in
      other same

  pub came_found : IsSingle seats → ((g : ℕ) → home_at seats' g ≡ home_at seats g) → home_at seats f ≡ Some h → ((g : ℕ) → g ≢ f → reads (transfer_of g queue') ≡ reads (transfer_of g queue)) → (k : ℕ) → k ≢ h
      → found_at seats' queue' k ≡ found_at seats queue k
  came_found single homes given read k other = found_by k (frame_alike seats seats' k single homes) (λ g is. read g (apart_from k g other given is))

  pub left_found : IsSingle seats → IsSingle seats' → IsTakenFrom h f seats seats' → ((g : ℕ) → g ≢ f → reads (transfer_of g queue') ≡ reads (transfer_of g queue)) → (k : ℕ) → k ≢ h → found_at seats' queue' k ≡ found_at seats queue k
  left_found single single' from read k other = found_by k (left_frame k other) (λ g is. read g (apart_from k g other from.had is))
    where
      left_frame : (k : ℕ) → k ≢ h → frame_for seats' k ≡ frame_for seats k
      left_frame k other =
          ap (λ (ss : Seats). frame_for ss k) from.seats
          ∙ frame_other seats f h k None single (subst IsSingle from.seats single') (home_below seats f h from.had) (λ x has. (let two : Some x ≡ Some h = sym has ∙ from.had in let e : x ≡ h = cc in e)) (λ x has. absurd cc) other

  -- the page that has come has its frame, and each other frame what it had
  pub tenants_came : ((g : ℕ) → g ≢ f → reads (transfer_of g queue') ≡ reads (transfer_of g queue)) → IsSingle seats → ((g : ℕ) → home_at seats' g ≡ home_at seats g) → home_at seats f ≡ Some h → reads (transfer_of f queue') ≡ false
      → (g : ℕ) → (tenant_at seats' queue' g ≡ Some h → ⊥) → tenant_at seats' queue' g ≡ tenant_left h (tenant_at seats queue g)
  tenants_came read single homes given own g apart = elim (cases_eq g f) [
    | inl e ↦ absurd (apart (ap (tenant_at seats' queue') e ∙ tenant_shown seats' queue' f own ∙ homes f ∙ given))
    | inr ne ↦ tenant_same seats seats' queue queue' g (homes g) (read g ne) ∙ sym (unlike (tenant_at seats queue g) (λ has. ne (single g f h (tenant_given seats queue g h has).0 given)))
  ]
    where
      unlike : (o : Option ℕ) → (o ≡ Some h → ⊥) → tenant_left h o ≡ o
      unlike None none = refl
      unlike (Some k) none = ap (λ (b : Bool). cond b None (Some k)) (ne_eqb k h (λ e. none (ap (λ (n : ℕ). let o : Option ℕ = Some n in o) e)))
