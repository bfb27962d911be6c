-- A turn, driven from one step to the next.
use Rattle.std.proofs.Common.{◌≡◌, inl, inr, ℕ, zero, suc, ◌-◌, ◌<◌, Bool, true, false, cond, Option, None, Some, Result, Ok, Err, refl, sym, ◌∙◌, ap, subst, arith, nat_cmp}
use Rattle.std.specs.Prelude.{is_some}
use Rattle.std.specs.Option.{option_or}
use Rattle.plain_model.specs.declared.call.End.{End}
use Rattle.plain_model.specs.declared.call.End.TheVariants.{Trap, Refused}
use Rattle.plain_model.specs.declared.call.TheConstants.{NO_PAGE}
use Rattle.plain_units.specs.declared.channel.TheConstants.{ILLEGAL_INSTRUCTION}
use Rattle.page_contracts.specs.declared.answers.Need.{Need}
use Rattle.plain_pages.specs.PlainPages.{NumberedPages}
use Rattle.plain_pages.specs.References.{Spot, in_map, in_file, Referred, granted, denied, full, reference, page_at}
use Rattle.page_contracts.specs.Pages.{Scene, frames_taken, touch_of}
use Rattle.plain_model.specs.Calls.{Turn, Came, Sight, turn_on, granted_or, ends}
use Rattle.machine_names.specs.declared.names.ForkName.{ForkName}
use Rattle.machine_names.specs.declared.names.Tty.{Tty}
use Rattle.machine_names.specs.declared.names.Slot.{Slot}
use Rattle.machine_names.specs.declared.names.FileNo.{FileNo}
use Rattle.machine_names.specs.declared.names.Kind.{Kind}
use Rattle.machine_names.specs.declared.names.Kind.TheVariants as kind
use Rattle.machine_names.specs.Orders.{FilePage, file_page}
use Rattle.plain_units.specs.declared.registers.Regs.{Regs}
use Rattle.plain_units.specs.Steps.{Steps, Ending}
use Rattle.call_turns.specs.declared.turn.Ask.{Ask}
use Rattle.call_turns.specs.declared.turn.Ask.TheVariants.{Sees, Finds, FindsFile, ReadsFile}
use Rattle.call_turns.specs.declared.turn.Told.{Told}
use Rattle.call_turns.specs.declared.turn.Grant.TheVariants.{Nothing}
use Rattle.call_turns.specs.declared.turn.Outcome.{Outcome}
use Rattle.call_turns.specs.declared.turn.WhenFull.{WhenFull}
use Rattle.call_turns.specs.declared.turn.WhenFull.TheVariants as full_as
use Rattle.call_turns.specs.declared.turn.Turn.{Turn as Step}
use Rattle.call_turns.specs.declared.turn.Turn.TheVariants.{Ends, Asks, Reads, Fills}
use Rattle.call_turns.specs.Turns.{asking, filling, full_end, reading, touching, turn_of}
use Rattle.call_turns.specs.Telling.{told, told_of, ask_need, entry_need, way_need, looks_need, page_need, touch_need}
use Rattle.call_turns.specs.Numbers.{by_number}
use Rattle.call_turns.specs.Needing.{DrivenTo, FirstNeeds, Matches, OneTouchNeeds, ReferredLater, TurnNeeds}
use Rattle.call_turns.proofs.Looks.{told_is, needed_is}
use Rattle.call_turns.proofs.Touches.{came_denied, came_full, came_granted, filled_is, frames_free, read_is, refers_in, refers_to, taken_scene, RefersTo}

module _ {F C S : Type 0} (later : S → Told → Step C S) (seen : Sight F ℕ) (scene : Scene) (p : NumberedPages) (owner : Tty) where
  abbrev sight : Sight ℕ ℕ
  sight = by_number seen

  abbrev Comes : Turn ℕ C → Result (Outcome C) Need → Type 0
  Comes t r = DrivenTo sight scene p owner t r

  abbrev whole : Step C S → ℕ → Turn ℕ C
  whole t n = turn_of owner later t n

  -- what is asked is told as it is, unless it needs something first
  asked_need : (what : Ask) (next : Told → Turn ℕ C) → looks_need sight scene p (asking what next) ≡ option_or (ask_need scene p what) (looks_need sight scene p (next (told_of p what)))
  unfolding looks_need
  asked_need (Sees s) next = refl
  asked_need (Finds s) next = refl
  asked_need (FindsFile f page) next = refl
  asked_need (ReadsFile f page offset) next = refl

  asked_on : (what : Ask) (next : Told → Turn ℕ C) → turn_on sight p (asking what next) ≡ turn_on sight p (next (told_of p what))
  unfolding turn_on
  asked_on (Sees s) next = refl
  asked_on (Finds s) next = refl
  asked_on (FindsFile f page) next = refl
  asked_on (ReadsFile f page offset) next = refl

  -- a turn that is known
  abbrev Known : Step C S → ℕ → Step C S → Result (Outcome C) Need → Type 0
  Known t most is r = t ≡ is → Comes (whole is most) r → Comes (whole t most) r

  known : (t is : Step C S) (most : ℕ) (r : Result (Outcome C) Need) → Known t most is r
  known t is most r e h = subst (λ x. Comes (whole x most) r) (sym e) h

  pub ended : (t : Step C S) (most : ℕ) (e : End C) → t ≡ Ends e → Comes (whole t most) (Ok (record { grant = Nothing; end = e }))
  unfolding turn_on looks_need
  ended t most e is = known t (Ends e) most (Ok (record { grant = Nothing; end = e })) is (at most)
    where
      at : (n : ℕ) → Comes (whole (Ends e) n) (Ok (record { grant = Nothing; end = e }))
      at zero = (refl, refl)
      at (suc n) = (refl, refl)

  pub reads_last : (t : Step C S) (most : ℕ) (s : Slot) (e : End C) (r : Result (Outcome C) Need) → t ≡ Reads s e → Comes (reading owner s e) r → Comes (whole t most) r
  reads_last t most s e r is h = known t (Reads s e) most r is (at most)
    where
      at : (n : ℕ) → Comes (whole (Reads s e) n) r
      at zero = h
      at (suc n) = h

  pub fills_last : (t : Step C S) (most : ℕ) (f : FileNo) (page : ℕ) (e : End C) (when : WhenFull) (r : Result (Outcome C) Need) → t ≡ Fills f page e when → Comes (filling owner (file_page f.0 page) e when) r → Comes (whole t most) r
  fills_last t most f page e when r is h = known t (Fills f page e when) most r is (at most)
    where
      at : (n : ℕ) → Comes (whole (Fills f page e when) n) r
      at zero = h
      at (suc n) = h

  pub spent : (t : Step C S) (most : ℕ) (what : Ask) (rest : S) → t ≡ Asks what rest → most ≡ 0 → Comes (whole t most) (Ok (record { grant = Nothing; end = Trap ILLEGAL_INSTRUCTION }))
  unfolding turn_on looks_need
  spent t zero what rest is z = known t (Asks what rest) zero (Ok (record { grant = Nothing; end = Trap ILLEGAL_INSTRUCTION })) is (refl, refl)
  spent t (suc n) what rest is z = absurd (omega (arith, z))

  -- what is asked needs nothing, and so the turn goes on
  pub goes_on : (t next : Step C S) (most : ℕ) (what : Ask) (rest : S) (reply : Told) (r : Result (Outcome C) Need) → t ≡ Asks what rest → 0 < most → Ok reply ≡ told (ask_need scene p what) (told_of p what) → next ≡ later rest reply
      → Comes (whole next (most - 1)) r → Comes (whole t most) r
  goes_on t next zero what rest reply r is h e n c = absurd (omega (arith, h))
  goes_on t next (suc m) what rest reply r is h e n c =
      let k : suc m - 1 ≡ m = omega arith in
      let k1 = told_is (ask_need scene p what) (told_of p what) reply e in
      let is_next : whole next (suc m - 1) ≡ whole (later rest (told_of p what)) m = ap (whole next) k ∙ ap (λ x. whole x m) (n ∙ ap (later rest) k1.1) in
      let needs = asked_need what (λ x. whole (later rest x) m) ∙ ap (λ o. option_or o (looks_need sight scene p (whole (later rest (told_of p what)) m))) k1.0 in
      let moved : Comes (whole (later rest (told_of p what)) m) r = subst (λ x. Comes x r) is_next c in
      known t (Asks what rest) (suc m) r is
      (subst (λ x. Matches p owner r (looks_need sight scene p (whole (Asks what rest) (suc m))) x) (sym (asked_on what (λ x. whole (later rest x) m)))
      (subst (λ x. Matches p owner r x (turn_on sight p (whole (later rest (told_of p what)) m))) (sym needs) moved))

  -- it needs something
  pub stops : (t : Step C S) (most : ℕ) (what : Ask) (rest : S) (need : Need) → t ≡ Asks what rest → 0 < most → Err need ≡ told (ask_need scene p what) (told_of p what) → Comes (whole t most) (Err need)
  stops t zero what rest need is h e = absurd (omega (arith, h))
  stops t (suc m) what rest need is h e = known t (Asks what rest) (suc m) (Err need) is
      (asked_need what (λ x. whole (later rest x) m) ∙ ap (λ o. option_or o (looks_need sight scene p (whole (later rest (told_of p what)) m))) (needed_is (ask_need scene p what) (told_of p what) need e))

  -- what such a turn needs: what its steps need, and else what its end needs, which is the same where no map and no entry of one is another
  module _ (StepsNeed : Scene → NumberedPages → ForkName → Regs → Steps → (Scene → NumberedPages → Ending → Type 0) → Need → Type 0) (EndNeeds : Scene → NumberedPages → End C → Need → Type 0)
      (stays : (after : Scene) (q : NumberedPages) (e : End C) (n : Need) → after.map_away ≡ scene.map_away → q.maps ≡ p.maps → EndNeeds scene p e n → EndNeeds after q e n) where
    abbrev Needs : Turn ℕ C → Need → Type 0
    Needs t n = TurnNeeds sight StepsNeed OneTouchNeeds EndNeeds scene p t n

    abbrev Looked : Turn ℕ C → Need → Type 0
    Looked t n = FirstNeeds (looks_need sight scene p t) (EndNeeds scene p (turn_on sight p t).end n) n

    -- a look
    look_needs : (what : Ask) (next : Told → Turn ℕ C) (n : Need) → (Looked (next (told_of p what)) n → Needs (next (told_of p what)) n) → Looked (asking what next) n → Needs (asking what next) n
    unfolding turn_on looks_need
    look_needs (Sees s) next n rest h = by (entry_need scene p s) h
      where
        by : (o : Option Need) → FirstNeeds (option_or o (looks_need sight scene p (next (told_of p (Sees s))))) (EndNeeds scene p (turn_on sight p (next (told_of p (Sees s)))).end n) n → FirstNeeds o (Needs (next (told_of p (Sees s))) n) n
        by None h = rest h
        by (Some m) h = h
    look_needs (Finds s) next n rest h = by (way_need 4 scene p s) h
      where
        by : (o : Option Need) → FirstNeeds (option_or o (looks_need sight scene p (next (told_of p (Finds s))))) (EndNeeds scene p (turn_on sight p (next (told_of p (Finds s)))).end n) n → FirstNeeds o (Needs (next (told_of p (Finds s))) n) n
        by None h = rest h
        by (Some m) h = h
    look_needs (FindsFile f page) next n rest h = rest h
    look_needs (ReadsFile f page offset) next n rest h = by (page_need scene p (in_file (file_page f.0 page))) h
      where
        by : (o : Option Need) → FirstNeeds (option_or o (looks_need sight scene p (next (told_of p (ReadsFile f page offset))))) (EndNeeds scene p (turn_on sight p (next (told_of p (ReadsFile f page offset)))).end n) n
            → FirstNeeds o (Needs (next (told_of p (ReadsFile f page offset))) n) n
        by None h = rest h
        by (Some m) h = h

    -- a reference that leaves the maps
    module _ (at : Spot ℕ) (k : Kind) (e : End C) (when : WhenFull) (refers : RefersTo seen scene p owner e when at k) (keeps : (q : NumberedPages) → reference p at k owner ≡ granted q → q.maps ≡ p.maps) (n : Need) where
      abbrev taken : ℕ
      taken = frames_taken (touch_of p scene at k owner)

      abbrev Later : Referred nat_cmp → Type 0
      Later r = ReferredLater scene p taken r (λ after q what. EndNeeds after q (granted_or e (full_end when) what) n)

      later_needs : (r : Referred nat_cmp) → reference p at k owner ≡ r → EndNeeds scene p (turn_on sight p (touching owner at k e when)).end n → Later r
      unfolding turn_on
      later_needs (granted q) is h =
          let after : Scene = record scene { free_frames = scene.free_frames - taken } in
          let same : (turn_on sight p (touching owner at k e when)).end ≡ e = ap (λ (c : Came nat_cmp C). c.end) (came_granted seen scene p owner e when at k refers q is) in
          (after, taken_scene scene taken (frames_free p scene at k owner), stays after q e n refl (keeps q is) (subst (λ x. EndNeeds scene p x n) same h))
      later_needs (denied j) is h = subst (λ x. EndNeeds scene p x n) (ap (λ (c : Came nat_cmp C). c.end) (came_denied seen scene p owner e when at k refers j is)) h
      later_needs full is h = subst (λ x. EndNeeds scene p x n) (ap (λ (c : Came nat_cmp C). c.end) (came_full seen scene p owner e when at k refers is)) h

      touch_needs : FirstNeeds (touch_need scene p at k owner) (EndNeeds scene p (turn_on sight p (touching owner at k e when)).end n) n
          → OneTouchNeeds scene p owner at k (λ after q what. EndNeeds after q (granted_or e (full_end when) what) n) n
      touch_needs h = by (touch_need scene p at k owner) h
        where
          by : (o : Option Need) → FirstNeeds o (EndNeeds scene p (turn_on sight p (touching owner at k e when)).end n) n → FirstNeeds o (Later (reference p at k owner)) n
          by None h = later_needs (reference p at k owner) refl h
          by (Some m) h = h

    fill_needs : (f : FilePage ℕ) (e : End C) (when : WhenFull) (n : Need) → Looked (filling owner f e when) n → Needs (filling owner f e when) n
    unfolding looks_need
    fill_needs f e when n h = touch_needs (in_file f) kind.Write e when (refers_in seen scene p owner e when f kind.Write) (λ q g. (filled_is p owner f q g).1) n h

    read_keeps : (s : Slot) → is_some (page_at p (in_map s)) ≡ true → (q : NumberedPages) → reference p (in_map s) kind.Read owner ≡ granted q → q.maps ≡ p.maps
    read_keeps s there q g = elim (read_is p owner s there) [
      | inl same ↦ (let two : granted q ≡ granted p = sym g ∙ same in let one : q ≡ p = cc two in ap (λ (x : NumberedPages). x.maps) one)
      | inr refuses ↦ absurd (let two : granted q ≡ denied kind.Read = sym g ∙ refuses in cc two)
    ]

    abbrev behind : Slot → End C → Bool → Turn ℕ C
    behind s e b = cond b (touching owner (in_map s) kind.Read e full_as.Refused) (ends (Refused NO_PAGE))

    read_needs : (s : Slot) (e : End C) (n : Need) → Looked (reading owner s e) n → Needs (reading owner s e) n
    unfolding turn_on looks_need
    read_needs s e n h = by (way_need 4 scene p s) h
      where
        rest : (b : Bool) → is_some (page_at p (in_map s)) ≡ b → Looked (behind s e b) n → Needs (behind s e b) n
        rest true is h = touch_needs (in_map s) kind.Read e full_as.Refused (refers_to seen scene p owner e full_as.Refused s kind.Read) (read_keeps s is) n h
        rest false is h = h

        by : (o : Option Need) → FirstNeeds (option_or o (looks_need sight scene p (behind s e (is_some (page_at p (in_map s)))))) (EndNeeds scene p (turn_on sight p (behind s e (is_some (page_at p (in_map s))))).end n) n
            → FirstNeeds o (Needs (behind s e (is_some (page_at p (in_map s)))) n) n
        by None h = rest (is_some (page_at p (in_map s))) refl h
        by (Some m) h = h

    pub turn_needs : (t : Step C S) (most : ℕ) (n : Need) → Looked (whole t most) n → Needs (whole t most) n
    unfolding turn_on looks_need
    turn_needs (Ends e) zero n h = h
    turn_needs (Ends e) (suc m) n h = h
    turn_needs (Reads s e) zero n h = read_needs s e n h
    turn_needs (Reads s e) (suc m) n h = read_needs s e n h
    turn_needs (Fills f page e when) zero n h = fill_needs (file_page f.0 page) e when n h
    turn_needs (Fills f page e when) (suc m) n h = fill_needs (file_page f.0 page) e when n h
    turn_needs (Asks what rest) zero n h = h
    turn_needs (Asks what rest) (suc m) n h = look_needs what (λ r. whole (later rest r) m) n (λ l. turn_needs (later rest (told_of p what)) m n l) h
