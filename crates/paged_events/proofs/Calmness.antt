-- Entries that come calmly are fair while they are calm.
use Rattle.std.proofs.Common.{◌≡◌, ℕ, zero, suc, ◌≤◌, List, [], ◌∷◌, ◌++◌, length, length-append, replicate, append_assoc, true, refl, sym, ◌∙◌, ap, subst, arith}
use Rattle.std.proofs.lemmas.List.{append-nil}
use Rattle.job_sched.specs.Schedules.{Schedule}
use Rattle.paged_events.specs.PassedOver.{AreNear, ComeCloser}
use Rattle.paged_events.proofs.PassedOver.{closer_fair, few_fair}
use Rattle.page_waits.specs.Calm.{AreRoomy, IsCalmlyFair, IsRoomy}
use Rattle.plain_model.specs.Run.{AreLegal, apply, state_after}
use Rattle.plain_model.specs.State.{PlainState}
use Rattle.script_texts.specs.declared.event.Event.{Event}
use Rattle.script_texts.specs.declared.event.Step.{Step}
use Rattle.script_texts.specs.declared.event.Step.TheVariants.{Idle, Outer}
use Rattle.paged_events.specs.Calmly.{ComeCalmly}

-- the first entries are calm, and those behind them
pub roomy_apart : (frames : ℕ) (s : PlainState) (xs ys : List Step) → AreRoomy frames s (xs ++ ys) → AreRoomy frames s xs × AreRoomy frames (state_after s xs) ys
roomy_apart frames s [] ys roomy = (tt, roomy)
roomy_apart frames s (x ∷ xs) ys roomy = let rest = roomy_apart frames (apply s x).state xs ys roomy.1 in ((roomy.0, rest.0), rest.1)

-- the last of legal entries are legal
legal_behind : (s : PlainState) (xs ys : List Step) → AreLegal true s (xs ++ ys) → AreLegal true (state_after s xs) ys
legal_behind s [] ys legal = legal
legal_behind s (x ∷ xs) ys legal = legal_behind (apply s x).state xs ys legal.1

module _ (frames : ℕ) where
  -- before entries that come calmly all are near
  near_before : (c : Schedule) (s : PlainState) (xs : List Step) (c' : Schedule) → ComeCalmly frames c s xs c' → AreNear s.forks c
  near_before c s [] c' all = all.0
  near_before c s (x ∷ xs) c' all = all.0

  -- entries behind entries
  pub calmly_append : (c : Schedule) (s : PlainState) (xs ys : List Step) (mid c' : Schedule) → ComeCalmly frames c s xs mid → (AreRoomy frames s xs → ComeCalmly frames mid (state_after s xs) ys c') → ComeCalmly frames c s (xs ++ ys) c'
  calmly_append c s [] ys mid c' first second = subst (λ (m : Schedule). ComeCalmly frames m s ys c') first.1 (second tt)
  calmly_append c s (x ∷ xs) ys mid c' first second = (
    first.0,
    λ room.
        let at = first.1 room in
        (at.0, at.1, at.2, calmly_append at.1 (apply s x).state xs ys mid c' at.3 (λ roomy. second (room, roomy))),
  )

  -- the first entries, where they are calm, bring closer whom they pass over
  pub calm_front : (c : Schedule) (s : PlainState) (xs ys : List Step) (c' : Schedule) → ComeCalmly frames c s (xs ++ ys) c' → AreRoomy frames s xs → AreLegal true s xs × (mid : Schedule) × ComeCloser c s xs mid
  calm_front c s [] ys c' all roomy = (tt, c, (near_before c s ys c' all, refl))
  calm_front c s (x ∷ xs) ys c' all roomy =
      let at = all.1 roomy.0 in
      let rest = calm_front at.1 (apply s x).state xs ys c' at.3 roomy.1 in
      ((at.0, rest.0), rest.1, (all.0, at.1, at.2, rest.2))

  -- ENTRIES THAT COME CALMLY are fair while they are calm
  pub calmly_fair : (c : Schedule) (s : PlainState) (steps : List Step) (c' : Schedule) → ComeCalmly frames c s steps c' → IsCalmlyFair frames s steps
  calmly_fair c s steps c' all = record {
    idle = λ before after is roomy f can.
        let same : steps ≡ (before ++ (Idle ∷ [])) ++ after = is ∙ sym (append_assoc before (Idle ∷ []) after) in
        let front = calm_front c s (before ++ (Idle ∷ [])) after c' (subst (λ (l : List Step). ComeCalmly frames c s l c') same all) roomy in
        (legal_behind s before (Idle ∷ []) front.0).0 refl f can;
    fair = λ f before passed after is roomy over.
        let same : steps ≡ (before ++ passed) ++ after = is ∙ sym (append_assoc before passed after) in
        let front = calm_front c s (before ++ passed) after c' (subst (λ (l : List Step). ComeCalmly frames c s l c') same all) roomy in
        closer_fair c s (before ++ passed) front.1 front.2 f before passed [] (ap (λ l. before ++ l) (sym (append-nil passed))) over;
  }

  -- legal entries that bring closer whom they pass over come calmly
  pub closer_calmly : (c : Schedule) (s : PlainState) (xs : List Step) (c' : Schedule) → AreLegal true s xs → ComeCloser c s xs c' → ComeCalmly frames c s xs c'
  closer_calmly c s [] c' legal all = all
  closer_calmly c s (x ∷ xs) c' legal all = (all.0, λ room. (legal.0, all.1, all.2, closer_calmly all.1 (apply s x).state xs c' legal.1 all.3))

  -- so many equal entries come calmly that do so where the first is calm
  pub rows_calmly : (c : Schedule) (s : PlainState) (n : ℕ) (x : Step) (c' : Schedule) → 1 ≤ n → AreNear s.forks c → (IsRoomy frames s → ComeCalmly frames c s (replicate n x) c') → ComeCalmly frames c s (replicate n x) c'
  rows_calmly c s zero x c' some near all = absurd (omega (arith, some))
  rows_calmly c s (suc n) x c' some near all = (near, λ room. (all room).1 room)

  pub rows_roomy : (s : PlainState) (n : ℕ) (x : Step) → 1 ≤ n → AreRoomy frames s (replicate n x) → IsRoomy frames s
  rows_roomy s zero x some roomy = absurd (omega (arith, some))
  rows_roomy s (suc n) x some roomy = roomy.0

  -- no entry, and one that is an event, are fair
  pub none_fair : (s : PlainState) → IsCalmlyFair frames s []
  none_fair s = record { idle = λ before after is. absurd (no_idle before after (ap length is)); fair = λ f before passed after is roomy over. few_fair s [] (omega arith) f before passed after is over }
    where
      no_idle : (before after : List Step) → 0 ≡ length (before ++ (Idle ∷ after)) → ⊥
      no_idle before after is = omega (arith, is, length-append before (Idle ∷ after))

  pub one_fair : (s : PlainState) (e : Event) → IsCalmlyFair frames s (Outer e ∷ [])
  one_fair s e = record { idle = λ before after is. absurd (no_idle before after is); fair = λ f before passed after is roomy over. few_fair s (Outer e ∷ []) (omega arith) f before passed after is over }
    where
      no_idle : (before after : List Step) → Outer e ∷ [] ≡ before ++ (Idle ∷ after) → ⊥
      no_idle [] after is = cc is
      no_idle (b ∷ bs) after is =
          let many : 1 ≡ length (b ∷ (bs ++ (Idle ∷ after))) = ap length is in
          omega (arith, many, length-append bs (Idle ∷ after))
