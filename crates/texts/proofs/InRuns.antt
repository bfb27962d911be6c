-- What is written entry by entry is the lines of the runs.
use Rattle.std.proofs.Common.{◌≡◌, ℕ, ◌+◌, List, [], ◌∷◌, ◌++◌, Bool, true, false, cond, None, Some, refl, sym, ◌∙◌, ap, arith, append_assoc}
use Rattle.std.proofs.lemmas.List.{append-nil}
use Rattle.std.specs.List.{flat_map}
use Rattle.script_texts.specs.declared.event.Event.{Event}
use Rattle.script_texts.specs.declared.event.Step.{Step}
use Rattle.script_texts.specs.declared.event.Step.TheVariants.{Outer, Unit as AUnit, Idle}
use Rattle.script_texts.specs.Texts.{ended, line_of, entries_text, put_entry, run_line, runs_of, same_turn}
use Rattle.texts.specs.OpenRun.{OpenRun, record_after}
use Rattle.texts.proofs.RecordLines.{same_step}

abbrev all_of : List (Step × ℕ) → List ℕ
all_of rs = flat_map (λ r. run_line r.0 r.1) rs

-- what is written of these runs behind the one that is open
abbrev rest_of : OpenRun → List (Step × ℕ) → List ℕ
rest_of None rs = all_of rs
rest_of (Some o) [] = run_line o.0 o.1
rest_of (Some o) (r ∷ rs) = cond (same_turn o.0 r.0) (run_line r.0 (o.1 + r.1) ++ all_of rs) (run_line o.0 o.1 ++ all_of (r ∷ rs))

-- an event joins no run, and no run joins it
event_alone : (e : Event) (rs : List (Step × ℕ)) → put_entry (Outer e) rs ≡ (Outer e, 1) ∷ rs
event_alone e [] = refl
event_alone e (r ∷ rs) = refl

no_turn : (s : Step) (e : Event) → same_turn s (Outer e) ≡ false
no_turn (Outer f) e = refl
no_turn (AUnit f) e = refl
no_turn Idle e = refl

-- a turn that opens a run
opens_at : (b : Bool) (s : Step) (r : Step × ℕ) (rs : List (Step × ℕ)) → same_turn s r.0 ≡ b
    → cond b (run_line r.0 (1 + r.1) ++ all_of rs) (run_line s 1 ++ all_of (r ∷ rs)) ≡ all_of (cond b ((s, r.1 + 1) ∷ rs) ((s, 1) ∷ r ∷ rs))
opens_at true s r rs h =
    let count : 1 + r.1 ≡ r.1 + 1 = omega arith in
    ap (λ k. run_line r.0 k ++ all_of rs) count ∙ ap (λ x. run_line x (r.1 + 1) ++ all_of rs) (sym (same_step s r.0 h))
opens_at false s r rs h = refl

opens : (s : Step) (rs : List (Step × ℕ)) → rest_of (Some (s, 1)) rs ≡ all_of (put_entry s rs)
opens s [] = sym (append-nil (run_line s 1))
opens s (r ∷ rs) = opens_at (same_turn s r.0) s r rs refl

-- a turn of the run that is open goes on with it
joins_at : (b : Bool) (s : Step) (n : ℕ) (r : Step × ℕ) (rs : List (Step × ℕ)) → same_turn s s ≡ true → same_turn s r.0 ≡ b
    → cond b (run_line r.0 (n + 1 + r.1) ++ all_of rs) (run_line s (n + 1) ++ all_of (r ∷ rs)) ≡ rest_of (Some (s, n)) (cond b ((s, r.1 + 1) ∷ rs) ((s, 1) ∷ r ∷ rs))
joins_at true s n r rs own h =
    let count : n + 1 + r.1 ≡ n + (r.1 + 1) = omega arith in
    ap (λ k. run_line r.0 k ++ all_of rs) count ∙ ap (λ x. run_line x (n + (r.1 + 1)) ++ all_of rs) (sym (same_step s r.0 h))
    ∙ sym (ap (λ b. cond b (run_line s (n + (r.1 + 1)) ++ all_of rs) (run_line s n ++ all_of ((s, r.1 + 1) ∷ rs))) own)
joins_at false s n r rs own h = sym (ap (λ b. cond b (run_line s (n + 1) ++ all_of (r ∷ rs)) (run_line s n ++ all_of ((s, 1) ∷ r ∷ rs))) own)

joins : (s : Step) (n : ℕ) (rs : List (Step × ℕ)) → same_turn s s ≡ true → rest_of (Some (s, n + 1)) rs ≡ rest_of (Some (s, n)) (put_entry s rs)
joins s n [] own = sym (append-nil (run_line s (n + 1))) ∙ sym (ap (λ b. cond b (run_line s (n + 1) ++ []) (run_line s n ++ all_of ((s, 1) ∷ []))) own)
joins s n (r ∷ rs) own = joins_at (same_turn s r.0) s n r rs own refl

-- another turn closes it
closes_at : (b : Bool) (o : Step × ℕ) (s : Step) (r : Step × ℕ) (rs : List (Step × ℕ)) → same_turn o.0 s ≡ false
    → run_line o.0 o.1 ++ all_of (cond b ((s, r.1 + 1) ∷ rs) ((s, 1) ∷ r ∷ rs)) ≡ rest_of (Some o) (cond b ((s, r.1 + 1) ∷ rs) ((s, 1) ∷ r ∷ rs))
closes_at true o s r rs other = sym (ap (λ b. cond b (run_line s (o.1 + (r.1 + 1)) ++ all_of rs) (run_line o.0 o.1 ++ all_of ((s, r.1 + 1) ∷ rs))) other)
closes_at false o s r rs other = sym (ap (λ b. cond b (run_line s (o.1 + 1) ++ all_of (r ∷ rs)) (run_line o.0 o.1 ++ all_of ((s, 1) ∷ r ∷ rs))) other)

closes : (o : Step × ℕ) (s : Step) (rs : List (Step × ℕ)) → same_turn o.0 s ≡ false → run_line o.0 o.1 ++ all_of (put_entry s rs) ≡ rest_of (Some o) (put_entry s rs)
closes o s [] other = sym (ap (λ b. cond b (run_line s (o.1 + 1) ++ []) (run_line o.0 o.1 ++ all_of ((s, 1) ∷ []))) other)
closes o s (r ∷ rs) other = closes_at (same_turn s r.0) o s r rs other

turn_at : (b : Bool) (o : Step × ℕ) (s : Step) (ss : List Step) → same_turn o.0 s ≡ b → ((run : OpenRun) → record_after run ss ≡ rest_of run (runs_of ss))
    → cond b [] (run_line o.0 o.1) ++ record_after (cond b (Some (s, o.1 + 1)) (Some (s, 1))) ss ≡ rest_of (Some o) (put_entry s (runs_of ss))
turn_at true o s ss h rest =
    let same : o.0 ≡ s = same_step o.0 s h in
    let own : same_turn s s ≡ true = ap (λ x. same_turn x s) (sym same) ∙ h in
    rest (Some (s, o.1 + 1)) ∙ joins s o.1 (runs_of ss) own ∙ ap (λ x. rest_of (Some (x, o.1)) (put_entry s (runs_of ss))) (sym same)
turn_at false o s ss h rest = ap (λ l. run_line o.0 o.1 ++ l) (rest (Some (s, 1)) ∙ opens s (runs_of ss)) ∙ closes o s (runs_of ss) h

recorded_after : (ss : List Step) (run : OpenRun) → record_after run ss ≡ rest_of run (runs_of ss)
recorded_after [] None = refl
recorded_after [] (Some o) = refl
recorded_after (Outer e ∷ ss) None = ap (λ l. ended (line_of e) ++ l) (recorded_after ss None) ∙ ap all_of (sym (event_alone e (runs_of ss)))
recorded_after (Outer e ∷ ss) (Some o) =
    append_assoc (run_line o.0 o.1) (ended (line_of e)) (record_after None ss) ∙ ap (λ l. run_line o.0 o.1 ++ (ended (line_of e) ++ l)) (recorded_after ss None)
    ∙ ap (λ l. run_line o.0 o.1 ++ all_of l) (sym (event_alone e (runs_of ss))) ∙ closes o (Outer e) (runs_of ss) (no_turn o.0 e)
recorded_after (AUnit f ∷ ss) None = recorded_after ss (Some (AUnit f, 1)) ∙ opens (AUnit f) (runs_of ss)
recorded_after (AUnit f ∷ ss) (Some o) = turn_at (same_turn o.0 (AUnit f)) o (AUnit f) ss refl (recorded_after ss)
recorded_after (Idle ∷ ss) None = recorded_after ss (Some (Idle, 1)) ∙ opens Idle (runs_of ss)
recorded_after (Idle ∷ ss) (Some o) = turn_at (same_turn o.0 Idle) o Idle ss refl (recorded_after ss)

pub recorded : (ss : List Step) → record_after None ss ≡ entries_text ss
recorded ss = recorded_after ss None
