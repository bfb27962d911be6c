-- The lines of a record, and that they tell its steps.
use Rattle.std.proofs.Common.{◌≡◌, ℕ, ◌+◌, ◌^◌, ◌<◌, ◌≤◌, List, [], ◌∷◌, ◌++◌, length, replicate, reverse, Bool, true, false, if◌then◌else◌, ◌==◌, ◌&&◌, refl, sym, ◌∙◌, ap, subst, arith, add-one, All}
use Rattle.std.specs.List.{flat_map}
use Rattle.std.proofs.lemmas.Bool.Decides.{nat_tests}
use Rattle.std.proofs.lemmas.Grind.{flat_map-append}
use Rattle.std.proofs.lemmas.List.{append-nil, reverse-append}
use Rattle.std.proofs.lemmas.List.Elements.{All-append, All-cons, All-head, All-nil, All-tail}
use Rattle.machine_names.specs.declared.names.ForkName.{ForkName}
use Rattle.script_texts.specs.declared.event.Step.{Step}
use Rattle.script_texts.specs.declared.event.Step.TheVariants.{Outer, Unit as AUnit, Idle}
use Rattle.script_texts.specs.Entries.{FitsRecord}
use Rattle.script_texts.specs.Limits.{FitsEvent, FitsStep}
use Rattle.script_texts.specs.Texts.{counts_line, ended, entries_text, put_entry, record_text, run_line, runs_of, same_turn}
use Rattle.script_texts.specs.RecordLines.{RecordLine, version, run, counts, said, said_all, told_by, entries_told, lines_of_runs}

-- an event stands alone on its line
abbrev pub IsSingle : Step → ℕ → Type 0
IsSingle (Outer e) n = n ≡ 1
IsSingle s n = Unit {0}

-- numbers that their digits tell
abbrev pub FitsRun : Step → ℕ → Type 0
FitsRun (Outer e) n = FitsEvent e × (n ≡ 1)
FitsRun (AUnit f) n = (f.tty.0 < 2 ^ 64) × (f.serial < 2 ^ 64) × (n < 2 ^ 64)
FitsRun Idle n = n < 2 ^ 64

abbrev pub IsLine : RecordLine → Type 0
IsLine (version pages) = pages < 2 ^ 64
IsLine (run s n) = FitsRun s n
IsLine (counts reads writes) = (reads < 2 ^ 64) × (writes < 2 ^ 64)

abbrev pub record_lines : List Step → ℕ → ℕ → List RecordLine
record_lines ss reads writes = lines_of_runs (runs_of ss) ++ counts reads writes ∷ []

-- their texts are the record
texts_in : (rs : List (Step × ℕ)) → said_all (lines_of_runs rs) ≡ flat_map (λ r. run_line r.0 r.1) rs
texts_in [] = refl
texts_in (r ∷ rs) = ap (λ l. run_line r.0 r.1 ++ l) (texts_in rs)

pub record_texts : (ss : List Step) (reads writes : ℕ) → said_all (record_lines ss reads writes) ≡ record_text ss reads writes
record_texts ss reads writes =
    flat_map-append (λ l. ended (said l)) (lines_of_runs (runs_of ss)) (counts reads writes ∷ []) ∙ ap (λ l. l ++ (counts_line reads writes ++ [])) (texts_in (runs_of ss))
    ∙ ap (λ l. entries_text ss ++ l) (append-nil (counts_line reads writes))

-- their steps are the record's
same_name : (f g : ForkName) → ((f.tty.0 == g.tty.0) && (f.serial == g.serial)) ≡ true → f ≡ g
same_name f g h =
    let tty : f.tty.0 ≡ g.tty.0 = grind (arith, nat_tests) in
    let serial : f.serial ≡ g.serial = grind (arith, nat_tests) in
    λ i. record { tty = record { 0 = tty i }; serial = serial i }

pub same_step : (s t : Step) → same_turn s t ≡ true → s ≡ t
same_step (AUnit f) (AUnit g) h = ap AUnit (same_name f g h)
same_step Idle Idle h = refl
same_step (Outer e) t h = absurd cc
same_step (AUnit f) (Outer e) h = absurd cc
same_step (AUnit f) Idle h = absurd cc
same_step Idle (Outer e) h = absurd cc
same_step Idle (AUnit f) h = absurd cc

step_more : (s t : Step) (n : ℕ) → same_turn s t ≡ true → replicate (n + 1) s ≡ s ∷ replicate n t
step_more s t n h = ap (λ k. replicate k s) (add-one n) ∙ ap (λ x. s ∷ replicate n x) (same_step s t h)

put_at : (b : Bool) (s : Step) (r : Step × ℕ) (rs : List (Step × ℕ)) → same_turn s r.0 ≡ b → entries_told (lines_of_runs (if b then (s, r.1 + 1) ∷ rs else (s, 1) ∷ r ∷ rs)) ≡ s ∷ entries_told (lines_of_runs (r ∷ rs))
put_at true s r rs h = ap (λ l. l ++ entries_told (lines_of_runs rs)) (step_more s r.0 r.1 h)
put_at false s r rs h = refl

put_steps : (s : Step) (rs : List (Step × ℕ)) → entries_told (lines_of_runs (put_entry s rs)) ≡ s ∷ entries_told (lines_of_runs rs)
put_steps s [] = refl
put_steps s (r ∷ rs) = put_at (same_turn s r.0) s r rs refl

steps_in : (ss : List Step) → entries_told (lines_of_runs (runs_of ss)) ≡ ss
steps_in [] = refl
steps_in (s ∷ ss) = put_steps s (runs_of ss) ∙ ap (λ l. s ∷ l) (steps_in ss)

pub record_steps : (ss : List Step) (reads writes : ℕ) → entries_told (record_lines ss reads writes) ≡ ss
record_steps ss reads writes =
    flat_map-append told_by (lines_of_runs (runs_of ss)) (counts reads writes ∷ []) ∙ append-nil (entries_told (lines_of_runs (runs_of ss))) ∙ steps_in ss

-- and their numbers are those that digits tell
abbrev FitRuns : ℕ → List (Step × ℕ) → Type 0
FitRuns most [] = Unit {0}
FitRuns most (r ∷ rs) = FitsStep r.0 × IsSingle r.0 r.1 × (r.1 ≤ most) × FitRuns most rs

more_fit : (most : ℕ) (rs : List (Step × ℕ)) → FitRuns most rs → FitRuns (most + 1) rs
more_fit most [] h = tt
more_fit most (r ∷ rs) h = (h.0, h.1, omega (arith, h.2), more_fit most rs h.3)

-- the first of a run stands alone, and a turn never does
single_first : (s : Step) → IsSingle s 1
single_first (Outer e) = refl
single_first (AUnit f) = tt
single_first Idle = tt

single_turn : (s t : Step) (n : ℕ) → same_turn s t ≡ true → IsSingle s n
single_turn (Outer e) t n h = absurd (cc h)
single_turn (AUnit f) t n h = tt
single_turn Idle t n h = tt

put_fits_at : (b : Bool) (most : ℕ) (s : Step) (r : Step × ℕ) (rs : List (Step × ℕ)) → same_turn s r.0 ≡ b → FitsStep s → FitRuns most (r ∷ rs) → FitRuns (most + 1) (if b then (s, r.1 + 1) ∷ rs else (s, 1) ∷ r ∷ rs)
put_fits_at true most s r rs is fits h = (fits, single_turn s r.0 (r.1 + 1) is, omega (arith, h.2), more_fit most rs h.3)
put_fits_at false most s r rs is fits h = (fits, single_first s, omega arith, more_fit most (r ∷ rs) h)

put_fits : (most : ℕ) (s : Step) (rs : List (Step × ℕ)) → FitsStep s → FitRuns most rs → FitRuns (most + 1) (put_entry s rs)
put_fits most s [] fits h = (fits, single_first s, omega arith, tt)
put_fits most s (r ∷ rs) fits h = put_fits_at (same_turn s r.0) most s r rs refl fits h

runs_fit : (ss : List Step) → All FitsStep ss → FitRuns (length ss) (runs_of ss)
runs_fit [] each = tt
runs_fit (s ∷ ss) each =
    let long : length ss + 1 ≡ length (s ∷ ss) = omega arith in
    let P : ℕ → Type 0 = λ n. FitRuns n (runs_of (s ∷ ss)) in
    subst P long (put_fits (length ss) s (runs_of ss) (All-head FitsStep s ss each) (runs_fit ss (All-tail FitsStep s ss each)))

line_fits : (s : Step) (n : ℕ) → FitsStep s → IsSingle s n → n < 2 ^ 64 → IsLine (run s n)
line_fits (Outer e) n h one small = (h.0, one)
line_fits (AUnit f) n h one small = (omega (arith, h.0), omega (arith, h.2), small)
line_fits Idle n h one small = small

lines_fit : (most : ℕ) (rs : List (Step × ℕ)) → most < 2 ^ 64 → FitRuns most rs → All IsLine (lines_of_runs rs)
lines_fit most [] small h = All-nil IsLine
lines_fit most (r ∷ rs) small h = All-cons IsLine (run r.0 r.1) (lines_of_runs rs) (line_fits r.0 r.1 h.0 h.1 (omega (arith, h.2, small))) (lines_fit most rs small h.3)

pub record_fits : (ss : List Step) (reads writes : ℕ) → FitsRecord ss reads writes → All IsLine (record_lines ss reads writes)
record_fits ss reads writes h =
    All-append IsLine (lines_of_runs (runs_of ss)) (counts reads writes ∷ []) (lines_fit (length ss) (runs_of ss) h.few (runs_fit ss h.fit)) (All-cons IsLine (counts reads writes) [] (h.few_reads, h.few_writes) (All-nil IsLine))

-- the last line
pub record_ends : (ss ts : List Step) (reads writes reads' writes' : ℕ) → record_lines ss reads writes ≡ record_lines ts reads' writes' → (reads ≡ reads') × (writes ≡ writes')
record_ends ss ts reads writes reads' writes' same =
    let ends : counts reads writes ∷ reverse (lines_of_runs (runs_of ss)) ≡ counts reads' writes' ∷ reverse (lines_of_runs (runs_of ts)) =
    sym (reverse-append (lines_of_runs (runs_of ss)) (counts reads writes ∷ [])) ∙ ap reverse same ∙ reverse-append (lines_of_runs (runs_of ts)) (counts reads' writes' ∷ []) in
    (cc ends, cc ends)
