-- A record that was written is read back.
use Rattle.std.proofs.Common.{◌≡◌, ℕ, ◌+◌, ◌≤◌, List, [], ◌∷◌, ◌++◌, length, Bool, true, false, if◌then◌else◌, Option, None, Some, refl, sym, ◌∙◌, ap, subst, arith, All}
use Rattle.std.proofs.lemmas.Grind.{flat_map-append}
use Rattle.std.proofs.lemmas.List.{append-nil}
use Rattle.std.proofs.lemmas.List.Elements.{All-head, All-tail}
use Rattle.script_texts.specs.declared.event.Step.{Step}
use Rattle.script_texts.specs.declared.event.Step.TheVariants.{Outer, Unit as AUnit, Idle}
use Rattle.script_texts.specs.Limits.{FitsStep}
use Rattle.script_texts.specs.Script.{most_turns}
use Rattle.script_texts.specs.Texts.{ended, runs_of, put_entry, same_turn}
use Rattle.script_texts.specs.RecordLines.{RecordLine, version, run, counts, said, said_all, entries_told, lines_of_runs}
use Rattle.texts.proofs.RecordLines.{record_lines, record_steps, record_texts, same_step}
use Rattle.record_reader.specs.Order.{turns_on, turns_on_all, FitsLine, FitsCount, MayFollow, AreInOrder, AreRecordLines}
use Rattle.record_reader.specs.Verdicts.{ReadsAs, whole, most_record_bytes}
use Rattle.record_reader.specs.Versions.{CanBeRead, IsSize, head_of, lines_of_record, size_told, whole_record}

-- ---- the text, the entries and the size

pub written : (size : Option ℕ) (ss : List Step) (reads writes : ℕ) → said_all (lines_of_record size ss reads writes) ≡ whole_record size ss reads writes
written size ss reads writes = flat_map-append (λ l. ended (said l)) (head_of size) (record_lines ss reads writes) ∙ ap (λ x. said_all (head_of size) ++ x) (record_texts ss reads writes)

pub told_again : (size : Option ℕ) (ss : List Step) (reads writes : ℕ) → entries_told (lines_of_record size ss reads writes) ≡ ss
told_again None ss reads writes = record_steps ss reads writes
told_again (Some pages) ss reads writes = record_steps ss reads writes

no_size : (rs : List (Step × ℕ)) (reads writes : ℕ) → size_told (lines_of_runs rs ++ counts reads writes ∷ []) ≡ None
no_size [] reads writes = refl
no_size (r ∷ rs) reads writes = refl

pub size_again : (size : Option ℕ) (ss : List Step) (reads writes : ℕ) → size_told (lines_of_record size ss reads writes) ≡ size
size_again None ss reads writes = no_size (runs_of ss) reads writes
size_again (Some pages) ss reads writes = refl

-- ---- their order

-- a count of turns is at least 1 and at most this; an event is one entry
abbrev IsCount : ℕ → Step → ℕ → Type 0
IsCount most (Outer e) n = n ≡ 1
IsCount most s n = (1 ≤ n) × (n ≤ most)

abbrev IsApart : Step × ℕ → List (Step × ℕ) → Type 0
IsApart r [] = Unit {0}
IsApart r (q ∷ qs) = same_turn r.0 q.0 ≡ false

-- each run fits, and is none of equal turns with the one behind it
abbrev AreRuns : ℕ → List (Step × ℕ) → Type 0
AreRuns most [] = Unit {0}
AreRuns most (r ∷ rs) = FitsStep r.0 × IsCount most r.0 r.1 × IsApart r rs × AreRuns most rs

more_count : (most : ℕ) (s : Step) (n : ℕ) → IsCount most s n → IsCount (most + 1) s n
more_count most (Outer e) n h = h
more_count most (AUnit f) n h = (h.0, omega (arith, h.1))
more_count most Idle n h = (h.0, omega (arith, h.1))

more_runs : (most : ℕ) (rs : List (Step × ℕ)) → AreRuns most rs → AreRuns (most + 1) rs
more_runs most [] h = tt
more_runs most (r ∷ rs) h = (h.0, more_count most r.0 r.1 h.1, h.2, more_runs most rs h.3)

first_count : (most : ℕ) (s : Step) → IsCount (most + 1) s 1
first_count most (Outer e) = refl
first_count most (AUnit f) = (omega arith, omega arith)
first_count most Idle = (omega arith, omega arith)

next_count : (most : ℕ) (s t : Step) (n : ℕ) → same_turn s t ≡ true → IsCount most t n → IsCount (most + 1) s (n + 1)
next_count most (AUnit f) (AUnit g) n h c = (omega arith, omega (arith, c.1))
next_count most Idle Idle n h c = (omega arith, omega (arith, c.1))
next_count most (Outer e) t n h c = absurd (cc h)
next_count most (AUnit f) (Outer e) n h c = absurd (cc h)
next_count most (AUnit f) Idle n h c = absurd (cc h)
next_count most Idle (Outer e) n h c = absurd (cc h)
next_count most Idle (AUnit f) n h c = absurd (cc h)

apart_still : (s t : Step) (m n : ℕ) (rs : List (Step × ℕ)) → same_turn s t ≡ true → IsApart (t, n) rs → IsApart (s, m) rs
apart_still s t m n [] h a = tt
apart_still s t m n (q ∷ qs) h a = ap (λ x. same_turn x q.0) (same_step s t h) ∙ a

put_runs : (most : ℕ) (s : Step) (r : Step × ℕ) (rs : List (Step × ℕ)) (b : Bool) → same_turn s r.0 ≡ b → FitsStep s → AreRuns most (r ∷ rs) → AreRuns (most + 1) (if b then (s, r.1 + 1) ∷ rs else (s, 1) ∷ r ∷ rs)
put_runs most s r rs true e fits h = (fits, next_count most s r.0 r.1 e h.1, apart_still s r.0 (r.1 + 1) r.1 rs e h.2, more_runs most rs h.3)
put_runs most s r rs false e fits h = (fits, first_count most s, e, more_runs most (r ∷ rs) h)

add_runs : (most : ℕ) (s : Step) (rs : List (Step × ℕ)) → FitsStep s → AreRuns most rs → AreRuns (most + 1) (put_entry s rs)
add_runs most s [] fits h = (fits, first_count most s, tt, tt)
add_runs most s (r ∷ rs) fits h = put_runs most s r rs (same_turn s r.0) refl fits h

are_runs : (ss : List Step) → All FitsStep ss → AreRuns (length ss) (runs_of ss)
are_runs [] each = tt
are_runs (s ∷ ss) each =
    let long : length ss + 1 ≡ length (s ∷ ss) = omega arith in
    subst (λ n. AreRuns n (runs_of (s ∷ ss))) long (add_runs (length ss) s (runs_of ss) (All-head FitsStep s ss each) (are_runs ss (All-tail FitsStep s ss each)))

fits_count : (most : ℕ) (s : Step) (n : ℕ) → most ≤ most_turns → IsCount most s n → FitsCount s n
fits_count most (Outer e) n few h = h
fits_count most (AUnit f) n few h = (h.0, omega (arith, h.1, few))
fits_count most Idle n few h = (h.0, omega (arith, h.1, few))

-- a line behind the first of the second version
abbrev IsBody : RecordLine → Type 0
IsBody (version pages) = ⊥
IsBody line = Unit {0}

behind_head : (pages : ℕ) (l : RecordLine) → IsBody l → MayFollow (Some (version pages)) l
behind_head pages (version p) body = body
behind_head pages (run s n) body = tt
behind_head pages (counts m n) body = tt

module _ (most reads writes : ℕ) (few : most ≤ most_turns) (last : FitsLine (counts reads writes)) where
  order : (s : Step) (n : ℕ) (rs : List (Step × ℕ)) → IsApart (s, n) rs → AreRuns most rs → AreInOrder (Some (run s n)) (lines_of_runs rs ++ counts reads writes ∷ [])
  order s n [] apart h = (last, tt, tt)
  order s n (r ∷ rs) apart h = ((h.0, fits_count most r.0 r.1 few h.1), apart, order r.0 r.1 rs h.2 h.3)

  -- behind what lets every line follow
  first : (before : Option RecordLine) → ((l : RecordLine) → IsBody l → MayFollow before l) → (rs : List (Step × ℕ)) → AreRuns most rs → AreInOrder before (lines_of_runs rs ++ counts reads writes ∷ [])
  first before follows [] h = (last, follows (counts reads writes) tt, tt)
  first before follows (r ∷ rs) h = ((h.0, fits_count most r.0 r.1 few h.1), follows (run r.0 r.1) tt, order r.0 r.1 rs h.2 h.3)

  all_in_order : (size : Option ℕ) → IsSize size → (rs : List (Step × ℕ)) → AreRuns most rs → AreInOrder None (head_of size ++ (lines_of_runs rs ++ counts reads writes ∷ []))
  all_in_order None fits rs h = first None (λ l body. tt) rs h
  all_in_order (Some pages) fits rs h = (fits, tt, first (Some (version pages)) (behind_head pages) rs h)

-- how many turns the lines have
abbrev turns_in : List (Step × ℕ) → ℕ
turns_in rs = turns_on_all (lines_of_runs rs)

one_turn : (s : Step) → turns_on (run s 1) ≤ 1
one_turn (Outer e) = omega arith
one_turn (AUnit f) = omega arith
one_turn Idle = omega arith

next_turn : (s t : Step) (n : ℕ) → same_turn s t ≡ true → turns_on (run s (n + 1)) ≤ turns_on (run t n) + 1
next_turn (AUnit f) (AUnit g) n h = omega arith
next_turn Idle Idle n h = omega arith
next_turn (Outer e) t n h = absurd (cc h)
next_turn (AUnit f) (Outer e) n h = absurd (cc h)
next_turn (AUnit f) Idle n h = absurd (cc h)
next_turn Idle (Outer e) n h = absurd (cc h)
next_turn Idle (AUnit f) n h = absurd (cc h)

put_turns : (s : Step) (r : Step × ℕ) (rs : List (Step × ℕ)) (b : Bool) → same_turn s r.0 ≡ b → turns_in (if b then (s, r.1 + 1) ∷ rs else (s, 1) ∷ r ∷ rs) ≤ turns_in (r ∷ rs) + 1
put_turns s r rs true e = omega (arith, next_turn s r.0 r.1 e)
put_turns s r rs false e = omega (arith, one_turn s)

add_turns : (s : Step) (rs : List (Step × ℕ)) → turns_in (put_entry s rs) ≤ turns_in rs + 1
add_turns s [] = omega (arith, one_turn s)
add_turns s (r ∷ rs) = put_turns s r rs (same_turn s r.0) refl

no_more_turns : (ss : List Step) → turns_in (runs_of ss) ≤ length ss
no_more_turns [] = omega arith
no_more_turns (s ∷ ss) = omega (arith, add_turns s (runs_of ss), no_more_turns ss)

turns_and_last : (rs : List (Step × ℕ)) (reads writes : ℕ) → turns_on_all (lines_of_runs rs ++ counts reads writes ∷ []) ≡ turns_in rs
turns_and_last [] reads writes = refl
turns_and_last (r ∷ rs) reads writes = ap (λ n. turns_on (run r.0 r.1) + n) (turns_and_last rs reads writes)

no_turns_before : (size : Option ℕ) (ls : List RecordLine) → turns_on_all (head_of size ++ ls) ≡ turns_on_all ls
no_turns_before None ls = refl
no_turns_before (Some pages) ls = omega arith

in_their_order : (size : Option ℕ) (ss : List Step) (reads writes : ℕ) → CanBeRead size ss reads writes → AreRecordLines (lines_of_record size ss reads writes)
in_their_order size ss reads writes h = record {
  in_order = all_in_order (length ss) reads writes h.few (h.few_reads, h.few_writes) size h.size_fits (runs_of ss) (are_runs ss h.fit);
  few = omega (arith, h.few, no_more_turns ss, turns_and_last (runs_of ss) reads writes, no_turns_before size (record_lines ss reads writes));
}

pub reads_whole : (size : Option ℕ) (ss : List Step) (reads writes : ℕ) → CanBeRead size ss reads writes → ReadsAs (whole_record size ss reads writes) (lines_of_record size ss reads writes) whole
reads_whole size ss reads writes h = record {
  rest = [];
  begins = record {
    text_is = sym (written size ss reads writes) ∙ sym (append-nil (said_all (lines_of_record size ss reads writes)));
    right = in_their_order size ss reads writes h;
    short = subst (λ text. length text ≤ most_record_bytes) (sym (written size ss reads writes)) h.short;
  };
  ends = refl;
}
