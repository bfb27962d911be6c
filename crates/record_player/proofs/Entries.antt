-- Entries that can be played, and how many a record tells.
use Rattle.std.proofs.Common.{◌≡◌, ℕ, suc, ◌+◌, ◌-◌, ◌<◌, ◌≤◌, List, [], ◌∷◌, ◌++◌, length, replicate, true, false, refl, sym, ◌∙◌, ap, arith, length-append, append_assoc}
use Rattle.std.specs.Prelude.{Option, None, Some}
use Rattle.std.proofs.lemmas.Grind.{flat_map-append}
use Rattle.std.proofs.lemmas.List.{append-nil, length-replicate, replicate-append-replicate}
use Rattle.script_texts.specs.declared.event.Step.{Step}
use Rattle.script_texts.specs.declared.event.Step.TheVariants.{Outer, Unit as AUnit, Idle}
use Rattle.script_texts.specs.RecordLines.{RecordLine, version, run, counts, said, said_all, told_by, entries_told}
use Rattle.script_texts.specs.Script.{most_turns}
use Rattle.script_texts.specs.Taker.{max_steps}
use Rattle.script_texts.specs.Texts.{ended}
use Rattle.plain_model.specs.State.{PlainState}
use Rattle.plain_model.specs.Run.{apply, state_after, AreLegal, IsLegalStep}
use Rattle.record_reader.specs.Order.{AreInOrder, AreRecordLines, FitsLine, turns_on, turns_on_all}
use Rattle.record_reader.specs.Verdicts.{most_record_bytes}
use Rattle.record_player.specs.Played.{ArePlayed, CanPlay}

-- ---- what is legal can be played

legal_once : (s : PlainState) (x : Step) → IsLegalStep true s x → IsLegalStep false s x
legal_once s (Outer e) legal = tt
legal_once s (AUnit f) legal = legal
legal_once s Idle legal = λ on. absurd (cc on)

pub legal_unmarked : (s : PlainState) (xs : List Step) → AreLegal true s xs → AreLegal false s xs
legal_unmarked s [] legal = tt
legal_unmarked s (x ∷ xs) legal = (legal_once s x legal.0, legal_unmarked (apply s x).state xs legal.1)

played_once : (s : PlainState) (x : Step) → IsLegalStep false s x → CanPlay s x
played_once s (Outer e) legal = tt
played_once s (AUnit f) legal = legal
played_once s Idle legal = tt

pub are_played : (s : PlainState) (xs : List Step) → AreLegal false s xs → ArePlayed s xs
are_played s [] legal = tt
are_played s (x ∷ xs) legal = (played_once s x legal.0, are_played (apply s x).state xs legal.1)

-- an entry that stands among others can be played there
pub played_at : (s : PlainState) (xs : List Step) (x : Step) (ys : List Step) → ArePlayed s (xs ++ x ∷ ys) → CanPlay (state_after s xs) x
played_at s [] x ys played = played.0
played_at s (z ∷ xs) x ys played = played_at (apply s z).state xs x ys played.1

-- ---- what lines tell

pub told_more : (read : List RecordLine) (l : RecordLine) → entries_told (read ++ l ∷ []) ≡ entries_told read ++ told_by l
told_more read l = flat_map-append told_by read (l ∷ []) ∙ ap (λ xs. entries_told read ++ xs) (append-nil (told_by l))

pub told_both : (read more : List RecordLine) → entries_told (read ++ more) ≡ entries_told read ++ entries_told more
told_both read more = flat_map-append told_by read more

-- equal entries, up to one and behind it
pub parted : (n k : ℕ) (x : Step) → k < n → replicate n x ≡ replicate k x ++ x ∷ replicate (n - (k + 1)) x
parted n k x less =
    let all : k + suc (n - (k + 1)) ≡ n = omega (arith, less) in
    sym (replicate-append-replicate k (suc (n - (k + 1))) x ∙ ap (λ i. replicate i x) all)

pub parted_at : (n k : ℕ) (x : Step) → k ≤ n → replicate n x ≡ replicate k x ++ replicate (n - k) x
parted_at n k x few =
    let all : k + (n - k) ≡ n = omega (arith, few) in
    sym (replicate-append-replicate k (n - k) x ∙ ap (λ i. replicate i x) all)

-- ---- how many they are

one_told : (l : RecordLine) → FitsLine l → length (told_by l) ≤ turns_on l + 1
one_told (version pages) fits = omega arith
one_told (run (Outer e) n) fits = omega (arith, length-replicate n (Outer e), fits.1)
one_told (run (AUnit f) n) fits = omega (arith, length-replicate n (AUnit f))
one_told (run Idle n) fits = omega (arith, length-replicate n Idle)
one_told (counts reads writes) fits = omega arith

few_told : (before : Option RecordLine) (read : List RecordLine) → AreInOrder before read → length (entries_told read) ≤ turns_on_all read + length read
few_told before [] order = omega arith
few_told before (l ∷ read) order = omega (arith, length-append (told_by l) (entries_told read), one_told l order.0, few_told (Some l) read order.2)

lines_short : (read : List RecordLine) → length read ≤ length (said_all read)
lines_short [] = omega arith
lines_short (l ∷ read) = omega (arith, length-append (ended (said l)) (said_all read), length-append (said l) (10 ∷ []), lines_short read)

-- no record tells more entries than this
pub most_entries : ℕ
most_entries = most_turns + most_record_bytes

pub few_entries : (read : List RecordLine) → AreRecordLines read → length (said_all read) ≤ most_record_bytes → length (entries_told read) ≤ turns_on_all read + most_record_bytes
few_entries read right short = omega (arith, few_told None read right.in_order, lines_short read, short)
