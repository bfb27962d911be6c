-- Different records have different texts: no line has a line feed in it, and a line tells its event or its numbers.
use Rattle.std.proofs.Common.{◌≡◌, ◌≢◌, ℕ, ◌^◌, ◌<◌, ◌≤◌, List, [], ◌∷◌, ◌++◌, length, get_or, codes, decimal, refl, sym, ◌∙◌, ap, arith, append_assoc, length-append, lit≤, All}
use Rattle.std.proofs.lemmas.Fmt.{decimal_injective}
use Rattle.std.proofs.lemmas.List.{append_cancel_left}
use Rattle.std.proofs.lemmas.List.Elements.{All-head, All-tail}
use Rattle.script_texts.specs.declared.event.Event.{Event}
use Rattle.script_texts.specs.declared.event.Event.TheVariants.{Login, TypeIn, File, Words, Poke, Start, Run, Tick, Evict, Drum, Auto, Examine, Forks, Page, Trace}
use Rattle.script_texts.specs.declared.event.Step.{Step}
use Rattle.script_texts.specs.declared.event.Step.TheVariants.{Outer, Unit as AUnit, Idle}
use Rattle.script_texts.specs.Entries.{EntriesOf, FitsRecord}
use Rattle.script_texts.specs.Script.{HasNoFeed}
use Rattle.script_texts.specs.Texts.{field, line_of, record_text}
use Rattle.script_lang.proofs.CanonicalSpells.{same_event}
use Rattle.script_lang.proofs.CanonicalPlain.{decimal_without, plain_line, plain_then, plain_word}
use Rattle.line_buffer.proofs.Splits.{one_split}
use Rattle.script_texts.specs.RecordLines.{RecordLine, version, run, counts, said, said_all, entries_told}
use Rattle.texts.proofs.RecordLines.{FitsRun, IsLine, record_lines, record_texts, record_steps, record_fits, record_ends}

-- the first byte of a line, which tells the other lines apart
abbrev pub lead : List ℕ → ℕ
lead text = get_or text 0 0

-- the second byte of a line, which is a letter only where it is an event's
abbrev pub second : List ℕ → ℕ
second text = get_or text 1 0

second_letter : (e : Event) → 65 ≤ second (line_of e)
second_letter (Login t user) = lit≤ tt
second_letter (TypeIn t text) = lit≤ tt
second_letter (File name) = lit≤ tt
second_letter (Words name page offset row) = lit≤ tt
second_letter (Poke t address word) = lit≤ tt
second_letter (Start t address) = lit≤ tt
second_letter (Run n) = lit≤ tt
second_letter Tick = lit≤ tt
second_letter (Evict n) = lit≤ tt
second_letter (Drum n) = lit≤ tt
second_letter (Auto on) = lit≤ tt
second_letter (Examine t serial address) = lit≤ tt
second_letter (Forks t) = lit≤ tt
second_letter (Page name page) = lit≤ tt
second_letter (Trace on) = lit≤ tt

pub no_event : (e : Event) (text : List ℕ) → second text ≡ 32 → line_of e ≡ text → ⊥
no_event e text space same = omega (arith, second_letter e, ap second same, space)

-- a number before a space
one_number : (m n : ℕ) (x y : List ℕ) → m < 2 ^ 64 → n < 2 ^ 64 → decimal m ++ field x ≡ decimal n ++ field y → (m ≡ n) × (x ≡ y)
one_number m n x y p q same =
    let split = one_split 32 (decimal m) (decimal n) x y (decimal_without 32 m (omega arith) p) (decimal_without 32 n (omega arith) q) same in
    (decimal_injective m n p q split.0, split.1)

pub plain_of : (l : RecordLine) → IsLine l → HasNoFeed (said l)
plain_of (version pages) h = plain_word (codes "V 2 ") (decimal pages) refl (decimal_without 10 pages (omega arith) h)
plain_of (run (Outer e) n) h = plain_line e h.0
plain_of (run (AUnit f) n) h =
    plain_word (codes "U ") _ refl
    (plain_then (decimal f.tty.0 ++ field (decimal f.serial)) (decimal n)
    (plain_then (decimal f.tty.0) (decimal f.serial) (decimal_without 10 f.tty.0 (omega arith) h.0) (decimal_without 10 f.serial (omega arith) h.1)) (decimal_without 10 n (omega arith) h.2))
plain_of (run Idle n) h = plain_word (codes "I ") (decimal n) refl (decimal_without 10 n (omega arith) h)
plain_of (counts reads writes) h =
    plain_word (codes "E ") _ refl (plain_then (decimal reads) (decimal writes) (decimal_without 10 reads (omega arith) h.0) (decimal_without 10 writes (omega arith) h.1))

one_run : (s t : Step) (m n : ℕ) → FitsRun s m → FitsRun t n → said (run s m) ≡ said (run t n) → run s m ≡ run t n
one_run (Outer e) (Outer f) m n p q same =
    let here : e ≡ f = same_event e f p.0 q.0 same in
    let number : m ≡ n = p.1 ∙ sym q.1 in
    λ i. run (Outer (here i)) (number i)
one_run (AUnit f) (AUnit g) m n p q same =
    let cut = append_cancel_left (codes "U ") _ _ same in
    let regroup : decimal f.tty.0 ++ field (decimal f.serial ++ field (decimal m)) ≡ decimal g.tty.0 ++ field (decimal g.serial ++ field (decimal n)) =
    sym (append_assoc (decimal f.tty.0) (field (decimal f.serial)) (field (decimal m))) ∙ cut ∙ append_assoc (decimal g.tty.0) (field (decimal g.serial)) (field (decimal n)) in
    let first = one_number f.tty.0 g.tty.0 _ _ p.0 q.0 regroup in
    let then = one_number f.serial g.serial _ _ p.1 q.1 first.1 in
    let last : m ≡ n = decimal_injective m n p.2 q.2 then.1 in
    λ i. run (AUnit (record { tty = record { 0 = first.0 i }; serial = then.0 i })) (last i)
one_run Idle Idle m n p q same = ap (run Idle) (decimal_injective m n p q (append_cancel_left (codes "I ") _ _ same))
one_run (Outer e) (AUnit g) m n p q same = absurd (no_event e _ refl same)
one_run (Outer e) Idle m n p q same = absurd (no_event e _ refl same)
one_run (AUnit f) (Outer e) m n p q same = absurd (no_event e _ refl (sym same))
one_run Idle (Outer e) m n p q same = absurd (no_event e _ refl (sym same))
one_run (AUnit f) Idle m n p q same = absurd (omega (arith, ap lead same))
one_run Idle (AUnit f) m n p q same = absurd (omega (arith, ap lead same))

-- a text that begins with another letter, and a space, is that of no turns and of no event
no_run : (s : Step) (n : ℕ) (text : List ℕ) → second text ≡ 32 → lead text ≢ 85 → lead text ≢ 73 → said (run s n) ≡ text → ⊥
no_run (Outer e) n text space units idles same = no_event e text space same
no_run (AUnit f) n text space units idles same = units (sym (ap lead same))
no_run Idle n text space units idles same = idles (sym (ap lead same))

pub one_line : (l m : RecordLine) → IsLine l → IsLine m → said l ≡ said m → l ≡ m
one_line (version m) (version n) p q same = ap version (decimal_injective m n p q (append_cancel_left (codes "V 2 ") _ _ same))
one_line (run s m) (run t n) p q same = one_run s t m n p q same
one_line (counts m n) (counts m' n') p q same =
    let first = one_number m m' _ _ p.0 q.0 (append_cancel_left (codes "E ") _ _ same) in
    let last : n ≡ n' = decimal_injective n n' p.1 q.1 first.1 in
    λ i. counts (first.0 i) (last i)
one_line (version pages) (run s n) p q same = absurd (no_run s n (said (version pages)) refl (λ e. omega (arith, e)) (λ e. omega (arith, e)) (sym same))
one_line (counts m m') (run s n) p q same = absurd (no_run s n (said (counts m m')) refl (λ e. omega (arith, e)) (λ e. omega (arith, e)) (sym same))
one_line (run s n) (version pages) p q same = absurd (no_run s n (said (version pages)) refl (λ e. omega (arith, e)) (λ e. omega (arith, e)) same)
one_line (run s n) (counts m m') p q same = absurd (no_run s n (said (counts m m')) refl (λ e. omega (arith, e)) (λ e. omega (arith, e)) same)
one_line (version pages) (counts m n) p q same = absurd (omega (arith, ap lead same))
one_line (counts m n) (version pages) p q same = absurd (omega (arith, ap lead same))

pub first_line : (l : RecordLine) (ls : List RecordLine) → said_all (l ∷ ls) ≡ said l ++ 10 ∷ said_all ls
first_line l ls = append_assoc (said l) (10 ∷ []) (said_all ls)

some_bytes : (l : RecordLine) (ls : List RecordLine) → said_all (l ∷ ls) ≡ [] → ⊥
some_bytes l ls none = omega (arith, ap length (sym (first_line l ls) ∙ none), length-append (said l) (10 ∷ said_all ls))

same_lines : (ls ms : List RecordLine) → All IsLine ls → All IsLine ms → said_all ls ≡ said_all ms → ls ≡ ms
same_lines [] [] p q same = refl
same_lines [] (m ∷ ms) p q same = absurd (some_bytes m ms (sym same))
same_lines (l ∷ ls) [] p q same = absurd (some_bytes l ls same)
same_lines (l ∷ ls) (m ∷ ms) p q same =
    let p' = All-head IsLine l ls p in
    let q' = All-head IsLine m ms q in
    let split = one_split 10 (said l) (said m) (said_all ls) (said_all ms) (plain_of l p') (plain_of m q') (sym (first_line l ls) ∙ same ∙ first_line m ms) in
    let here : l ≡ m = one_line l m p' q' split.0 in
    let rest : ls ≡ ms = same_lines ls ms (All-tail IsLine l ls p) (All-tail IsLine m ms q) split.1 in
    cc (here, rest)

pub one_record : (ss ts : List Step) (reads writes reads' writes' : ℕ) → FitsRecord ss reads writes → FitsRecord ts reads' writes' → record_text ss reads writes ≡ record_text ts reads' writes'
    → (ss ≡ ts) × (reads ≡ reads') × (writes ≡ writes')
one_record ss ts reads writes reads' writes' p q same =
    let lines : record_lines ss reads writes ≡ record_lines ts reads' writes' =
    same_lines _ _ (record_fits ss reads writes p) (record_fits ts reads' writes' q) (record_texts ss reads writes ∙ same ∙ sym (record_texts ts reads' writes')) in
    let ends = record_ends ss ts reads writes reads' writes' lines in
    (sym (record_steps ss reads writes) ∙ ap entries_told lines ∙ record_steps ts reads' writes', ends.0, ends.1)

pub one_list : (text : List ℕ) (ss ts : List Step) → EntriesOf text ss → EntriesOf text ts → ss ≡ ts
one_list text ss ts p q = let same = one_record ss ts p.reads p.writes q.reads q.writes p.fits q.fits (sym p.whole ∙ q.whole) in same.0
