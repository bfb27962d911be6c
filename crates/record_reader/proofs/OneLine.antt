-- What a line says is told by its bytes.
use Rattle.std.proofs.Common.{◌≡◌, ℕ, ◌^◌, ◌<◌, ◌≤◌, List, ◌++◌, length, codes, decimal, refl, sym, ◌∙◌, ap, subst, arith, append_assoc, length-append, lit<}
use Rattle.std.proofs.lemmas.Fmt.{length-decimal-le}
use Rattle.std.proofs.lemmas.List.{append_cancel_left}
use Rattle.outside.specs.declared.TheConstants.{MOST_DRUM_PAGES}
use Rattle.script_texts.specs.declared.event.Event.{Event}
use Rattle.script_texts.specs.declared.event.Step.TheVariants.{Outer, Unit as AUnit, Idle}
use Rattle.machine_names.specs.declared.names.ForkName.{ForkName}
use Rattle.machine_names.specs.Bounds.{IsForkName}
use Rattle.script_texts.specs.Script.{HasNoFeed, Spells, most_turns}
use Rattle.script_texts.specs.Texts.{field, name_text}
use Rattle.script_lang.specs.Fields.{IsCut, Lacks}
use Rattle.script_lang.proofs.CanonicalPlain.{decimal_without}
use Rattle.script_lang.proofs.CanonicalSpells.{short, spells}
use Rattle.line_buffer.proofs.Splits.{one_split, no_split}
use Rattle.script_texts.specs.RecordLines.{RecordLine, version, run, counts, said}
use Rattle.texts.proofs.RecordLines.{IsLine}
use Rattle.texts.proofs.RecordApart.{lead, no_event, one_line, plain_of}
use Rattle.record_reader.specs.Order.{FitsLine}
use Rattle.record_reader.specs.OneLine.{IsNumber, IsLineOf, IsEventLine}

-- its numbers are those that digits tell
pub has_digits : (l : RecordLine) → FitsLine l → IsLine l
has_digits (version pages) h = omega (arith, h.1)
has_digits (run (Outer e) n) h = (h.0.0, h.1)
has_digits (run (AUnit f) n) h = (omega (arith, h.0.0), omega (arith, h.0.2), omega (arith, h.1.1))
has_digits (run Idle n) h = omega (arith, h.1.1)
has_digits (counts reads writes) h = h

pub one_said : (l m : RecordLine) → FitsLine l → FitsLine m → said l ≡ said m → l ≡ m
one_said l m p q same = one_line l m (has_digits l p) (has_digits m q) same

pub plain_said : (l : RecordLine) → FitsLine l → HasNoFeed (said l)
plain_said l h = plain_of l (has_digits l h)

-- ---- a line that begins with a letter and a space

pub record IsUnits (rest : List ℕ) (f : ForkName) (n : ℕ) : Type 0 where
  pub whole : rest ≡ decimal f.tty.0 ++ field (decimal f.serial ++ field (decimal n))
  pub name : IsForkName f
  pub some : 1 ≤ n
  pub few : n ≤ most_turns

pub u_line : (rest : List ℕ) (l : RecordLine) → IsLineOf (codes "U " ++ rest) l → (f : ForkName) × (n : ℕ) × IsUnits rest f n
u_line rest (run (AUnit f) n) h = (
  f,
  n,
  record {
    whole = append_cancel_left (codes "U ") _ _ h.0 ∙ append_assoc (decimal f.tty.0) (field (decimal f.serial)) (field (decimal n));
    name = h.1.0;
    some = h.1.1.0;
    few = h.1.1.1;
  },
)
u_line rest (run (Outer e) n) h = absurd (no_event e _ refl (sym h.0))
u_line rest (run Idle n) h = absurd (omega (arith, ap lead h.0))
u_line rest (version pages) h = absurd (omega (arith, ap lead h.0))
u_line rest (counts reads writes) h = absurd (omega (arith, ap lead h.0))

pub i_line : (rest : List ℕ) (l : RecordLine) → IsLineOf (codes "I " ++ rest) l → (n : ℕ) × (rest ≡ decimal n) × (1 ≤ n) × (n ≤ most_turns)
i_line rest (run (AUnit f) n) h = absurd (omega (arith, ap lead h.0))
i_line rest (run (Outer e) n) h = absurd (no_event e _ refl (sym h.0))
i_line rest (run Idle n) h = (n, append_cancel_left (codes "I ") _ _ h.0, h.1.1.0, h.1.1.1)
i_line rest (version pages) h = absurd (omega (arith, ap lead h.0))
i_line rest (counts reads writes) h = absurd (omega (arith, ap lead h.0))

pub v_line : (rest : List ℕ) (l : RecordLine) → IsLineOf (codes "V " ++ rest) l → (n : ℕ) × (rest ≡ codes "2 " ++ decimal n) × (256 ≤ n) × (n ≤ MOST_DRUM_PAGES)
v_line rest (run (AUnit f) n) h = absurd (omega (arith, ap lead h.0))
v_line rest (run (Outer e) n) h = absurd (no_event e _ refl (sym h.0))
v_line rest (run Idle n) h = absurd (omega (arith, ap lead h.0))
v_line rest (version pages) h = (pages, append_cancel_left (codes "V ") _ _ h.0, h.1.0, h.1.1)
v_line rest (counts reads writes) h = absurd (omega (arith, ap lead h.0))

pub e_line : (rest : List ℕ) (l : RecordLine) → IsLineOf (codes "E " ++ rest) l → (m : ℕ) × (n : ℕ) × (rest ≡ decimal m ++ field (decimal n)) × (m < 2 ^ 64) × (n < 2 ^ 64)
e_line rest (run (AUnit f) n) h = absurd (omega (arith, ap lead h.0))
e_line rest (run (Outer e) n) h = absurd (no_event e _ refl (sym h.0))
e_line rest (run Idle n) h = absurd (omega (arith, ap lead h.0))
e_line rest (version pages) h = absurd (omega (arith, ap lead h.0))
e_line rest (counts reads writes) h = (reads, writes, append_cancel_left (codes "E ") _ _ h.0, h.1.0, h.1.1)

-- and one that begins with none of the four letters and a space
pub other_line : (text : List ℕ) (l : RecordLine) → ((rest : List ℕ) → text ≡ codes "U " ++ rest → ⊥) → ((rest : List ℕ) → text ≡ codes "I " ++ rest → ⊥) → ((rest : List ℕ) → text ≡ codes "V " ++ rest → ⊥)
    → ((rest : List ℕ) → text ≡ codes "E " ++ rest → ⊥) → IsLineOf text l → (e : Event) × IsEventLine text e
other_line text (run (AUnit f) n) u i v e h = absurd (u _ h.0)
other_line text (run (Outer x) n) u i v e h = (x, (h.1.0.0, h.1.0.1, h.0))
other_line text (run Idle n) u i v e h = absurd (i _ h.0)
other_line text (version pages) u i v e h = absurd (v (codes "2 " ++ decimal pages) h.0)
other_line text (counts reads writes) u i v e h = absurd (e _ h.0)

-- ---- its fields

pub cut_number : (text front rest x : List ℕ) (n : ℕ) → n < 2 ^ 64 → IsCut 32 text front rest → text ≡ decimal n ++ field x → IsNumber front n × (rest ≡ x)
cut_number text front rest x n small cut same =
    let split = one_split 32 front (decimal n) rest x cut.first (decimal_without 32 n (omega arith) small) (sym cut.whole ∙ same) in
    ((small, split.0), split.1)

-- the numbers of a line of units
pub record AreUnits (a b c : List ℕ) (f : ForkName) (n : ℕ) : Type 0 where
  pub tty : IsNumber a f.tty.0
  pub serial : IsNumber b f.serial
  pub count : IsNumber c n
  pub name : IsForkName f
  pub some : 1 ≤ n
  pub few : n ≤ most_turns

pub units_begin : (rest : List ℕ) (l : RecordLine) → IsLineOf (codes "U " ++ rest) l → Lacks 32 rest → ⊥
units_begin rest l h lacks = let u = u_line rest l h in no_split 32 rest _ _ lacks u.2.whole

units_first : (rest a more : List ℕ) (f : ForkName) (n : ℕ) (u : IsUnits rest f n) → IsCut 32 rest a more → IsNumber a f.tty.0 × (more ≡ decimal f.serial ++ field (decimal n))
units_first rest a more f n u cut = cut_number rest a more _ f.tty.0 (omega (arith, u.name.0)) cut u.whole

pub units_middle : (rest a more : List ℕ) (l : RecordLine) → IsLineOf (codes "U " ++ rest) l → IsCut 32 rest a more → Lacks 32 more → ⊥
units_middle rest a more l h cut lacks =
    let u = u_line rest l h in
    no_split 32 more _ _ lacks (units_first rest a more u.0 u.1 u.2 cut).1

pub units_only : (rest a more b c : List ℕ) (l : RecordLine) → IsLineOf (codes "U " ++ rest) l → IsCut 32 rest a more → IsCut 32 more b c → (f : ForkName) × (n : ℕ) × AreUnits a b c f n
units_only rest a more b c l h cut then =
    let u = u_line rest l h in
    let first = units_first rest a more u.0 u.1 u.2 cut in
    let second = cut_number more b c _ u.0.serial (omega (arith, u.2.name.2)) then first.1 in
    (u.0, u.1, record { tty = first.0; serial = second.0; count = (omega (arith, u.2.few), second.1); name = u.2.name; some = u.2.some; few = u.2.few })

pub units_whole : (rest a more b c : List ℕ) (f : ForkName) (n : ℕ) → IsCut 32 rest a more → IsCut 32 more b c → AreUnits a b c f n → IsLineOf (codes "U " ++ rest) (run (AUnit f) n)
units_whole rest a more b c f n cut then are =
    let behind : more ≡ decimal f.serial ++ field (decimal n) = then.whole ∙ cc (are.serial.1, are.count.1) in
    let whole : rest ≡ decimal f.tty.0 ++ field (decimal f.serial ++ field (decimal n)) = cut.whole ∙ cc (are.tty.1, behind) in
    (ap (λ x. codes "U " ++ x) (whole ∙ sym (append_assoc (decimal f.tty.0) (field (decimal f.serial)) (field (decimal n)))), (are.name, (are.some, are.few)))

pub counts_begin : (rest : List ℕ) (l : RecordLine) → IsLineOf (codes "E " ++ rest) l → Lacks 32 rest → ⊥
counts_begin rest l h lacks = let e = e_line rest l h in no_split 32 rest _ _ lacks e.2

pub counts_only : (rest a b : List ℕ) (l : RecordLine) → IsLineOf (codes "E " ++ rest) l → IsCut 32 rest a b → (m : ℕ) × (n : ℕ) × IsNumber a m × IsNumber b n
counts_only rest a b l h cut =
    let e = e_line rest l h in
    let first = cut_number rest a b _ e.0 e.3 cut e.2 in
    (e.0, e.1, first.0, (e.4, first.1))

pub counts_whole : (rest a b : List ℕ) (m n : ℕ) → IsCut 32 rest a b → IsNumber a m → IsNumber b n → IsLineOf (codes "E " ++ rest) (counts m n)
counts_whole rest a b m n cut p q = (ap (λ x. codes "E " ++ x) (cut.whole ∙ cc (p.1, q.1)), (p.0, q.0))

-- ---- how long a line is

pub short_line : (l : RecordLine) → FitsLine l → length (said l) ≤ 256
short_line (version p) h = omega (arith, length-append (codes "V 2 ") (decimal p), length-decimal-le 20 p (lit< tt) (omega (arith, h.1)) (omega (arith, h.1)))
short_line (run (Outer e) n) h = short e h.0.0
short_line (run (AUnit f) n) h =
    let t = length-decimal-le 20 f.tty.0 (lit< tt) (omega (arith, h.0.0)) (omega (arith, h.0.0)) in
    let s = length-decimal-le 20 f.serial (lit< tt) (omega (arith, h.0.2)) (omega (arith, h.0.2)) in
    let c = length-decimal-le 20 n (lit< tt) (omega (arith, h.1.1)) (omega (arith, h.1.1)) in
    omega (arith, length-append (codes "U ") (name_text f ++ field (decimal n)), length-append (name_text f) (field (decimal n)), length-append (decimal f.tty.0) (field (decimal f.serial)), t, s, c)
short_line (run Idle n) h = omega (arith, length-append (codes "I ") (decimal n), length-decimal-le 20 n (lit< tt) (omega (arith, h.1.1)) (omega (arith, h.1.1)))
short_line (counts m n) h =
    let a = length-decimal-le 20 m (lit< tt) (omega (arith, h.0)) h.0 in
    let b = length-decimal-le 20 n (lit< tt) (omega (arith, h.1)) h.1 in
    omega (arith, length-append (codes "E ") (decimal m ++ field (decimal n)), length-append (decimal m) (field (decimal n)), a, b)

-- ---- an event's line

pub event_spelled : (text : List ℕ) (e : Event) → IsEventLine text e → Spells text e
event_spelled text e h = subst (λ t. Spells t e) (sym h.2) (spells e h.0)
