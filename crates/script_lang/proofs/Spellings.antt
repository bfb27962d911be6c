-- A line spells one event, which keeps its limits, and has at most 256 bytes.
use Rattle.std.proofs.Common.{◌≡◌, ℕ, inl, inr, true, false, ◌^◌, ◌<◌, ◌≤◌, List, [], ◌∷◌, ◌++◌, length, codes, sym, ap, subst, arith, length-append, take, All}
use Rattle.std.specs.Prelude.{decimal}
use Rattle.std.specs.List.{flat_map}
use Rattle.std.proofs.lemmas.Fmt.{length-decimal-le}
use Rattle.std.proofs.lemmas.List.{length-take-le}
use Rattle.std.proofs.lemmas.List.Elements.{All-append, All-cons, All-nil}
use Rattle.machine_names.specs.declared.names.Tty.{Tty}
use Rattle.script_texts.specs.declared.event.Event.{Event}
use Rattle.script_texts.specs.declared.event.Event.TheVariants.{Login, TypeIn, File, Words, Poke, Start, Run, Tick, Evict, Drum, Auto, Examine, Forks, Page, Trace}
use Rattle.script_texts.specs.Limits.{FitsEvent}
use Rattle.script_texts.specs.Script.{Gives, GiveAll, IsScript, IsTty, Spells}
use Rattle.script_texts.specs.Texts.{escaped, field, line_of, on_or_off}
use Rattle.script_lang.proofs.Characters.{types_longer, types_small}
use Rattle.script_lang.proofs.Fronts.{decimal_below, octal_below}
use Rattle.script_lang.proofs.Numbers.{decimal_value-below}
use Rattle.script_lang.proofs.Readings.{IsCount, IsExamine, IsFile, IsForks, IsLogin, IsPage, IsPoke, IsRun, IsStart, IsSwitch, IsTypeIn, IsWords, auto_parts, count_once, drum_parts, evict_parts, examine_once, examine_parts, file_once, file_parts, forks_once, forks_parts, login_once, login_parts, page_once, page_parts, poke_once, poke_parts, run_once, run_parts, start_once, start_parts, switch_one, tick_only, trace_parts, type_in_once, type_in_parts, words_once, words_parts}
use Rattle.script_lang.proofs.RowWords.{fields_short}

-- where what stands behind a keyword has one event, a line with the keyword spells one
one_behind : (key rest : List ℕ) (Is : List ℕ → Event → Type 0) → ((r : List ℕ) (e : Event) → Spells (key ++ r) e → Is r e) → ((r : List ℕ) (e f : Event) → Is r e → Is r f → e ≡ f)
    → (line : List ℕ) (e f : Event) → line ≡ key ++ rest → Spells line e → Spells line f → e ≡ f
one_behind key rest Is parts once line e f whole p q = once rest e f (parts rest e (subst (λ l. Spells l e) whole p)) (parts rest f (subst (λ l. Spells l f) whole q))

pub one_event : (line : List ℕ) (e f : Event) → Spells line e → Spells line f → e ≡ f
one_event line (Login t user) f h g = one_behind (codes "LOGIN ") (h.0 ++ field user) IsLogin login_parts login_once line (Login t user) f h.1 h g
one_event line (TypeIn t text) f h g = one_behind (codes "TYPE ") (h.0 ++ field h.1) IsTypeIn type_in_parts type_in_once line (TypeIn t text) f h.2 h g
one_event line (File name) f h g = one_behind (codes "FILE ") name IsFile file_parts file_once line (File name) f h.0 h g
one_event line (Words name page offset row) f h g =
    one_behind (codes "WORDS ") (name ++ (field h.0 ++ (field h.1 ++ h.2))) IsWords words_parts words_once line (Words name page offset row) f h.3 h g
one_event line (Poke t address word) f h g = one_behind (codes "POKE ") (h.0 ++ (field h.1 ++ field h.2)) IsPoke poke_parts poke_once line (Poke t address word) f h.3 h g
one_event line (Start t address) f h g = one_behind (codes "START ") (h.0 ++ field h.1) IsStart start_parts start_once line (Start t address) f h.2 h g
one_event line (Run n) f h g = one_behind (codes "RUN ") h.0 IsRun run_parts run_once line (Run n) f h.1 h g
one_event line Tick f h g = sym (tick_only line f h g)
one_event line (Evict n) f h g = one_behind (codes "EVICT ") h.0 (IsCount Evict) evict_parts (count_once Evict) line (Evict n) f h.1 h g
one_event line (Drum n) f h g = one_behind (codes "DRUM ") h.0 (IsCount Drum) drum_parts (count_once Drum) line (Drum n) f h.1 h g
one_event line (Auto on) f h g = one_behind (codes "AUTO ") (on_or_off on) (IsSwitch Auto) auto_parts (switch_one Auto) line (Auto on) f h h g
one_event line (Examine t serial address) f h g =
    one_behind (codes "EXAMINE ") (h.0 ++ (field h.1 ++ field h.2)) IsExamine examine_parts examine_once line (Examine t serial address) f h.3 h g
one_event line (Forks t) f h g = one_behind (codes "FORKS ") h.0 IsForks forks_parts forks_once line (Forks t) f h.1 h g
one_event line (Page name page) f h g = one_behind (codes "PAGE ") (name ++ field h.0) IsPage page_parts page_once line (Page name page) f h.1 h g
one_event line (Trace on) f h g = one_behind (codes "TRACE ") (on_or_off on) (IsSwitch Trace) trace_parts (switch_one Trace) line (Trace on) f h h g

-- no digits of a terminal are fewer than its canonical ones
tty_longer : (a : List ℕ) (t : Tty) → IsTty a t → length (decimal t.0) ≤ length a
tty_longer a t h =
    let below : t.0 < 10 ^ length a = subst (λ n. n < 10 ^ length a) h.0.3 (decimal_value-below a h.0.2) in
    length-decimal-le (length a) t.0 (omega (arith, h.0.0)) below (omega (arith, h.1))

typed_fits : (a b text : List ℕ) (t : Tty) (line : List ℕ) → line ≡ codes "TYPE " ++ (a ++ field b) → length line ≤ 256 → length (decimal t.0) ≤ length a → length (flat_map escaped text) ≤ length b
    → length (line_of (TypeIn t text)) ≤ 256
typed_fits a b text t line whole short front back =
    omega (arith, ap length whole, length-append a (field b), length-append (decimal t.0) (field (flat_map escaped text)), short, front, back)

pub spelled_fits : (line : List ℕ) (e : Event) → Spells line e → FitsEvent e
spelled_fits line (Login t user) h = (h.2.1, h.3)
spelled_fits line (TypeIn t text) h = (h.3.1, h.5, h.6, types_small h.1 text h.4, typed_fits h.0 h.1 text t line h.2 h.7 (tty_longer h.0 t h.3) (types_longer h.1 text h.4))
spelled_fits line (File name) h = h.1
spelled_fits line (Words name page offset row) h = (h.4, octal_below 3 h.0 page h.5, h.8)
spelled_fits line (Poke t address word) h = (h.4.1, octal_below 6 h.1 address h.5, octal_below 12 h.2 word h.6)
spelled_fits line (Start t address) h = (h.3.1, octal_below 6 h.1 address h.4)
spelled_fits line (Run n) h = (h.3, h.4)
spelled_fits line Tick h = tt
spelled_fits line (Evict n) h = decimal_below 7 h.0 n h.2
spelled_fits line (Drum n) h = decimal_below 7 h.0 n h.2
spelled_fits line (Auto on) h = tt
spelled_fits line (Examine t serial address) h = (h.4.1, decimal_below 6 h.1 serial h.5, octal_below 6 h.2 address h.6)
spelled_fits line (Forks t) h = h.2.1
spelled_fits line (Page name page) h = (h.2, octal_below 3 h.0 page h.3)
spelled_fits line (Trace on) h = tt

pub spelled_short : (line : List ℕ) (e : Event) → Spells line e → length line ≤ 256
spelled_short line (Login t user) h = omega (arith, ap length h.1, length-append h.0 (field user), h.2.0.1, h.3.1)
spelled_short line (TypeIn t text) h = h.7
spelled_short line (File name) h = omega (arith, ap length h.0, h.1.short)
spelled_short line (Words name page offset row) h =
    let words : length (take row.count row.words) ≡ row.count = length-take-le row.count row.words (omega (arith, h.8.most, h.8.room)) in
    omega (
      arith,
      ap length h.3,
      length-append name (field h.0 ++ (field h.1 ++ h.2)),
      length-append h.0 (field h.1 ++ h.2),
      length-append h.1 h.2,
      h.4.short,
      h.5.0.1,
      h.6.0.1,
      fields_short h.2 (take row.count row.words) h.7,
      words,
      h.8.most,
    )
spelled_short line (Poke t address word) h = omega (arith, ap length h.3, length-append h.0 (field h.1 ++ field h.2), length-append h.1 (field h.2), h.4.0.1, h.5.0.1, h.6.0.1)
spelled_short line (Start t address) h = omega (arith, ap length h.2, length-append h.0 (field h.1), h.3.0.1, h.4.0.1)
spelled_short line (Run n) h = omega (arith, ap length h.1, h.2.1)
spelled_short line Tick h = omega (arith, ap length h)
spelled_short line (Evict n) h = omega (arith, ap length h.1, h.2.1)
spelled_short line (Drum n) h = omega (arith, ap length h.1, h.2.1)
spelled_short line (Auto true) h = omega (arith, ap length h)
spelled_short line (Auto false) h = omega (arith, ap length h)
spelled_short line (Examine t serial address) h = omega (arith, ap length h.3, length-append h.0 (field h.1 ++ field h.2), length-append h.1 (field h.2), h.4.0.1, h.5.1, h.6.0.1)
spelled_short line (Forks t) h = omega (arith, ap length h.1, h.2.0.1)
spelled_short line (Page name page) h = omega (arith, ap length h.1, length-append name (field h.0), h.2.short, h.3.0.1)
spelled_short line (Trace true) h = omega (arith, ap length h)
spelled_short line (Trace false) h = omega (arith, ap length h)

line_fits : (line : List ℕ) (es : List Event) → Gives line es → All FitsEvent es
line_fits line es (short, inl h) = subst (All FitsEvent) (sym h.2) (All-cons FitsEvent h.0 [] (spelled_fits line h.0 h.1) (All-nil FitsEvent))
line_fits line es (short, inr h) = subst (All FitsEvent) (sym h.1) (All-nil FitsEvent)

lines_fit : (ls : List (List ℕ)) (es : List Event) → GiveAll ls es → All FitsEvent es
lines_fit [] es h = subst (All FitsEvent) (sym h) (All-nil FitsEvent)
lines_fit (l ∷ ls) es h = subst (All FitsEvent) (sym h.2) (All-append FitsEvent h.0 h.1 (line_fits l h.0 h.3) (lines_fit ls h.1 h.4))

pub script_events_fit : (text : List ℕ) (es : List Event) → IsScript text es → All FitsEvent es
script_events_fit text es s = lines_fit s.lines.lines es s.lines.gives
