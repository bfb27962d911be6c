-- A line begins with its event's keyword, and keywords differ in their first two bytes.
use Rattle.std.proofs.Common.{◌≡◌, ℕ, ◌+◌, ◌*◌, ◌≤◌, inl, inr, List, [], ◌++◌, get_or, codes, ap, arith}
use Rattle.script_texts.specs.declared.event.Event.{Event}
use Rattle.script_texts.specs.declared.event.Event.TheVariants.{Login, TypeIn, File, Words, Poke, Start, Run, Tick, Evict, Drum, Auto, Examine, Forks, Page, Trace}
use Rattle.script_texts.specs.Script.{IsBlank, Spells}
use Rattle.script_texts.specs.Texts.{field, on_or_off}

abbrev pub keyword : Event → List ℕ
keyword (Login t user) = codes "LOGIN"
keyword (TypeIn t text) = codes "TYPE"
keyword (File name) = codes "FILE"
keyword (Words name page offset row) = codes "WORDS"
keyword (Poke t address word) = codes "POKE"
keyword (Start t address) = codes "START"
keyword (Run n) = codes "RUN"
keyword Tick = codes "TICK"
keyword (Evict n) = codes "EVICT"
keyword (Drum n) = codes "DRUM"
keyword (Auto on) = codes "AUTO"
keyword (Examine t serial address) = codes "EXAMINE"
keyword (Forks t) = codes "FORKS"
keyword (Page name page) = codes "PAGE"
keyword (Trace on) = codes "TRACE"

pub begins_keyword : (line : List ℕ) (e : Event) → Spells line e → (rest : List ℕ) × (line ≡ keyword e ++ rest)
begins_keyword line (Login t user) h = (field (h.0 ++ field user), h.1)
begins_keyword line (TypeIn t text) h = (field (h.0 ++ field h.1), h.2)
begins_keyword line (File name) h = (field name, h.0)
begins_keyword line (Words name page offset row) h = (field (name ++ (field h.0 ++ (field h.1 ++ h.2))), h.3)
begins_keyword line (Poke t address word) h = (field (h.0 ++ (field h.1 ++ field h.2)), h.3)
begins_keyword line (Start t address) h = (field (h.0 ++ field h.1), h.2)
begins_keyword line (Run n) h = (field h.0, h.1)
begins_keyword line Tick h = ([], h)
begins_keyword line (Evict n) h = (field h.0, h.1)
begins_keyword line (Drum n) h = (field h.0, h.1)
begins_keyword line (Auto on) h = (field (on_or_off on), h)
begins_keyword line (Examine t serial address) h = (field (h.0 ++ (field h.1 ++ field h.2)), h.3)
begins_keyword line (Forks t) h = (field h.0, h.1)
begins_keyword line (Page name page) h = (field (name ++ field h.0), h.1)
begins_keyword line (Trace on) h = (field (on_or_off on), h)

-- the first two bytes of a line
abbrev pub mark : List ℕ → ℕ
mark line = get_or line 0 0 * 256 + get_or line 1 0

-- the first byte of a line, 0 where there is none
abbrev pub lead : List ℕ → ℕ
lead line = get_or line 0 0

spells_lead : (line : List ℕ) (e : Event) → Spells line e → 65 ≤ lead line
spells_lead line (Login t user) h = omega (arith, ap lead (begins_keyword line (Login t user) h).1)
spells_lead line e h = omega (arith, ap lead (begins_keyword line e h).1)

pub blank_spells_none : (line : List ℕ) (e : Event) → IsBlank line → Spells line e → ⊥
blank_spells_none line e (inl none) h = omega (arith, ap lead none, spells_lead line e h)
blank_spells_none line e (inr comment) h = omega (arith, ap lead comment.1, spells_lead line e h)
