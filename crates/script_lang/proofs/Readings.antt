-- What stands behind each keyword: the fields of its event, in their order, and that they have one event.
use Rattle.std.proofs.Common.{◌≡◌, ℕ, ◌+◌, ◌≤◌, Bool, List, ◌++◌, length, codes, refl, sym, ◌∙◌, ap, subst, arith, take}
use Rattle.std.proofs.lemmas.List.{length-take-le}
use Rattle.machine_names.specs.declared.names.Tty.{Tty}
use Rattle.script_texts.specs.declared.event.Event.{Event}
use Rattle.script_texts.specs.declared.event.Event.TheVariants.{Login, TypeIn, File, Words, Poke, Start, Run, Tick, Evict, Drum, Auto, Examine, Forks, Page, Trace}
use Rattle.script_texts.specs.declared.event.WordRow.{WordRow}
use Rattle.script_texts.specs.Limits.{FitsRow}
use Rattle.machine_names.specs.Bounds.{IsDirName, IsFileName}
use Rattle.script_texts.specs.Script.{IsDecimal, IsOctal, IsTty, Spells, Types, WordFields}
use Rattle.script_texts.specs.Texts.{field, on_or_off}
use Rattle.script_lang.specs.Fields.{Begins, IsHead}
use Rattle.script_lang.proofs.Fronts.{IsNamed, begins_once, decimal_field, head_once, named_field, octal_field, switch_once, tty_field}
use Rattle.script_lang.proofs.KeywordBytes.{begins_keyword, mark}
use Rattle.script_lang.proofs.Characters.{typing}
use Rattle.script_lang.specs.Rows.{IsRow}
use Rattle.script_lang.proofs.RowWords.{fields_behind, one_row, rowing}
use Rattle.script_lang.proofs.Sequences.{one_sequence}

-- behind LOGIN: a terminal and a user
pub record IsLogin (rest : List ℕ) (event : Event) : Type 0 where
  pub t : Tty
  pub user : List ℕ
  pub is : event ≡ Login t user
  pub tty : Begins IsTty rest t user
  pub name : IsDirName user

pub login_parts : (rest : List ℕ) (e : Event) → Spells (codes "LOGIN " ++ rest) e → IsLogin rest e
login_parts rest (Login t user) h = record { t = t; user = user; is = refl; tty = record { front = h.0; whole = cc h.1; is = h.2 }; name = h.3 }
login_parts rest e h = absurd (omega (arith, ap mark (begins_keyword (codes "LOGIN " ++ rest) e h).1))

pub login_spells : (rest : List ℕ) (t : Tty) (x name : List ℕ) → Begins IsTty rest t x → (name ≡ x) × IsDirName x → Spells (codes "LOGIN " ++ rest) (Login t name)
login_spells rest t x name tty is = (tty.front, ap (λ l. codes "LOGIN " ++ l) (tty.whole ∙ ap (λ l. tty.front ++ field l) (sym is.0)), tty.is, subst IsDirName (sym is.0) is.1)

pub login_once : (rest : List ℕ) (e f : Event) → IsLogin rest e → IsLogin rest f → e ≡ f
login_once rest e f p q =
    let t = begins_once tty_field rest rest p.t q.t p.user q.user refl p.tty q.tty in
    let which : p.t ≡ q.t = t.0 in
    let user : p.user ≡ q.user = t.1 in
    p.is ∙ (cc (which, user) ∙ sym q.is)

-- behind TYPE: a terminal and characters
pub record IsTypeIn (rest : List ℕ) (event : Event) : Type 0 where
  pub t : Tty
  pub text : List ℕ
  pub x : List ℕ
  pub is : event ≡ TypeIn t text
  pub tty : Begins IsTty rest t x
  pub types : Types x text
  pub some : 1 ≤ length text
  pub most : length text ≤ 100
  pub short : length rest ≤ 251

pub type_in_parts : (rest : List ℕ) (e : Event) → Spells (codes "TYPE " ++ rest) e → IsTypeIn rest e
type_in_parts rest (TypeIn t text) h = record {
  t = t;
  text = text;
  x = h.1;
  is = refl;
  tty = record { front = h.0; whole = cc h.2; is = h.3 };
  types = h.4;
  some = h.5;
  most = h.6;
  short = omega (arith, h.7);
}
type_in_parts rest e h = absurd (omega (arith, ap mark (begins_keyword (codes "TYPE " ++ rest) e h).1))

pub type_in_spells : (rest : List ℕ) (t : Tty) (x text : List ℕ) → Begins IsTty rest t x → Types x text → 1 ≤ length text → length text ≤ 100 → length rest ≤ 251
    → Spells (codes "TYPE " ++ rest) (TypeIn t text)
type_in_spells rest t x text tty types some most short = (tty.front, x, ap (λ l. codes "TYPE " ++ l) tty.whole, tty.is, types, some, most, omega (arith, short))

pub type_in_once : (rest : List ℕ) (e f : Event) → IsTypeIn rest e → IsTypeIn rest f → e ≡ f
type_in_once rest e f p q =
    let t = begins_once tty_field rest rest p.t q.t p.x q.x refl p.tty q.tty in
    let which : p.t ≡ q.t = t.0 in
    let text : p.text ≡ q.text = one_sequence typing q.x p.text q.text (subst (λ x. Types x p.text) t.1 p.types) q.types in
    p.is ∙ (cc (which, text) ∙ sym q.is)

-- behind FILE: a name
pub record IsFile (rest : List ℕ) (event : Event) : Type 0 where
  pub is : event ≡ File rest
  pub name : IsFileName rest

pub file_parts : (rest : List ℕ) (e : Event) → Spells (codes "FILE " ++ rest) e → IsFile rest e
file_parts rest (File name) h = let same : rest ≡ name = cc h.0 in record { is = ap File (sym same); name = subst IsFileName (sym same) h.1 }
file_parts rest e h = absurd (omega (arith, ap mark (begins_keyword (codes "FILE " ++ rest) e h).1))

pub file_spells : (rest name : List ℕ) → (name ≡ rest) × IsFileName rest → Spells (codes "FILE " ++ rest) (File name)
file_spells rest name is = (ap (λ l. codes "FILE " ++ l) (sym is.0), subst IsFileName (sym is.0) is.1)

pub file_once : (rest : List ℕ) (e f : Event) → IsFile rest e → IsFile rest f → e ≡ f
file_once rest e f p q = p.is ∙ sym q.is

-- behind WORDS: a name, a page, an offset and a row
pub record IsWords (rest : List ℕ) (event : Event) : Type 0 where
  pub name : List ℕ
  pub page : ℕ
  pub offset : ℕ
  pub row : WordRow
  pub x : List ℕ
  pub y : List ℕ
  pub b : List ℕ
  pub z : List ℕ
  pub is : event ≡ Words name page offset row
  pub named : Begins IsNamed rest name x
  pub paged : Begins (IsOctal 3) x page y
  pub head : IsHead y b z
  pub place : IsOctal 3 b offset
  pub fields : WordFields z (take row.count row.words)
  pub fits : FitsRow offset row

pub words_parts : (rest : List ℕ) (e : Event) → Spells (codes "WORDS " ++ rest) e → IsWords rest e
words_parts rest (Words name page offset row) h = record {
  name = name;
  page = page;
  offset = offset;
  row = row;
  x = h.0 ++ (field h.1 ++ h.2);
  y = h.1 ++ h.2;
  b = h.1;
  z = h.2;
  is = refl;
  named = record { front = name; whole = cc h.3; is = (refl, h.4) };
  paged = record { front = h.0; whole = refl; is = h.5 };
  head = record { whole = refl; plain = (octal_field 3).plain h.1 offset h.6; behind = fields_behind h.2 (take row.count row.words) h.7 };
  place = h.6;
  fields = h.7;
  fits = h.8;
}
words_parts rest e h = absurd (omega (arith, ap mark (begins_keyword (codes "WORDS " ++ rest) e h).1))

pub words_spells : (rest name x : List ℕ) (page : ℕ) (y b z : List ℕ) (offset : ℕ) (row : WordRow) → Begins IsNamed rest name x → Begins (IsOctal 3) x page y → IsHead y b z → IsOctal 3 b offset
    → WordFields z (take row.count row.words) → FitsRow offset row → Spells (codes "WORDS " ++ rest) (Words name page offset row)
words_spells rest name x page y b z offset row named paged head place fields fits =
    let front : rest ≡ name ++ field x = named.whole ∙ ap (λ l. l ++ field x) named.is.0 in
    let back : x ≡ paged.front ++ field (b ++ z) = paged.whole ∙ ap (λ l. paged.front ++ field l) head.whole in
    (paged.front, b, z, ap (λ l. codes "WORDS " ++ l) (front ∙ ap (λ l. name ++ field l) back), named.is.1, paged.is, place, fields, fits)

-- behind a name and a page the offset and the row stand where they are read
pub words_at : (rest name x : List ℕ) (page : ℕ) (y b z : List ℕ) → Begins IsNamed rest name x → Begins (IsOctal 3) x page y → IsHead y b z → (e : Event) (p : IsWords rest e)
    → IsOctal 3 b p.offset × WordFields z (take p.row.count p.row.words)
words_at rest name x page y b z named paged head e p =
    let n = begins_once named_field rest rest name p.name x p.x refl named p.named in
    let a = begins_once (octal_field 3) x p.x page p.page y p.y n.1 paged p.paged in
    let h = head_once y p.y b p.b z p.z a.1 head p.head in
    (subst (λ l. IsOctal 3 l p.offset) (sym h.0) p.place, subst (λ l. WordFields l (take p.row.count p.row.words)) (sym h.1) p.fields)

-- a row that is read has as many words as the row that the line spells
pub words_many : (b z : List ℕ) (offset : ℕ) (row : WordRow) (m : ℕ) (other : WordRow) → IsOctal 3 b offset → IsRow z row → IsOctal 3 b m × WordFields z (take other.count other.words) → FitsRow m other
    → (1 ≤ row.count) × (offset + row.count ≤ 512)
words_many b z offset row m other place is at fits =
    let same : take row.count row.words ≡ take other.count other.words = one_sequence rowing z (take row.count row.words) (take other.count other.words) is.fields at.1 in
    let mine : length (take row.count row.words) ≡ row.count = length-take-le row.count row.words (omega (arith, is.most, is.room)) in
    let yours : length (take other.count other.words) ≡ other.count = length-take-le other.count other.words (omega (arith, fits.most, fits.room)) in
    let count : row.count ≡ other.count = omega (arith, ap length same, mine, yours) in
    let start : offset ≡ m = (octal_field 3).once b offset m place at.0 in
    (omega (arith, count, fits.some), omega (arith, count, start, fits.within))

pub words_once : (rest : List ℕ) (e f : Event) → IsWords rest e → IsWords rest f → e ≡ f
words_once rest e f p q =
    let n = begins_once named_field rest rest p.name q.name p.x q.x refl p.named q.named in
    let a = begins_once (octal_field 3) p.x q.x p.page q.page p.y q.y n.1 p.paged q.paged in
    let b = head_once p.y q.y p.b q.b p.z q.z a.1 p.head q.head in
    let name : p.name ≡ q.name = n.0 in
    let page : p.page ≡ q.page = a.0 in
    let offset : p.offset ≡ q.offset = (octal_field 3).once q.b p.offset q.offset (subst (λ l. IsOctal 3 l p.offset) b.0 p.place) q.place in
    let row : p.row ≡ q.row = one_row p.z q.z p.offset q.offset p.row q.row b.1 p.fields q.fields p.fits q.fits in
    p.is ∙ (cc (name, page, offset, row) ∙ sym q.is)

-- behind POKE: a terminal, an address and a word
pub record IsPoke (rest : List ℕ) (event : Event) : Type 0 where
  pub t : Tty
  pub address : ℕ
  pub word : ℕ
  pub x : List ℕ
  pub y : List ℕ
  pub is : event ≡ Poke t address word
  pub tty : Begins IsTty rest t x
  pub place : Begins (IsOctal 6) x address y
  pub value : IsOctal 12 y word

pub poke_parts : (rest : List ℕ) (e : Event) → Spells (codes "POKE " ++ rest) e → IsPoke rest e
poke_parts rest (Poke t address word) h = record {
  t = t;
  address = address;
  word = word;
  x = h.1 ++ field h.2;
  y = h.2;
  is = refl;
  tty = record { front = h.0; whole = cc h.3; is = h.4 };
  place = record { front = h.1; whole = refl; is = h.5 };
  value = h.6;
}
poke_parts rest e h = absurd (omega (arith, ap mark (begins_keyword (codes "POKE " ++ rest) e h).1))

pub poke_spells : (rest : List ℕ) (t : Tty) (x : List ℕ) (address : ℕ) (y : List ℕ) (word : ℕ) → Begins IsTty rest t x → Begins (IsOctal 6) x address y → IsOctal 12 y word
    → Spells (codes "POKE " ++ rest) (Poke t address word)
poke_spells rest t x address y word tty place value =
    (tty.front, place.front, y, ap (λ l. codes "POKE " ++ l) (tty.whole ∙ ap (λ l. tty.front ++ field l) place.whole), tty.is, place.is, value)

pub poke_once : (rest : List ℕ) (e f : Event) → IsPoke rest e → IsPoke rest f → e ≡ f
poke_once rest e f p q =
    let t = begins_once tty_field rest rest p.t q.t p.x q.x refl p.tty q.tty in
    let a = begins_once (octal_field 6) p.x q.x p.address q.address p.y q.y t.1 p.place q.place in
    let which : p.t ≡ q.t = t.0 in
    let place : p.address ≡ q.address = a.0 in
    let value : p.word ≡ q.word = (octal_field 12).once q.y p.word q.word (subst (λ y. IsOctal 12 y p.word) a.1 p.value) q.value in
    p.is ∙ (cc (which, place, value) ∙ sym q.is)

-- behind START: a terminal and an address
pub record IsStart (rest : List ℕ) (event : Event) : Type 0 where
  pub t : Tty
  pub address : ℕ
  pub x : List ℕ
  pub is : event ≡ Start t address
  pub tty : Begins IsTty rest t x
  pub place : IsOctal 6 x address

pub start_parts : (rest : List ℕ) (e : Event) → Spells (codes "START " ++ rest) e → IsStart rest e
start_parts rest (Start t address) h = record { t = t; address = address; x = h.1; is = refl; tty = record { front = h.0; whole = cc h.2; is = h.3 }; place = h.4 }
start_parts rest e h = absurd (omega (arith, ap mark (begins_keyword (codes "START " ++ rest) e h).1))

pub start_spells : (rest : List ℕ) (t : Tty) (x : List ℕ) (address : ℕ) → Begins IsTty rest t x → IsOctal 6 x address → Spells (codes "START " ++ rest) (Start t address)
start_spells rest t x address tty place = (tty.front, x, ap (λ l. codes "START " ++ l) tty.whole, tty.is, place)

pub start_once : (rest : List ℕ) (e f : Event) → IsStart rest e → IsStart rest f → e ≡ f
start_once rest e f p q =
    let t = begins_once tty_field rest rest p.t q.t p.x q.x refl p.tty q.tty in
    let which : p.t ≡ q.t = t.0 in
    let place : p.address ≡ q.address = (octal_field 6).once q.x p.address q.address (subst (λ x. IsOctal 6 x p.address) t.1 p.place) q.place in
    p.is ∙ (cc (which, place) ∙ sym q.is)

-- behind EXAMINE: a terminal, a serial and an address
pub record IsExamine (rest : List ℕ) (event : Event) : Type 0 where
  pub t : Tty
  pub serial : ℕ
  pub address : ℕ
  pub x : List ℕ
  pub y : List ℕ
  pub is : event ≡ Examine t serial address
  pub tty : Begins IsTty rest t x
  pub fork : Begins (IsDecimal 6) x serial y
  pub place : IsOctal 6 y address

pub examine_parts : (rest : List ℕ) (e : Event) → Spells (codes "EXAMINE " ++ rest) e → IsExamine rest e
examine_parts rest (Examine t serial address) h = record {
  t = t;
  serial = serial;
  address = address;
  x = h.1 ++ field h.2;
  y = h.2;
  is = refl;
  tty = record { front = h.0; whole = cc h.3; is = h.4 };
  fork = record { front = h.1; whole = refl; is = h.5 };
  place = h.6;
}
examine_parts rest e h = absurd (omega (arith, ap mark (begins_keyword (codes "EXAMINE " ++ rest) e h).1))

pub examine_spells : (rest : List ℕ) (t : Tty) (x : List ℕ) (serial : ℕ) (y : List ℕ) (address : ℕ) → Begins IsTty rest t x → Begins (IsDecimal 6) x serial y → IsOctal 6 y address
    → Spells (codes "EXAMINE " ++ rest) (Examine t serial address)
examine_spells rest t x serial y address tty fork place =
    (tty.front, fork.front, y, ap (λ l. codes "EXAMINE " ++ l) (tty.whole ∙ ap (λ l. tty.front ++ field l) fork.whole), tty.is, fork.is, place)

pub examine_once : (rest : List ℕ) (e f : Event) → IsExamine rest e → IsExamine rest f → e ≡ f
examine_once rest e f p q =
    let t = begins_once tty_field rest rest p.t q.t p.x q.x refl p.tty q.tty in
    let s = begins_once (decimal_field 6) p.x q.x p.serial q.serial p.y q.y t.1 p.fork q.fork in
    let which : p.t ≡ q.t = t.0 in
    let fork : p.serial ≡ q.serial = s.0 in
    let place : p.address ≡ q.address = (octal_field 6).once q.y p.address q.address (subst (λ y. IsOctal 6 y p.address) s.1 p.place) q.place in
    p.is ∙ (cc (which, fork, place) ∙ sym q.is)

-- behind FORKS: a terminal
pub record IsForks (rest : List ℕ) (event : Event) : Type 0 where
  pub t : Tty
  pub is : event ≡ Forks t
  pub tty : IsTty rest t

pub forks_parts : (rest : List ℕ) (e : Event) → Spells (codes "FORKS " ++ rest) e → IsForks rest e
forks_parts rest (Forks t) h = let same : rest ≡ h.0 = cc h.1 in record { t = t; is = refl; tty = subst (λ x. IsTty x t) (sym same) h.2 }
forks_parts rest e h = absurd (omega (arith, ap mark (begins_keyword (codes "FORKS " ++ rest) e h).1))

pub forks_once : (rest : List ℕ) (e f : Event) → IsForks rest e → IsForks rest f → e ≡ f
forks_once rest e f p q = p.is ∙ (ap Forks (tty_field.once rest p.t q.t p.tty q.tty) ∙ sym q.is)

-- behind PAGE: a name and a page
pub record IsPage (rest : List ℕ) (event : Event) : Type 0 where
  pub name : List ℕ
  pub page : ℕ
  pub x : List ℕ
  pub is : event ≡ Page name page
  pub named : Begins IsNamed rest name x
  pub paged : IsOctal 3 x page

pub page_parts : (rest : List ℕ) (e : Event) → Spells (codes "PAGE " ++ rest) e → IsPage rest e
page_parts rest (Page name page) h = record { name = name; page = page; x = h.0; is = refl; named = record { front = name; whole = cc h.1; is = (refl, h.2) }; paged = h.3 }
page_parts rest e h = absurd (omega (arith, ap mark (begins_keyword (codes "PAGE " ++ rest) e h).1))

pub page_spells : (rest name x : List ℕ) (page : ℕ) → Begins IsNamed rest name x → IsOctal 3 x page → Spells (codes "PAGE " ++ rest) (Page name page)
page_spells rest name x page named paged = (x, ap (λ l. codes "PAGE " ++ l) (named.whole ∙ ap (λ l. l ++ field x) named.is.0), named.is.1, paged)

pub page_once : (rest : List ℕ) (e f : Event) → IsPage rest e → IsPage rest f → e ≡ f
page_once rest e f p q =
    let n = begins_once named_field rest rest p.name q.name p.x q.x refl p.named q.named in
    let name : p.name ≡ q.name = n.0 in
    let page : p.page ≡ q.page = (octal_field 3).once q.x p.page q.page (subst (λ x. IsOctal 3 x p.page) n.1 p.paged) q.paged in
    p.is ∙ (cc (name, page) ∙ sym q.is)

-- behind RUN, EVICT and DRUM: a number
pub record IsCount (make : ℕ → Event) (rest : List ℕ) (event : Event) : Type 0 where
  pub n : ℕ
  pub is : event ≡ make n
  pub decimal : IsDecimal 7 rest n

pub count_once : (make : ℕ → Event) (rest : List ℕ) (e f : Event) → IsCount make rest e → IsCount make rest f → e ≡ f
count_once make rest e f p q = p.is ∙ (ap make ((decimal_field 7).once rest p.n q.n p.decimal q.decimal) ∙ sym q.is)

counts : (make : ℕ → Event) (rest a : List ℕ) (n : ℕ) → rest ≡ a → IsDecimal 7 a n → IsCount make rest (make n)
counts make rest a n same h = record { n = n; is = refl; decimal = subst (λ x. IsDecimal 7 x n) (sym same) h }

-- behind RUN: a number of units
pub record IsRun (rest : List ℕ) (event : Event) : Type 0 where
  pub count : IsCount Run rest event
  pub some : 1 ≤ count.n
  pub few : count.n ≤ 1000000

pub run_parts : (rest : List ℕ) (e : Event) → Spells (codes "RUN " ++ rest) e → IsRun rest e
unfolding counts
run_parts rest (Run n) h = record { count = counts Run rest h.0 n (cc h.1) h.2; some = h.3; few = h.4 }
run_parts rest e h = absurd (omega (arith, ap mark (begins_keyword (codes "RUN " ++ rest) e h).1))

pub run_once : (rest : List ℕ) (e f : Event) → IsRun rest e → IsRun rest f → e ≡ f
run_once rest e f p q = count_once Run rest e f p.count q.count

pub evict_parts : (rest : List ℕ) (e : Event) → Spells (codes "EVICT " ++ rest) e → IsCount Evict rest e
evict_parts rest (Evict n) h = counts Evict rest h.0 n (cc h.1) h.2
evict_parts rest e h = absurd (omega (arith, ap mark (begins_keyword (codes "EVICT " ++ rest) e h).1))

pub drum_parts : (rest : List ℕ) (e : Event) → Spells (codes "DRUM " ++ rest) e → IsCount Drum rest e
drum_parts rest (Drum n) h = counts Drum rest h.0 n (cc h.1) h.2
drum_parts rest e h = absurd (omega (arith, ap mark (begins_keyword (codes "DRUM " ++ rest) e h).1))

-- behind AUTO and TRACE: ON or OFF
pub record IsSwitch (make : Bool → Event) (rest : List ℕ) (event : Event) : Type 0 where
  pub on : Bool
  pub is : event ≡ make on
  pub text : rest ≡ on_or_off on

pub switch_one : (make : Bool → Event) (rest : List ℕ) (e f : Event) → IsSwitch make rest e → IsSwitch make rest f → e ≡ f
switch_one make rest e f p q = p.is ∙ (ap make (switch_once p.on q.on (sym p.text ∙ q.text)) ∙ sym q.is)

pub auto_parts : (rest : List ℕ) (e : Event) → Spells (codes "AUTO " ++ rest) e → IsSwitch Auto rest e
auto_parts rest (Auto on) h = record { on = on; is = refl; text = cc h }
auto_parts rest e h = absurd (omega (arith, ap mark (begins_keyword (codes "AUTO " ++ rest) e h).1))

pub trace_parts : (rest : List ℕ) (e : Event) → Spells (codes "TRACE " ++ rest) e → IsSwitch Trace rest e
trace_parts rest (Trace on) h = record { on = on; is = refl; text = cc h }
trace_parts rest e h = absurd (omega (arith, ap mark (begins_keyword (codes "TRACE " ++ rest) e h).1))

pub tick_only : (line : List ℕ) (e : Event) → line ≡ codes "TICK" → Spells line e → e ≡ Tick
tick_only line Tick is h = refl
tick_only line e is h = absurd (omega (arith, ap mark (sym is ∙ (begins_keyword line e h).1)))
