-- The console script: which line spells which event, and which events a whole script has.
use Rattle.std.specs.Prelude.{◌≡◌, ◌⊎◌, ◌≢◌, ℕ, ◌+◌, ◌*◌, ◌-◌, ◌^◌, ◌<◌, ◌≤◌, List, [], ◌∷◌, ◌++◌, length, codes, All, take}
use Rattle.std.specs.List.{flat_map}
use Rattle.word36.specs.Octal.{IsOctalNumber, octal_value}
use Rattle.machine_names.specs.declared.names.Tty.{Tty}
use Rattle.script_texts.specs.declared.event.Event.{Event}
use Rattle.script_texts.specs.declared.event.Event.TheVariants.{Login, TypeIn, File, Words, Poke, Start, Run, Tick, Evict, Drum, Auto, Examine, Forks, Page, Trace}
use Rattle.machine_names.specs.Bounds.{IsTerminal, IsDirName, IsFileName}
use Rattle.script_texts.specs.Limits.{FitsRow}
use Rattle.script_texts.specs.Follows.{Shape, silent, turns, single, shape_of}
use Rattle.script_texts.specs.Texts.{field, on_or_off}

abbrev pub IsDigit : ℕ → Type 0
IsDigit c = (48 ≤ c) × (c < 58)

-- the number that decimal digits write
abbrev pub decimal_value : List ℕ → ℕ
decimal_value [] = 0
decimal_value (c ∷ cs) = (c - 48) * 10 ^ length cs + decimal_value cs

-- a field of 1 to so many decimal digits, zeros in front allowed
abbrev pub IsDecimal : ℕ → List ℕ → ℕ → Type 0
IsDecimal most text n = (1 ≤ length text) × (length text ≤ most) × All IsDigit text × (decimal_value text ≡ n)

-- a field of 1 to so many octal digits, zeros in front allowed
abbrev pub IsOctal : ℕ → List ℕ → ℕ → Type 0
IsOctal most text n = IsOctalNumber most text × (octal_value text ≡ n)

-- a terminal's field
abbrev pub IsTty : List ℕ → Tty → Type 0
IsTty text t = IsDecimal 2 text t.0 × IsTerminal t

-- what types one character: itself, or a backslash and three octal digits
abbrev pub TypesOne : List ℕ → ℕ → Type 0
TypesOne text c = ((text ≡ c ∷ []) × (32 ≤ c) × (c ≤ 126) × (c ≢ 92)) ⊎ ((digits : List ℕ) × (text ≡ 92 ∷ digits) × (length digits ≡ 3) × IsOctal 3 digits c × (c < 128))

-- what types characters, one after another
abbrev pub Types : List ℕ → List ℕ → Type 0
Types text [] = text ≡ []
Types text (c ∷ cs) = (front : List ℕ) × (rest : List ℕ) × (text ≡ front ++ rest) × TypesOne front c × Types rest cs

-- fields of words, each behind a space
abbrev pub WordFields : List ℕ → List ℕ → Type 0
WordFields text [] = text ≡ []
WordFields text (w ∷ ws) = (front : List ℕ) × (rest : List ℕ) × (text ≡ field front ++ rest) × IsOctal 12 front w × WordFields rest ws

-- a line of at most 256 bytes spells an event; only what is typed could be longer
abbrev pub Spells : List ℕ → Event → Type 0
Spells line (Login t user) = (a : List ℕ) × (line ≡ codes "LOGIN " ++ (a ++ field user)) × IsTty a t × IsDirName user
Spells line (TypeIn t text) =
    (a : List ℕ) × (b : List ℕ) × (line ≡ codes "TYPE " ++ (a ++ field b)) × IsTty a t × Types b text × (1 ≤ length text) × (length text ≤ 100) × (length line ≤ 256)
Spells line (File name) = (line ≡ codes "FILE " ++ name) × IsFileName name
Spells line (Words name page offset row) =
    (a : List ℕ) × (b : List ℕ) × (c : List ℕ) × (line ≡ codes "WORDS " ++ (name ++ (field a ++ (field b ++ c)))) × IsFileName name
    × IsOctal 3 a page × IsOctal 3 b offset × WordFields c (take row.count row.words) × FitsRow offset row
Spells line (Poke t address word) =
    (a : List ℕ) × (b : List ℕ) × (c : List ℕ) × (line ≡ codes "POKE " ++ (a ++ (field b ++ field c))) × IsTty a t × IsOctal 6 b address × IsOctal 12 c word
Spells line (Start t address) = (a : List ℕ) × (b : List ℕ) × (line ≡ codes "START " ++ (a ++ field b)) × IsTty a t × IsOctal 6 b address
Spells line (Run n) = (a : List ℕ) × (line ≡ codes "RUN " ++ a) × IsDecimal 7 a n × (1 ≤ n) × (n ≤ 1000000)
Spells line Tick = line ≡ codes "TICK"
Spells line (Evict n) = (a : List ℕ) × (line ≡ codes "EVICT " ++ a) × IsDecimal 7 a n
Spells line (Drum n) = (a : List ℕ) × (line ≡ codes "DRUM " ++ a) × IsDecimal 7 a n
Spells line (Auto on) = line ≡ codes "AUTO " ++ on_or_off on
Spells line (Examine t serial address) =
    (a : List ℕ) × (b : List ℕ) × (c : List ℕ) × (line ≡ codes "EXAMINE " ++ (a ++ (field b ++ field c))) × IsTty a t × IsDecimal 6 b serial × IsOctal 6 c address
Spells line (Forks t) = (a : List ℕ) × (line ≡ codes "FORKS " ++ a) × IsTty a t
Spells line (Page name page) = (a : List ℕ) × (line ≡ codes "PAGE " ++ (name ++ field a)) × IsFileName name × IsOctal 3 a page
Spells line (Trace on) = line ≡ codes "TRACE " ++ on_or_off on

-- no line feed is among these bytes
abbrev pub HasNoFeed : List ℕ → Type 0
HasNoFeed bytes = All (λ c. c ≢ 10) bytes

-- an empty line, or a comment
abbrev pub IsBlank : List ℕ → Type 0
IsBlank line = (line ≡ []) ⊎ ((rest : List ℕ) × (line ≡ 59 ∷ rest))

-- a line without its line feed has no line feed in it and at most 256 bytes
pub record IsShort (line : List ℕ) : Type 0 where
  pub short : length line ≤ 256
  pub no_feed : HasNoFeed line

-- a line is one of the script, and gives these events: one, or none
abbrev pub Gives : List ℕ → List Event → Type 0
Gives line events =
    IsShort line × (((e : Event) × Spells line e × (events ≡ e ∷ [])) ⊎ (IsBlank line × (events ≡ [])))

-- the bytes of lines, each with its line feed
abbrev pub joined : List (List ℕ) → List ℕ
joined lines = flat_map (λ l. l ++ 10 ∷ []) lines

-- the events that lines give, in order
abbrev pub GiveAll : List (List ℕ) → List Event → Type 0
GiveAll [] events = events ≡ []
GiveAll (l ∷ ls) events = (mine : List Event) × (rest : List Event) × (events ≡ mine ++ rest) × Gives l mine × GiveAll ls rest

-- how many turns an event asks for
abbrev pub turns_asked : Shape → ℕ
turns_asked silent = 0
turns_asked (turns n) = n
turns_asked single = 0

abbrev pub turns_of : Event → ℕ
turns_of e = turns_asked (shape_of e)

-- how many turns events ask for
abbrev pub turns_in : List Event → ℕ
turns_in [] = 0
turns_in (e ∷ es) = turns_of e + turns_in es

-- how long a script may be, and how many turns it may ask for
abbrev pub most_bytes : ℕ
most_bytes = 16777216

abbrev pub most_turns : ℕ
most_turns = 1099511627776

-- whole lines, so many, and the events that they give
pub record AreLines (text : List ℕ) (count : ℕ) (events : List Event) : Type 0 where
  pub lines : List (List ℕ)
  pub whole : text ≡ joined lines
  pub many : length lines ≡ count
  pub gives : GiveAll lines events

-- a whole script, and the events that it has
pub record IsScript (text : List ℕ) (events : List Event) : Type 0 where
  pub count : ℕ
  pub lines : AreLines text count events
  pub few : turns_in events ≤ most_turns
  pub short : length text ≤ most_bytes

-- a line that is none of the script, or asks for too many turns behind those before it
abbrev pub IsBadLine : ℕ → List ℕ → Type 0
IsBadLine so_far line =
    (256 < length line) ⊎ (((e : Event) → Spells line e → ⊥) × (IsBlank line → ⊥)) ⊎ ((e : Event) × Spells line e × (most_turns < so_far + turns_of e))

-- Behind so many bytes and turns the text goes on with a bad line: one that ends within the limit, or
-- a last one without a line feed.
abbrev pub IsBadRest : ℕ → ℕ → List ℕ → Type 0
IsBadRest before so_far rest =
    ((line : List ℕ) × (more : List ℕ) × (rest ≡ line ++ 10 ∷ more) × HasNoFeed line × (before + length line < most_bytes) × IsBadLine so_far line)
    ⊎ ((rest ≢ []) × HasNoFeed rest × (before + length rest ≤ most_bytes))

-- Behind so many bytes the text passes the limit, and no line ends before that.
abbrev pub IsLongRest : ℕ → List ℕ → Type 0
IsLongRest before rest =
    (before ≤ most_bytes) × (most_bytes < before + length rest) × ((line : List ℕ) (more : List ℕ) → rest ≡ line ++ 10 ∷ more → most_bytes ≤ before + length line)

-- a text begins with lines of the script, and these are their events
pub record BeginsWith (text : List ℕ) (events : List Event) : Type 0 where
  pub front : List ℕ
  pub rest : List ℕ
  pub count : ℕ
  pub whole : text ≡ front ++ rest
  pub lines : AreLines front count events
  pub few : turns_in events ≤ most_turns

-- the first bad line of a script has this number, and these are the events before it
pub record StopsAt (number : ℕ) (text : List ℕ) (events : List Event) : Type 0 where
  pub begins : BeginsWith text events
  pub numbered : number ≡ begins.count + 1
  pub bad : IsBadRest (length begins.front) (turns_in events) begins.rest

-- a script is too long, and these are the events of its lines that end within the limit
pub record IsTooLong (text : List ℕ) (events : List Event) : Type 0 where
  pub begins : BeginsWith text events
  pub long : IsLongRest (length begins.front) begins.rest

-- these bytes were taken from a source that failed behind them: lines of the script with these events, and a
-- rest without a line feed, all within the limit
pub record IsReadTo (text : List ℕ) (events : List Event) : Type 0 where
  pub begins : BeginsWith text events
  pub broken : HasNoFeed begins.rest
  pub within : length text ≤ most_bytes
