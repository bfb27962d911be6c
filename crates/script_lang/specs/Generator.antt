-- The generated script: eight users each run one program with numbers drawn from a seed, while frames are evicted.
use Rattle.std.specs.Prelude.{ℕ, zero, suc, ◌+◌, ◌*◌, ◌/◌, ◌%◌, ◌^◌, List, [], ◌∷◌, ◌++◌, map, replicate, codes, Bool, true, false, ◌==◌, if◌then◌else◌, Option, None, Some}
use Rattle.std.specs.List.{range_with_len}
use Rattle.machine_names.specs.declared.names.Tty.{Tty}
use Rattle.script_texts.specs.declared.event.Event.{Event}
use Rattle.script_texts.specs.declared.event.Event.TheVariants.{Login, File, Words, Poke, Start, Run, Tick, Evict, Forks}
use Rattle.script_texts.specs.declared.event.WordRow.{WordRow}
use Rattle.script_texts.specs.Follows.{Shape, silent, turns, single, shape_of}

-- each number of the sequence is got from the one before
abbrev pub next_number : ℕ → ℕ
next_number x = (1103515245 * x + 12345) % 2 ^ 31

-- the number so many places behind one
abbrev pub number_after : ℕ → ℕ → ℕ
number_after zero x = x
number_after (suc n) x = number_after n (next_number x)

-- what is drawn below k where this is the last number
abbrev pub drawn : ℕ → ℕ → ℕ
drawn k x = (next_number x / 65536) % k

-- a seed gives the number before the first
abbrev pub first_number : ℕ → ℕ
first_number seed = seed % 2 ^ 31

abbrev pub terminal : ℕ → Tty
terminal t = record { 0 = t }

-- so many users log in, from a terminal on
unfoldable pub logins : ℕ → ℕ → List Event
logins t n = map (λ k. Login (terminal k) (codes "U")) (range_with_len t n)

abbrev pub generated_file : List ℕ
generated_file = codes "<BIG>OUT.BIN"

abbrev pub one_word : ℕ → WordRow
one_word w = record { count = 1; words = w ∷ replicate 7 0 }

-- so many pages of the file get a word, from a page on: one more than the page's number
unfoldable pub fills : ℕ → ℕ → List Event
fills p n = map (λ k. Words generated_file k 0 (one_word (k + 1))) (range_with_len p n)

-- AOS 0(2), ADD 2,4, SOJG 3,100, MOVEI 1,102, PBOUT and HALTF: counts up a word at each turn, a stride further on
abbrev pub program_words : List ℕ
program_words = 0o350002000000 ∷ 0o270100000004 ∷ 0o367140000100 ∷ 0o201040000102 ∷ 0o104000000074 ∷ 0o104000000170 ∷ []

-- words are put at an address and those behind it
abbrev pub pokes : ℕ → ℕ → List ℕ → List Event
pokes t address [] = []
pokes t address (w ∷ ws) = Poke (terminal t) address w ∷ pokes t (address + 1) ws

-- how many turns a program makes, and how far apart the words are that it counts up: an odd number of four pages
abbrev pub turns_drawn : ℕ → ℕ
turns_drawn x = 300 + drawn 100 x

abbrev pub stride_drawn : ℕ → ℕ
stride_drawn x = 2048 * (2 * drawn 32 x + 1)

-- a terminal's program is put at 100 octal, its numbers into accumulators 2 to 4, and is started
abbrev pub program : ℕ → ℕ → List Event
program t x =
    pokes t 0o100 program_words
    ++ (Poke (terminal t) 2 0o20 ∷ Poke (terminal t) 3 (turns_drawn x) ∷ Poke (terminal t) 4 (stride_drawn (next_number x)) ∷ Start (terminal t) 0o100 ∷ [])

-- so many terminals' programs, from a terminal on
unfoldable pub programs : ℕ → ℕ → ℕ → List Event
programs t zero x = []
programs t (suc n) x = program t x ++ programs (t + 1) n (number_after 2 x)

-- so many times a frame is drawn and evicted, and 500 units are run
unfoldable pub evictions : ℕ → ℕ → List Event
evictions zero x = []
evictions (suc n) x = Evict (drawn 160 x) ∷ Run 500 ∷ evictions n (next_number x)

-- so many terminals' forks are shown, from a terminal on
unfoldable pub shown : ℕ → ℕ → List Event
shown t n = map (λ k. Forks (terminal k)) (range_with_len t n)

-- the generated script of a seed
unfoldable pub big_events : ℕ → List Event
big_events seed =
    let x = first_number seed in
    logins 0 8 ++ (File generated_file ∷ (fills 0 64 ++ (programs 0 8 x ++ (evictions 40 (number_after 16 x) ++ (Tick ∷ shown 0 8)))))

-- whether an event is a step of its own
abbrev pub is_single : Shape → Bool
is_single silent = false
is_single (turns n) = false
is_single single = true

abbrev pub is_step : Event → Bool
is_step e = is_single (shape_of e)

-- the turns of a program are put into accumulator 3
abbrev pub turns_of_program : Event → Option ℕ
turns_of_program (Poke t address word) = if address == 3 then Some word else None
turns_of_program e = None
