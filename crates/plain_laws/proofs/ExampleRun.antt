-- The run of the example, entry by entry.
use Rattle.std.proofs.Common.{◌≡◌, ℕ, ◌+◌, ◌%◌, List, [], ◌∷◌, ◌++◌, Bool, true, false, cond, Option, None, Some, refl, sym, ◌∙◌, ap, subst, inl, inr, arith, lit<}
use Rattle.std.specs.Prelude.{if◌then◌else◌, is_some, replicate, codes, slice_get, slice_set, slice_index}
use Rattle.std.specs.declared.cmp.Ordering.{Ordering}
use Rattle.std.specs.Ordering.{nat_cmp, eq_by_cmp, is_eq}
use Rattle.std.specs.Cmp.{IsTotalOrder, nat_cmp_total}
use Rattle.std.proofs.lemmas.Cmp.{tied_itself}
use Rattle.std.specs.FinMap as map
use Rattle.machine_names.specs.declared.names.ForkName.{ForkName}
use Rattle.machine_names.specs.declared.names.PageName.{PageName}
use Rattle.plain_pages.specs.declared.map.MapEntry.TheVariants.{Empty, Names}
use Rattle.plain_model.specs.declared.fork.Fork.{Fork}
use Rattle.plain_units.specs.declared.registers.Regs.{Regs}
use Rattle.script_texts.specs.declared.status.ForkStatus.{ForkStatus}
use Rattle.script_texts.specs.declared.status.ForkStatus.TheVariants.{Run, Halted}
use Rattle.plain_model.specs.declared.fork.TerminalMode.{TerminalMode}
use Rattle.plain_model.specs.declared.fork.TerminalMode.TheVariants.{Command, Program}
use Rattle.script_texts.specs.declared.event.Event.{Event}
use Rattle.script_texts.specs.declared.event.Event.TheVariants.{Login, Poke, Start}
use Rattle.script_texts.specs.declared.event.Item.TheVariants.{Char}
use Rattle.script_texts.specs.declared.event.Step.{Step}
use Rattle.script_texts.specs.declared.event.Step.TheVariants.{Outer, Unit as AUnit, Idle}
use Rattle.plain_model.specs.State.{PlainState, PlainJob, opening}
use Rattle.plain_pages.specs.PlainPages.{NamedPages, Map, Maps, opening_pages, first_serials}
use Rattle.machine_names.specs.Orders.{fork_cmp, page_cmp, name_cmp}
use Rattle.plain_pages.specs.Maps.{entry_at, full_access, single_link, chain, chain_within}
use Rattle.plain_pages.specs.Room.{live, HasRoom}
use Rattle.machine_names.specs.PageWords.{zero_words}
use Rattle.plain_pages.specs.References.{in_map, blank, make, make_all, makings, reference, granted, along_chain, page_at, words_of, slot_at}
use Rattle.plain_pages.specs.WholePages.{AreWhole}
use Rattle.machine_names.specs.declared.names.Slot.{Slot}
use Rattle.plain_pages.proofs.Whole.{opening_whole, map_whole, live_whole}
use Rattle.plain_pages.proofs.Makings.{make_whole}
use Rattle.plain_pages.proofs.ReferencesMade.{reference_stays}
use Rattle.plain_pages.proofs.ChainEquations.{named_chain}
use Rattle.plain_model.proofs.Equations.{unit_plain}
use Rattle.plain_model.specs.Forks.{top_fork, first_regs, psi_at_rest}
use Rattle.plain_model.specs.Inspections.{is_interrupted}
use Rattle.plain_pages.specs.declared.map.NewMap.TheVariants.{Empty as EmptyMap}
use Rattle.plain_pages.specs.NewMaps.{empty_map}
use Rattle.plain_model.specs.Events.{new_job, outer}
use Rattle.machine_names.specs.declared.names.Kind.TheVariants.{Execute}
use Rattle.plain_model.specs.Unit.{Effect, printed, shown_code, stop_text, over, unit}
use Rattle.plain_units.specs.Steps.{Planned, goes, is_accumulator, seen, word_taken, referred, goes_on, run, begun, plain_asked, plainly}
use Rattle.plain_units.specs.Addressing.{address, address_within, most_words}
use Rattle.plain_units.specs.Deeds.{deed_of, taken_of}
use Rattle.plain_units.specs.Instructions.{instruction, execute, takes, finishes, does}
use Rattle.plain_model.specs.Run.{apply, items_of, AreLegal, IsLegalStep}
use Rattle.script_texts.specs.Follows.{Follows}
use Rattle.plain_laws.specs.Example.{first_terminal, first_fork, movei_word, pbout_word, haltf_word, example_events, example_steps, example_items}
use Rattle.plain_model.specs.Trees.{unwaited, end_told}
use Rattle.machine_names.proofs.OrderLemmas.{fork_cmp_total, page_cmp_total}
use Rattle.plain_model.proofs.ForkMaps.{cases_name, get_put, get_put_other}
use Rattle.plain_laws.proofs.Waiters.{none_told, halts_so, prints_so}
use Rattle.fork_tree.proofs.CanRun.{named_runs, runs_as}
use Rattle.std.specs.Option.{option_map_or, option_and_then}
use Rattle.std.specs.Cmp.Lexicographic.{nat_list_cmp_total}
use Rattle.machine_names.specs.declared.names.TheConstants.{TERMINALS}
use Rattle.outside.specs.declared.TheConstants.{PAGE_WORDS}
use Rattle.word36.specs.Arithmetic.{arithmetic}
use Rattle.ka10_table.specs.Rows.{row_of, row_among}

-- a key that was just set
get_set : {K V : Type 0} {R : K → K → Ordering} (o : IsTotalOrder R) (m : map.FinMap R V) (k : K) (v : V) → map.get (map.insert m k v) k ≡ Some v
get_set o m k v = map.get-insert o m k v k ∙ ap (λ r. cond (is_eq r) (Some v) (map.get m k)) (tied_itself o k)

-- the page that the script makes
abbrev page : PageName
page = record { tty = first_terminal; serial = 1 }

abbrev job : TerminalMode → PlainJob
job mode = record (new_job (codes "SMITH") first_fork) { mode = mode }

abbrev fork : ForkStatus → Regs → ℕ → Fork
fork status regs units = record (top_fork first_fork) { body = record (top_fork first_fork).body { status = status; regs = regs; units = units } }

abbrev regs_0 : Regs
regs_0 = record first_regs { pc = 64 }

abbrev regs_1 : Regs
regs_1 = record first_regs { ac = slice_set first_regs.ac 1 65; pc = 65 }

abbrev regs_2 : Regs
regs_2 = record regs_1 { pc = 66 }

abbrev regs_3 : Regs
regs_3 = record regs_1 { pc = 67 }

abbrev Jobs : Type 0
Jobs = map.FinMap nat_cmp PlainJob

abbrev AllForks : Type 0
AllForks = map.FinMap fork_cmp Fork

abbrev jobs_1 : Jobs
jobs_1 = map.insert map.empty 0 (job Command)

abbrev jobs_2 : Jobs
jobs_2 = map.insert jobs_1 0 (job Program)

abbrev jobs_3 : Jobs
jobs_3 = map.insert jobs_2 0 (job Command)

abbrev forks_1 : AllForks
forks_1 = map.insert map.empty first_fork (top_fork first_fork)

abbrev forks_2 : AllForks
forks_2 = map.insert forks_1 first_fork (fork Run regs_0 0)

abbrev forks_3 : AllForks
forks_3 = map.insert forks_2 first_fork (fork Run regs_1 1)

abbrev forks_4 : AllForks
forks_4 = map.insert forks_3 first_fork (fork Run regs_2 2)

abbrev forks_5 : AllForks
forks_5 = map.insert forks_4 first_fork (fork Halted regs_3 3)

abbrev maps_1 : Maps
maps_1 = map.insert map.empty first_fork empty_map

abbrev pages_1 : NamedPages
pages_1 = record { objects = map.empty; maps = maps_1; files = map.empty; page_serials = replicate TERMINALS 1; console_serial = 1; limit = 2048 }

abbrev words_1 : List ℕ
words_1 = slice_set zero_words 64 movei_word

abbrev words_2 : List ℕ
words_2 = slice_set words_1 65 pbout_word

abbrev words_3 : List ℕ
words_3 = slice_set words_2 66 haltf_word

abbrev with_page : NamedPages → List ℕ → NamedPages
with_page p words = record p { objects = map.insert p.objects page words }

-- with the zero page
abbrev pages_2 : NamedPages
pages_2 = record {
  objects = map.insert map.empty page zero_words;
  maps = map.insert maps_1 first_fork (slice_set empty_map 0 (Names page full_access));
  files = map.empty;
  page_serials = slice_set (replicate TERMINALS 1) 0 2;
  console_serial = 1;
  limit = 2048;
}

abbrev pages_3 : NamedPages
pages_3 = with_page pages_2 words_1

abbrev pages_4 : NamedPages
pages_4 = with_page pages_3 words_2

abbrev pages_5 : NamedPages
pages_5 = with_page pages_4 words_3

abbrev at : NamedPages → Jobs → AllForks → PlainState
at p jobs forks = record { pages = p; files = map.empty; jobs = jobs; forks = forks; fork_serials = slice_set (replicate TERMINALS 1) 0 2; clock = 0; trace = false }

fork_set : (m : AllForks) (f : ForkName) (v : Fork) → map.get (map.insert m f v) f ≡ Some v
fork_set m f v = get_set fork_cmp_total m f v

map_set : (m : Maps) (f : ForkName) (v : Map) → map.get (map.insert m f v) f ≡ Some v
map_set m f v = get_set fork_cmp_total m f v

-- what is made is whole, so its pages and forks are counted
first_len : {X : Type 0} {K : Type 0} {R : K → K → Ordering} → IsTotalOrder R → (k : K) (v : X) → map.len (map.insert (map.empty {R = R}) k v) ≡ 1
first_len {X} {K} {R} o k v =
    map.len-insert o map.empty k v
    ∙ ap (λ (x : Option X). cond (is_some x) (map.len {R = R} (map.empty {X = X})) (map.len {R = R} (map.empty {X = X}) + 1)) (map.get-empty R k)
    ∙ ap (λ n. n + 1) (map.len-empty R X)

whole_1 : AreWhole pages_1
unfolding opening_pages first_serials
whole_1 = map_whole (opening_pages name_cmp 2048) (opening_whole name_cmp 2048) first_fork (map.get-empty fork_cmp first_fork) EmptyMap (lit< tt)

live_1 : live pages_1 ≡ 1
live_1 = live_whole pages_1 whole_1 ∙ ap (λ n. n + map.len maps_1) (map.len-empty page_cmp (List ℕ)) ∙ ap (λ n. 0 + n) (first_len fork_cmp_total first_fork empty_map)

logs_in : apply (opening 2048) (Outer (Login first_terminal (codes "SMITH"))) ≡ record { state = at pages_1 jobs_1 forks_1; items = Char first_terminal 64 ∷ [] }
unfolding apply outer HasRoom opening opening_pages first_serials
logs_in = simp (map.get-empty, live_1)

empty_entry : slice_get empty_map 0 ≡ Some Empty
unfolding empty_map
empty_entry = refl

named_entry : slice_get (slice_set empty_map 0 (Names page full_access)) 0 ≡ Some (Names page full_access)
unfolding empty_map
named_entry = refl

job_set : (m : Jobs) (k : ℕ) (v : PlainJob) → map.get (map.insert m k v) k ≡ Some v
job_set m k v = get_set nat_cmp_total m k v

page_set : (m : map.FinMap page_cmp (List ℕ)) (n : PageName) (v : List ℕ) → map.get (map.insert m n v) n ≡ Some v
page_set m n v = get_set page_cmp_total m n v

abbrev first_slot : Slot
first_slot = record { fork = first_fork; page = 0 }

first_entry : entry_at maps_1 first_slot ≡ Some Empty
first_entry = ap (λ (m : Option Map). option_and_then (λ n. slice_get n 0) m) (map_set map.empty first_fork empty_map) ∙ empty_entry

makes : make pages_1 first_terminal (blank (in_map first_slot)) ≡ pages_2
unfolding make
makes = ap (λ (m : Option Map). record pages_2 { maps = option_map_or (λ n. map.insert maps_1 first_fork (slice_set n 0 (Names page full_access))) m maps_1 }) (map_set map.empty first_fork empty_map)

whole_2 : AreWhole pages_2
whole_2 = subst (λ (p : NamedPages). AreWhole p) makes (make_whole nat_list_cmp_total pages_1 whole_1 first_terminal (inl (omega arith)) (blank (in_map first_slot)) first_entry)

still_one_map : map.len pages_2.maps ≡ 1
still_one_map =
    map.len-insert fork_cmp_total maps_1 first_fork (slice_set empty_map 0 (Names page full_access))
    ∙ ap (λ (o : Option Map). cond (is_some o) (map.len maps_1) (map.len maps_1 + 1)) (map_set map.empty first_fork empty_map)
    ∙ first_len fork_cmp_total first_fork empty_map

live_2 : live pages_2 ≡ 2
live_2 = live_whole pages_2 whole_2 ∙ ap (λ n. n + map.len pages_2.maps) (first_len page_cmp_total page zero_words) ∙ ap (λ n. 1 + n) still_one_map

pokes_1 : apply (at pages_1 jobs_1 forks_1) (Outer (Poke first_terminal 64 movei_word)) ≡ record { state = at pages_3 jobs_1 forks_1; items = [] }
unfolding apply outer unit reference makings make make_all page_at chain chain_within HasRoom
pokes_1 = simp (job_set, map_set, page_set, empty_entry, named_entry, live_2)

pokes_2 : apply (at pages_3 jobs_1 forks_1) (Outer (Poke first_terminal 65 pbout_word)) ≡ record { state = at pages_4 jobs_1 forks_1; items = [] }
unfolding apply outer unit reference makings make make_all page_at chain chain_within HasRoom
pokes_2 = simp (job_set, map_set, page_set, named_entry)

starts : apply (at pages_5 jobs_1 forks_1) (Outer (Start first_terminal 64)) ≡ record { state = at pages_5 jobs_2 forks_2; items = [] }
unfolding apply outer unit reference makings make make_all page_at chain chain_within HasRoom
starts = simp (job_set, fork_set)

pokes_3 : apply (at pages_4 jobs_1 forks_1) (Outer (Poke first_terminal 66 haltf_word)) ≡ record { state = at pages_5 jobs_1 forks_1; items = [] }
unfolding apply outer unit reference makings make make_all page_at chain chain_within HasRoom
pokes_3 = simp (job_set, map_set, page_set, named_entry)

movei_there : slice_index words_3 64 ≡ movei_word
unfolding zero_words
movei_there = refl

pbout_there : slice_index words_3 65 ≡ pbout_word
unfolding zero_words
pbout_there = refl

haltf_there : slice_index words_3 66 ≡ haltf_word
unfolding zero_words
haltf_there = refl

letter_there : slice_index (slice_set first_regs.ac 1 65) 1 ≡ 65
unfolding first_regs
letter_there = refl

named_there : chain (entry_at pages_5.maps) first_slot ≡ Some (single_link first_slot full_access (Some page))
named_there = named_chain (entry_at pages_5.maps) first_slot page full_access (ap (λ (m : Option Map). option_and_then (λ n. slice_get n 0) m) (map_set maps_1 first_fork (slice_set empty_map 0 (Names page full_access))) ∙ named_entry)

page_found : page_at pages_5 (in_map first_slot) ≡ Some page
unfolding page_at
page_found = ap (option_and_then (λ c. c.page)) named_there

fetch_granted : reference pages_5 (in_map first_slot) Execute first_terminal ≡ granted pages_5
unfolding makings
fetch_granted = reference_stays pages_5 first_terminal (in_map first_slot) Execute (ap (option_and_then (along_chain Execute)) named_there)

words_found : words_of pages_5 page ≡ words_3
words_found = simp (page_set)

-- the unit of a fork that fetched a word, from there on
abbrev from_word : Jobs → AllForks → Fork → ℕ → Effect
from_word jobs forks f w =
    over (at pages_5 jobs forks) f (run (plainly first_fork) first_fork (execute most_words false f.body.regs w) (referred (begun pages_5 f.body.regs.ac) f.body.regs.pc Execute pages_5))

-- the word at an address of the page is fetched
fetches : (jobs : Jobs) (forks : AllForks) (regs : Regs) (units w : ℕ) → map.get forks first_fork ≡ Some (fork Run regs units) → is_accumulator regs.pc ≡ false → slot_at first_fork regs.pc ≡ first_slot → slice_index words_3 (regs.pc % PAGE_WORDS) ≡ w
    → unit (at pages_5 jobs forks) first_fork ≡ from_word jobs forks (fork Run regs units) w
unfolding run instruction is_interrupted psi_at_rest
fetches jobs forks regs units w there high in_page word =
    unit_plain s first_fork f there refl
    ∙ ap (λ b. over s f (goes_on (if b then goes pages_5 else plainly first_fork pages_5 (slot_at first_fork regs.pc) Execute) next)) high
    ∙ ap (λ at. over s f (goes_on (plainly first_fork pages_5 at Execute) next)) in_page
    ∙ ap (λ r. over s f (goes_on (plain_asked r) next)) fetch_granted
    ∙ ap (λ b. from_word jobs forks f (if b then slice_index regs.ac regs.pc else seen pages_5 first_fork None regs.pc (page_at pages_5 (in_map (slot_at first_fork regs.pc))))) high
    ∙ ap (λ at. from_word jobs forks f (seen pages_5 first_fork None regs.pc (page_at pages_5 (in_map at)))) in_page
    ∙ ap (λ n. from_word jobs forks f (seen pages_5 first_fork None regs.pc n)) page_found
    ∙ ap (λ words. from_word jobs forks f (slice_index words (regs.pc % PAGE_WORDS))) words_found
    ∙ ap (from_word jobs forks f) word
  where
    s : PlainState
    s = at pages_5 jobs forks

    f : Fork
    f = fork Run regs units

    next : NamedPages → Planned name_cmp ⊥
    next p = run (plainly first_fork) first_fork (execute most_words false regs (word_taken first_fork (referred (begun pages_5 regs.ac) regs.pc Execute p) regs.pc)) (referred (begun pages_5 regs.ac) regs.pc Execute p)

-- a unit shows nothing before it, as no trace is on
applied : (jobs : Jobs) (forks : AllForks) (e : Effect) → unit (at pages_5 jobs forks) first_fork ≡ e → apply (at pages_5 jobs forks) (AUnit first_fork) ≡ e
unfolding apply
applied jobs forks e is = is

moves : apply (at pages_5 jobs_2 forks_2) (AUnit first_fork) ≡ record { state = at pages_5 jobs_2 forks_3; items = [] }
unfolding run execute address address_within takes finishes does taken_of deed_of row_of row_among arithmetic first_regs
moves = applied jobs_2 forks_2 _ (fetches jobs_2 forks_2 regs_0 0 movei_word (fork_set forks_1 first_fork (fork Run regs_0 0)) refl refl movei_there)

prints : apply (at pages_5 jobs_2 forks_3) (AUnit first_fork) ≡ record { state = at pages_5 jobs_2 forks_4; items = Char first_terminal 65 ∷ [] }
unfolding run execute address address_within row_of row_among
prints = applied jobs_2 forks_3 _ (fetches jobs_2 forks_3 regs_1 1 pbout_word (fork_set forks_2 first_fork (fork Run regs_1 1)) refl refl pbout_there
    ∙ prints_so (at pages_5 jobs_2 forks_3) (fork Run regs_1 1) (fork_set forks_2 first_fork (fork Run regs_1 1))
    ∙ ap (λ c. record { state = at pages_5 jobs_2 forks_4; items = printed first_terminal (shown_code (c % 128)) ++ [] }) letter_there)

-- the fork that halts is the only one, and waits for none
the_only : (k : ForkName) (f : Fork) → map.get forks_5 k ≡ Some f → (f.name ≡ k) × (unwaited f ≡ f)
the_only k f is = elim (cases_name k first_fork) [
  | inl e ↦ let found : Some (fork Halted regs_3 3) ≡ Some f = sym (get_put forks_4 first_fork k (fork Halted regs_3 3) e) ∙ is in
      let same : fork Halted regs_3 3 ≡ f = cc found in
      (ap (λ (g : Fork). g.name) (sym same) ∙ sym e, subst (λ (g : Fork). unwaited g ≡ g) same refl)
  | inr ne ↦ absurd (let no : None ≡ Some f = sym (nowhere_else k ne) ∙ is in cc no)
]
  where
    nowhere_else : (k : ForkName) → (k ≡ first_fork → ⊥) → map.get forks_5 k ≡ None
    nowhere_else k ne =
        get_put_other forks_4 first_fork k (fork Halted regs_3 3) ne ∙ get_put_other forks_3 first_fork k (fork Run regs_2 2) ne ∙ get_put_other forks_2 first_fork k (fork Run regs_1 1) ne
        ∙ get_put_other forks_1 first_fork k (fork Run regs_0 0) ne ∙ get_put_other map.empty first_fork k (top_fork first_fork) ne ∙ map.get-empty fork_cmp k

nobody_told : end_told forks_5 (fork Halted regs_3 3) ≡ forks_5
nobody_told = none_told forks_5 (λ k f is. let o = the_only k f is in o.0) (λ k f is. let o = the_only k f is in o.1) (fork Halted regs_3 3) refl

halts : apply (at pages_5 jobs_2 forks_4) (AUnit first_fork) ≡ record { state = at pages_5 jobs_3 forks_5; items = Char first_terminal 13 ∷ Char first_terminal 10 ∷ Char first_terminal 64 ∷ [] }
unfolding run execute address address_within row_of row_among
halts = applied jobs_2 forks_4 _ (fetches jobs_2 forks_4 regs_2 2 haltf_word there refl refl haltf_there ∙ halts_so (at pages_5 jobs_2 forks_4) (fork Run regs_2 2) there
    ∙ ap (λ forks. record { state = option_map_or (λ j. at pages_5 (map.insert jobs_2 0 (record j { mode = Command })) forks) (map.get jobs_2 0) (at pages_5 jobs_2 forks); items = printed first_terminal (stop_text Halted) }) nobody_told
    ∙ ap (λ j. record { state = option_map_or (λ j. at pages_5 (map.insert jobs_2 0 (record j { mode = Command })) forks_5) j (at pages_5 jobs_2 forks_5); items = printed first_terminal (stop_text Halted) }) (job_set jobs_1 0 (job Program)))
  where
    there : map.get forks_4 first_fork ≡ Some (fork Run regs_2 2)
    there = fork_set forks_3 first_fork (fork Run regs_2 2)

-- the entries from each place on
abbrev rest_9 : List Step
rest_9 = Idle ∷ Idle ∷ []

abbrev rest_8 : List Step
rest_8 = AUnit first_fork ∷ rest_9

abbrev rest_7 : List Step
rest_7 = AUnit first_fork ∷ rest_8

abbrev rest_6 : List Step
rest_6 = AUnit first_fork ∷ rest_7

abbrev rest_5 : List Step
rest_5 = Outer (Start first_terminal 64) ∷ rest_6

abbrev rest_4 : List Step
rest_4 = Outer (Poke first_terminal 66 haltf_word) ∷ rest_5

abbrev rest_3 : List Step
rest_3 = Outer (Poke first_terminal 65 pbout_word) ∷ rest_4

abbrev rest_2 : List Step
rest_2 = Outer (Poke first_terminal 64 movei_word) ∷ rest_3

-- what one entry shows, before what the others show
shows : (s : PlainState) (x : Step) (e : Effect) (xs : List Step) → apply s x ≡ e → items_of s (x ∷ xs) ≡ e.items ++ items_of e.state xs
shows s x e xs is = ap (λ (d : Effect). d.items ++ items_of d.state xs) is

pub example_shows : items_of (opening 2048) example_steps ≡ example_items
unfolding apply
example_shows =
    shows (opening 2048) (Outer (Login first_terminal (codes "SMITH"))) (record { state = at pages_1 jobs_1 forks_1; items = Char first_terminal 64 ∷ [] }) rest_2 logs_in
    ∙ ap (λ is. Char first_terminal 64 ∷ is) (
    shows (at pages_1 jobs_1 forks_1) (Outer (Poke first_terminal 64 movei_word)) (record { state = at pages_3 jobs_1 forks_1; items = [] }) rest_3 pokes_1
    ∙ shows (at pages_3 jobs_1 forks_1) (Outer (Poke first_terminal 65 pbout_word)) (record { state = at pages_4 jobs_1 forks_1; items = [] }) rest_4 pokes_2
    ∙ shows (at pages_4 jobs_1 forks_1) (Outer (Poke first_terminal 66 haltf_word)) (record { state = at pages_5 jobs_1 forks_1; items = [] }) rest_5 pokes_3
    ∙ shows (at pages_5 jobs_1 forks_1) (Outer (Start first_terminal 64)) (record { state = at pages_5 jobs_2 forks_2; items = [] }) rest_6 starts
    ∙ shows (at pages_5 jobs_2 forks_2) (AUnit first_fork) (record { state = at pages_5 jobs_2 forks_3; items = [] }) rest_7 moves
    ∙ shows (at pages_5 jobs_2 forks_3) (AUnit first_fork) (record { state = at pages_5 jobs_2 forks_4; items = Char first_terminal 65 ∷ [] }) rest_8 prints
    ∙ ap (λ is. Char first_terminal 65 ∷ is) (
    shows (at pages_5 jobs_2 forks_4) (AUnit first_fork) (record { state = at pages_5 jobs_3 forks_5; items = Char first_terminal 13 ∷ Char first_terminal 10 ∷ Char first_terminal 64 ∷ [] }) rest_9 halts
    )
    )

not_there : (m : AllForks) (v : Fork) (f : ForkName) → eq_by_cmp fork_cmp f first_fork ≡ false → map.get m f ≡ None → map.get (map.insert m first_fork v) f ≡ None
not_there m v f other none = map.get-insert fork_cmp_total m first_fork v f ∙ ap (λ b. cond b (Some v) (map.get m f)) other ∙ none

-- the halted fork is the only one
only_halted : (f : ForkName) (k : Fork) (b : Bool) → eq_by_cmp fork_cmp f first_fork ≡ b → map.get forks_5 f ≡ Some k → k.body.status ≡ Run → ⊥
only_halted f k true same there runs =
    let is : Some (fork Halted regs_3 3) ≡ Some k = sym (map.get-insert fork_cmp_total forks_4 first_fork (fork Halted regs_3 3) f ∙ ap (λ b. cond b (Some (fork Halted regs_3 3)) (map.get forks_4 f)) same) ∙ there in
    let k_is : fork Halted regs_3 3 ≡ k = cc is in
    let halted : Halted ≡ Run = ap (λ (j : Fork). j.body.status) k_is ∙ runs in
    cc halted
only_halted f k false other there runs =
    let none : map.get forks_5 f ≡ None =
    not_there forks_4 _ f other (not_there forks_3 _ f other (not_there forks_2 _ f other (not_there forks_1 _ f other (not_there map.empty _ f other (map.get-empty fork_cmp f))))) in
    cc (none, there)

none_runs : IsLegalStep true (at pages_5 jobs_3 forks_5) Idle
none_runs on f runs = let r = runs_as forks_5 f runs in only_halted f r.0 (eq_by_cmp fork_cmp f first_fork) refl r.1 r.2

legal_6 : AreLegal true (at pages_5 jobs_2 forks_2) rest_6
unfolding apply
legal_6 = (
  named_runs forks_2 first_fork (fork Run regs_0 0) (fork_set forks_1 first_fork (fork Run regs_0 0)) refl,
  subst (λ s. AreLegal true s rest_7) (sym (ap (λ (e : Effect). e.state) moves)) (
    named_runs forks_3 first_fork (fork Run regs_1 1) (fork_set forks_2 first_fork (fork Run regs_1 1)) refl,
    subst (λ s. AreLegal true s rest_8) (sym (ap (λ (e : Effect). e.state) prints)) (
      named_runs forks_4 first_fork (fork Run regs_2 2) (fork_set forks_3 first_fork (fork Run regs_2 2)) refl,
      subst (λ s. AreLegal true s rest_9) (sym (ap (λ (e : Effect). e.state) halts)) (none_runs, (none_runs, tt)),
    ),
  ),
)

-- an event's entry, before legal ones
before : (s : PlainState) (e : Event) (d : Effect) (xs : List Step) → apply s (Outer e) ≡ d → AreLegal true d.state xs → AreLegal true s (Outer e ∷ xs)
before s e d xs is legal = (tt, subst (λ (c : Effect). AreLegal true c.state xs) (sym is) legal)

pub example_legal : AreLegal true (opening 2048) example_steps
example_legal =
    before (opening 2048) (Login first_terminal (codes "SMITH")) (record { state = at pages_1 jobs_1 forks_1; items = Char first_terminal 64 ∷ [] }) rest_2 logs_in (
    before (at pages_1 jobs_1 forks_1) (Poke first_terminal 64 movei_word) (record { state = at pages_3 jobs_1 forks_1; items = [] }) rest_3 pokes_1 (
    before (at pages_3 jobs_1 forks_1) (Poke first_terminal 65 pbout_word) (record { state = at pages_4 jobs_1 forks_1; items = [] }) rest_4 pokes_2 (
    before (at pages_4 jobs_1 forks_1) (Poke first_terminal 66 haltf_word) (record { state = at pages_5 jobs_1 forks_1; items = [] }) rest_5 pokes_3 (
    before (at pages_5 jobs_1 forks_1) (Start first_terminal 64) (record { state = at pages_5 jobs_2 forks_2; items = [] }) rest_6 starts legal_6
    )
    )
    )
    )

pub example_follows : Follows example_events example_steps
example_follows = (
  Outer (Login first_terminal (codes "SMITH")) ∷ [],
  rest_2,
  refl,
  refl,
  (
    Outer (Poke first_terminal 64 movei_word) ∷ [],
    rest_3,
    refl,
    refl,
    (
      Outer (Poke first_terminal 65 pbout_word) ∷ [],
      rest_4,
      refl,
      refl,
      (
        Outer (Poke first_terminal 66 haltf_word) ∷ [],
        rest_5,
        refl,
        refl,
        (Outer (Start first_terminal 64) ∷ [], rest_6, refl, refl, (rest_6, [], refl, (refl, (tt, (tt, (tt, (tt, (tt, tt)))))), refl)),
      ),
    ),
  ),
)
