-- How the turn of a call on JFNs ends: which JFN and which file its change names, and what it has made of the pages.
use Rattle.std.proofs.Common.{◌≡◌, ◌≤◌, ℕ, Bool, true, false, cond, ◌||◌, List, [], Option, None, Some, refl, arith, Ordering}
use Rattle.std.specs.Prelude.{◌==◌, ◌/◌, ◌^◌, if◌then◌else◌, is_some, nat_lt, slice_index}
use Rattle.std.specs.Option.{option_map_or, option_and_then}
use Rattle.std.specs.FinMap as map
use Rattle.std.proofs.lemmas.Bool.{cond_both}
use Rattle.std.proofs.lemmas.Bool.Decides.{nat_tests}
use Rattle.word36.specs.Words.{bit, right}
use Rattle.machine_names.specs.declared.names.ForkName.{ForkName}
use Rattle.machine_names.specs.declared.names.Tty.{Tty}
use Rattle.machine_names.specs.FileNames.{file_named}
use Rattle.plain_files.specs.declared.bounds.TheConstants.{LARGEST_BYTE}
use Rattle.plain_files.specs.declared.jfn.Mode.{Mode}
use Rattle.plain_files.specs.Bytes.{IsByteSize}
use Rattle.plain_files.specs.OpenFiles.{OpenFile, free_jfn}
use Rattle.plain_pages.specs.PlainPages.{PlainPages}
use Rattle.plain_units.specs.declared.channel.TheConstants.{ILLEGAL_INSTRUCTION}
use Rattle.plain_units.specs.declared.registers.Regs.{Regs}
use Rattle.plain_units.specs.Deeds.{in_ac}
use Rattle.plain_units.specs.Steps.{Steps}
use Rattle.plain_units.specs.Blocks.{steps_on}
use Rattle.plain_units.proofs.Lookups.{looked_up}
use Rattle.plain_units.proofs.PageRuns.{PlanLeaves}
use Rattle.plain_model.specs.declared.call.TheConstants.{GTJFN, OPENF, CLOSF, RLJFN, DELF, NO_JFN, NOT_OPEN, JFN_OPEN, NO_FILE, BAD_NAME, JFNS_FULL, FILE_IN_USE, BAD_SIZE}
use Rattle.plain_model.specs.declared.call.End.{End}
use Rattle.plain_model.specs.declared.call.End.TheVariants.{Done, Waits, Halts, Refused, Failed, Trap}
use Rattle.plain_model.specs.declared.call.FileChange.{FileChange}
use Rattle.plain_model.specs.declared.call.FileChange.TheVariants.{Take, Make, Open, Release, Delete}
use Rattle.plain_model.specs.Calls.{Turn, ends, looks, makes, Sight, turn_on}
use Rattle.plain_model.specs.PointedTexts.{text_at}
use Rattle.plain_model.specs.Readings.{Reading, words, read, with_reading}
use Rattle.plain_model.specs.FileCalls.{JfnAsked, made_for, found_or_made, taking, gtjfn, of_jfn, size_in, mode_in, skipping, telling, openf, closf, rljfn, delf, jfn_call}
use Rattle.plain_model.proofs.Turns.{Comes, takes_comes}

-- a turn reads: it goes on, on pages of which this holds, or traps
module _ {F C K : Type 0} {file_cmp : K → K → Ordering} (sight : Sight F K) (Holds : End C → PlainPages file_cmp → Type 0) (After : PlainPages file_cmp → Type 0) (f : ForkName) (regs : Regs)
    (runs : (q : PlainPages file_cmp) → After q → (steps : Steps) → PlanLeaves After f (steps_on f regs steps q)) (traps : (q : PlainPages file_cmp) (channel : ℕ) → After q → Holds (Trap channel) q) where
  pub reading_comes : {A : Type 0} (next : A → Turn F C) → ((q : PlainPages file_cmp) (found : A) → After q → Comes sight q Holds (next found)) → (r : Reading A) (q : PlainPages file_cmp) → After q → Comes sight q Holds (with_reading f regs r next)
  unfolding with_reading
  reading_comes next goes (words steps rest) q after =
      takes_comes sight q Holds After f regs steps (λ e. with_reading f regs (rest (slice_index e.regs.ac 0)) next) (runs q after steps)
      (λ r e later. reading_comes next goes (rest (slice_index e.regs.ac 0)) r later) (λ channel. traps q channel after)
  reading_comes next goes (read found) q after = goes q found after

-- a JFN that is taken is the least that is free to the caller's job, for the name that a text stands for
pub record IsTaken (a : JfnAsked) (t : Tty) (n : ℕ) (name : List ℕ) : Type 0 where
  pub job : t ≡ a.who.tty
  pub free : free_jfn a.held ≡ Some n
  pub text : List ℕ
  pub named : file_named a.user [] text ≡ Some name

-- a JFN of the caller's job, with what it stands for
pub record IsOwn (a : JfnAsked) (t : Tty) (n : ℕ) (j : OpenFile) : Type 0 where
  pub job : t ≡ a.who.tty
  pub held : map.get a.held n ≡ Some j

-- a JFN that is opened isn't open, and is opened to be read or written, in bytes of some size
pub record IsOpened (a : JfnAsked) (t : Tty) (n : ℕ) (mode : Mode) (size : ℕ) (j : OpenFile) : Type 0 where
  pub own : IsOwn a t n j
  pub closed : is_some j.mode ≡ false
  pub fits : IsByteSize size
  pub opened : (mode.r || mode.w) ≡ true

module _ {K : Type 0} (a : JfnAsked) (sight : Sight ⊥ K) where
  -- what is made is no file yet, and there is room for it; what is removed has no other JFN
  abbrev pub FitsChange : FileChange → Type 0
  FitsChange (Take t n name) = IsTaken a t n name × (sight.is_name name ≡ true)
  FitsChange (Make t n name) = IsTaken a t n name × (sight.is_name name ≡ false) × (sight.has_more ≡ true)
  FitsChange (Open t n mode size) = (j : OpenFile) × IsOpened a t n mode size j
  FitsChange (Release t n) = (j : OpenFile) × IsOwn a t n j
  FitsChange (Delete t n) = (j : OpenFile) × IsOwn a t n j × (nat_lt 1 (a.times j.file) ≡ false)

  -- so is the change of a turn that is done
  module _ {file_cmp : K → K → Ordering} (After : PlainPages file_cmp → Type 0) where
    abbrev pub FitsEnd : End FileChange → PlainPages file_cmp → Type 0
    FitsEnd (Done change regs out post) q = FitsChange change × After q
    FitsEnd (Waits on) q = Unit {0}
    FitsEnd Halts q = Unit {0}
    FitsEnd (Refused code) q = Unit {0}
    FitsEnd (Failed code) q = Unit {0}
    FitsEnd (Trap channel) q = Unit {0}

-- the size that OPENF names is that of bytes, where it is not past that of words
size_fits : (w : ℕ) → nat_lt LARGEST_BYTE (size_in w) ≡ false → IsByteSize (size_in w)
size_fits w few = by (w / 2 ^ 30 == 0) refl few
  where
    positive : (k : ℕ) → (k == 0) ≡ false → 1 ≤ k
    positive k h = grind (arith, nat_tests)

    small : (k : ℕ) → nat_lt LARGEST_BYTE k ≡ false → k ≤ LARGEST_BYTE
    small k h = grind (arith, nat_tests)

    by : (b : Bool) → (w / 2 ^ 30 == 0) ≡ b → nat_lt LARGEST_BYTE (cond b LARGEST_BYTE (w / 2 ^ 30)) ≡ false → IsByteSize (cond b LARGEST_BYTE (w / 2 ^ 30))
    by true is h = (omega arith, omega arith)
    by false is h = (positive (w / 2 ^ 30) is, small (w / 2 ^ 30) h)

module _ {K : Type 0} {file_cmp : K → K → Ordering} (a : JfnAsked) (sight : Sight ⊥ K) (After : PlainPages file_cmp → Type 0) where
  -- a turn ends so
  abbrev Ends : PlainPages file_cmp → Turn ⊥ FileChange → Type 0
  Ends q t = Comes sight q (FitsEnd a sight After) t

  over : (q : PlainPages file_cmp) (e : End FileChange) → FitsEnd a sight After e q → Ends q (ends e)
  unfolding turn_on
  over q e fits = fits

  module _ (q : PlainPages file_cmp) (after : After q) where
    fails : (code : ℕ) → Ends q (ends (Failed code))
    fails code = over q (Failed code) tt

    -- a JFN is taken for a name
    module _ (n : ℕ) (free : free_jfn a.held ≡ Some n) (text name : List ℕ) (named : file_named a.user [] text ≡ Some name) where
      taken : IsTaken a a.who.tty n name
      taken = record { job = refl; free = free; text = text; named = named }

      made_ends : sight.is_name name ≡ false → Ends q (makes name (λ room. ends (made_for a n name room)))
      unfolding turn_on
      made_ends absent = cond_both sight.has_more _ _ (λ e. FitsEnd a sight After e q) (λ room. ((taken, absent, room), after)) (λ full. tt)

      found_ends : (there : Bool) → sight.is_name name ≡ there → Ends q (found_or_made a n name there)
      found_ends true there = over q (telling a n (Take a.who.tty n name)) ((taken, there), after)
      found_ends false absent = cond_both (bit (in_ac a.regs 1) 0 == 1) _ _ (Ends q) (λ new. made_ends absent) (λ old. fails NO_FILE)

    taking_ends : (text name : List ℕ) → file_named a.user [] text ≡ Some name → Ends q (taking a name)
    unfolding turn_on
    taking_ends text name named = looked_up (Ends q) _ _ (free_jfn a.held) (λ n free. found_ends n free text name named (sight.is_name name) refl) (λ none. fails JFNS_FULL)

    text_ends : (text : Option (List ℕ)) → Ends q (option_map_or (taking a) (option_and_then (file_named a.user []) text) (ends (Failed BAD_NAME)))
    text_ends None = fails BAD_NAME
    text_ends (Some text) = looked_up (Ends q) _ _ (file_named a.user [] text) (λ name named. taking_ends text name named) (λ none. fails BAD_NAME)

    -- a call of a JFN that is held
    jfn_ends : (act : ℕ → OpenFile → End FileChange) → ((n : ℕ) (j : OpenFile) → map.get a.held n ≡ Some j → FitsEnd a sight After (act n j) q) → Ends q (of_jfn act a)
    jfn_ends act fits = over q _ (looked_up (λ e. FitsEnd a sight After e q) (act (right (in_ac a.regs 1))) (Failed NO_JFN) (map.get a.held (right (in_ac a.regs 1))) (λ j is. fits (right (in_ac a.regs 1)) j is) (λ none. tt))

    own : (n : ℕ) (j : OpenFile) → map.get a.held n ≡ Some j → IsOwn a a.who.tty n j
    own n j held = record { job = refl; held = held }

    openf_ends : Ends q (openf a)
    openf_ends = jfn_ends opens (λ n j held.
        cond_both (is_some j.mode) _ _ (λ e. FitsEnd a sight After e q) (λ is. tt) (λ closed.
        cond_both (nat_lt LARGEST_BYTE (size_in (in_ac a.regs 2))) _ _ (λ e. FitsEnd a sight After e q) (λ large. tt) (λ small.
        cond_both ((mode_in (in_ac a.regs 2)).r || (mode_in (in_ac a.regs 2)).w) _ _ (λ e. FitsEnd a sight After e q)
        (λ some. ((j, record { own = own n j held; closed = closed; fits = size_fits (in_ac a.regs 2) small; opened = some }), after)) (λ none. tt))))
      where
        opens : ℕ → OpenFile → End FileChange
        opens n j =
            if is_some j.mode then Failed JFN_OPEN
            else (if nat_lt LARGEST_BYTE (size_in (in_ac a.regs 2)) then Failed BAD_SIZE
            else (if (mode_in (in_ac a.regs 2)).r || (mode_in (in_ac a.regs 2)).w then skipping (Open a.who.tty n (mode_in (in_ac a.regs 2)) (size_in (in_ac a.regs 2))) a.regs else Failed NOT_OPEN))

    closf_ends : Ends q (closf a)
    closf_ends = jfn_ends (λ n j. skipping (Release a.who.tty n) a.regs) (λ n j held. ((j, own n j held), after))

    rljfn_ends : Ends q (rljfn a)
    rljfn_ends = jfn_ends (λ n j. if is_some j.mode then Failed JFN_OPEN else skipping (Release a.who.tty n) a.regs) (λ n j held. cond_both (is_some j.mode) _ _ (λ e. FitsEnd a sight After e q) (λ is. tt) (λ closed. ((j, own n j held), after)))

    delf_ends : Ends q (delf a)
    delf_ends = jfn_ends (λ n j. if nat_lt 1 (a.times j.file) then Failed FILE_IN_USE else skipping (Delete a.who.tty n) a.regs) (λ n j held. cond_both (nat_lt 1 (a.times j.file)) _ _ (λ e. FitsEnd a sight After e q) (λ more. tt) (λ once. ((j, own n j held, once), after)))

  module _ (runs : (q : PlainPages file_cmp) → After q → (steps : Steps) → PlanLeaves After a.who (steps_on a.who a.regs steps q)) (p : PlainPages file_cmp) (after : After p) where
    gtjfn_ends : Ends p (gtjfn a)
    gtjfn_ends = reading_comes sight (FitsEnd a sight After) After a.who a.regs runs (λ q channel h. tt) _ (λ q text h. text_ends q h text) (text_at a.regs (in_ac a.regs 2)) p after

    -- the turn of a call on JFNs
    pub call_ends : (number : ℕ) → Ends p (jfn_call number a)
    call_ends number =
        cond_both (GTJFN == number) _ _ (Ends p) (λ is. gtjfn_ends) (λ n1.
        cond_both (OPENF == number) _ _ (Ends p) (λ is. openf_ends p after) (λ n2.
        cond_both (CLOSF == number) _ _ (Ends p) (λ is. closf_ends p after) (λ n3.
        cond_both (RLJFN == number) _ _ (Ends p) (λ is. rljfn_ends p after) (λ n4.
        cond_both (DELF == number) _ _ (Ends p) (λ is. delf_ends p after) (λ n5. over p (Trap ILLEGAL_INSTRUCTION) tt)))))
