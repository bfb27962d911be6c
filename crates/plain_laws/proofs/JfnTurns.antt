-- A turn of a call on JFNs, as it comes out and what it leaves.
use Rattle.std.proofs.Common.{◌≡◌, ℕ, Bool, true, false, cond, ◌||◌, List, [], Option, None, Some, refl, ◌∙◌, ap}
use Rattle.std.specs.Prelude.{◌==◌, if◌then◌else◌, is_some, nat_lt}
use Rattle.std.specs.Option.{option_map, option_map_or, option_and_then}
use Rattle.std.specs.FinMap as map
use Rattle.word36.specs.Words.{bit}
use Rattle.machine_names.specs.FileNames.{file_named}
use Rattle.machine_names.specs.Orders.{name_cmp}
use Rattle.machine_names.specs.declared.names.TheConstants.{MOST_FILES}
use Rattle.plain_files.specs.declared.bounds.TheConstants.{LARGEST_BYTE}
use Rattle.plain_files.specs.OpenFiles.{OpenFile, free_jfn}
use Rattle.plain_pages.specs.PlainPages.{NamedPages}
use Rattle.plain_units.specs.declared.registers.Regs.{Regs}
use Rattle.plain_units.specs.Deeds.{in_ac}
use Rattle.plain_model.specs.declared.call.TheConstants.{BAD_NAME, BAD_SIZE, CLOSF, DELF, FILE_IN_USE, FILES_FULL, GTJFN, JFN_OPEN, JFNS_FULL, NOT_OPEN, NO_FILE, NO_JFN, OPENF, RLJFN}
use Rattle.plain_model.specs.declared.call.End.{End}
use Rattle.plain_model.specs.declared.call.End.TheVariants.{Done, Failed}
use Rattle.plain_model.specs.declared.call.FileChange.{FileChange}
use Rattle.plain_model.specs.declared.call.FileChange.TheVariants.{Delete, Make, Open, Release, Take}
use Rattle.plain_model.specs.declared.fork.Fork.{Fork}
use Rattle.plain_model.specs.Calls.{Came, Sight, ends, fork_behind, looks, makes, parts_behind, turn_on, with_error, with_ac, behind_call}
use Rattle.plain_model.specs.Families.{Turned, asks_jfns, behind, jfns_changed, names_seen}
use Rattle.plain_model.specs.FileCalls.{JfnAsked, found_or_made, gtjfn, made_for, mode_in, of_jfn, size_in, skipping, taking, telling, times_held}
use Rattle.plain_model.specs.Forks.{with_regs}
use Rattle.plain_model.specs.PointedTexts.{text_at}
use Rattle.plain_model.specs.State.{PlainState}
use Rattle.plain_model.specs.Unit.{parts_of}
use Rattle.plain_laws.specs.JfnLaws.{AsksFor, Lives, NamesJfn, Reads, jfn_named, jfns_of, turn_of, user_of}
use Rattle.plain_laws.proofs.ReadTurns.{reads_on}

module _ (s : PlainState) (f : Fork) (lives : Lives s f) where
  abbrev asked : JfnAsked
  asked = asks_jfns (parts_of s) f.name f.body.regs

  abbrev sight : Sight ⊥ (List ℕ)
  sight = names_seen (parts_of s) f.name

  abbrev pub left_by : Came name_cmp FileChange → Turned name_cmp
  left_by c = behind (jfns_changed (λ name. name)) (parts_of s) f.name c

  -- what is done
  pub done_so : (change : FileChange) (regs : Regs) (q : NamedPages) → left_by (record { end = Done change regs None None; pages = q }) ≡ record { parts = jfns_changed (λ name. name) change (record (parts_of s) { pages = q }); caller = Some (with_regs f regs); out = None }
  unfolding parts_behind fork_behind
  done_so change regs q = ap (λ (o : Option Fork). record { parts = jfns_changed (λ name. name) change (record (parts_of s) { pages = q }); caller = option_map (λ g. with_regs g regs) o; out = None }) lives

  -- and what is refused
  pub failed_so : (code : ℕ) (q : NamedPages) → left_by (record { end = Failed code; pages = q }) ≡ record { parts = parts_of s; caller = Some (with_error (with_regs f (behind_call (with_ac f.body.regs 1 code))) code); out = None }
  unfolding parts_behind fork_behind
  failed_so code q = ap (λ (o : Option Fork). record { parts = parts_of s; caller = option_map (λ g. with_error (with_regs g (behind_call (with_ac g.body.regs 1 code))) code) o; out = None }) lives

  -- GTJFN goes on with the text that it reads
  module _ (text : Option (List ℕ)) (q : NamedPages) (reads : Reads s f text q) where
    gtjfn_reads : turn_on sight s.pages (gtjfn asked) ≡ turn_on sight q (option_map_or (taking asked) (option_and_then (file_named (user_of s f) []) text) (ends (Failed BAD_NAME)))
    gtjfn_reads = reads_on sight f.name f.body.regs (λ t. option_map_or (taking asked) (option_and_then (file_named (user_of s f) []) t) (ends (Failed BAD_NAME))) (text_at f.body.regs (in_ac f.body.regs 2)) s.pages text q reads

    -- where that names no file it is refused
    pub unnamed_so : option_and_then (file_named (user_of s f) []) text ≡ None → turn_of s f GTJFN ≡ left_by (record { end = Failed BAD_NAME; pages = q })
    unfolding turn_on
    unnamed_so none = ap left_by (gtjfn_reads ∙ ap (λ o. turn_on sight q (option_map_or (taking asked) o (ends (Failed BAD_NAME)))) none)

  -- where it names one, a JFN is taken
  module _ (name : List ℕ) (q : NamedPages) (asks : AsksFor s f name q) where
    named_so : turn_on sight s.pages (gtjfn asked) ≡ turn_on sight q (taking asked name)
    named_so = gtjfn_reads (Some asks.text) q asks.reads ∙ ap (λ o. turn_on sight q (option_map_or (taking asked) o (ends (Failed BAD_NAME)))) asks.named

    -- the least that is free, if one is
    abbrev with_free : Option ℕ → Came name_cmp FileChange
    with_free o = turn_on sight q (looks name (λ there. option_map_or (λ n. found_or_made asked n name there) o (ends (Failed JFNS_FULL))))

    pub none_free_so : free_jfn (jfns_of s f) ≡ None → turn_of s f GTJFN ≡ left_by (record { end = Failed JFNS_FULL; pages = q })
    unfolding turn_on
    none_free_so none = ap left_by (named_so ∙ ap with_free none)

    module _ (n : ℕ) (free : free_jfn (jfns_of s f) ≡ Some n) where
      look_so : turn_on sight s.pages (gtjfn asked) ≡ turn_on sight q (found_or_made asked n name (is_some (map.get s.files name)))
      unfolding turn_on
      look_so = named_so ∙ ap with_free free

      pub there_so : map.contains_key s.files name ≡ true → turn_of s f GTJFN ≡ left_by (record { end = telling asked n (Take f.name.tty n name); pages = q })
      unfolding turn_on
      there_so there = ap left_by (look_so ∙ ap (λ b. turn_on sight q (found_or_made asked n name b)) there)

      module _ (absent : map.contains_key s.files name ≡ false) where
        abbrev wanted : Bool
        wanted = bit (in_ac f.body.regs 1) 0 == 1

        abbrev made_if : Bool → Bool → Came name_cmp FileChange
        made_if wants room = cond wants (record { end = cond room (telling asked n (Make f.name.tty n name)) (Failed FILES_FULL); pages = q }) (record { end = Failed NO_FILE; pages = q })

        pub absent_so : (wants room : Bool) → wanted ≡ wants → nat_lt (map.len s.files) MOST_FILES ≡ room → turn_of s f GTJFN ≡ left_by (made_if wants room)
        unfolding turn_on
        absent_so wants room w r = ap left_by (look_so ∙ ap (λ b. turn_on sight q (found_or_made asked n name b)) absent ∙ made)
          where
            by : (b : Bool) → turn_on sight q (cond b (makes name (λ room. ends (made_for asked n name room))) (ends (Failed NO_FILE))) ≡ made_if b room
            by true = ap (λ b. record { end = cond b (telling asked n (Make f.name.tty n name)) (Failed FILES_FULL); pages = q }) r
            by false = refl

            made : turn_on sight q (found_or_made asked n name false) ≡ made_if wants room
            made = ap (λ b. turn_on sight q (cond b (makes name (λ room. ends (made_for asked n name room))) (ends (Failed NO_FILE)))) w ∙ by wants

  -- a call of a JFN that is held, or not
  pub of_jfn_so : (act : ℕ → OpenFile → End FileChange) (j : Option OpenFile) → map.get (jfns_of s f) (jfn_named f) ≡ j → left_by (turn_on sight s.pages (of_jfn act asked)) ≡ left_by (record { end = option_map_or (act (jfn_named f)) j (Failed NO_JFN); pages = s.pages })
  unfolding turn_on
  of_jfn_so act j is = ap (λ o. left_by (record { end = option_map_or (act (jfn_named f)) o (Failed NO_JFN); pages = s.pages })) is

  -- what each does with a JFN that is held
  abbrev opens : ℕ → OpenFile → End FileChange
  opens n j =
      let w = in_ac f.body.regs 2 in let mode = mode_in w in
      if is_some j.mode then Failed JFN_OPEN
      else (if nat_lt LARGEST_BYTE (size_in w) then Failed BAD_SIZE
      else (if mode.r || mode.w then skipping (Open f.name.tty n mode (size_in w)) f.body.regs else Failed NOT_OPEN))

  abbrev closes : ℕ → OpenFile → End FileChange
  closes n j = skipping (Release f.name.tty n) f.body.regs

  abbrev releases : ℕ → OpenFile → End FileChange
  releases n j = if is_some j.mode then Failed JFN_OPEN else skipping (Release f.name.tty n) f.body.regs

  abbrev deletes : ℕ → OpenFile → End FileChange
  deletes n j = if nat_lt 1 (times_held s.jobs j.file) then Failed FILE_IN_USE else skipping (Delete f.name.tty n) f.body.regs

  -- they are refused where it isn't
  module _ (none : map.get (jfns_of s f) (jfn_named f) ≡ None) where
    abbrev unheld : Turned name_cmp
    unheld = left_by (record { end = Failed NO_JFN; pages = s.pages })

    pub unheld_open : turn_of s f OPENF ≡ unheld
    unheld_open = of_jfn_so opens None none

    pub unheld_close : turn_of s f CLOSF ≡ unheld
    unheld_close = of_jfn_so closes None none

    pub unheld_release : turn_of s f RLJFN ≡ unheld
    unheld_release = of_jfn_so releases None none

    pub unheld_delete : turn_of s f DELF ≡ unheld
    unheld_delete = of_jfn_so deletes None none

  -- how DELF ends, where another JFN stands for the file and where none does
  abbrev pub delf_end : Bool → End FileChange
  delf_end used = if used then Failed FILE_IN_USE else skipping (Delete f.name.tty (jfn_named f)) f.body.regs

  pub delf_so : (j : OpenFile) → NamesJfn s f j → (used : Bool) → nat_lt 1 (times_held s.jobs j.file) ≡ used → turn_of s f DELF ≡ left_by (record { end = delf_end used; pages = s.pages })
  delf_so j held used is = of_jfn_so deletes (Some j) held ∙ ap (λ b. left_by (record { end = delf_end b; pages = s.pages })) is

  -- and CLOSF
  pub closf_so : (j : OpenFile) → NamesJfn s f j → turn_of s f CLOSF ≡ left_by (record { end = closes (jfn_named f) j; pages = s.pages })
  closf_so j held = of_jfn_so closes (Some j) held
