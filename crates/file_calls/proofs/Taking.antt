-- How GTJFN goes on once its text is read.
use Rattle.std.proofs.Common.{◌≡◌, ℕ, Bool, true, false, cond, List, Option, Some, None, refl, sym, ◌∙◌, ap, subst}
use Rattle.std.specs.Prelude.{MatchOption, is_some, nat_lt, ◌==◌}
use Rattle.std.specs.Option.{option_map_or}
use Rattle.std.specs.Ordering.{nat_cmp}
use Rattle.std.specs.FinMap as map
use Rattle.word36.specs.Words.{bit}
use Rattle.machine_names.specs.declared.names.FileNo.{FileNo}
use Rattle.machine_names.specs.declared.names.TheConstants.{MOST_FILES}
use Rattle.plain_files.specs.NamedFiles.{name_of}
use Rattle.plain_files.specs.OpenFiles.{free_jfn}
use Rattle.plain_files.specs.Sizes.{file_at}
use Rattle.plain_pages.specs.PlainPages.{NumberedPages}
use Rattle.plain_units.specs.Deeds.{in_ac}
use Rattle.plain_model.specs.declared.call.TheConstants.{BAD_NAME, JFNS_FULL, NO_FILE}
use Rattle.plain_model.specs.declared.call.End.{End}
use Rattle.plain_model.specs.declared.call.End.TheVariants.{Done, Waits, Halts, Refused, Failed, Trap}
use Rattle.plain_model.specs.declared.call.FileChange.{FileChange}
use Rattle.plain_model.specs.declared.call.FileChange.TheVariants.{Take}
use Rattle.plain_model.specs.Calls.{Came, Turn, ends, looks, makes, turn_on}
use Rattle.plain_model.specs.FileCalls.{JfnAsked, found_or_made, made_for, taking, telling}
use Rattle.call_turns.specs.Turns.{FitsEnd}
use Rattle.file_tables.specs.declared.tables.FileTables.{FileTables}
use Rattle.file_tables.specs.Tables.{IsThere, files_of}
use Rattle.file_tables.proofs.Names.{by_name_at, named}
use Rattle.file_calls.specs.Asking.{names_of}

-- an end whose change is this is within its limits where this is
pub fits_as : (P : FileChange → Type 0) (change : FileChange) (e : End FileChange) → P change → FitsEnd (λ what. what ≡ change) e → FitsEnd P e
fits_as P change (Done what regs out post) sound h = (subst P (sym h.0) sound, h.1, h.2, h.3)
fits_as P change (Waits on) sound h = h
fits_as P change Halts sound h = h
fits_as P change (Refused code) sound h = h
fits_as P change (Failed code) sound h = h
fits_as P change (Trap channel) sound h = h

module _ (tables : FileTables) (name : List ℕ) where
  -- a name is found exactly where a file has it
  pub found_there : (o : Option FileNo) → MatchOption o (map.get (files_of tables) name ≡ None) (λ f. IsThere tables f.0 × (name_of tables.dir f.0 ≡ name)) → is_some (map.get (files_of tables) name) ≡ is_some o
  found_there None h = ap is_some h
  found_there (Some f) h =
      let there : map.get (files_of tables) (name_of tables.dir f.0) ≡ Some (file_at tables.lengths f.0) = by_name_at tables.dir tables.sound.numbers (file_at tables.lengths) f.0 (name_of tables.dir f.0) (named tables.dir f.0 h.0) in
      ap is_some (ap (λ (n : List ℕ). map.get (files_of tables) n) (sym h.1) ∙ there)

  module _ (a : JfnAsked) (p : NumberedPages) where
    abbrev came : Turn ⊥ FileChange → Came nat_cmp FileChange
    came t = turn_on (names_of tables) p t

    abbrev over : End FileChange → Came nat_cmp FileChange
    over e = record { end = e; pages = p }

    abbrev first : Option ℕ → Came nat_cmp FileChange
    first o = came (looks name (λ there. option_map_or (λ n. found_or_made a n name there) o (ends (Failed JFNS_FULL))))

    abbrev behind_look : ℕ → Bool → Came nat_cmp FileChange
    behind_look n b = came (found_or_made a n name b)

    abbrev behind_bit : ℕ → Bool → Came nat_cmp FileChange
    behind_bit n b = came (cond b (makes name (λ room. ends (made_for a n name room))) (ends (Failed NO_FILE)))

    pub none_free : free_jfn a.held ≡ None → came (taking a name) ≡ over (Failed JFNS_FULL)
    unfolding turn_on
    none_free none = ap first none

    module _ (n : ℕ) (free : free_jfn a.held ≡ Some n) where
      pub takes_it : is_some (map.get (files_of tables) name) ≡ true → came (taking a name) ≡ over (telling a n (Take a.who.tty n name))
      unfolding turn_on
      takes_it there = ap first free ∙ ap (behind_look n) there

      module _ (absent : is_some (map.get (files_of tables) name) ≡ false) where
        pub refuses_it : (bit (in_ac a.regs 1) 0 == 1) ≡ false → came (taking a name) ≡ over (Failed NO_FILE)
        unfolding turn_on
        refuses_it old_only = ap first free ∙ ap (behind_look n) absent ∙ ap (behind_bit n) old_only

        pub makes_it : (bit (in_ac a.regs 1) 0 == 1) ≡ true → (room : Bool) → nat_lt (map.len (files_of tables)) MOST_FILES ≡ room → came (taking a name) ≡ over (made_for a n name room)
        unfolding turn_on
        makes_it new room is = ap first free ∙ ap (behind_look n) absent ∙ ap (behind_bit n) new ∙ ap (λ (b : Bool). over (made_for a n name b)) is

-- GTJFN goes on with the file that its text names
module _ (tables : FileTables) (a : JfnAsked) (p : NumberedPages) where
  abbrev pub with_name : Option (List ℕ) → Came nat_cmp FileChange
  with_name o = turn_on (names_of tables) p (option_map_or (taking a) o (ends (Failed BAD_NAME)))

  pub no_name : with_name None ≡ record { end = Failed BAD_NAME; pages = p }
  unfolding turn_on
  no_name = refl
