-- PMAP from a file and into one, step by step.
use Rattle.std.proofs.Common.{◌≡◌, ℕ, Bool, true, false, cond, List, Option, None, Some, refl, sym, ◌∙◌, ap}
use Rattle.std.proofs.Math.Path.{fun_ext}
use Rattle.std.specs.Prelude.{is_some}
use Rattle.machine_names.specs.declared.names.ForkName.{ForkName}
use Rattle.machine_names.specs.declared.names.Slot.{Slot}
use Rattle.machine_names.specs.declared.names.PageName.{PageName}
use Rattle.machine_names.specs.declared.names.Kind.TheVariants as kind
use Rattle.machine_names.specs.Orders.{file_page}
use Rattle.plain_files.specs.declared.jfn.Jfn.{Jfn}
use Rattle.plain_files.specs.NamedFiles.{open_file}
use Rattle.plain_files.specs.OpenFiles.{OpenFile}
use Rattle.file_tables.specs.declared.tables.FileTables.{FileTables}
use Rattle.plain_pages.specs.References.{in_file, in_map}
use Rattle.plain_units.specs.declared.registers.Regs.{Regs}
use Rattle.plain_model.specs.declared.call.End.{End}
use Rattle.plain_model.specs.declared.call.End.TheVariants.{Refused}
use Rattle.plain_model.specs.declared.call.MapChange.{MapChange}
use Rattle.plain_model.specs.declared.call.TheConstants.{NO_PAGE, NOT_OPEN}
use Rattle.plain_model.specs.Calls.{Turn, finds, touches, ends, if_granted}
use Rattle.plain_model.specs.MapCalls.{MapAsked, access_wanted, allows, file_spot, from_file, into_file, is_written, makes_page, unmapping}
use Rattle.plain_model.specs.Trees.{PlainTree}
use Rattle.call_turns.specs.declared.turn.Ask.TheVariants.{FindsFile}
use Rattle.call_turns.specs.declared.turn.Turn.TheVariants.{Asks, Ends, Reads}
use Rattle.call_turns.specs.Numbers.{numbered_spot, numbered_turn}
use Rattle.call_turns.specs.Turns.{turn_of}
use Rattle.pmap_calls.specs.declared.naming.PagePlace.{PagePlace}
use Rattle.pmap_calls.specs.declared.naming.PagePlace.TheVariants.{File}
use Rattle.pmap_calls.specs.declared.stage.Stage.TheVariants.{Fill, There}
use Rattle.file_tables.specs.Keys.{IsKnown, key_of}
use Rattle.pmap_calls.specs.Asking.{asked, place_by}
use Rattle.pmap_calls.specs.Paging.{drop_end, map_end, put_end}
use Rattle.pmap_calls.specs.Stages.{filled, if_there, later, whole}

module _ (tables : FileTables) (who : ForkName) (tree : PlainTree) (regs : Regs) (jfn : Jfn) (known : IsKnown tables jfn.file) (page : ℕ) where
  abbrev a : MapAsked
  a = asked who regs tree tables

  abbrev j : OpenFile
  j = open_file tables.dir jfn

  abbrev by : Turn (List ℕ) MapChange → Turn ℕ MapChange
  by t = numbered_turn (key_of tables) t

  -- a page of the file has the same number
  same_spot : in_file (file_page jfn.file.0 page) ≡ numbered_spot (key_of tables) (file_spot j page)
  same_spot = ap (λ (k : ℕ). in_file (record { file = k; page = page })) (sym known.number)

  -- what is done once the page was looked for
  abbrev behind : Bool → End MapChange → Option PageName → Turn (List ℕ) MapChange
  behind w e n = cond (is_some n) (ends e) (cond w (makes_page a j page e) (ends (Refused NO_PAGE)))

  abbrev asks : Bool → End MapChange → Turn (List ℕ) MapChange
  asks w e = finds (file_spot j page) (behind w e)

  found : (e : End MapChange) (n : Option PageName) → turn_of who.tty (later tree) (filled jfn.file page e n) 1 ≡ by (behind true e n)
  found e (Some n) = refl
  found e None = ap (λ s. touches who.tty s kind.Write (λ what. ends (if_granted e what))) same_spot

  there : (e : End MapChange) (n : Option PageName) → turn_of who.tty (later tree) (if_there e n) 1 ≡ by (behind false e n)
  there e (Some n) = refl
  there e None = refl

  module _ (to : Slot) (may : allows j (access_wanted a) ≡ true) (e : End MapChange) (is : e ≡ map_end a j page to) where
    asked_so : (w : Bool) → is_written j ≡ w → by (asks w e) ≡ by (from_file a j page to)
    asked_so w is_so = ap (λ b. by (asks b e)) (sym is_so) ∙ ap (λ x. by (asks (is_written j) x)) is ∙ ap (λ b. by (cond b (asks (is_written j) (map_end a j page to)) (ends (Refused NOT_OPEN)))) (sym may)

    pub fills : is_written j ≡ true → whole who.tty tree (Asks (FindsFile jfn.file page) (Fill jfn.file page e)) ≡ by (from_file a j page to)
    fills w = ap (λ s. finds s (λ n. turn_of who.tty (later tree) (filled jfn.file page e n) 1)) same_spot ∙ ap (finds (numbered_spot (key_of tables) (file_spot j page))) (fun_ext (found e)) ∙ asked_so true w

    pub has_to_be : is_written j ≡ false → whole who.tty tree (Asks (FindsFile jfn.file page) (There e)) ≡ by (from_file a j page to)
    has_to_be w = ap (λ s. finds s (λ n. turn_of who.tty (later tree) (if_there e n) 1)) same_spot ∙ ap (finds (numbered_spot (key_of tables) (file_spot j page))) (fun_ext (there e)) ∙ asked_so false w

  pub refuses : (to : Slot) → allows j (access_wanted a) ≡ false → ends (Refused NOT_OPEN) ≡ by (from_file a j page to)
  refuses to may = ap (λ b. by (cond b (asks (is_written j) (map_end a j page to)) (ends (Refused NOT_OPEN)))) (sym may)

  -- into the file
  module _ (from : Slot) where
    abbrev looked : End MapChange → Option PageName → Turn (List ℕ) MapChange
    looked e n = cond (is_some n) (touches who.tty (in_map from) kind.Read (λ what. ends (if_granted e what))) (ends (Refused NO_PAGE))

    abbrev goes_into : Bool → End MapChange → Turn (List ℕ) MapChange
    goes_into w e = cond w (finds (in_map from) (looked e)) (ends (Refused NOT_OPEN))

    reads_as : (e : End MapChange) (n : Option PageName) → cond (is_some n) (touches who.tty (in_map from) kind.Read (λ what. ends (if_granted e what))) (ends (Refused NO_PAGE)) ≡ by (looked e n)
    reads_as e (Some n) = refl
    reads_as e None = refl

    pub reads_so : (e : End MapChange) → e ≡ put_end a from j page → is_written j ≡ true → whole who.tty tree (Reads from e) ≡ by (into_file a from j page)
    reads_so e is w = ap (finds (in_map from)) (fun_ext (reads_as e)) ∙ ap (λ x. by (goes_into true x)) is ∙ ap (λ b. by (goes_into b (put_end a from j page))) (sym w)

    pub reads_refused : is_written j ≡ false → ends (Refused NOT_OPEN) ≡ by (into_file a from j page)
    reads_refused w = ap (λ b. by (goes_into b (put_end a from j page))) (sym w)

module _ (tables : FileTables) (who : ForkName) (tree : PlainTree) (regs : Regs) (jfn : Jfn) (page : ℕ) (place : PagePlace) (is_file : place ≡ File jfn page) where
  abbrev drops : Bool → End MapChange → Turn ℕ MapChange
  drops w e = numbered_turn (key_of tables) (cond w (ends e) (ends (Refused NOT_OPEN)))

  abbrev asked_by : MapAsked
  asked_by = asked who regs tree tables

  dropped : drops (is_written (open_file tables.dir jfn)) (drop_end asked_by (open_file tables.dir jfn) page) ≡ numbered_turn (key_of tables) (unmapping asked_by (place_by tables place))
  dropped = ap (λ x. numbered_turn (key_of tables) (unmapping asked_by (place_by tables x))) (sym is_file)

  pub drops_so : (e : End MapChange) → e ≡ drop_end asked_by (open_file tables.dir jfn) page → is_written (open_file tables.dir jfn) ≡ true → whole who.tty tree (Ends e) ≡ numbered_turn (key_of tables) (unmapping asked_by (place_by tables place))
  drops_so e is w = ap (drops true) is ∙ ap (λ b. drops b (drop_end asked_by (open_file tables.dir jfn) page)) (sym w) ∙ dropped

  pub drops_refused : is_written (open_file tables.dir jfn) ≡ false → ends (Refused NOT_OPEN) ≡ numbered_turn (key_of tables) (unmapping asked_by (place_by tables place))
  drops_refused w = ap (λ b. drops b (drop_end asked_by (open_file tables.dir jfn) page)) (sym w) ∙ dropped
