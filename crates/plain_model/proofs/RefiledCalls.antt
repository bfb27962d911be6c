-- A turn of a call does not depend on what files are known by: it leaves the same, with the pages of files under other keys.
use Rattle.std.proofs.Common.{◌≡◌, ◌≢◌, ℕ, ◌+◌, Bool, true, false, cond, not, ◌&&◌, List, length, Option, None, Some, refl, sym, ◌∙◌, ap, subst, Ordering}
use Rattle.std.specs.Option.{option_map, option_map_or}
use Rattle.std.specs.Prelude.{is_some}
use Rattle.std.specs.Ordering.{eq_by_cmp, is_eq}
use Rattle.std.specs.Cmp.{IsTotalOrder, Equal-is}
use Rattle.std.specs.Cmp.Lexicographic.{nat_list_cmp_total}
use Rattle.std.proofs.lemmas.Cmp.{tied_itself}
use Rattle.std.specs.FinMap as map
use Rattle.std.proofs.Math.Path.{fun_ext}
use Rattle.plain_model.specs.declared.call.End.{End}
use Rattle.plain_model.specs.declared.call.End.TheVariants.{Done, Waits, Halts, Refused, Failed, Trap}
use Rattle.plain_model.specs.declared.call.ForkChange.{ForkChange}
use Rattle.plain_model.specs.declared.call.InterruptChange.{InterruptChange}
use Rattle.plain_model.specs.declared.call.SleepChange.{SleepChange}
use Rattle.plain_model.specs.ClockCalls.{clock_calls}
use Rattle.plain_model.specs.InterruptCalls.{interrupt_calls}
use Rattle.plain_model.specs.declared.call.MapChange.{MapChange}
use Rattle.plain_model.specs.declared.call.MapChange.TheVariants.{Nothing, Unmap, Follow, Narrow, Map, Put, Drop}
use Rattle.plain_model.specs.declared.call.FileChange.{FileChange}
use Rattle.plain_model.specs.declared.call.FileChange.TheVariants.{Take, Make, Open, Release, Delete}
use Rattle.plain_model.specs.declared.call.ByteChange.{ByteChange}
use Rattle.plain_model.specs.declared.call.ByteChange.TheVariants as byte
use Rattle.plain_pages.specs.declared.map.MapEntry.{MapEntry}
use Rattle.plain_pages.specs.declared.map.MapEntry.TheVariants as entry
use Rattle.machine_names.specs.declared.names.PageName.{PageName}
use Rattle.machine_names.specs.declared.names.Slot.{Slot}
use Rattle.machine_names.specs.declared.names.ForkName.{ForkName}
use Rattle.machine_names.specs.declared.names.Tty.{Tty}
use Rattle.plain_files.specs.OpenFiles.{OpenFile}
use Rattle.plain_model.specs.declared.fork.Fork.{Fork}
use Rattle.plain_units.specs.declared.channel.TheConstants.{ILLEGAL_INSTRUCTION}
use Rattle.plain_model.specs.Interrupts.{posted}
use Rattle.plain_files.specs.declared.jfn.Mode.{Mode}
use Rattle.plain_files.specs.Sizes.{PlainFile, new_file, reaching}
use Rattle.plain_units.specs.declared.registers.Regs.{Regs}
use Rattle.plain_pages.specs.PlainPages.{PlainPages, refiled}
use Rattle.plain_pages.specs.FilePages.{names_of_file, other_files, with_file}
use Rattle.plain_pages.specs.References.{in_map, page_at, with_changed}
use Rattle.machine_names.specs.Orders.{FilePage, name_cmp}
use Rattle.plain_pages.specs.Maps.{narrow}
use Rattle.plain_model.specs.Calls.{Sight, Turn, no_files, turn_on, Came, numbered, is_among, fork_behind, out_of, parts_behind}
use Rattle.plain_model.specs.MapCalls.{entry_for, keyed, map_calls, map_changed}
use Rattle.plain_model.specs.FileCalls.{file_calls, deleted, file_changed, files_opened, held_at, jfn_calls, opened}
use Rattle.plain_model.specs.ForkCalls.{ForkParts, fork_calls}
use Rattle.plain_model.specs.ByteCalls.{ByteAsked, byte_calls, byte_changed, byte_page, files_reaching, input_at, pages_of, written, ByteTurn}
use Rattle.plain_model.specs.StringCalls.{string_calls}
use Rattle.plain_model.specs.Families.{asks_clock, codes_behind, interrupts_changed, Parts, Turned, behind, print_calls, asks, asks_bytes, asks_jfns, asks_maps, bytes_changed, files_seen, names_seen, forks_changed, jfns_changed, call_turned}
use Rattle.machine_names.proofs.OrderLemmas.{name_cmp_apart}
use Rattle.plain_pages.proofs.Refiled.{NameAlike}
use Rattle.plain_pages.proofs.FilesKept.{without_files}
use Rattle.plain_model.proofs.Keyed.{AreKeyed, Files, Others, counted_alike, keyed_by, totals_keyed, without_keyed, without_refiled}
use Rattle.plain_pages.proofs.Whole.{tally}
use Rattle.plain_model.proofs.Calling.{filed_of, with_filed}
use Rattle.plain_model.proofs.Turns.{Keeps, KeepsEnd, NamesAlike, TellAlike, came_leaves, came_refiled, came_same}
use Rattle.plain_model.proofs.ByteKeeps.{KnowsFiles, byte_keeps}
use Rattle.plain_model.proofs.StringKeeps.{string_keeps}
use Rattle.plain_model.proofs.RefiledBytes.{byte_leaves, byte_refiled}
use Rattle.plain_model.proofs.RefiledPages.{other_set, put_keyed, put_refiled}
use Rattle.plain_model.proofs.MapKeeps.{KeepsFiles, OfFiles, map_keeps}
use Rattle.plain_model.proofs.ForkTurns.{change_refiled, changed_leaves as fork_leaves}
use Rattle.plain_model.proofs.MapTurns.{changed_leaves as entry_leaves, changed_refiled}
use Rattle.plain_model.specs.EachFamily.{own_changed, sleeps_changed, pages_changed}

-- a file of a name is there
abbrev pub IsThere : {K : Type 0} {file_cmp : K → K → Ordering} → Parts file_cmp → List ℕ → Type 0
IsThere v name = map.contains_key v.files name ≡ true

-- each JFN stands for a file that is there
abbrev pub AreHeld : {K : Type 0} {file_cmp : K → K → Ordering} → Parts file_cmp → Type 0
AreHeld v = (t : Tty) (n : ℕ) (j : OpenFile) → map.get (held_at v.jobs t) n ≡ Some j → IsThere v j.file

-- the same parts, with the pages of files under other keys
abbrev pub refiled_all : {K L : Type 0} {file_cmp : K → K → Ordering} (other_cmp : L → L → Ordering) → Files other_cmp → Parts file_cmp → Parts other_cmp
refiled_all other_cmp files v = record { tree = v.tree; pages = refiled other_cmp v.pages files; files = v.files; jobs = v.jobs; clock = v.clock }

abbrev pub refiled_turned : {K L : Type 0} {file_cmp : K → K → Ordering} (other_cmp : L → L → Ordering) → Files other_cmp → Turned file_cmp → Turned other_cmp
refiled_turned other_cmp files r = record { parts = refiled_all other_cmp files r.parts; caller = r.caller; out = r.out }

module _ {K L : Type 0} (file_cmp : K → K → Ordering) (other_cmp : L → L → Ordering) (key : List ℕ → K) (other_key : List ℕ → L) where
  -- the files that are there have keys of two kinds, under which they have the same pages
  abbrev pub AreFiled : Parts file_cmp → Files other_cmp → Type 0
  AreFiled v files = AreKeyed file_cmp other_cmp (IsThere v) key other_key v.pages.files files

  -- what is left is the same but for the keys of files; those that were there and still are have the same pages under both, and no
  -- page is under another key
  pub record StayFiled (old new : Parts file_cmp) (other : Parts other_cmp) : Type 0 where
    pub same : other ≡ refiled_all other_cmp other.pages.files new
    pub keyed : AreKeyed file_cmp other_cmp (λ name. IsThere old name × IsThere new name) key other_key new.pages.files other.pages.files

module _ {K L : Type 0} {file_cmp : K → K → Ordering} {other_cmp : L → L → Ordering} (key : List ℕ → K) (other_key : List ℕ → L) where
  abbrev Stay : Parts file_cmp → Parts file_cmp → Parts other_cmp → Type 0
  Stay old new other = StayFiled file_cmp other_cmp key other_key old new other

  module _ (u : Parts file_cmp) (files : Files other_cmp) (filed : AreFiled file_cmp other_cmp key other_key u files) where
    -- the same files with the same pages
    stay : (w : Parts file_cmp) (x : Parts other_cmp) → x ≡ refiled_all other_cmp files w → w.pages.files ≡ u.pages.files → ((name : List ℕ) → IsThere u name → IsThere w name) → Stay u w x
    stay w x is pages there =
        let files_are : x.pages.files ≡ files = ap (λ (y : Parts other_cmp). y.pages.files) is in
        let k = keyed_by file_cmp other_cmp (IsThere u) (λ name. IsThere u name × IsThere w name) key other_key u.pages.files files (λ name h. (h, there name h)) (λ name h. h.0) filed in
        let l : AreKeyed file_cmp other_cmp (λ name. IsThere u name × IsThere w name) key other_key w.pages.files files = subst (λ (f : Files file_cmp). AreKeyed file_cmp other_cmp (λ name. IsThere u name × IsThere w name) key other_key f files) (sym pages) k in
        record {
          same = is ∙ ap (λ (f : Files other_cmp). refiled_all other_cmp f w) (sym files_are);
          keyed = subst (λ (f : Files other_cmp). AreKeyed file_cmp other_cmp (λ name. IsThere u name × IsThere w name) key other_key w.pages.files f) (sym files_are) l;
        }

there_inserted : (files : map.FinMap name_cmp PlainFile) (name : List ℕ) (f : PlainFile) (x : List ℕ) → map.contains_key files x ≡ true → map.contains_key (map.insert files name f) x ≡ true
there_inserted files name f x there = ap is_some (map.get-insert nat_list_cmp_total files name f x) ∙ by (eq_by_cmp name_cmp x name)
  where
    by : (b : Bool) → is_some (cond b (Some f) (map.get files x)) ≡ true
    by true = refl
    by false = there

there_opened : (files : map.FinMap name_cmp PlainFile) (mode : Mode) (name x : List ℕ) → map.contains_key files x ≡ true → map.contains_key (files_opened files mode name) x ≡ true
there_opened files mode name x there = by (mode.w && not mode.r) (map.get files name)
  where
    by : (b : Bool) (o : Option PlainFile) → map.contains_key (cond b (option_map_or (λ f. map.insert files name (record f { length = 0 })) o files) files) x ≡ true
    by true None = there
    by true (Some f) = there_inserted files name (record f { length = 0 }) x there
    by false o = there

there_reaching : (files : map.FinMap name_cmp PlainFile) (name : List ℕ) (size end : ℕ) (x : List ℕ) → map.contains_key files x ≡ true → map.contains_key (files_reaching files name size end) x ≡ true
there_reaching files name size end x there = by (map.get files name)
  where
    by : (o : Option PlainFile) → map.contains_key (option_map_or (λ f. map.insert files name (reaching size end f)) o files) x ≡ true
    by None = there
    by (Some f) = there_inserted files name (reaching size end f) x there

-- a name that is there still but for one that went
module _ (files : map.FinMap name_cmp PlainFile) (gone : List ℕ) where
  others_there : (x : List ℕ) → map.contains_key files x ≡ true → x ≢ gone → map.contains_key (map.remove files gone) x ≡ true
  others_there x there ne = ap is_some (map.get-remove nat_list_cmp_total files gone x) ∙ by (eq_by_cmp name_cmp x gone) refl
    where
      by : (b : Bool) → eq_by_cmp name_cmp x gone ≡ b → is_some (cond b None (map.get files x)) ≡ true
      by true is = absurd (ne (name_cmp_apart x gone ((Equal-is (name_cmp x gone)).0 is)))
      by false is = there

  there_others : (x : List ℕ) → map.contains_key (map.remove files gone) x ≡ true → x ≢ gone
  there_others x there is = let no : true ≡ false = sym there ∙ ap is_some (map.get-remove nat_list_cmp_total files gone x) ∙ ap (λ b. is_some (cond b None (map.get files x))) (ap (λ y. eq_by_cmp name_cmp y gone) is ∙ ap is_eq (tied_itself nat_list_cmp_total gone)) in cc no

module _ {K L : Type 0} {file_cmp : K → K → Ordering} {other_cmp : L → L → Ordering} (o : IsTotalOrder file_cmp) (apart : map.IsAntisymmetric file_cmp) (other_o : IsTotalOrder other_cmp) (other_apart : map.IsAntisymmetric other_cmp) (key : List ℕ → K) (other_key : List ℕ → L) (files : Files other_cmp) where
  abbrev Filed : Parts file_cmp → Type 0
  Filed u = AreFiled file_cmp other_cmp key other_key u files

  abbrev Stays : Parts file_cmp → Parts file_cmp → Parts other_cmp → Type 0
  Stays old new other = StayFiled file_cmp other_cmp key other_key old new other

  abbrev rekeyed : Parts file_cmp → Parts other_cmp
  rekeyed u = refiled_all other_cmp files u

  alike : (u : Parts file_cmp) → Filed u → NameAlike other_cmp u.pages files
  alike u filed n = totals_keyed o apart other_o other_apart (IsThere u) key other_key u.pages.files files filed (tally n)

  module _ (u : Parts file_cmp) (filed : Filed u) where
    -- the file of a JFN is removed
    deleted_stays : (t : Tty) (n : ℕ) (j : OpenFile) → IsThere u j.file → Stays u (with_filed u (deleted key (filed_of u) t n j)) (with_filed (rekeyed u) (deleted other_key (filed_of (rekeyed u)) t n j))
    deleted_stays t n j there = record {
      same = is ∙ ap (λ (f : Files other_cmp). refiled_all other_cmp f w) (sym files_are);
      keyed = subst (λ (f : Files other_cmp). AreKeyed file_cmp other_cmp Left key other_key w.pages.files f) (sym files_are) (subst (λ (f : Files file_cmp). AreKeyed file_cmp other_cmp Left key other_key f rest) (sym (without_files o apart u.pages (key j.file))) others);
    }
      where
        w : Parts file_cmp
        w = with_filed u (deleted key (filed_of u) t n j)

        x : Parts other_cmp
        x = with_filed (rekeyed u) (deleted other_key (filed_of (rekeyed u)) t n j)

        rest : Files other_cmp
        rest = other_files (refiled other_cmp u.pages files) (other_key j.file)

        Left : List ℕ → Type 0
        Left name = map.contains_key u.files name ≡ true × map.contains_key (map.remove u.files j.file) name ≡ true

        is : x ≡ refiled_all other_cmp rest w
        is = ap (λ (p : PlainPages other_cmp). record x { pages = p }) (without_refiled o apart other_o other_apart (IsThere u) key other_key u.pages files filed j.file there)

        files_are : x.pages.files ≡ rest
        files_are = ap (λ (y : Parts other_cmp). y.pages.files) is

        others : AreKeyed file_cmp other_cmp Left key other_key (other_files u.pages (key j.file)) rest
        others = keyed_by file_cmp other_cmp (Others (IsThere u) j.file) Left key other_key (other_files u.pages (key j.file)) rest
            (λ name h. (h.0, others_there u.files j.file name h.0 h.1)) (λ name h. (h.0, there_others u.files j.file name h.1))
            (without_keyed o apart other_o other_apart (IsThere u) key other_key u.pages files filed j.file there)

    -- a change of a call on JFNs
    change_stays : AreHeld u → (change : FileChange) → Stays u (jfns_changed key change u) (jfns_changed other_key change (rekeyed u))
    unfolding file_changed
    change_stays held (Take t n name) = stay key other_key u files filed _ _ refl refl (λ x h. h)
    change_stays held (Make t n name) = stay key other_key u files filed _ _ refl refl (λ x h. there_inserted u.files name new_file x h)
    change_stays held (Open t n mode size) = by (map.get (held_at u.jobs t) n)
      where
        by : (j : Option OpenFile) → Stays u (with_filed u (option_map_or (opened key (filed_of u) t n mode size) j (filed_of u))) (with_filed (rekeyed u) (option_map_or (opened other_key (filed_of (rekeyed u)) t n mode size) j (filed_of (rekeyed u))))
        by None = stay key other_key u files filed _ _ refl refl (λ x h. h)
        by (Some j) = stay key other_key u files filed _ _ refl refl (λ x h. there_opened u.files mode j.file x h)
    change_stays held (Release t n) = stay key other_key u files filed _ _ refl refl (λ x h. h)
    change_stays held (Delete t n) = by (map.get (held_at u.jobs t) n) refl
      where
        by : (j : Option OpenFile) → map.get (held_at u.jobs t) n ≡ j → Stays u (with_filed u (option_map_or (deleted key (filed_of u) t n) j (filed_of u))) (with_filed (rekeyed u) (option_map_or (deleted other_key (filed_of (rekeyed u)) t n) j (filed_of (rekeyed u))))
        by None is = stay key other_key u files filed _ _ refl refl (λ x h. h)
        by (Some j) is = deleted_stays t n j (held t n j is)

    -- a change of a call on bytes
    byte_stays : AreHeld u → (change : ByteChange) → Stays u (bytes_changed key change u) (bytes_changed other_key change (rekeyed u))
    unfolding byte_changed
    byte_stays held byte.Nothing = stay key other_key u files filed _ _ refl refl (λ x h. h)
    byte_stays held (byte.Take t) = stay key other_key u files filed _ _ refl refl (λ x h. h)
    byte_stays held (byte.Move t n at) = stay key other_key u files filed _ _ refl refl (λ x h. h)
    byte_stays held (byte.Put t n word) = by (map.get (held_at u.jobs t) n) refl
      where
        by : (j : Option OpenFile) → map.get (held_at u.jobs t) n ≡ j
            → Stays u (with_filed u (option_map_or (written key (filed_of u) t n word) j (filed_of u))) (with_filed (rekeyed u) (option_map_or (written other_key (filed_of (rekeyed u)) t n word) j (filed_of (rekeyed u))))
        by None is = stay key other_key u files filed _ _ refl refl (λ x h. h)
        by (Some j) is = stay key other_key u files filed _ _
            (ap (λ (p : PlainPages other_cmp). with_filed (rekeyed u) (record (written other_key (filed_of (rekeyed u)) t n word j) { pages = p })) (byte_refiled other_cmp key other_key files u.pages j word (filed.same j.file (held t n j is) (byte_page j))))
            (byte_leaves key u.pages j word) (λ x h. there_reaching u.files j.file j.size (j.at + 1) x h)

  -- a change of a call on maps that changes files that are there
  module _ (u : Parts file_cmp) (filed : Filed u) where
    entry_stays : (s : Slot) (change : MapEntry → MapEntry) → Stays u (record u { pages = with_changed u.pages s change }) (record (rekeyed u) { pages = with_changed (refiled other_cmp u.pages files) s change })
    entry_stays s change = stay key other_key u files filed _ _
        (ap (λ (p : PlainPages other_cmp). record (rekeyed u) { pages = p }) (changed_refiled other_cmp files u.pages (alike u filed) s change)) (entry_leaves u.pages s change) (λ name h. h)

    file_stays : (name : List ℕ) → IsThere u name → (page : ℕ) (new : Option PageName)
        → Stays u (record u { pages = with_file u.pages (keyed key name page) new }) (record (rekeyed u) { pages = with_file (refiled other_cmp u.pages files) (keyed other_key name page) new })
    file_stays name there page new = record {
      same = is ∙ ap (λ (f : Files other_cmp). refiled_all other_cmp f w) (sym files_are);
      keyed = subst (λ (f : Files other_cmp). AreKeyed file_cmp other_cmp Both key other_key w.pages.files f) (sym files_are) both;
    }
      where
        w : Parts file_cmp
        w = record u { pages = with_file u.pages (keyed key name page) new }

        x : Parts other_cmp
        x = record (rekeyed u) { pages = with_file (refiled other_cmp u.pages files) (keyed other_key name page) new }

        now : Files other_cmp
        now = other_set o apart other_o other_apart (IsThere u) key other_key u.pages files filed name there page new

        Both : List ℕ → Type 0
        Both a = IsThere u a × IsThere w a

        is : x ≡ refiled_all other_cmp now w
        is = ap (λ (p : PlainPages other_cmp). record (rekeyed u) { pages = p }) (put_refiled o apart other_o other_apart (IsThere u) key other_key u.pages files filed name there page new)

        files_are : x.pages.files ≡ now
        files_are = ap (λ (y : Parts other_cmp). y.pages.files) is

        both : AreKeyed file_cmp other_cmp Both key other_key w.pages.files now
        both = keyed_by file_cmp other_cmp (IsThere u) Both key other_key w.pages.files now (λ a h. (h, h)) (λ a h. h.0) (put_keyed o apart other_o other_apart (IsThere u) key other_key u.pages files filed name there page new)

    map_stays : (change : MapChange) → OfFiles (IsThere u) change → Stays u (pages_changed key change u) (pages_changed other_key change (rekeyed u))
    unfolding map_changed page_at
    map_stays Nothing there = stay key other_key u files filed _ _ refl refl (λ x h. h)
    map_stays (Unmap s) there = entry_stays s (λ e. entry.Empty)
    map_stays (Follow s t a) there = entry_stays s (λ e. entry.Follows t.fork.serial t.page a)
    map_stays (Narrow s a) there = entry_stays s (narrow a)
    map_stays (Map s name page a) there =
        let old = map.get u.pages.files (keyed key name page) in
        subst (λ (n : Option PageName). Stays u (record u { pages = with_changed u.pages s (λ e. entry_for a e old) }) (record (rekeyed u) { pages = with_changed (refiled other_cmp u.pages files) s (λ e. entry_for a e n) }))
        (sym (filed.same name there page)) (entry_stays s (λ e. entry_for a e old))
    map_stays (Put name page s) there = file_stays name there page (page_at u.pages (in_map s))
    map_stays (Drop name page) there = file_stays name there page None

-- a turn leaves the same but for the keys of files
module _ {K L : Type 0} {file_cmp : K → K → Ordering} (other_cmp : L → L → Ordering) (key : List ℕ → K) (other_key : List ℕ → L) where
  pub record TurnsFiled (v : Parts file_cmp) (r : Turned file_cmp) (other : Turned other_cmp) : Type 0 where
    pub same : other ≡ refiled_turned other_cmp other.parts.pages.files r
    pub keyed : AreKeyed file_cmp other_cmp (λ name. IsThere v name × IsThere r.parts name) key other_key r.parts.pages.files other.parts.pages.files

  turns : (v : Parts file_cmp) (left : Parts file_cmp) (other_left : Parts other_cmp) (who : ForkName) (change : Fork → Fork) (out : Option ℕ) → StayFiled file_cmp other_cmp key other_key v left other_left
      → TurnsFiled v (record { parts = left; caller = option_map change (map.get left.tree.forks who); out = out }) (record { parts = other_left; caller = option_map change (map.get other_left.tree.forks who); out = out })
  turns v left other_left who change out stays = record {
    same = ap (λ (l : Parts other_cmp). record { parts = l; caller = option_map change (map.get l.tree.forks who); out = out }) stays.same;
    keyed = stays.keyed;
  }

module _ {K L : Type 0} {file_cmp : K → K → Ordering} {other_cmp : L → L → Ordering} (o : IsTotalOrder file_cmp) (apart : map.IsAntisymmetric file_cmp) (other_o : IsTotalOrder other_cmp) (other_apart : map.IsAntisymmetric other_cmp) (key : List ℕ → K) (other_key : List ℕ → L) (files : Files other_cmp) where
  abbrev renewed : Parts file_cmp → Parts other_cmp
  renewed u = refiled_all other_cmp files u

  module _ (v : Parts file_cmp) (filed : AreFiled file_cmp other_cmp key other_key v files) (who : ForkName) where
    abbrev Turns : Turned file_cmp → Turned other_cmp → Type 0
    Turns r other = TurnsFiled other_cmp key other_key v r other

    as_it_was : StayFiled file_cmp other_cmp key other_key v v (renewed v)
    as_it_was = stay key other_key v files filed v (renewed v) refl refl (λ name h. h)

    -- the pages that a turn made, with what it does not change
    abbrev made_with : PlainPages file_cmp → Parts file_cmp
    made_with q = record v { pages = q }

    -- where a change leaves the same, so does a turn
    module _ {C : Type 0} (changed : C → Parts file_cmp → Parts file_cmp) (other : C → Parts other_cmp → Parts other_cmp)
        (step : (c : C) (q : PlainPages file_cmp) → AreFiled file_cmp other_cmp key other_key (made_with q) files → StayFiled file_cmp other_cmp key other_key (made_with q) (changed c (made_with q)) (other c (renewed (made_with q)))) where
      ended : (q : PlainPages file_cmp) → q.files ≡ v.pages.files → (e : End C) → StayFiled file_cmp other_cmp key other_key v (parts_behind changed v (made_with q) e) (parts_behind other (renewed v) (renewed (made_with q)) e)
      unfolding parts_behind
      ended q same (Done c regs out post) =
          let s = step c q (subst (λ (f : Files file_cmp). AreKeyed file_cmp other_cmp (IsThere v) key other_key f files) (sym same) filed) in
          record { same = s.same; keyed = s.keyed }
      ended q same (Waits on) = as_it_was
      ended q same Halts = as_it_was
      ended q same (Refused code) = as_it_was
      ended q same (Failed code) = as_it_was
      ended q same (Trap channel) = as_it_was

      behind_turns : (one : Sight ⊥ K) (sight : Sight ⊥ L) → NamesAlike one sight → (t : Turn ⊥ C) → Turns (behind changed v who (turn_on one v.pages t)) (behind other (renewed v) who (turn_on sight (renewed v).pages t))
      behind_turns one sight like t =
          let came : Came file_cmp C = turn_on one v.pages t in
          subst (λ (c : Came other_cmp C). Turns (behind changed v who came) (behind other (renewed v) who c)) (sym (came_refiled other_cmp files one sight like t v.pages (alike o apart other_o other_apart key other_key files v filed)))
          (turns other_cmp key other_key v (parts_behind changed v (made_with came.pages) came.end) (parts_behind other (renewed v) (renewed (made_with came.pages)) came.end) who (λ f. fork_behind f came.end) (out_of came.end)
          (ended came.pages (came_leaves one t v.pages) came.end))

    no_files_told : NamesAlike (no_files {K = K}) (no_files {K = L})
    no_files_told = record { names = λ name. refl; more = refl }

    either : (b : Bool) (x y : Turned file_cmp) (x' y' : Turned other_cmp) → Turns x x' → Turns y y' → Turns (cond b x y) (cond b x' y')
    either true x y x' y' first second = first
    either false x y x' y' first second = second

    own_step : (c : Unit {0}) (q : PlainPages file_cmp) → AreFiled file_cmp other_cmp key other_key (made_with q) files → StayFiled file_cmp other_cmp key other_key (made_with q) (own_changed c (made_with q)) (own_changed c (renewed (made_with q)))
    own_step c q k = stay key other_key (made_with q) files k (made_with q) (renewed (made_with q)) refl refl (λ name h. h)

    fork_step : (c : ForkChange) (q : PlainPages file_cmp) → AreFiled file_cmp other_cmp key other_key (made_with q) files → StayFiled file_cmp other_cmp key other_key (made_with q) (forks_changed c (made_with q)) (forks_changed c (renewed (made_with q)))
    fork_step c q k = stay key other_key (made_with q) files k _ _
        (ap (λ (part : ForkParts other_cmp). record (renewed v) { tree = part.tree; pages = part.pages; jobs = codes_behind c part.tree.forks v.jobs }) (change_refiled other_cmp files c (record { tree = v.tree; pages = q }) (alike o apart other_o other_apart key other_key files (made_with q) k)))
        (fork_leaves c (record { tree = v.tree; pages = q })) (λ name h. h)

    interrupt_step : (c : InterruptChange) (q : PlainPages file_cmp) → AreFiled file_cmp other_cmp key other_key (made_with q) files → StayFiled file_cmp other_cmp key other_key (made_with q) (interrupts_changed c (made_with q)) (interrupts_changed c (renewed (made_with q)))
    interrupt_step c q k = stay key other_key (made_with q) files k (interrupts_changed c (made_with q)) (interrupts_changed c (renewed (made_with q))) refl refl (λ name h. h)

    sleep_step : (c : SleepChange) (q : PlainPages file_cmp) → AreFiled file_cmp other_cmp key other_key (made_with q) files → StayFiled file_cmp other_cmp key other_key (made_with q) (sleeps_changed c (made_with q)) (sleeps_changed c (renewed (made_with q)))
    sleep_step c q k = stay key other_key (made_with q) files k (sleeps_changed c (made_with q)) (sleeps_changed c (renewed (made_with q))) refl refl (λ name h. h)

    -- two files are told apart by both kinds of keys, or by neither
    keys_tied : (a b : List ℕ) → IsThere v a → IsThere v b → eq_by_cmp other_cmp (other_key a) (other_key b) ≡ eq_by_cmp file_cmp (key a) (key b)
    keys_tied a b x y = by (eq_by_cmp other_cmp (other_key a) (other_key b)) (eq_by_cmp file_cmp (key a) (key b)) refl refl
      where
        by : (c d : Bool) → eq_by_cmp other_cmp (other_key a) (other_key b) ≡ c → eq_by_cmp file_cmp (key a) (key b) ≡ d → c ≡ d
        by true true p q = refl
        by false false p q = refl
        by true false p q =
            let is : a ≡ b = filed.other_apart a b x y (other_apart (other_key a) (other_key b) ((Equal-is (other_cmp (other_key a) (other_key b))).0 p)) in
            absurd (let no : true ≡ false = sym (ap is_eq (tied_itself o (key b))) ∙ ap (λ (n : List ℕ). eq_by_cmp file_cmp (key n) (key b)) (sym is) ∙ q in cc no)
        by false true p q =
            let is : a ≡ b = filed.apart a b x y (apart (key a) (key b) ((Equal-is (file_cmp (key a) (key b))).0 q)) in
            absurd (let no : true ≡ false = sym (ap is_eq (tied_itself other_o (other_key b))) ∙ ap (λ (n : List ℕ). eq_by_cmp other_cmp (other_key n) (other_key b)) (sym is) ∙ p in cc no)

    -- a page of a file that is there
    abbrev Filed_by : {J : Type 0} → (List ℕ → J) → FilePage J → Type 0
    Filed_by at f = (a : List ℕ) × IsThere v a × (at a ≡ f.file)

    seen_told : TellAlike file_cmp other_cmp (IsThere v) (Filed_by key) (Filed_by other_key) (files_seen key v who) (files_seen other_key (renewed v) who)
    seen_told = record {
      together = keys_tied;
      names = λ name. refl;
      more = refl;
      total = λ f. o;
      other_total = λ f. other_o;
      apart = λ f. apart;
      other_apart = λ f. other_apart;
      filed = λ f known k is page. (f, known, cc is);
      other_filed = λ f known l is page. (f, known, cc is);
    }

    -- so does a turn that refers to files that are there, where its change leaves the same
    module _ {C : Type 0} (Allowed : C → Type 0) (changed : C → Parts file_cmp → Parts file_cmp) (other : C → Parts other_cmp → Parts other_cmp)
        (step : (now : Files other_cmp) (q : PlainPages file_cmp) → AreFiled file_cmp other_cmp key other_key (made_with q) now → (c : C) → Allowed c
        → StayFiled file_cmp other_cmp key other_key (made_with q) (changed c (made_with q)) (other c (refiled_all other_cmp now (made_with q)))) where
      filed_ended : (now : Files other_cmp) (q : PlainPages file_cmp) → AreFiled file_cmp other_cmp key other_key (made_with q) now → (e : End C) → KeepsEnd Allowed e
          → StayFiled file_cmp other_cmp key other_key v (parts_behind changed v (made_with q) e) (parts_behind other (renewed v) (refiled_all other_cmp now (made_with q)) e)
      unfolding parts_behind
      filed_ended now q k (Done c regs out post) keeps = let s = step now q k c keeps in record { same = s.same; keyed = s.keyed }
      filed_ended now q k (Waits on) keeps = as_it_was
      filed_ended now q k Halts keeps = as_it_was
      filed_ended now q k (Refused code) keeps = as_it_was
      filed_ended now q k (Failed code) keeps = as_it_was
      filed_ended now q k (Trap channel) keeps = as_it_was

      filed_turns : (t : Turn (List ℕ) C) → Keeps (IsThere v) Allowed t
          → Turns (behind changed v who (turn_on (files_seen key v who) v.pages t)) (behind other (renewed v) who (turn_on (files_seen other_key (renewed v) who) (renewed v).pages t))
      filed_turns t keeps =
          let c : Came file_cmp C = turn_on (files_seen key v who) v.pages t in
          let now : Files other_cmp = (turn_on (files_seen other_key (renewed v) who) (renewed v).pages t).pages.files in
          let agree = came_same other_cmp (IsThere v) (Filed_by key) (Filed_by other_key) (files_seen key v who) (files_seen other_key (renewed v) who) seen_told Allowed t keeps v.pages files
          (record { names = alike o apart other_o other_apart key other_key files v filed; stand = filed.same; filed = filed.filed; other_filed = filed.other_filed }) in
          let made : AreFiled file_cmp other_cmp key other_key (made_with c.pages) now = record { apart = filed.apart; other_apart = filed.other_apart; same = agree.1.stand; filed = agree.1.filed; other_filed = agree.1.other_filed } in
          subst (λ (d : Came other_cmp C). Turns (behind changed v who c) (behind other (renewed v) who d)) (sym agree.0)
          (turns other_cmp key other_key v (parts_behind changed v (made_with c.pages) c.end) (parts_behind other (renewed v) (refiled_all other_cmp now (made_with c.pages)) c.end) who (λ f. fork_behind f c.end) (out_of c.end)
          (filed_ended now c.pages made c.end agree.2))

    map_turns : (t : Turn (List ℕ) MapChange) → KeepsFiles (IsThere v) t
        → Turns (behind (pages_changed key) v who (turn_on (files_seen key v who) v.pages t)) (behind (pages_changed other_key) (renewed v) who (turn_on (files_seen other_key (renewed v) who) (renewed v).pages t))
    map_turns t keeps = filed_turns (OfFiles (IsThere v)) (pages_changed key) (pages_changed other_key) (λ now q k c there. map_stays o apart other_o other_apart key other_key now (made_with q) k c there) t keeps

    -- files have as many pages under both kinds of keys
    pages_same : (name : List ℕ) → pages_of other_key v.files (renewed v).pages name ≡ pages_of key v.files v.pages name
    pages_same name = by (map.contains_key v.files name) refl
      where
        by : (b : Bool) → map.contains_key v.files name ≡ b → cond b (length (names_of_file (renewed v).pages (other_key name))) 0 ≡ cond b (length (names_of_file v.pages (key name))) 0
        by true there = counted_alike o apart other_o other_apart (IsThere v) key other_key v.pages files filed name there
        by false none = refl

    asked_same : (regs : Regs) → asks_bytes other_key (renewed v) who regs ≡ asks_bytes key v who regs
    asked_same regs = ap (λ (n : List ℕ → ℕ). record { who = who; regs = regs; held = held_at v.jobs who.tty; input = input_at v.jobs who.tty; files = v.files; pages = n }) (fun_ext pages_same)

    -- calls that are asked with bytes, and know the files of JFNs
    module _ (rows : List (ℕ × (ByteAsked → ByteTurn))) (regs : Regs) (number : ℕ) where
      byte_turns : AreHeld v → KnowsFiles (IsThere v) (numbered rows number (asks_bytes key v who regs))
          → Turns (behind (bytes_changed key) v who (turn_on (files_seen key v who) v.pages (numbered rows number (asks_bytes key v who regs))))
          (behind (bytes_changed other_key) (renewed v) who (turn_on (files_seen other_key (renewed v) who) (renewed v).pages (numbered rows number (asks_bytes other_key (renewed v) who regs))))
      byte_turns held keeps =
          subst (λ (a : ByteAsked). Turns (behind (bytes_changed key) v who (turn_on (files_seen key v who) v.pages (numbered rows number (asks_bytes key v who regs))))
          (behind (bytes_changed other_key) (renewed v) who (turn_on (files_seen other_key (renewed v) who) (renewed v).pages (numbered rows number a)))) (sym (asked_same regs))
          (filed_turns (λ c. Unit {0}) (bytes_changed key) (bytes_changed other_key) (λ now q k c any. byte_stays o apart other_o other_apart key other_key now (made_with q) k held c) (numbered rows number (asks_bytes key v who regs)) keeps)

    -- A TURN OF A CALL LEAVES THE SAME, whatever files are known by
    pub call_refiled : AreHeld v → (regs : Regs) (number : ℕ) → Turns (call_turned key v who regs number) (call_turned other_key (renewed v) who regs number)
    call_refiled held regs number =
        either (is_among print_calls number) _ _ _ _ (behind_turns own_changed own_changed own_step no_files no_files no_files_told (numbered print_calls number regs))
        (either (is_among fork_calls number) _ _ _ _ (behind_turns forks_changed forks_changed fork_step no_files no_files no_files_told (numbered fork_calls number (asks v who regs)))
        (either (is_among interrupt_calls number) _ _ _ _ (behind_turns interrupts_changed interrupts_changed interrupt_step no_files no_files no_files_told (numbered interrupt_calls number (asks v who regs)))
        (either (is_among clock_calls number) _ _ _ _ (behind_turns sleeps_changed sleeps_changed sleep_step no_files no_files no_files_told (numbered clock_calls number (asks_clock v who regs)))
        (either (is_among map_calls number) _ _ _ _ (map_turns (numbered map_calls number (asks_maps v who regs)) (map_keeps (IsThere v) (asks_maps v who regs) (held who.tty) number))
        (either (is_among file_calls number) _ _ _ _ (behind_turns own_changed own_changed own_step no_files no_files no_files_told (numbered file_calls number (asks v who regs)))
        (either (is_among jfn_calls number) _ _ _ _
        (behind_turns (jfns_changed key) (jfns_changed other_key) (λ c q k. change_stays o apart other_o other_apart key other_key files (made_with q) k held c) (names_seen v who) (names_seen (renewed v) who) (record { names = λ name. refl; more = refl }) (numbered jfn_calls number (asks_jfns v who regs)))
        (either (is_among byte_calls number) _ _ _ _ (byte_turns byte_calls regs number held (byte_keeps (IsThere v) (asks_bytes key v who regs) (held who.tty) number))
        (either (is_among string_calls number) _ _ _ _ (byte_turns string_calls regs number held (string_keeps (IsThere v) (asks_bytes key v who regs) (held who.tty) number))
        (turns other_cmp key other_key v v (renewed v) who (λ f. posted f ILLEGAL_INSTRUCTION) None as_it_was)))))))))
