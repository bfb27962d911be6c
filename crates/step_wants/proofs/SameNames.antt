-- A unit refers to the same names, whatever files are known by.
use Rattle.std.proofs.Common.{◌≡◌, ℕ, List, [], ◌++◌, length, Bool, true, false, cond, refl, sym, ◌∙◌, ap}
use Rattle.std.specs.Option.{option_map_or}
use Rattle.std.specs.Ordering.{eq_by_cmp, is_eq}
use Rattle.std.specs.Cmp.{Equal-is, IsTotalOrder}
use Rattle.std.specs.FinMap as map
use Rattle.std.specs.declared.cmp.Ordering.{Ordering}
use Rattle.std.proofs.lemmas.Cmp.{tied_itself}
use Rattle.machine_names.specs.Orders.{FilePage}
use Rattle.machine_names.specs.declared.names.ForkName.{ForkName}
use Rattle.plain_pages.specs.PlainPages.{refiled}
use Rattle.plain_pages.proofs.Refiled.{NameAlike}
use Rattle.plain_pages.proofs.Whole.{tally}
use Rattle.plain_units.specs.declared.registers.Regs.{Regs}
use Rattle.plain_units.specs.Instructions.{instruction}
use Rattle.plain_units.specs.Steps.{Planned, begun, call, done, stopped}
use Rattle.plain_units.specs.Units.{unit_on}
use Rattle.plain_units.proofs.RefiledUnits.{refiled_plan, run_refiled}
use Rattle.plain_model.specs.declared.call.End.{End}
use Rattle.plain_model.specs.declared.fork.Fork.{Fork}
use Rattle.plain_model.specs.declared.interrupt.Inspected.{Inspected}
use Rattle.plain_model.specs.declared.interrupt.Inspected.TheVariants.{Delivers, Forces, Nothing}
use Rattle.plain_model.specs.ByteCalls.{ByteAsked, ByteTurn, byte_calls, input_at, pages_of}
use Rattle.plain_model.specs.Calls.{Came, Sight, Turn, is_among, no_files, numbered}
use Rattle.plain_model.specs.ClockCalls.{clock_calls}
use Rattle.plain_model.specs.Families.{Parts, asks, asks_bytes, asks_clock, asks_jfns, asks_maps, files_seen, names_seen, print_calls}
use Rattle.plain_model.specs.FileCalls.{file_calls, held_at, jfn_calls}
use Rattle.plain_model.specs.ForkCalls.{fork_calls}
use Rattle.plain_model.specs.Inspections.{inspected, inspected_by, inspection_turn, is_interrupted}
use Rattle.plain_model.specs.InterruptCalls.{interrupt_calls}
use Rattle.plain_model.specs.MapCalls.{map_calls}
use Rattle.plain_model.specs.StringCalls.{string_calls}
use Rattle.plain_model.proofs.ByteKeeps.{byte_keeps}
use Rattle.plain_model.proofs.Keyed.{Files, counted_alike, totals_keyed}
use Rattle.plain_model.proofs.MapKeeps.{map_keeps}
use Rattle.plain_model.proofs.RefiledCalls.{AreFiled, AreHeld, IsThere, refiled_all}
use Rattle.plain_model.proofs.StringKeeps.{string_keeps}
use Rattle.plain_model.proofs.Turns.{Keeps, NamesAlike, TellAlike, came_refiled, knows_none}
use Rattle.plain_pages.specs.FilePages.{names_of_file}
use Rattle.step_wants.specs.Names.{Housed, names_of_steps, names_of_turn, none_at_end}
use Rattle.step_wants.specs.Wants.{all_referring, first_names, names_behind, names_of_call, names_of_end, names_of_fork, names_of_fork_change, names_of_inspection, names_of_instruction, names_of_map_change, names_of_unit}
use Rattle.step_wants.proofs.Rekeyed.{steps_same, turn_same}

-- functions that are the same everywhere
everywhere : {A B : Type 0} (f g : A → B) → ((x : A) → f x ≡ g x) → f ≡ g
everywhere f g each = λ i x. each x i

module _ {K L : Type 0} {file_cmp : K → K → Ordering} {other_cmp : L → L → Ordering} (o : IsTotalOrder file_cmp) (apart : map.IsAntisymmetric file_cmp) (other_o : IsTotalOrder other_cmp) (other_apart : map.IsAntisymmetric other_cmp)
    (key : List ℕ → K) (other_key : List ℕ → L) (files : Files other_cmp) (v : Parts file_cmp) (filed : AreFiled file_cmp other_cmp key other_key v files) (held : AreHeld v) where
  abbrev renewed : Parts other_cmp
  renewed = refiled_all other_cmp files v

  alike : NameAlike other_cmp v.pages files
  alike n = totals_keyed o apart other_o other_apart (IsThere v) key other_key v.pages.files files filed (tally n)

  -- ---- turns that know no files

  told_none : (one : Sight ⊥ K) (other : Sight ⊥ L) → NamesAlike one other → TellAlike file_cmp other_cmp (λ f. Unit {0}) (λ f. Unit {0}) (λ f. Unit {0}) one other
  told_none one other like = record {
    together = λ f g x y. absurd f;
    names = like.names;
    more = like.more;
    total = λ f. absurd f;
    other_total = λ f. absurd f;
    apart = λ f. absurd f;
    other_apart = λ f. absurd f;
    filed = λ f known k is page. tt;
    other_filed = λ f known l is page. tt;
  }

  none_same : {C : Type 0} (regs : Regs) (at_end : End C → List Housed) (one : Sight ⊥ K) (other : Sight ⊥ L) → NamesAlike one other → (t : Turn ⊥ C)
      → names_of_turn other at_end (refiled other_cmp v.pages files) t ≡ names_of_turn one at_end v.pages t
  none_same regs at_end one other like t =
      turn_same other_cmp (λ f. Unit {0}) (λ f. Unit {0}) (λ f. Unit {0}) one other (told_none one other like) at_end regs (λ c. Unit {0}) t (knows_none t) v.pages files
      (record { names = alike; stand = λ f known. absurd f; filed = λ f there. tt; other_filed = λ f there. tt })

  no_files_told : NamesAlike (no_files {K = K}) (no_files {K = L})
  no_files_told = record { names = λ name. refl; more = refl }

  -- ---- turns that know files by their names

  keys_tied : (a b : List ℕ) → IsThere v a → IsThere v b → eq_by_cmp other_cmp (other_key a) (other_key b) ≡ eq_by_cmp file_cmp (key a) (key b)
  keys_tied a b x y = by (eq_by_cmp other_cmp (other_key a) (other_key b)) (eq_by_cmp file_cmp (key a) (key b)) refl refl
    where
      by : (c d : Bool) → eq_by_cmp other_cmp (other_key a) (other_key b) ≡ c → eq_by_cmp file_cmp (key a) (key b) ≡ d → c ≡ d
      by true true p q = refl
      by false false p q = refl
      by true false p q =
          let is : a ≡ b = filed.other_apart a b x y (other_apart (other_key a) (other_key b) ((Equal-is (other_cmp (other_key a) (other_key b))).0 p)) in
          absurd (let no : true ≡ false = sym (ap is_eq (tied_itself o (key b))) ∙ ap (λ (n : List ℕ). eq_by_cmp file_cmp (key n) (key b)) (sym is) ∙ q in cc no)
      by false true p q =
          let is : a ≡ b = filed.apart a b x y (apart (key a) (key b) ((Equal-is (file_cmp (key a) (key b))).0 q)) in
          absurd (let no : true ≡ false = sym (ap is_eq (tied_itself other_o (other_key b))) ∙ ap (λ (n : List ℕ). eq_by_cmp other_cmp (other_key n) (other_key b)) (sym is) ∙ p in cc no)

  -- a page of a file that is there
  abbrev FiledBy : {J : Type 0} → (List ℕ → J) → FilePage J → Type 0
  FiledBy at f = (a : List ℕ) × IsThere v a × (at a ≡ f.file)

  seen_told : (who : ForkName) → TellAlike file_cmp other_cmp (IsThere v) (FiledBy key) (FiledBy other_key) (files_seen key v who) (files_seen other_key renewed who)
  seen_told who = record {
    together = keys_tied;
    names = λ name. refl;
    more = refl;
    total = λ f. o;
    other_total = λ f. other_o;
    apart = λ f. apart;
    other_apart = λ f. other_apart;
    filed = λ f known k is page. (f, known, cc is);
    other_filed = λ f known l is page. (f, known, cc is);
  }

  filed_same : {C : Type 0} (regs : Regs) (at_end : End C → List Housed) (who : ForkName) (Allowed : C → Type 0) (t : Turn (List ℕ) C) → Keeps (IsThere v) Allowed t
      → names_of_turn (files_seen other_key renewed who) at_end (refiled other_cmp v.pages files) t ≡ names_of_turn (files_seen key v who) at_end v.pages t
  filed_same regs at_end who Allowed t kept =
      turn_same other_cmp (IsThere v) (FiledBy key) (FiledBy other_key) (files_seen key v who) (files_seen other_key renewed who) (seen_told who) at_end regs Allowed t kept v.pages files
      (record { names = alike; stand = filed.same; filed = filed.filed; other_filed = filed.other_filed })

  -- files have as many pages under both kinds of keys
  pages_same : (name : List ℕ) → pages_of other_key v.files (refiled other_cmp v.pages files) name ≡ pages_of key v.files v.pages name
  pages_same name = by (map.contains_key v.files name) refl
    where
      by : (b : Bool) → map.contains_key v.files name ≡ b → cond b (length (names_of_file (refiled other_cmp v.pages files) (other_key name))) 0 ≡ cond b (length (names_of_file v.pages (key name))) 0
      by true there = counted_alike o apart other_o other_apart (IsThere v) key other_key v.pages files filed name there
      by false none = refl

  asked_same : (who : ForkName) (regs : Regs) → asks_bytes other_key renewed who regs ≡ asks_bytes key v who regs
  asked_same who regs = ap (λ (n : List ℕ → ℕ). record { who = who; regs = regs; held = held_at v.jobs who.tty; input = input_at v.jobs who.tty; files = v.files; pages = n })
      (everywhere (pages_of other_key v.files (refiled other_cmp v.pages files)) (pages_of key v.files v.pages) pages_same)

  bytes_same : (who : ForkName) (regs : Regs) (rows : List (ℕ × (ByteAsked → ByteTurn))) (number : ℕ) → Keeps (IsThere v) (λ c. Unit {0}) (numbered rows number (asks_bytes key v who regs))
      → names_of_turn (files_seen other_key renewed who) (names_of_end (λ change. [])) (refiled other_cmp v.pages files) (numbered rows number (asks_bytes other_key renewed who regs))
      ≡ names_of_turn (files_seen key v who) (names_of_end (λ change. [])) v.pages (numbered rows number (asks_bytes key v who regs))
  bytes_same who regs rows number kept =
      ap (λ (a : ByteAsked). names_of_turn (files_seen other_key renewed who) (names_of_end (λ change. [])) (refiled other_cmp v.pages files) (numbered rows number a)) (asked_same who regs)
      ∙ filed_same regs (names_of_end (λ change. [])) who (λ c. Unit {0}) (numbered rows number (asks_bytes key v who regs)) kept

  -- ---- a unit

  either : (b : Bool) (x y x' y' : List Housed) → x' ≡ x → y' ≡ y → cond b x' y' ≡ cond b x y
  either true x y x' y' p q = p
  either false x y x' y' p q = q

  -- whichever family has the number
  call_same : (who : ForkName) (regs : Regs) (number : ℕ) → first_names (all_referring other_key) renewed who regs number ≡ first_names (all_referring key) v who regs number
  call_same who regs number =
      either (is_among print_calls number) _ _ _ _ (none_same regs _ no_files no_files no_files_told (numbered print_calls number regs))
      (either (is_among fork_calls number) _ _ _ _ (none_same regs (names_of_end (names_of_fork_change v.tree.forks)) no_files no_files no_files_told (numbered fork_calls number (asks v who regs)))
      (either (is_among interrupt_calls number) _ _ _ _ (none_same regs _ no_files no_files no_files_told (numbered interrupt_calls number (asks v who regs)))
      (either (is_among clock_calls number) _ _ _ _ (none_same regs _ no_files no_files no_files_told (numbered clock_calls number (asks_clock v who regs)))
      (either (is_among map_calls number) _ _ _ _ (filed_same regs (names_of_end names_of_map_change) who _ (numbered map_calls number (asks_maps v who regs)) (map_keeps (IsThere v) (asks_maps v who regs) (held who.tty) number))
      (either (is_among file_calls number) _ _ _ _ (none_same regs _ no_files no_files no_files_told (numbered file_calls number (asks v who regs)))
      (either (is_among jfn_calls number) _ _ _ _ (none_same regs _ (names_seen v who) (names_seen renewed who) (record { names = λ name. refl; more = refl }) (numbered jfn_calls number (asks_jfns v who regs)))
      (either (is_among byte_calls number) _ _ _ _ (bytes_same who regs byte_calls number (byte_keeps (IsThere v) (asks_bytes key v who regs) (held who.tty) number))
      (either (is_among string_calls number) _ _ _ _ (bytes_same who regs string_calls number (string_keeps (IsThere v) (asks_bytes key v who regs) (held who.tty) number))
      refl))))))))

  called_same : (f : Fork) (x : Planned file_cmp ⊥) → names_of_call other_key renewed f (refiled_plan other_cmp files x) ≡ names_of_call key v f x
  called_same f (call number) = call_same f.name f.body.regs number
  called_same f (done t e) = refl
  called_same f (stopped why) = refl

  instruction_same : (f : Fork) → names_of_instruction other_key renewed f ≡ names_of_instruction key v f
  instruction_same f =
      ap (λ (xs : List Housed). xs ++ names_of_call other_key renewed f (unit_on f.name (refiled other_cmp v.pages files) f.body.regs)) (steps_same other_cmp files f.name (instruction f.body.regs) (begun v.pages f.body.regs.ac) alike)
      ∙ ap (λ (ys : List Housed). names_of_steps f.name (instruction f.body.regs) (begun v.pages f.body.regs.ac) ++ ys)
      (ap (names_of_call other_key renewed f) (run_refiled other_cmp files f.name (instruction f.body.regs) (begun v.pages f.body.regs.ac) alike) ∙ called_same f (unit_on f.name v.pages f.body.regs))

  behind_same : (f : Fork) (what : Inspected) → names_behind other_key renewed f what ≡ names_behind key v f what
  behind_same f Nothing = instruction_same f
  behind_same f (Delivers d) = refl
  behind_same f (Forces channel) = refl

  inspection_same : (f : Fork) → names_of_inspection other_key renewed f ≡ names_of_inspection key v f
  inspection_same f =
      let ends_same = ap (λ (c : Came other_cmp Inspected). inspected_by c.end) (came_refiled other_cmp files no_files no_files no_files_told (inspection_turn f) v.pages alike) in
      ap (λ (xs : List Housed). xs ++ names_behind other_key renewed f (inspected_by (inspected f (refiled other_cmp v.pages files)).end)) (none_same f.body.regs none_at_end no_files no_files no_files_told (inspection_turn f))
      ∙ ap (λ (ys : List Housed). names_of_turn no_files none_at_end v.pages (inspection_turn f) ++ ys) (ap (names_behind other_key renewed f) ends_same ∙ behind_same f (inspected_by (inspected f v.pages).end))

  -- A UNIT REFERS TO THE SAME NAMES
  pub fork_same : (f : Fork) → names_of_fork other_key renewed f ≡ names_of_fork key v f
  fork_same f = by (is_interrupted f.body.psi)
    where
      by : (b : Bool) → cond b (names_of_inspection other_key renewed f) (names_of_instruction other_key renewed f) ≡ cond b (names_of_inspection key v f) (names_of_instruction key v f)
      by true = inspection_same f
      by false = instruction_same f

  pub unit_same : (f : ForkName) → names_of_unit other_key renewed f ≡ names_of_unit key v f
  unit_same f = ap (λ (g : Fork → List Housed). option_map_or g (map.get v.tree.forks f) []) (everywhere (names_of_fork other_key renewed) (names_of_fork key v) fork_same)
