-- What is noted of an entry is what comes: a page for which there was no room exactly where a reference is full, the clock where it is asked,
-- the limit of files where it stops a file, and the name that GTJFN reads.
use Rattle.std.proofs.Common.{◌≡◌, ◌≢◌, ℕ, ◌≤◌, Bool, true, false, cond, not, ◌||◌, List, [], ◌∷◌, Option, None, Some, refl, sym, ◌∙◌, ap, subst, arith}
use Rattle.std.specs.Prelude.{is_some, nat_lt, slice_index}
use Rattle.std.specs.Cmp.{tied_itself}
use Rattle.std.specs.Cmp.Lexicographic.{nat_list_cmp_total}
use Rattle.std.specs.FinMap as map
use Rattle.std.specs.Option.{option_and_then, option_map_or}
use Rattle.std.specs.Ordering.{is_eq}
use Rattle.std.proofs.lemmas.Bool.Decides.{nat_tests}
use Rattle.machine_names.specs.FileNames.{file_named}
use Rattle.machine_names.specs.Orders.{name_cmp}
use Rattle.machine_names.specs.declared.names.ForkName.{ForkName}
use Rattle.machine_names.specs.declared.names.Kind.{Kind}
use Rattle.machine_names.specs.declared.names.TheConstants.{MOST_FILES}
use Rattle.machine_names.specs.declared.names.Tty.{Tty}
use Rattle.script_texts.specs.declared.event.Event.TheVariants.{File}
use Rattle.plain_files.specs.OpenFiles.{free_jfn}
use Rattle.plain_files.specs.Sizes.{PlainFile}
use Rattle.plain_pages.specs.PlainPages.{NamedPages}
use Rattle.plain_pages.specs.References.{Making, Spot, denied, full, make, make_all, makings, reference}
use Rattle.plain_pages.specs.Room.{HasRoom}
use Rattle.plain_units.specs.declared.channel.TheConstants.{ILLEGAL_INSTRUCTION}
use Rattle.plain_units.specs.declared.registers.Regs.{Regs}
use Rattle.plain_units.specs.Blocks.{steps_on}
use Rattle.plain_units.specs.Deeds.{in_ac}
use Rattle.plain_units.specs.Steps.{Planned, call, done, need, pages_left, stopped, trap}
use Rattle.plain_model.specs.declared.call.End.TheVariants.{Failed, Trap}
use Rattle.plain_model.specs.declared.call.FileChange.{FileChange}
use Rattle.plain_model.specs.declared.call.TheConstants.{BAD_NAME, DISMS, GTJFN, JFNS_FULL, TIME}
use Rattle.plain_model.specs.declared.fork.Fork.{Fork}
use Rattle.plain_model.specs.Calls.{Came, Sight, Turn, ends, no_files, stepped, turn_on}
use Rattle.plain_model.specs.Families.{Parts, asks_jfns, names_seen}
use Rattle.plain_model.specs.FileCalls.{JfnAsked, found_or_made, taking}
use Rattle.plain_model.specs.PointedTexts.{text_at}
use Rattle.plain_model.specs.Readings.{Reading, read, with_reading, words}
use Rattle.plain_model.specs.State.{PlainState}
use Rattle.plain_model.specs.Unit.{parts_of}
use Rattle.plain_laws.specs.JfnLaws.{AsksFor, user_of}
use Rattle.plain_laws.proofs.ReadTurns.{telling, told}
use Rattle.plain_alone.specs.Looks.{is_used}
use Rattle.plain_alone.specs.Notes.{Notes, call_notes, event_notes, nothing_met, turn_notes, unmade_at, unmade_of}

-- ---- room

module _ (owner : Tty) where
  some_unmade : (ms : List (Making (List ℕ))) (p : NamedPages) → make_all p owner ms ≡ full → unmade_of p owner ms ≢ []
  unfolding make_all unmade_of
  some_unmade [] p is = absurd (cc is)
  some_unmade (m ∷ ms) p is = by (λ q. some_unmade ms q) (make p owner m) (HasRoom (make p owner m) owner) is
    where
      by : ((q : NamedPages) → make_all q owner ms ≡ full → unmade_of q owner ms ≢ []) → (q : NamedPages) (b : Bool) → cond b (make_all q owner ms) full ≡ full → cond b (unmade_of q owner ms) (q ∷ []) ≢ []
      by rest q true h = rest q h
      by rest q false h = λ none. cc none

  none_unmade : (ms : List (Making (List ℕ))) (p : NamedPages) → (make_all p owner ms ≡ full → ⊥) → unmade_of p owner ms ≡ []
  unfolding make_all unmade_of
  none_unmade [] p not_full = refl
  none_unmade (m ∷ ms) p not_full = by (λ q. none_unmade ms q) (make p owner m) (HasRoom (make p owner m) owner) not_full
    where
      by : ((q : NamedPages) → (make_all q owner ms ≡ full → ⊥) → unmade_of q owner ms ≡ []) → (q : NamedPages) (b : Bool) → (cond b (make_all q owner ms) full ≡ full → ⊥) → cond b (unmade_of q owner ms) (q ∷ []) ≡ []
      by rest q true h = rest q h
      by rest q false h = absurd (h refl)

  pub full_is_noted : (p : NamedPages) (at : Spot (List ℕ)) (kind : Kind) → reference p at kind owner ≡ full → unmade_at p at kind owner ≢ []
  unfolding reference unmade_at
  full_is_noted p at kind is = by (makings p at kind) is
    where
      by : (o : Option (List (Making (List ℕ)))) → option_map_or (make_all p owner) o (denied kind) ≡ full → option_map_or (unmade_of p owner) o [] ≢ []
      by None h = absurd (cc h)
      by (Some ms) h = some_unmade ms p h

  pub room_is_noted : (p : NamedPages) (at : Spot (List ℕ)) (kind : Kind) → (reference p at kind owner ≡ full → ⊥) → unmade_at p at kind owner ≡ []
  unfolding reference unmade_at
  room_is_noted p at kind not_full = by (makings p at kind) not_full
    where
      by : (o : Option (List (Making (List ℕ)))) → (option_map_or (make_all p owner) o (denied kind) ≡ full → ⊥) → option_map_or (unmade_of p owner) o [] ≡ []
      by None h = refl
      by (Some ms) h = none_unmade ms p h

-- ---- the clock, and the limit of files

pub time_is_noted : (v : Parts name_cmp) (who : ForkName) (regs : Regs) → (let n = call_notes v who regs TIME in n.timed ≡ true)
unfolding call_notes
time_is_noted v who regs = refl

pub sleep_is_noted : (v : Parts name_cmp) (who : ForkName) (regs : Regs) → (let n = call_notes v who regs DISMS in n.timed ≡ true)
unfolding call_notes
sleep_is_noted v who regs = refl

no_more : (k : ℕ) → MOST_FILES ≤ k → nat_lt k MOST_FILES ≡ false
no_more k most = grind (arith, nat_tests)

pub limit_is_noted : (s : PlainState) (name : List ℕ) → map.get s.files name ≡ None → MOST_FILES ≤ map.len s.files → (let n = event_notes s (File name) in n.crowded ≡ true)
unfolding event_notes
limit_is_noted s name none most =
    ap (λ (o : Option PlainFile). (let n : Notes = cond (is_some o) nothing_met (record nothing_met { crowded = not (nat_lt (map.len s.files) MOST_FILES) }) in n.crowded)) none
    ∙ ap not (no_more (map.len s.files) most)

-- ---- the name that GTJFN reads

abbrev Uses : List ℕ → Notes → Type 0
Uses name n = is_used n.looks name ≡ true

-- what follows a reading is noted, on the pages of then
module _ {A F C : Type 0} (sight : Sight F (List ℕ)) (f : ForkName) (regs : Regs) (name : List ℕ) (next : A → Turn F C) (found : A) (q : NamedPages) (used : Uses name (turn_notes sight q (next found))) where
  reads_noted : (r : Reading A) (p : NamedPages) → turn_on no_files p (telling f regs r) ≡ record { end = told regs found; pages = q } → Uses name (turn_notes sight p (with_reading f regs r next))
  unfolding with_reading turn_on turn_notes
  reads_noted (words steps rest) p is = by (λ w r is. reads_noted (rest w) r is) (steps_on f regs steps p) is
    where
      by : ((w : ℕ) (r : NamedPages) → turn_on no_files r (telling f regs (rest w)) ≡ record { end = told regs found; pages = q } → Uses name (turn_notes sight r (with_reading f regs (rest w) next))) → (x : Planned name_cmp ⊥)
          → stepped f x (λ r e. turn_on no_files r (telling f regs (rest (slice_index e.regs.ac 0)))) (λ channel. record { end = Trap channel; pages = p }) ≡ record { end = told regs found; pages = q }
          → Uses name (stepped f x (λ r e. turn_notes sight r (with_reading f regs (rest (slice_index e.regs.ac 0)) next)) (λ channel. nothing_met))
      by later (done t e) is = later (slice_index e.regs.ac 0) (pages_left f t e) is
      by later (stopped (trap channel)) is = absurd (let no : Trap channel ≡ told regs found = ap (λ (c : Came name_cmp A). c.end) is in cc no)
      by later (stopped (need none)) is = absurd none
      by later (call number) is = absurd (let no : Trap ILLEGAL_INSTRUCTION ≡ told regs found = ap (λ (c : Came name_cmp A). c.end) is in cc no)
  reads_noted (read x) p is =
      let same : told regs x ≡ told regs found = ap (λ (c : Came name_cmp A). c.end) is in
      let read_so : x ≡ found = cc same in
      let pages : p ≡ q = ap (λ (c : Came name_cmp A). c.pages) is in
      subst (λ (y : A). Uses name (turn_notes sight p (next y))) (sym read_so) (subst (λ (r : NamedPages). Uses name (turn_notes sight r (next found))) (sym pages) used)

module _ (s : PlainState) (f : Fork) (name : List ℕ) (q : NamedPages) (asks : AsksFor s f name q) where
  abbrev asked : JfnAsked
  asked = asks_jfns (parts_of s) f.name f.body.regs

  abbrev sight : Sight ⊥ (List ℕ)
  sight = names_seen (parts_of s) f.name

  abbrev goes_on : Option (List ℕ) → Turn ⊥ FileChange
  goes_on o = option_map_or (taking asked) o (ends (Failed BAD_NAME))

  named_used : Uses name (turn_notes sight q (goes_on (Some name)))
  unfolding turn_notes
  named_used =
      let later = turn_notes sight q (option_map_or (λ n. found_or_made asked n name (is_some (map.get s.files name))) (free_jfn asked.held) (ends (Failed JFNS_FULL))) in
      ap (λ r. is_eq r || is_used later.looks name) (tied_itself nat_list_cmp_total name)

  pub name_is_noted : Uses name (call_notes (parts_of s) f.name f.body.regs GTJFN)
  unfolding call_notes
  name_is_noted =
      reads_noted sight f.name f.body.regs name (λ text. goes_on (option_and_then (file_named (user_of s f) []) text)) (Some asks.text) q
      (subst (λ (o : Option (List ℕ)). Uses name (turn_notes sight q (goes_on o))) (sym asks.named) named_used) (text_at f.body.regs (in_ac f.body.regs 2)) s.pages asks.reads
