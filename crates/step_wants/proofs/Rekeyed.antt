-- Steps and turns refer to the same names, whatever files are known by.
use Rattle.std.proofs.Common.{◌≡◌, ℕ, List, [], ◌∷◌, ◌++◌, length, Bool, true, false, cond, Option, None, Some, refl, ◌∙◌, ap}
use Rattle.std.specs.Prelude.{nat_le, slice_index}
use Rattle.std.specs.Option.{option_and_then, option_map, option_map_or}
use Rattle.std.specs.FinMap as map
use Rattle.std.specs.declared.cmp.Ordering.{Ordering}
use Rattle.machine_names.specs.Orders.{FilePage, file_page_cmp}
use Rattle.machine_names.specs.declared.names.ForkName.{ForkName}
use Rattle.machine_names.specs.declared.names.Kind.{Kind}
use Rattle.machine_names.specs.declared.names.Kind.TheVariants.{Write}
use Rattle.machine_names.specs.declared.names.PageName.{PageName}
use Rattle.machine_names.specs.declared.names.Slot.{Slot}
use Rattle.plain_pages.specs.PlainPages.{PlainPages, refiled}
use Rattle.plain_pages.specs.References.{Referred, Spot, denied, full, granted, in_file, in_map, page_at, reference, slot_at, word_at}
use Rattle.plain_pages.specs.Room.{HasRoom}
use Rattle.plain_pages.specs.NewMaps.{with_map}
use Rattle.plain_pages.proofs.Refiled.{NameAlike, reference_leaves, reference_refiled, refiled_result}
use Rattle.plain_units.specs.declared.registers.Regs.{Regs}
use Rattle.plain_units.specs.declared.unit.Put.{Put}
use Rattle.plain_units.specs.declared.unit.TheConstants.{MOST_REFERENCES}
use Rattle.plain_units.specs.Blocks.{steps_on}
use Rattle.plain_units.specs.Steps.{Ending, Planned, Progress, Steps, asked_at, begun, call, calls, done, ends as steps_end, goes, is_accumulator, keeps, need, pages_left, plain_asked, plainly, referred, refers, seen, stopped, trap, traps, widened, widens, word_taken}
use Rattle.plain_units.proofs.RefiledUnits.{refiled_progress, still_alike}
use Rattle.plain_model.specs.declared.call.End.{End}
use Rattle.plain_model.specs.declared.call.End.TheVariants.{Done, Trap}
use Rattle.plain_model.specs.declared.call.Touched.{Touched}
use Rattle.plain_model.specs.declared.call.Touched.TheVariants.{Denied, Full, Granted}
use Rattle.plain_model.specs.Calls.{Came, Sight, Turn, adds, ends, entry_of, finds, looks, makes, reads, sees, spot_of, stepped, takes, touched, touches, turn_on, with_added}
use Rattle.plain_model.proofs.Turns.{AreAlike, Keeps, KnownSpot, StandAlike, TellAlike, came_same}
use Rattle.step_wants.specs.Names.{Housed, a_map, maps_to, names_at, names_of_steps, names_of_turn, names_on_way, page_named, where_granted}

module _ {K L : Type 0} {file_cmp : K → K → Ordering} (other_cmp : L → L → Ordering) (files : map.FinMap (file_page_cmp other_cmp) PageName) (f : ForkName) where
  abbrev rekeyed : PlainPages file_cmp → PlainPages other_cmp
  rekeyed p = refiled other_cmp p files

  seen_same : (p : PlainPages file_cmp) (kept : Option Put) (a : ℕ) (n : Option PageName) → seen (rekeyed p) f kept a n ≡ seen p f kept a n
  unfolding page_at
  seen_same p kept a None = refl
  seen_same p None a (Some n) = refl
  seen_same p (Some put) a (Some n) = refl

  taken_same : (t : Progress file_cmp) (a : ℕ) → word_taken f (refiled_progress other_cmp files t) a ≡ word_taken f t a
  unfolding page_at
  taken_same t a = ap (λ w. cond (is_accumulator a) (slice_index t.ac a) w) (seen_same t.pages t.kept a (page_at t.pages (in_map (slot_at f a))))

  at_same : (p : PlainPages file_cmp) (a : ℕ) → names_at (rekeyed p) f a ≡ names_at p f a
  unfolding page_at
  at_same p a = refl

  granted_same : (p : PlainPages file_cmp) → NameAlike other_cmp p files → (a : ℕ) (kind : Kind) (next : PlainPages file_cmp → List Housed) (other : PlainPages other_cmp → List Housed)
      → ((q : PlainPages file_cmp) → NameAlike other_cmp q files → other (rekeyed q) ≡ next q) → where_granted (asked_at (plainly f) f (rekeyed p) a kind) other ≡ where_granted (asked_at (plainly f) f p a kind) next
  granted_same p alike a kind next other same = by (is_accumulator a)
    where
      s : Slot
      s = slot_at f a

      of_page : (r : Referred file_cmp) → reference p (in_map s) kind f.tty ≡ r → where_granted (plain_asked (refiled_result other_cmp r files)) other ≡ where_granted (plain_asked r) next
      of_page (granted q) is = same q (still_alike other_cmp files p q alike (reference_leaves f.tty p q s kind is))
      of_page (denied k) is = refl
      of_page full is = refl

      by : (b : Bool) → where_granted (cond b (goes (rekeyed p)) (plainly f (rekeyed p) s kind)) other ≡ where_granted (cond b (goes p) (plainly f p s kind)) next
      by true = same p alike
      by false = ap (λ r. where_granted (plain_asked r) other) (reference_refiled other_cmp files f.tty p s kind alike) ∙ of_page (reference p (in_map s) kind f.tty) refl

  pub steps_same : (steps : Steps) (t : Progress file_cmp) → NameAlike other_cmp t.pages files → names_of_steps f steps (refiled_progress other_cmp files t) ≡ names_of_steps f steps t
  unfolding names_of_steps
  steps_same (refers a kind next) t alike = by (nat_le MOST_REFERENCES (length t.refs)) (λ w u like. steps_same (next w) u like)
    where
      behind : PlainPages file_cmp → List Housed
      behind q = names_of_steps f (next (word_taken f (referred t a kind q) a)) (referred t a kind q)

      other_behind : PlainPages other_cmp → List Housed
      other_behind q = names_of_steps f (next (word_taken f (referred (refiled_progress other_cmp files t) a kind q) a)) (referred (refiled_progress other_cmp files t) a kind q)

      by : (b : Bool) → ((w : ℕ) (u : Progress file_cmp) → NameAlike other_cmp u.pages files → names_of_steps f (next w) (refiled_progress other_cmp files u) ≡ names_of_steps f (next w) u)
          → cond b [] (names_at (rekeyed t.pages) f a ++ where_granted (asked_at (plainly f) f (rekeyed t.pages) a kind) other_behind) ≡ cond b [] (names_at t.pages f a ++ where_granted (asked_at (plainly f) f t.pages a kind) behind)
      by true rest = refl
      by false rest =
          ap (λ (xs : List Housed). xs ++ where_granted (asked_at (plainly f) f (rekeyed t.pages) a kind) other_behind) (at_same t.pages a)
          ∙ ap (λ (ys : List Housed). names_at t.pages f a ++ ys) (granted_same t.pages alike a kind behind other_behind
          (λ q like. ap (λ w. names_of_steps f (next w) (refiled_progress other_cmp files (referred t a kind q))) (taken_same (referred t a kind q) a) ∙ rest (word_taken f (referred t a kind q) a) (referred t a kind q) like))
  steps_same (widens a next) t alike =
      ap (λ (xs : List Housed). xs ++ where_granted (asked_at (plainly f) f (rekeyed t.pages) a Write) (λ q. names_of_steps f next (widened (refiled_progress other_cmp files t) a q))) (at_same t.pages a)
      ∙ ap (λ (ys : List Housed). names_at t.pages f a ++ ys) (granted_same t.pages alike a Write (λ q. names_of_steps f next (widened t a q)) (λ q. names_of_steps f next (widened (refiled_progress other_cmp files t) a q))
      (λ q like. steps_same next (widened t a q) like))
  steps_same (keeps a w next) t alike = steps_same next (record t { kept = Some (record { at = a; word = w }) }) alike
  steps_same (steps_end e) t alike = refl
  steps_same (traps channel) t alike = refl
  steps_same (calls number) t alike = refl

module _ {F K L : Type 0} {file_cmp : K → K → Ordering} (other_cmp : L → L → Ordering) (Known : F → Type 0) (Filed : FilePage K → Type 0) (OtherFiled : FilePage L → Type 0) (one : Sight F K) (other : Sight F L)
    (like : TellAlike file_cmp other_cmp Known Filed OtherFiled one other) where
  abbrev Alike : PlainPages file_cmp → map.FinMap (file_page_cmp other_cmp) PageName → Type 0
  Alike p files = AreAlike other_cmp Known Filed OtherFiled one other like p files

  -- what one step of a turn comes to that ends with what it was told
  record StepSame {C : Type 0} (c : Came file_cmp C) (d : Came other_cmp C) : Type 0 where
    pub end : d.end ≡ c.end
    pub pages : d.pages ≡ refiled other_cmp c.pages d.pages.files
    pub alike : Alike c.pages d.pages.files

  one_step : {C : Type 0} (t : Turn F C) → Keeps Known (λ (c : C). Unit {0}) t → (p : PlainPages file_cmp) (files : map.FinMap (file_page_cmp other_cmp) PageName) → Alike p files → StepSame (turn_on one p t) (turn_on other (refiled other_cmp p files) t)
  one_step t kept p files alike =
      let agree = came_same other_cmp Known Filed OtherFiled one other like (λ c. Unit {0}) t kept p files alike in
      record { end = ap (λ (d : Came other_cmp _). d.end) agree.0; pages = ap (λ (d : Came other_cmp _). d.pages) agree.0; alike = agree.1 }

  done_same : {C : Type 0} (x y : C) (regs : Regs) → Done x regs None None ≡ Done y regs None None → x ≡ y
  done_same x y regs is = cc is

  module _ {C : Type 0} (at_end : End C → List Housed) (regs0 : Regs) where
    abbrev NamesSame : Turn F C → Type 0
    NamesSame t = (p : PlainPages file_cmp) (files : map.FinMap (file_page_cmp other_cmp) PageName) → Alike p files → names_of_turn other at_end (refiled other_cmp p files) t ≡ names_of_turn one at_end p t

    -- behind the same step the same comes
    behind_same : (next : Turn F C) (q : PlainPages file_cmp) (r : PlainPages other_cmp) → r ≡ refiled other_cmp q r.files → Alike q r.files → NamesSame next → names_of_turn other at_end r next ≡ names_of_turn one at_end q next
    behind_same next q r is alike same = ap (λ x. names_of_turn other at_end x next) is ∙ same q r.files alike

    -- a reference
    touched_same : (p : PlainPages file_cmp) (files : map.FinMap (file_page_cmp other_cmp) PageName) → Alike p files → (next : Touched → Turn F C) → ((what : Touched) → NamesSame (next what)) → (x : Referred file_cmp) (y : Referred other_cmp)
        → StepSame (touched p x (λ q what. record { end = Done what regs0 None None; pages = q })) (touched (refiled other_cmp p files) y (λ q what. record { end = Done what regs0 None None; pages = q }))
        → touched (refiled other_cmp p files) y (λ q what. names_of_turn other at_end q (next what)) ≡ touched p x (λ q what. names_of_turn one at_end q (next what))
    touched_same p files alike next each (granted q) (granted r) same = behind_same (next Granted) q r same.pages same.alike (each Granted)
    touched_same p files alike next each (denied k) (denied l) same = each Denied p files alike
    touched_same p files alike next each full full same = each Full p files alike
    touched_same p files alike next each (granted q) (denied l) same = absurd (let no : Denied ≡ Granted = done_same Denied Granted regs0 same.end in cc no)
    touched_same p files alike next each (granted q) full same = absurd (let no : Full ≡ Granted = done_same Full Granted regs0 same.end in cc no)
    touched_same p files alike next each (denied k) (granted r) same = absurd (let no : Granted ≡ Denied = done_same Granted Denied regs0 same.end in cc no)
    touched_same p files alike next each (denied k) full same = absurd (let no : Full ≡ Denied = done_same Full Denied regs0 same.end in cc no)
    touched_same p files alike next each full (granted r) same = absurd (let no : Granted ≡ Full = done_same Granted Full regs0 same.end in cc no)
    touched_same p files alike next each full (denied l) same = absurd (let no : Denied ≡ Full = done_same Denied Full regs0 same.end in cc no)

    -- the names at a spot
    spot_same : (p : PlainPages file_cmp) (files : map.FinMap (file_page_cmp other_cmp) PageName) → Alike p files → (at : Spot F) → KnownSpot Known at
        → option_map_or (names_on_way (refiled other_cmp p files)) (spot_of other at) [] ≡ option_map_or (names_on_way p) (spot_of one at) []
    unfolding page_at
    spot_same p files alike (in_map s) known = refl
    spot_same p files alike (in_file f) known = by (one.file_of f.file) (other.file_of f.file) (alike.stand f.file known)
      where
        by : (a : Option K) (b : Option L) → StandAlike other_cmp p files a b
            → option_map_or (names_on_way (refiled other_cmp p files)) (option_map (λ l. in_file (record { file = l; page = f.page })) b) [] ≡ option_map_or (names_on_way p) (option_map (λ k. in_file (record { file = k; page = f.page })) a) []
        by None None h = refl
        by (Some k) (Some l) h = ap page_named (h f.page)
        by None (Some l) h = absurd h
        by (Some k) None h = absurd h

    -- the maps on the way to a spot
    maps_same : (p : PlainPages file_cmp) (files : map.FinMap (file_page_cmp other_cmp) PageName) (at : Spot F) → option_map_or (maps_to (refiled other_cmp p files)) (spot_of other at) [] ≡ option_map_or (maps_to p) (spot_of one at) []
    maps_same p files (in_map s) = refl
    maps_same p files (in_file f) = by (one.file_of f.file) (other.file_of f.file)
      where
        by : (a : Option K) (b : Option L)
            → option_map_or (maps_to (refiled other_cmp p files)) (option_map (λ l. in_file (record { file = l; page = f.page })) b) [] ≡ option_map_or (maps_to p) (option_map (λ k. in_file (record { file = k; page = f.page })) a) []
        by None None = refl
        by (Some k) (Some l) = refl
        by None (Some l) = refl
        by (Some k) None = refl

    -- steps of a fork
    stepped_same : (f : ForkName) (next : Ending → Turn F C) → ((e : Ending) → NamesSame (next e)) → (p : PlainPages file_cmp) (files : map.FinMap (file_page_cmp other_cmp) PageName) (x : Planned file_cmp ⊥) (y : Planned other_cmp ⊥)
        → StepSame (stepped f x (λ q e. record { end = Done e regs0 None None; pages = q }) (λ channel. record { end = Trap channel; pages = p }))
        (stepped f y (λ q e. record { end = Done e regs0 None None; pages = q }) (λ channel. record { end = Trap channel; pages = refiled other_cmp p files }))
        → stepped f y (λ q e. names_of_turn other at_end q (next e)) (λ channel. []) ≡ stepped f x (λ q e. names_of_turn one at_end q (next e)) (λ channel. [])
    stepped_same f next each p files (done t e) (done u d) same =
        let one_end : d ≡ e = done_same d e regs0 same.end in
        ap (λ x. names_of_turn other at_end (pages_left f u d) (next x)) one_end ∙ behind_same (next e) (pages_left f t e) (pages_left f u d) same.pages same.alike (each e)
    stepped_same f next each p files (stopped (trap m)) (stopped (trap n)) same = refl
    stepped_same f next each p files (stopped (trap m)) (call n) same = refl
    stepped_same f next each p files (call m) (stopped (trap n)) same = refl
    stepped_same f next each p files (call m) (call n) same = refl
    stepped_same f next each p files (done t e) (stopped (trap n)) same = absurd (cc same.end)
    stepped_same f next each p files (done t e) (call n) same = absurd (cc same.end)
    stepped_same f next each p files (stopped (trap m)) (done u d) same = absurd (cc same.end)
    stepped_same f next each p files (call m) (done u d) same = absurd (cc same.end)
    stepped_same f next each p files (stopped (need none)) y same = absurd none
    stepped_same f next each p files (done t e) (stopped (need none)) same = absurd none
    stepped_same f next each p files (stopped (trap m)) (stopped (need none)) same = absurd none
    stepped_same f next each p files (call m) (stopped (need none)) same = absurd none

    -- A TURN REFERS TO THE SAME NAMES
    pub turn_same : (Allowed : C → Type 0) (t : Turn F C) → Keeps Known Allowed t → NamesSame t
    unfolding names_of_turn turn_on
    turn_same Allowed (sees s next) kept p files alike = ap (λ (xs : List Housed). a_map s.fork ∷ xs) (turn_same Allowed (next (entry_of p s)) (kept (entry_of p s)) p files alike)
    turn_same Allowed (finds at next) kept p files alike =
        let n = option_and_then (page_at p) (spot_of one at) in
        let told = done_same _ _ regs0 (one_step (finds at (λ m. ends (Done m regs0 None None))) (kept.0, λ m. tt) p files alike).end in
        ap (λ (xs : List Housed). xs ++ names_of_turn other at_end (refiled other_cmp p files) (next (option_and_then (page_at (refiled other_cmp p files)) (spot_of other at)))) (maps_same p files at)
        ∙ ap (λ (m : Option PageName). option_map_or (maps_to p) (spot_of one at) [] ++ names_of_turn other at_end (refiled other_cmp p files) (next m)) told
        ∙ ap (λ (ys : List Housed). option_map_or (maps_to p) (spot_of one at) [] ++ ys) (turn_same Allowed (next n) (kept.1 n) p files alike)
    turn_same Allowed (reads f offset next) kept p files alike =
        let w = option_map_or (λ at. word_at p at offset) (spot_of one (in_file f)) 0 in
        let told = done_same _ _ regs0 (one_step (reads f offset (λ m. ends (Done m regs0 None None))) (kept.0, λ m. tt) p files alike).end in
        ap (λ (xs : List Housed). xs ++ names_of_turn other at_end (refiled other_cmp p files) (next (option_map_or (λ at. word_at (refiled other_cmp p files) at offset) (spot_of other (in_file f)) 0))) (spot_same p files alike (in_file f) kept.0)
        ∙ ap (λ m. option_map_or (names_on_way p) (spot_of one (in_file f)) [] ++ names_of_turn other at_end (refiled other_cmp p files) (next m)) told
        ∙ ap (λ (ys : List Housed). option_map_or (names_on_way p) (spot_of one (in_file f)) [] ++ ys) (turn_same Allowed (next w) (kept.1 w) p files alike)
    turn_same Allowed (touches owner at kind next) kept p files alike =
        let x = option_map_or (λ s. reference p s kind owner) (spot_of one at) (denied kind) in
        let y = option_map_or (λ s. reference (refiled other_cmp p files) s kind owner) (spot_of other at) (denied kind) in
        ap (λ (xs : List Housed). xs ++ touched (refiled other_cmp p files) y (λ q what. names_of_turn other at_end q (next what))) (spot_same p files alike at kept.0)
        ∙ ap (λ (ys : List Housed). option_map_or (names_on_way p) (spot_of one at) [] ++ ys)
        (touched_same p files alike next (λ what. turn_same Allowed (next what) (kept.1 what)) x y (one_step (touches owner at kind (λ what. ends (Done what regs0 None None))) (kept.0, λ what. tt) p files alike))
    turn_same Allowed (takes f regs steps next) kept p files alike =
        let x = steps_on f regs steps p in
        let y = steps_on f regs steps (refiled other_cmp p files) in
        ap (λ (xs : List Housed). xs ++ stepped f y (λ q e. names_of_turn other at_end q (next e)) (λ channel. [])) (steps_same other_cmp files f steps (begun p regs.ac) alike.names)
        ∙ ap (λ (ys : List Housed). names_of_steps f steps (begun p regs.ac) ++ ys)
        (stepped_same f next (λ e. turn_same Allowed (next e) (kept e)) p files x y (one_step (takes f regs steps (λ e. ends (Done e regs0 None None))) (λ e. tt) p files alike))
    turn_same Allowed (adds f entries next) kept p files alike =
        let room = HasRoom (with_map p f entries) f.tty in
        let now = HasRoom (with_map (refiled other_cmp p files) f entries) f.tty in
        let same = one_step (adds f entries (λ b. ends (Done b regs0 None None))) (λ b. tt) p files alike in
        let told : now ≡ room = done_same now room regs0 same.end in
        ap (λ b. names_of_turn other at_end (with_added (refiled other_cmp p files) f entries now) (next b)) told
        ∙ behind_same (next room) (with_added p f entries room) (with_added (refiled other_cmp p files) f entries now) same.pages same.alike (turn_same Allowed (next room) (kept room))
    turn_same Allowed (looks name next) kept p files alike =
        ap (λ b. names_of_turn other at_end (refiled other_cmp p files) (next b)) (like.names name) ∙ turn_same Allowed (next (one.is_name name)) (kept (one.is_name name)) p files alike
    turn_same Allowed (makes name next) kept p files alike =
        ap (λ b. names_of_turn other at_end (refiled other_cmp p files) (next b)) like.more ∙ turn_same Allowed (next one.has_more) (kept one.has_more) p files alike
    turn_same Allowed (ends e) kept p files alike = refl
