-- What the steps of a unit need first is the home of one of their names.
use Rattle.std.proofs.Common.{◌≡◌, ℕ, List, [], ◌++◌, length, Bool, true, false, cond, Option, None, Some, refl, ◌∙◌, ap}
use Rattle.std.specs.Prelude.{nat_le}
use Rattle.std.specs.Ordering.{nat_cmp}
use Rattle.machine_names.specs.declared.names.ForkName.{ForkName}
use Rattle.machine_names.specs.declared.names.Kind.{Kind}
use Rattle.machine_names.specs.declared.names.Kind.TheVariants.{Write}
use Rattle.machine_names.specs.declared.names.PageName.{PageName}
use Rattle.machine_names.specs.declared.names.Slot.{Slot}
use Rattle.page_homes.specs.declared.homes.Home.{Home}
use Rattle.page_contracts.specs.declared.answers.Need.{Need}
use Rattle.page_contracts.specs.declared.answers.Need.TheVariants.{Frame, Page}
use Rattle.page_contracts.specs.Pages.{map_away, page_away}
use Rattle.plain_pages.specs.PlainPages.{NumberedPages}
use Rattle.plain_pages.specs.References.{Referred, denied, full, granted, in_map, reference, slot_at}
use Rattle.plain_pages.specs.Room.{live}
use Rattle.plain_units.specs.declared.channel.TheConstants.{ILLEGAL_INSTRUCTION}
use Rattle.plain_units.specs.declared.unit.TheConstants.{MOST_REFERENCES}
use Rattle.plain_units.specs.Steps.{Asked, Progress, Steps, asked_at, calls, ends, goes, goes_on, is_accumulator, keeps, need, plain_asked, plainly, referred, refers, run, stopped, stops, trap, traps, widened, widens, word_taken}
use Rattle.page_gather.specs.declared.reference.Added.TheVariants as added
use Rattle.page_gather.specs.Gathering.{answered, came_to, left_by, most_framed, page_or}
use Rattle.ka10_unit.specs.Gathers.{Framed, asked_by, asks}
use Rattle.ka10_unit.specs.Taking.{Plan, run_over}
use Rattle.step_wants.specs.Names.{Housed, is_named, names_at, names_of_steps, names_on_way, where_granted}
use Rattle.step_wants.specs.Naming.{AreHomed}
use Rattle.step_wants.proofs.Away.{map_named, named_more, or_first, or_later, page_is_named}

module _ (map_home : ForkName → Option ℕ) (page_home : PageName → Option ℕ) where
  abbrev named : List Housed → Home → Bool
  named names home = is_named map_home page_home names home.0

  -- what is asked over pages of which some are in no frame is asked of the plain pages, or a page is needed that is named
  abbrev AskedSo : Asked Need NumberedPages → Asked ⊥ NumberedPages → List Housed → Type 0
  AskedSo (goes q) y names = y ≡ goes q
  AskedSo (stops (trap channel)) y names = Unit {0}
  AskedSo (stops (need Frame)) y names = Unit {0}
  AskedSo (stops (need (Page home))) y names = named names home ≡ true

  asks_so : (f : ForkName) (p : Framed) (q : NumberedPages) (s : Slot) (kind : Kind) → AreHomed map_home page_home p.scene → AskedSo (asks f p q s kind) (plainly f q s kind) (names_on_way q (in_map s))
  unfolding asks answered
  asks_so f p q s kind homed = by (map_away q p.scene (in_map s)) refl (page_away q p.scene (in_map s)) refl (reference q (in_map s) kind f.tty)
    where
      most : ℕ
      most = most_framed p.pages p.scene

      here : (away : Option ℕ) → page_away q p.scene (in_map s) ≡ away → (b : Bool) (y : NumberedPages)
          → AskedSo (asked_by (page_or away (cond b added.Went (added.Need Frame))) y) (goes y) (names_on_way q (in_map s))
      here None is true y = refl
      here None is false y = tt
      here (Some home) is b y = page_is_named map_home page_home q (in_map s) p.scene home homed is

      by : (way : Option ℕ) → map_away q p.scene (in_map s) ≡ way → (away : Option ℕ) → page_away q p.scene (in_map s) ≡ away → (x : Referred nat_cmp)
          → AskedSo (asked_by (page_or way (came_to x away most)) (left_by q x)) (plain_asked x) (names_on_way q (in_map s))
      by (Some home) there away is x = map_named map_home page_home q (in_map s) p.scene home homed there
      by None there away is (granted y) = here away is (nat_le (live y) most) y
      by None there away is (denied k) = tt
      by None there away is full = tt

  at_so : (f : ForkName) (p : Framed) (q : NumberedPages) (a : ℕ) (kind : Kind) → AreHomed map_home page_home p.scene → AskedSo (asked_at (asks f p) f q a kind) (asked_at (plainly f) f q a kind) (names_at q f a)
  at_so f p q a kind homed = by (is_accumulator a)
    where
      by : (b : Bool) → AskedSo (cond b (goes q) (asks f p q (slot_at f a) kind)) (cond b (goes q) (plainly f q (slot_at f a) kind)) (cond b [] (names_on_way q (in_map (slot_at f a))))
      by true = refl
      by false = asks_so f p q (slot_at f a) kind homed

  on_so : (home : Home) (x : Asked Need NumberedPages) (y : Asked ⊥ NumberedPages) (names : List Housed) (next : NumberedPages → Plan) (rest : NumberedPages → List Housed) → AskedSo x y names
      → ((q : NumberedPages) → next q ≡ stopped (need (Page home)) → named (rest q) home ≡ true) → goes_on x next ≡ stopped (need (Page home)) → named (names ++ where_granted y rest) home ≡ true
  on_so home (goes q) y names next rest so each is =
      named_more map_home page_home home.0 names (where_granted y rest)
      ∙ or_later (named names home) (named (where_granted y rest) home) (ap (λ (z : Asked ⊥ NumberedPages). named (where_granted z rest) home) so ∙ each q is)
  on_so home (stops (trap channel)) y names next rest so each is = absurd (cc is)
  on_so home (stops (need Frame)) y names next rest so each is = absurd (cc is)
  on_so home (stops (need (Page other))) y names next rest so each is =
      let same : home ≡ other = cc is in
      named_more map_home page_home home.0 names (where_granted y rest) ∙ or_first (named names home) (named (where_granted y rest) home) (ap (named names) same ∙ so)

  pub steps_named : (f : ForkName) (p : Framed) (home : Home) → AreHomed map_home page_home p.scene → (steps : Steps) (t : Progress nat_cmp)
      → run_over f p steps t ≡ stopped (need (Page home)) → named (names_of_steps f steps t) home ≡ true
  unfolding run names_of_steps
  steps_named f p home homed (refers a kind next) t is =
      by (nat_le MOST_REFERENCES (length t.refs)) (λ q. steps_named f p home homed (next (word_taken f (referred t a kind q) a)) (referred t a kind q)) is
    where
      over : NumberedPages → Plan
      over q = run_over f p (next (word_taken f (referred t a kind q) a)) (referred t a kind q)

      rest : NumberedPages → List Housed
      rest q = names_of_steps f (next (word_taken f (referred t a kind q) a)) (referred t a kind q)

      by : (b : Bool) → ((q : NumberedPages) → over q ≡ stopped (need (Page home)) → named (rest q) home ≡ true)
          → cond b (stopped (trap ILLEGAL_INSTRUCTION)) (goes_on (asked_at (asks f p) f t.pages a kind) over) ≡ stopped (need (Page home))
          → named (cond b [] (names_at t.pages f a ++ where_granted (asked_at (plainly f) f t.pages a kind) rest)) home ≡ true
      by true each e = absurd (cc e)
      by false each e = on_so home (asked_at (asks f p) f t.pages a kind) (asked_at (plainly f) f t.pages a kind) (names_at t.pages f a) over rest (at_so f p t.pages a kind homed) each e
  steps_named f p home homed (widens a next) t is =
      on_so home (asked_at (asks f p) f t.pages a Write) (asked_at (plainly f) f t.pages a Write) (names_at t.pages f a) (λ q. run_over f p next (widened t a q)) (λ q. names_of_steps f next (widened t a q))
      (at_so f p t.pages a Write homed) (λ q. steps_named f p home homed next (widened t a q)) is
  steps_named f p home homed (keeps a w next) t is = steps_named f p home homed next (record t { kept = Some (record { at = a; word = w }) }) is
  steps_named f p home homed (ends e) t is = absurd (cc is)
  steps_named f p home homed (traps channel) t is = absurd (cc is)
  steps_named f p home homed (calls number) t is = absurd (cc is)
