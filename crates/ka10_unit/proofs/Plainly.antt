-- A unit over pages of which some are in no frame: where it needs nothing first it is that of the plain machine, and what it needs is away.
use Rattle.std.proofs.Common.{◌≡◌, ℕ, Bool, true, false, cond, List, [], ◌∷◌, Option, None, Some, refl, sym, ◌∙◌, ap, subst, inl, inr}
use Rattle.std.specs.Option.{option_and_then, option_or}
use Rattle.std.specs.Prelude.{length, nat_le}
use Rattle.std.specs.Ordering.{nat_cmp}
use Rattle.plain_units.specs.declared.channel.TheConstants.{ILLEGAL_INSTRUCTION}
use Rattle.page_homes.specs.declared.homes.Home.{Home}
use Rattle.page_contracts.specs.declared.answers.Need.{Need}
use Rattle.page_contracts.specs.declared.answers.Need.TheVariants.{Page, Frame}
use Rattle.machine_names.specs.declared.names.ForkName.{ForkName}
use Rattle.machine_names.specs.declared.names.Kind.{Kind}
use Rattle.machine_names.specs.declared.names.Kind.TheVariants.{Write}
use Rattle.machine_names.specs.declared.names.Slot.{Slot}
use Rattle.plain_units.specs.declared.unit.TheConstants.{MOST_REFERENCES}
use Rattle.machine_names.specs.declared.names.PageName.{PageName}
use Rattle.plain_pages.specs.Maps.{entry_at, maps_on_way}
use Rattle.page_contracts.specs.Pages.{Scene, first_away, map_away, page_away}
use Rattle.plain_pages.specs.References.{Referred, granted, denied, full, in_map, page_at, reference, slot_at}
use Rattle.plain_pages.specs.Room.{live}
use Rattle.plain_pages.specs.PlainPages.{NumberedPages}
use Rattle.plain_units.specs.Steps.{Asked, Planned, Progress, Steps, asked_at, calls, ends, goes, goes_on, is_accumulator, keeps, need, plain_asked, plainly, referred, refers, run, stopped, stops, trap, traps, widened, widens, word_taken}
use Rattle.page_gather.specs.declared.reference.Added.TheVariants as added
use Rattle.page_gather.specs.Gathering.{answered, came_to, left_by, most_framed, page_or}
use Rattle.ka10_unit.specs.Gathers.{Framed, asked_by, asks}
use Rattle.ka10_unit.specs.Taking.{IsAway, IsPlain, NeedsAway, Plan, run_over}

-- what is asked that needs nothing first is asked of the plain pages
abbrev IsPlainly : Asked Need NumberedPages → Asked ⊥ NumberedPages → Type 0
IsPlainly (goes q) y = y ≡ goes q
IsPlainly (stops (trap channel)) y = y ≡ stops (trap channel)
IsPlainly (stops (need n)) y = Unit {0}

asks_plainly : (f : ForkName) (p : Framed) (q : NumberedPages) (s : Slot) (kind : Kind) → IsPlainly (asks f p q s kind) (plainly f q s kind)
unfolding asks answered
asks_plainly f p q s kind = by (map_away q p.scene (in_map s)) (page_away q p.scene (in_map s)) (reference q (in_map s) kind f.tty)
  where
    most : ℕ
    most = most_framed p.pages p.scene

    here : (away : Option ℕ) (b : Bool) (y : NumberedPages) → IsPlainly (asked_by (page_or away (cond b added.Went (added.Need Frame))) y) (goes y)
    here None true y = refl
    here None false y = tt
    here (Some home) b y = tt

    by : (way away : Option ℕ) (x : Referred nat_cmp) → IsPlainly (asked_by (page_or way (came_to x away most)) (left_by q x)) (plain_asked x)
    by (Some home) away x = tt
    by None away (granted y) = here away (nat_le (live y) most) y
    by None away (denied k) = refl
    by None away full = refl

at_plainly : (f : ForkName) (p : Framed) (q : NumberedPages) (a : ℕ) (kind : Kind) → IsPlainly (asked_at (asks f p) f q a kind) (asked_at (plainly f) f q a kind)
at_plainly f p q a kind = by (is_accumulator a)
  where
    s : Slot
    s = slot_at f a

    by : (b : Bool) → IsPlainly (cond b (goes q) (asks f p q s kind)) (cond b (goes q) (plainly f q s kind))
    by true = refl
    by false = asks_plainly f p q s kind

-- what goes on with pages that are the same
on_plainly : (x : Asked Need NumberedPages) (y : Asked ⊥ NumberedPages) (next : NumberedPages → Plan) (rest : NumberedPages → Planned nat_cmp ⊥) → IsPlainly x y → ((q : NumberedPages) → IsPlain (next q) (rest q)) → IsPlain (goes_on x next) (goes_on y rest)
on_plainly (goes q) y next rest h each = subst (λ (z : Asked ⊥ NumberedPages). IsPlain (next q) (goes_on z rest)) (sym h) (each q)
on_plainly (stops (trap channel)) y next rest h each = ap (λ (z : Asked ⊥ NumberedPages). goes_on z rest) h
on_plainly (stops (need n)) y next rest h each = tt

-- STEPS OVER PAGES are those over the plain ones, where they need nothing first
pub runs_plainly : (f : ForkName) (p : Framed) (steps : Steps) (t : Progress nat_cmp) → IsPlain (run_over f p steps t) (run (plainly f) f steps t)
unfolding run
runs_plainly f p (refers a kind next) t = by (nat_le MOST_REFERENCES (length t.refs)) (λ q. runs_plainly f p (next (word_taken f (referred t a kind q) a)) (referred t a kind q))
  where
    over : NumberedPages → Plan
    over q = run_over f p (next (word_taken f (referred t a kind q) a)) (referred t a kind q)

    rest : NumberedPages → Planned nat_cmp ⊥
    rest q = run (plainly f) f (next (word_taken f (referred t a kind q) a)) (referred t a kind q)

    by : (b : Bool) → ((q : NumberedPages) → IsPlain (over q) (rest q))
        → IsPlain (cond b (stopped (trap ILLEGAL_INSTRUCTION)) (goes_on (asked_at (asks f p) f t.pages a kind) over)) (cond b (stopped (trap ILLEGAL_INSTRUCTION)) (goes_on (asked_at (plainly f) f t.pages a kind) rest))
    by true each = refl
    by false each = on_plainly (asked_at (asks f p) f t.pages a kind) (asked_at (plainly f) f t.pages a kind) over rest (at_plainly f p t.pages a kind) each
runs_plainly f p (widens a next) t =
    on_plainly (asked_at (asks f p) f t.pages a Write) (asked_at (plainly f) f t.pages a Write) (λ q. run_over f p next (widened t a q)) (λ q. run (plainly f) f next (widened t a q)) (at_plainly f p t.pages a Write)
    (λ q. runs_plainly f p next (widened t a q))
runs_plainly f p (keeps a w next) t = runs_plainly f p next (record t { kept = Some (record { at = a; word = w }) })
runs_plainly f p (ends e) t = refl
runs_plainly f p (traps channel) t = refl
runs_plainly f p (calls number) t = refl

-- so they come to what these come to
pub plain_of : (f : ForkName) (p : Framed) (steps : Steps) (t : Progress nat_cmp) (x : Plan) → run_over f p steps t ≡ x → IsPlain x (run (plainly f) f steps t)
plain_of f p steps t x is = subst (λ (y : Plan). IsPlain y (run (plainly f) f steps t)) is (runs_plainly f p steps t)

-- ---- what is needed is away

-- a map on a way that is in no frame
way_away : (scene : Scene) (fs : List ForkName) (home : ℕ) → first_away scene fs ≡ Some home → (f : ForkName) × (scene.map_away f ≡ Some home)
way_away scene [] home h = absurd (cc h)
way_away scene (f ∷ fs) home h = by (scene.map_away f) refl (way_away scene fs home) h
  where
    by : (o : Option ℕ) → scene.map_away f ≡ o → (first_away scene fs ≡ Some home → (g : ForkName) × (scene.map_away g ≡ Some home)) → option_or o (first_away scene fs) ≡ Some home → (g : ForkName) × (scene.map_away g ≡ Some home)
    by None is rest g = rest g
    by (Some other) is rest g = (f, is ∙ g)

-- a page that is in no frame
end_away : (scene : Scene) (o : Option PageName) (home : ℕ) → option_and_then scene.page_away o ≡ Some home → (n : PageName) × (scene.page_away n ≡ Some home)
end_away scene None home h = absurd (cc h)
end_away scene (Some n) home h = (n, h)

abbrev StopsAway : Scene → Asked Need NumberedPages → Type 0
StopsAway scene x = (home : Home) → x ≡ stops (need (Page home)) → IsAway scene home.0

asks_away : (f : ForkName) (p : Framed) (q : NumberedPages) (s : Slot) (kind : Kind) → StopsAway p.scene (asks f p q s kind)
unfolding asks answered
asks_away f p q s kind home = by (map_away q p.scene (in_map s)) refl (page_away q p.scene (in_map s)) refl (reference q (in_map s) kind f.tty)
  where
    most : ℕ
    most = most_framed p.pages p.scene

    here : (away : Option ℕ) (b : Bool) (y : NumberedPages) → page_away q p.scene (in_map s) ≡ away → asked_by (page_or away (cond b added.Went (added.Need Frame))) y ≡ stops (need (Page home)) → IsAway p.scene home.0
    here None true y is h = absurd (cc h)
    here None false y is h = absurd (cc h)
    here (Some at) b y is h = let same : at ≡ home.0 = cc h in inr (end_away p.scene (page_at q (in_map s)) home.0 (is ∙ ap Some same))

    by : (way : Option ℕ) → map_away q p.scene (in_map s) ≡ way → (away : Option ℕ) → page_away q p.scene (in_map s) ≡ away → (x : Referred nat_cmp) → asked_by (page_or way (came_to x away most)) (left_by q x) ≡ stops (need (Page home)) → IsAway p.scene home.0
    by (Some at) there away is x h = let same : at ≡ home.0 = cc h in inl (way_away p.scene (maps_on_way (entry_at q.maps) s) home.0 (there ∙ ap Some same))
    by None there away is (granted y) h = here away (nat_le (live y) most) y is h
    by None there away is (denied k) h = absurd (cc h)
    by None there away is full h = absurd (cc h)

at_away : (f : ForkName) (p : Framed) (q : NumberedPages) (a : ℕ) (kind : Kind) → StopsAway p.scene (asked_at (asks f p) f q a kind)
at_away f p q a kind = by (is_accumulator a)
  where
    by : (b : Bool) → StopsAway p.scene (cond b (goes q) (asks f p q (slot_at f a) kind))
    by true = λ home h. absurd (cc h)
    by false = asks_away f p q (slot_at f a) kind

on_away : (scene : Scene) (x : Asked Need NumberedPages) (next : NumberedPages → Plan) → StopsAway scene x → ((q : NumberedPages) → NeedsAway scene (next q)) → NeedsAway scene (goes_on x next)
on_away scene (goes q) next h each = each q
on_away scene (stops (trap channel)) next h each = λ home is. absurd (cc is)
on_away scene (stops (need n)) next h each = λ home is. h home (ap (λ (m : Need). stops (need m)) (cc is))

pub runs_away : (f : ForkName) (p : Framed) (steps : Steps) (t : Progress nat_cmp) → NeedsAway p.scene (run_over f p steps t)
unfolding run
runs_away f p (refers a kind next) t = by (nat_le MOST_REFERENCES (length t.refs)) (λ q. runs_away f p (next (word_taken f (referred t a kind q) a)) (referred t a kind q))
  where
    over : NumberedPages → Plan
    over q = run_over f p (next (word_taken f (referred t a kind q) a)) (referred t a kind q)

    by : (b : Bool) → ((q : NumberedPages) → NeedsAway p.scene (over q)) → NeedsAway p.scene (cond b (stopped (trap ILLEGAL_INSTRUCTION)) (goes_on (asked_at (asks f p) f t.pages a kind) over))
    by true each = λ home is. absurd (cc is)
    by false each = on_away p.scene (asked_at (asks f p) f t.pages a kind) over (at_away f p t.pages a kind) each
runs_away f p (widens a next) t =
    on_away p.scene (asked_at (asks f p) f t.pages a Write) (λ q. run_over f p next (widened t a q)) (at_away f p t.pages a Write) (λ q. runs_away f p next (widened t a q))
runs_away f p (keeps a w next) t = runs_away f p next (record t { kept = Some (record { at = a; word = w }) })
runs_away f p (ends e) t = λ home is. absurd (cc is)
runs_away f p (traps channel) t = λ home is. absurd (cc is)
runs_away f p (calls number) t = λ home is. absurd (cc is)
