-- What the turns of each family of calls need first is the home of one of their names.
use Rattle.std.proofs.Common.{◌≡◌, ◌⊎◌, inl, inr, ℕ, List, [], ◌∷◌, map, filter, Bool, true, false, ◌||◌, cond, Option, None, Some, refl, sym, ◌∙◌, ap, arith}
use Rattle.std.specs.Prelude.{if◌then◌else◌}
use Rattle.std.specs.Ordering.{eq_by_cmp}
use Rattle.std.proofs.lemmas.Bool.Decides.{nat_tests}
use Rattle.machine_names.proofs.OrderLemmas.{fork_tied}
use Rattle.std.specs.List.{list_any}
use Rattle.std.specs.FinMap as map_of
use Rattle.machine_names.specs.Orders.{fork_cmp, same_fork}
use Rattle.machine_names.specs.declared.names.ForkName.{ForkName}
use Rattle.machine_names.specs.declared.names.PageName.{PageName}
use Rattle.page_homes.specs.declared.homes.Home.{Home}
use Rattle.page_contracts.specs.declared.answers.Need.TheVariants.{Page}
use Rattle.page_contracts.specs.Pages.{Scene}
use Rattle.plain_pages.specs.PlainPages.{NumberedPages}
use Rattle.plain_model.specs.ByteCalls.{ByteTurn}
use Rattle.plain_model.specs.Calls.{Turn, no_files}
use Rattle.plain_model.specs.Forks.{ForkMap}
use Rattle.plain_model.specs.Inferiors.{is_inferior}
use Rattle.plain_model.specs.declared.call.InterruptChange.{InterruptChange}
use Rattle.plain_model.specs.declared.call.End.{End}
use Rattle.plain_model.specs.declared.call.End.TheVariants as end
use Rattle.plain_model.specs.declared.call.ForkChange.{ForkChange}
use Rattle.plain_model.specs.declared.call.ForkChange.TheVariants as fork
use Rattle.plain_model.specs.declared.call.MapChange.{MapChange}
use Rattle.plain_model.specs.declared.call.MapChange.TheVariants as on_map
use Rattle.call_turns.specs.Needing.{NoSteps, NoTouches, OneTouchNeeds}
use Rattle.file_bytes.specs.Turning.{ByteNeeds, NoNeeds as NoByteNeeds}
use Rattle.file_tables.specs.Keys.{seen_in}
use Rattle.file_tables.specs.declared.tables.FileTables.{FileTables}
use Rattle.fork_calls.specs.Needing.{ForkEndNeeds, TurnNeeds as ForkNeeds, WordsNeed}
use Rattle.job_forks.specs.Killing.{IsKilledAway}
use Rattle.ka10_unit.specs.Gathers.{Framed}
use Rattle.pmap_calls.specs.Making.{EndNeeds, MapNeeds, change_need}
use Rattle.psi_calls.specs.Turning.{NoNeeds as NoPsiNeeds, PsiNeeds}
use Rattle.string_io.specs.Turning.{StringNeeds}
use Rattle.text_pointers.specs.Needing.{StepsNeed}
use Rattle.step_wants.specs.Names.{Housed, a_map, is_named, names_of_turn, none_at_end}
use Rattle.step_wants.specs.Naming.{AreHomed}
use Rattle.step_wants.specs.Wants.{maps_below, names_of_end, names_of_fork_change, names_of_map_change}
use Rattle.step_wants.proofs.Away.{named_behind, named_first, named_wider, or_first, or_later}
use Rattle.step_wants.proofs.Turning.{entry_named, one_touch_so, steps_so, turn_named, words_so}

pub same_name : (f g : ForkName) → same_fork f g ≡ true → f ≡ g
same_name f g same = grind arith

module _ (map_home : ForkName → Option ℕ) (page_home : PageName → Option ℕ) (home : Home) where
  abbrev Named : List Housed → Type 0
  Named names = is_named map_home page_home names home.0 ≡ true

  abbrev Homed : Scene → Type 0
  Homed scene = AreHomed map_home page_home scene

  pub bytes_named : (tables : FileTables) (scene : Scene) (p : NumberedPages) (t : ByteTurn) → Homed scene → ByteNeeds tables scene p t (Page home) → Named (names_of_turn (seen_in tables) none_at_end p t)
  bytes_named tables scene p t homed is =
      turn_named map_home page_home home (seen_in tables) NoSteps OneTouchNeeds NoByteNeeds none_at_end
      (λ scene p f regs steps later rest homed each none. absurd none)
      (λ scene p owner at kind later rest homed each needs. one_touch_so map_home page_home scene p owner at kind later home rest homed each needs)
      (λ scene p e homed none. absurd none) t scene p homed is

  pub strings_named : (tables : FileTables) (scene : Scene) (p : NumberedPages) (t : ByteTurn) → Homed scene → StringNeeds tables scene p t (Page home) → Named (names_of_turn (seen_in tables) none_at_end p t)
  strings_named tables scene p t homed is =
      turn_named map_home page_home home (seen_in tables) StepsNeed OneTouchNeeds NoByteNeeds none_at_end
      (λ scene p f regs steps later rest homed each needs. steps_so map_home page_home scene p f regs steps later home rest homed each needs)
      (λ scene p owner at kind later rest homed each needs. one_touch_so map_home page_home scene p owner at kind later home rest homed each needs)
      (λ scene p e homed none. absurd none) t scene p homed is

  pub interrupts_named : (scene : Scene) (p : NumberedPages) (t : Turn ⊥ InterruptChange) → Homed scene → PsiNeeds scene p t (Page home) → Named (names_of_turn no_files none_at_end p t)
  interrupts_named scene p t homed is =
      turn_named map_home page_home home no_files StepsNeed NoTouches NoPsiNeeds none_at_end
      (λ scene p f regs steps later rest homed each needs. steps_so map_home page_home scene p f regs steps later home rest homed each needs)
      (λ scene p owner at kind later rest homed each none. absurd none)
      (λ scene p e homed none. absurd none) t scene p homed is

  -- the map of the slot whose entry a change sets
  change_named : (scene : Scene) (p : NumberedPages) (change : MapChange) → Homed scene → change_need scene p change ≡ Some (Page home) → Named (names_of_map_change change)
  change_named scene p on_map.Nothing homed is = absurd (cc is)
  change_named scene p (on_map.Unmap s) homed is = entry_named map_home page_home scene p s home [] homed is
  change_named scene p (on_map.Follow s other access) homed is = entry_named map_home page_home scene p s home [] homed is
  change_named scene p (on_map.Narrow s access) homed is = entry_named map_home page_home scene p s home [] homed is
  change_named scene p (on_map.Map s name page access) homed is = entry_named map_home page_home scene p s home [] homed is
  change_named scene p (on_map.Put name page s) homed is = absurd (cc is)
  change_named scene p (on_map.Drop name page) homed is = absurd (cc is)

  map_end_named : (scene : Scene) (p : NumberedPages) (e : End MapChange) → Homed scene → EndNeeds scene p e (Page home) → Named (names_of_end names_of_map_change e)
  map_end_named scene p (end.Done change regs out post) homed is = change_named scene p change homed is
  map_end_named scene p (end.Waits on) homed is = absurd is
  map_end_named scene p end.Halts homed is = absurd is
  map_end_named scene p (end.Refused code) homed is = absurd is
  map_end_named scene p (end.Failed code) homed is = absurd is
  map_end_named scene p (end.Trap channel) homed is = absurd is

  pub maps_named : (tables : FileTables) (scene : Scene) (p : NumberedPages) (t : Turn (List ℕ) MapChange) → Homed scene → MapNeeds tables scene p t (Page home) → Named (names_of_turn (seen_in tables) (names_of_end names_of_map_change) p t)
  maps_named tables scene p t homed is =
      turn_named map_home page_home home (seen_in tables) NoSteps OneTouchNeeds EndNeeds (names_of_end names_of_map_change)
      (λ scene p f regs steps later rest homed each none. absurd none)
      (λ scene p owner at kind later rest homed each needs. one_touch_so map_home page_home scene p owner at kind later home rest homed each needs)
      map_end_named t scene p homed is

  -- of these forks one whose map is in no frame
  branch_named : (forks : ForkMap) (name f : ForkName) (scene : Scene) (gs : List ForkName) → Homed scene → scene.map_away f ≡ Some home.0 → (same_fork f name || is_inferior forks name f) ≡ true
      → list_any (eq_by_cmp fork_cmp f) gs ≡ true → Named (map a_map (filter (λ g. same_fork g name || is_inferior forks name g) gs))
  branch_named forks name f scene [] homed away goes there = absurd (cc there)
  branch_named forks name f scene (g ∷ gs) homed away goes there = by (eq_by_cmp fork_cmp f g) refl there (branch_named forks name f scene gs homed away goes)
    where
      below : ForkName → Bool
      below k = same_fork k name || is_inferior forks name k

      by : (b : Bool) → eq_by_cmp fork_cmp f g ≡ b → (b || list_any (eq_by_cmp fork_cmp f) gs) ≡ true → (list_any (eq_by_cmp fork_cmp f) gs ≡ true → Named (map a_map (filter below gs)))
          → Named (map a_map (cond (below g) (g ∷ filter below gs) (filter below gs)))
      by true e some rest =
          let same : f ≡ g = same_name f g (sym (fork_tied f g) ∙ e) in
          let first : below g ≡ true = ap below (sym same) ∙ goes in
          ap (λ b. is_named map_home page_home (map a_map (cond b (g ∷ filter below gs) (filter below gs))) home.0) first
          ∙ named_first map_home page_home home.0 (a_map g) (map a_map (filter below gs)) (ap map_home (sym same) ∙ homed.maps f home.0 away)
      by false e some rest = whether (below g) (rest some)
        where
          whether : (b : Bool) → Named (map a_map (filter below gs)) → Named (map a_map (cond b (g ∷ filter below gs) (filter below gs)))
          whether true more = named_behind map_home page_home home.0 (a_map g) (map a_map (filter below gs)) more
          whether false more = more

  kill_named : (forks : ForkMap) (name : ForkName) (scene : Scene) → Homed scene → ((f : ForkName) (h : ℕ) → scene.map_away f ≡ Some h → map_of.contains_key forks f ≡ true) → IsKilledAway scene forks name (Page home)
      → Named (maps_below forks name)
  kill_named forks name scene homed alive is =
      branch_named forks name is.fork scene (map_of.keys forks) homed is.away (goes is.goes) (sym (map_of.contains_key-keys forks is.fork) ∙ alive is.fork home.0 is.away)
    where
      itself : same_fork name name ≡ true
      itself = grind (arith, nat_tests)

      goes : (is.fork ≡ name) ⊎ (is_inferior forks name is.fork ≡ true) → (same_fork is.fork name || is_inferior forks name is.fork) ≡ true
      goes (inl same) = or_first (same_fork is.fork name) (is_inferior forks name is.fork) (ap (λ f. same_fork f name) same ∙ itself)
      goes (inr below) = or_later (same_fork is.fork name) (is_inferior forks name is.fork) below

-- the home of a fork's map, where the fork is there
abbrev home_of_living : ForkMap → (ForkName → Option ℕ) → ForkName → Option ℕ
home_of_living forks map_home f = if map_of.contains_key forks f then map_home f else None

module _ (map_home : ForkName → Option ℕ) (page_home : PageName → Option ℕ) (home : Home) (forks : ForkMap) where
  lives : (f : ForkName) (h : ℕ) → home_of_living forks map_home f ≡ Some h → (map_of.contains_key forks f ≡ true) × (map_home f ≡ Some h)
  lives f h is = by (map_of.contains_key forks f) refl is
    where
      by : (b : Bool) → map_of.contains_key forks f ≡ b → cond b (map_home f) None ≡ Some h → (map_of.contains_key forks f ≡ true) × (map_home f ≡ Some h)
      by true at e = (at, e)
      by false at e = absurd (cc e)

  fork_end_named : (scene : Scene) (p : NumberedPages) (e : End ForkChange) → AreHomed (home_of_living forks map_home) page_home scene → ForkEndNeeds forks scene p e (Page home)
      → is_named (home_of_living forks map_home) page_home (names_of_end (names_of_fork_change forks) e) home.0 ≡ true
  fork_end_named scene p (end.Done (fork.Kill name) regs out post) homed needs =
      kill_named (home_of_living forks map_home) page_home home forks name scene homed (λ f h away. (lives f h (homed.maps f h away)).0) needs
  fork_end_named scene p (end.Done fork.Nothing regs out post) homed needs = absurd needs
  fork_end_named scene p (end.Done (fork.Make f) regs out post) homed needs = absurd needs
  fork_end_named scene p (end.Done (fork.Freeze f on) regs out post) homed needs = absurd needs
  fork_end_named scene p (end.Done (fork.Become f body) regs out post) homed needs = absurd needs
  fork_end_named scene p (end.Done (fork.Halt f) regs out post) homed needs = absurd needs
  fork_end_named scene p (end.Done (fork.Store f at words) regs out post) homed needs = absurd needs
  fork_end_named scene p (end.Waits on) homed needs = absurd needs
  fork_end_named scene p end.Halts homed needs = absurd needs
  fork_end_named scene p (end.Refused code) homed needs = absurd needs
  fork_end_named scene p (end.Failed code) homed needs = absurd needs
  fork_end_named scene p (end.Trap channel) homed needs = absurd needs

  pub forks_named : (p : Framed) (t : Turn ⊥ ForkChange) → AreHomed map_home page_home p.scene → ((f : ForkName) (h : ℕ) → p.scene.map_away f ≡ Some h → map_of.contains_key forks f ≡ true) → ForkNeeds p forks t (Page home)
      → is_named map_home page_home (names_of_turn no_files (names_of_end (names_of_fork_change forks)) p.pages t) home.0 ≡ true
  forks_named p t homed alive is =
      let homed_living : AreHomed (home_of_living forks map_home) page_home p.scene = record {
        maps = λ f h away. ap (λ b. cond b (map_home f) None) (alive f h away) ∙ homed.maps f h away;
        pages = homed.pages;
      } in
      named_wider (home_of_living forks map_home) map_home page_home home.0 (λ f h living. (lives f h living).1) (names_of_turn no_files (names_of_end (names_of_fork_change forks)) p.pages t)
      (turn_named (home_of_living forks map_home) page_home home no_files WordsNeed NoTouches (ForkEndNeeds forks) (names_of_end (names_of_fork_change forks))
      (λ scene p f regs steps later rest homed each needs. words_so (home_of_living forks map_home) page_home scene p f regs steps later home rest homed needs)
      (λ scene p owner at kind later rest homed each none. absurd none) fork_end_named t p.scene p.pages homed_living is)
