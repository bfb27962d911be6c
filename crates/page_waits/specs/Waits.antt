-- The forks that are ready, and those in page wait.
use Rattle.std.specs.Prelude.{◌≡◌, ◌≢◌, ℕ, ◌<◌, ◌≤◌, List, [], length, true, ◌||◌, ◌==◌, if◌then◌else◌, slice_get, Option, None, Some, Bool, false}
use Rattle.std.specs.List.{list_any}
use Rattle.machine_names.specs.declared.names.ForkName.{ForkName}
use Rattle.page_contracts.specs.declared.answers.Need.{Need}
use Rattle.page_contracts.specs.declared.answers.Need.TheVariants.{Page, Frame}
use Rattle.page_homes.specs.declared.homes.Home.{Home}
use Rattle.page_contracts.specs.declared.store.TheConstants.{CONSOLE_HOLDER}
use Rattle.page_contracts.specs.Stores.{arrives, same_need}
use Rattle.job_sched.specs.declared.member.Member.{Member}
use Rattle.job_sched.specs.Schedules.{member_at, size, wait_at}
use Rattle.fork_lists.specs.declared.lists.ForkLists.{ForkLists}
use Rattle.page_waits.specs.declared.head.Head.{Head}
use Rattle.page_waits.specs.Systems.{SystemMeaning}

-- of lists of forks what concerns waits
pub record ListsMeaning (L : Type 0) : Type 0 where
  -- the members of the balance set that run in turn
  pub ready : L → List Member
  -- the member of the balance set in a seat
  pub member : L → ℕ → Option ForkName
  -- what the member in a seat waits for, if it is in page wait
  pub waiting : L → ℕ → Option Need
  -- how many members there may be
  pub set : L → ℕ

-- so of the machine's lists
abbrev pub the_lists : ListsMeaning ForkLists
the_lists = record { ready = λ l. l.sched.ready; member = λ l. member_at l.sched; waiting = λ l. wait_at l.sched; set = λ l. size l.sched }

-- what a wait for this comes to, once that is told: who waits for a frame is woken by whatever is told
abbrev pub woken : Need → Option Need → Option Need
woken done None = None
woken done (Some Frame) = None
woken (Page home) (Some (Page other)) = if home.0 == other.0 then None else Some (Page other)
woken Frame (Some (Page other)) = Some (Page other)

-- whether a seat waits for the page of a home
abbrev pub awaits : ℕ → Option Need → Bool
awaits home None = false
awaits home (Some Frame) = false
awaits home (Some (Page other)) = home == other.0

-- what the seats wait for, and the console
abbrev pub waits_with : Option Need → (ℕ → Option Need) → ℕ → Option Need
waits_with w waiting k = if k == CONSOLE_HOLDER then w else waiting k

module _ {L : Type 0} (means : ListsMeaning L) where
  -- the first fork that is ready, in its seat
  pub record IsHead (l : L) (head : Head) : Type 0 where
    pub first : slice_get (means.ready l) 0 ≡ Some (record { fork = head.fork; seat = head.seat })
    pub member : means.member l head.seat ≡ Some head.fork
    pub seat : head.seat < means.set l
    pub wakes : means.waiting l head.seat ≡ None

  -- only a member waits, in its seat of the set
  pub record AreLists (l : L) : Type 0 where
    pub some : 1 ≤ means.set l
    pub few : means.set l ≤ 63
    pub seats : (k : ℕ) → means.waiting l k ≢ None → k < means.set l
    pub members : (k : ℕ) → means.member l k ≡ None → means.waiting l k ≡ None

  -- the same members are in the same seats
  pub record StaysSeated (old new : L) : Type 0 where
    pub member : means.member new ≡ means.member old
    pub set : means.set new ≡ means.set old

  -- the first fork that is ready waits for something
  pub record Waits (head : Head) (need : Need) (old new : L) : Type 0 where
    pub seated : StaysSeated old new
    pub fewer : length (means.ready new) < length (means.ready old)
    pub own : means.waiting new head.seat ≡ Some need
    pub others : (k : ℕ) → k ≢ head.seat → means.waiting new k ≡ means.waiting old k

  -- who waits for what is told is ready
  pub record Wakes (done : Need) (old new : L) : Type 0 where
    pub seated : StaysSeated old new
    pub waiting : (k : ℕ) → means.waiting new k ≡ woken done (means.waiting old k)

  -- who waits waited for the same before
  abbrev pub FewerWait : L → L → Type 0
  FewerWait old new = (k : ℕ) (n : Need) → means.waiting new k ≡ Some n → means.waiting old k ≡ Some n

-- WAITING FORKS of a system: while one waits for a page, that page is on its way, or it is still to be told that it won't come; while one waits for a
-- frame, a transfer is queued, or something is still to be told
pub record AreAwaited {S : Type 0} (means : SystemMeaning S) (waiting : ℕ → Option Need) (s : S) : Type 0 where
  pub pages : (k : ℕ) (home : Home) → waiting k ≡ Some (Page home)
      → (list_any (arrives home.0) (means.store.queue s) || list_any (same_need (Page home)) (means.store.untold s)) ≡ true
  pub frames : (k : ℕ) → waiting k ≡ Some Frame → means.store.queue s ≡ [] → means.store.untold s ≡ [] → ⊥

-- nothing is held for a seat that no member has
abbrev pub AreOwned : {S L : Type 0} → SystemMeaning S → ListsMeaning L → S → L → Type 0
AreOwned means lists s l = (seat : ℕ) → seat ≢ CONSOLE_HOLDER → lists.member l seat ≡ None → means.store.holds s seat ≡ []

-- what holds of a machine between two steps: who waits is awaited, nothing is left to tell, no more members may be than frames are for, and what is held is
-- held for members
pub record AreStanding {S L : Type 0} (means : SystemMeaning S) (lists : ListsMeaning L) (s : S) (l : L) : Type 0 where
  pub awaited : AreAwaited means (lists.waiting l) s
  pub told : means.store.untold s ≡ []
  pub members : lists.set l ≤ means.store.members s
  pub owned : AreOwned means lists s l
