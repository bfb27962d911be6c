-- What transfers and plans leave of the plain state, and how much is left to do.
use Rattle.std.specs.Prelude.{◌≡◌, ℕ, ◌+◌, ◌<◌, ◌≤◌, List, [], Bool, true, Option, None, Some, ◌==◌, ◌||◌, if◌then◌else◌, replicate}
use Rattle.machine_names.specs.Bounds.{IsForkName}
use Rattle.machine_names.specs.declared.names.ForkName.{ForkName}
use Rattle.script_texts.specs.declared.event.Step.TheVariants.{Idle as AnIdle}
use Rattle.page_contracts.specs.declared.answers.Need.{Need}
use Rattle.page_contracts.specs.declared.store.TheConstants.{CONSOLE_HOLDER, MOST_HOLDERS}
use Rattle.page_contracts.specs.DrumWords.{DrumWords, Stands}
use Rattle.plain_model.specs.Forks.{runs_in}
use Rattle.plain_model.specs.Run.{AreLegal, items_of, state_after}
use Rattle.event_deeds.specs.declared.deed.Deed.{Deed}
use Rattle.event_deeds.specs.Deeds.{Task, deed_of, entries_of, unit_of}
use Rattle.step_shown.specs.declared.progress.Progress.{Progress}
use Rattle.event_deeds.specs.declared.answer.Answer.{Answer}
use Rattle.event_deeds.specs.declared.answer.Showing.TheVariants as showing
use Rattle.page_waits.specs.declared.turn.Turn.{Turn}
use Rattle.page_waits.specs.declared.turn.Turn.TheVariants as turn
use Rattle.page_waits.specs.Left.{left}
use Rattle.page_waits.specs.Systems.{DidAcross, FitsShowing, SameOver, StaysTold, SystemMeaning, row_of}
use Rattle.page_waits.specs.Waits.{ListsMeaning, waits_with}

-- the mark by which idle entries are judged: without frames no fork waits for a transfer
abbrev pub judged_by : Bool → Bool → Bool
judged_by flat auto = flat || auto

-- what the member in a seat wants
abbrev pub wanted_by : (Task → List ℕ) → Option ForkName → List ℕ
wanted_by wants None = []
wanted_by wants (Some f) = wants (unit_of f)

-- what a deed wants, if one is at hand
abbrev pub wanted_for : (Task → List ℕ) → Option Deed → List ℕ
wanted_for wants None = []
wanted_for wants (Some d) = wants (deed_of d)

-- what the seats want, and the console
abbrev pub wants_with : (Task → List ℕ) → Option Deed → (ℕ → Option ForkName) → ℕ → List ℕ
wants_with wants x member k = if k == CONSOLE_HOLDER then wanted_for wants x else wanted_by wants (member k)

-- what the console wants by the tables alone, and nobody else
abbrev pub told_for : (Deed → List ℕ) → Deed → ℕ → List ℕ
told_for told d k = if k == CONSOLE_HOLDER then told d else []

-- how many entries of a run these are
abbrev pub turns_of : Turn → ℕ
turns_of (turn.Ran u) = u.progress.count
turns_of (turn.Idle count) = count

module _ {S L : Type 0} (means : SystemMeaning S) (lists : ListsMeaning L) where
  -- how much is left to be transferred, over the words of a drum: for the forks, and for the deed at hand, which may wait
  abbrev pub work : Option Deed → Option Need → S → L → DrumWords → ℕ
  work x w s l d = left MOST_HOLDERS (wants_with (means.wants s d) x (lists.member l)) (waits_with w (lists.waiting l)) (means.store.holds s) (means.store.homes s) (means.store.queue s)

  -- the same for a deed of which the tables alone tell what it refers to, whatever the drum holds
  abbrev pub told_work : Deed → Option Need → S → L → ℕ
  told_work d w s l = left MOST_HOLDERS (told_for (means.told s) d) (waits_with w (lists.waiting l)) (means.store.holds s) (means.store.homes s) (means.store.queue s)

  -- without the drum: the plain state is the same, and no more is left to do
  pub record Still (x : Option Deed) (w w' : Option Need) (s s' : S) (l l' : L) : Type 0 where
    pub told : StaysTold means s s'
    pub set : lists.set l' ≡ lists.set l
    pub each : (d : DrumWords) → means.fits s d → SameOver means s s' d d × (work x w' s' l' d ≤ work x w s l d)

  -- so over what a drum told and tells, and at least so much less is left to do
  pub record Quiet {D : Type 0} (held : D → Option DrumWords) (x : Option Deed) (w w' : Option Need) (less : ℕ) (s s' : S) (l l' : L) (drum drum' : D) : Type 0 where
    pub told : StaysTold means s s'
    pub set : lists.set l' ≡ lists.set l
    pub each : (d : DrumWords) → Stands means.store.flat (held drum) d → means.fits s d
        → (e : DrumWords) × Stands means.store.flat (held drum') e × SameOver means s s' d e × (work x w' s' l' e + less ≤ work x w s l d)

  -- Units of a fork were done in a row: over each drum that fits they are legal, the plain state is the one that they leave, and the reply, which can be given, is what they show;
  -- and up to the last of them the same forks can run.
  pub record Ran (f : ForkName) (done : Progress) (s s' : S) : Type 0 where
    pub named : IsForkName f
    pub shown : FitsShowing (showing.Reply done.reply)
    pub limit : means.limit s' ≡ means.limit s
    pub within : (n : ℕ) → means.within s n → means.within s' (n + done.count)
    pub each : (d : DrumWords) → means.fits s d
        → means.fits s' d × AreLegal true (means.plain s d) (row_of f done.count) × (means.plain s' d ≡ state_after (means.plain s d) (row_of f done.count))
        × (means.items (means.plain s' d) (showing.Reply done.reply) ≡ items_of (means.plain s d) (row_of f done.count)) × means.gives s' d (showing.Reply done.reply)
    pub runs : (d : DrumWords) → means.fits s d → (k : ℕ) → k < done.count → (g : ForkName) → runs_in (state_after (means.plain s d) (row_of f k)).forks g ≡ runs_in (means.tree s).forks g

  -- the same over what a drum told and tells
  pub record RanOver {D : Type 0} (held : D → Option DrumWords) (f : ForkName) (done : Progress) (s s' : S) (drum drum' : D) : Type 0 where
    pub named : IsForkName f
    pub shown : FitsShowing (showing.Reply done.reply)
    pub within : (n : ℕ) → means.within s n → means.within s' (n + done.count)
    pub each : (d : DrumWords) → Stands means.store.flat (held drum) d → means.fits s d
        → (e : DrumWords) × Stands means.store.flat (held drum') e × means.fits s' e × AreLegal true (means.plain s d) (row_of f done.count)
        × (means.plain s' e ≡ state_after (means.plain s d) (row_of f done.count)) × (means.items (means.plain s' e) (showing.Reply done.reply) ≡ items_of (means.plain s d) (row_of f done.count))
        × means.gives s' e (showing.Reply done.reply)
    pub runs : (d : DrumWords) → Stands means.store.flat (held drum) d → means.fits s d → (k : ℕ) → k < done.count → (g : ForkName) → runs_in (state_after (means.plain s d) (row_of f k)).forks g ≡ runs_in (means.tree s).forks g

  -- So many idle entries stand, since no unit can be done: each is legal, where idle entries are judged by this mark, and they leave the plain state as it is.
  pub record IdledOver {D : Type 0} (held : D → Option DrumWords) (auto : Bool) (count : ℕ) (s s' : S) (drum drum' : D) : Type 0 where
    pub tree : means.tree s' ≡ means.tree s
    pub within : (n : ℕ) → means.within s n → means.within s' n
    pub each : (d : DrumWords) → Stands means.store.flat (held drum) d → means.fits s d
        → (e : DrumWords) × Stands means.store.flat (held drum') e × means.fits s' e × (means.plain s' e ≡ means.plain s d)
        × AreLegal (judged_by means.store.flat auto) (means.plain s d) (replicate count AnIdle)

  -- turns of a run
  abbrev pub Turned : {D : Type 0} → (D → Option DrumWords) → Bool → S → S → D → D → Turn → Type 0
  Turned held auto s s' drum drum' (turn.Ran u) = RanOver held u.fork u.progress s s' drum drum'
  Turned held auto s s' drum drum' (turn.Idle count) = IdledOver held auto count s s' drum drum'

  -- a deed was done, over each drum that fits
  pub record DidThere (d : Deed) (answer : Answer) (s s' : S) : Type 0 where
    pub shown : FitsShowing answer.showing
    pub limit : means.limit s' ≡ means.limit s
    pub within : (n : ℕ) → means.within s n → means.within s' (n + entries_of d)
    pub each : (over : DrumWords) → means.fits s over → DidAcross means d s s' answer over over

  -- a deed was done, over what a drum told and tells
  pub record DidOver {D : Type 0} (held : D → Option DrumWords) (d : Deed) (answer : Answer) (s s' : S) (drum drum' : D) : Type 0 where
    pub shown : FitsShowing answer.showing
    pub each : (over : DrumWords) → Stands means.store.flat (held drum) over → means.fits s over
        → (e : DrumWords) × Stands means.store.flat (held drum') e × DidAcross means d s s' answer over e

  -- so many transfers have ended: that never is, over what a drum tells
  pub record Spent {D : Type 0} (held : D → Option DrumWords) (s : S) (drum : D) : Type 0 where
    pub never : (d : DrumWords) → Stands means.store.flat (held drum) d → means.fits s d → ⊥
