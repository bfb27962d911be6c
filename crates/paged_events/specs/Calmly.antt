-- What an event leaves where all is in core before it.
use Rattle.std.specs.Prelude.{◌≡◌, ℕ, List, [], ◌∷◌, true, Option}
use Rattle.fork_lists.specs.declared.lists.ForkLists.{ForkLists}
use Rattle.job_sched.specs.Schedules.{Schedule}
use Rattle.paged_events.specs.PassedOver.{AreNear, ComesCloser}
use Rattle.page_contracts.specs.DrumWords.{DrumWords, Stands}
use Rattle.page_waits.specs.Calm.{AreRoomy, IsCalmlyFair, IsRoomy}
use Rattle.page_waits.specs.InCore.{IsInCore}
use Rattle.page_waits.specs.Systems.{SystemMeaning}
use Rattle.plain_model.specs.Run.{IsLegalStep, apply}
use Rattle.plain_model.specs.State.{PlainState}
use Rattle.script_texts.specs.declared.event.Event.{Event}
use Rattle.script_texts.specs.declared.event.Event.TheVariants.{Evict}
use Rattle.script_texts.specs.declared.event.Step.{Step}

-- entries while they are calm: each is legal as under AUTO ON, and brings closer whom it passes over, with the lists as they are before the first and behind the last
abbrev pub ComeCalmly : ℕ → Schedule → PlainState → List Step → Schedule → Type 0
ComeCalmly frames c s [] c' = AreNear s.forks c × (c' ≡ c)
ComeCalmly frames c s (x ∷ xs) c' =
    let next = (apply s x).state in AreNear s.forks c × (IsRoomy frames s → IsLegalStep true s x × (mid : Schedule) × ComesCloser x s.forks next.forks c mid × ComeCalmly frames mid next xs c')

-- THESE ENTRIES WENT CALMLY from a plain state on: while they are calm, an idle one stands only where no fork can run, and no fork is passed over for long; and where
-- all of them are calm, all is in core still
pub record WentCalmly {S : Type 0} (means : SystemMeaning S) (frames : ℕ) (before : PlainState) (steps : List Step) (s' : S) (l' : ForkLists) : Type 0 where
  pub fair : IsCalmlyFair frames before steps
  pub core : AreRoomy frames before steps → IsInCore means frames s' l'

-- so entries of a run, with how the lists bring closer whom they pass over
pub record CameCalmly {S : Type 0} (means : SystemMeaning S) (frames : ℕ) (before : PlainState) (steps : List Step) (s' : S) (l l' : ForkLists) : Type 0 where
  pub closer : ComeCalmly frames l.sched before steps l'.sched
  pub core : AreRoomy frames before steps → IsInCore means frames s' l'

module _ {S D : Type 0} (means : SystemMeaning S) (held : D → Option DrumWords) where
  -- over what a drum told, where all is in core in so many frames, this is so of that and of the plain state
  abbrev pub WhereInCore : (ℕ → PlainState → Type 0) → S → ForkLists → D → Type 0
  WhereInCore so s l drum = (frames : ℕ) (d : DrumWords) → Stands means.store.flat (held drum) d → means.fits s d → IsInCore means frames s l → so frames (means.plain s d)

  -- the steps of an event go calmly there, unless it is an EVICT
  abbrev pub GoesCalmly : Event → List Step → S → S → ForkLists → ForkLists → D → Type 0
  GoesCalmly event steps s s' l l' drum = WhereInCore (λ frames p. ((n : ℕ) → event ≡ Evict n → ⊥) → WentCalmly means frames p steps s' l') s l drum

  -- turns of a run come calmly there
  abbrev pub TurnsCalmly : List Step → S → S → ForkLists → ForkLists → D → Type 0
  TurnsCalmly steps s s' l l' drum = WhereInCore (λ frames p. CameCalmly means frames p steps s' l l') s l drum

  -- all is in core still there
  abbrev pub StaysInCore : S → S → ForkLists → ForkLists → D → Type 0
  StaysInCore s s' l l' drum = WhereInCore (λ frames p. IsInCore means frames s' l') s l drum
