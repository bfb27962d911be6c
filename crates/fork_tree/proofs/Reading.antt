-- What is known of who waits, where forks come, go and are changed.
use Rattle.std.proofs.Common.{option_map, ◌≡◌, ◌≢◌, ℕ, ◌<◌, ◌≤◌, List, [], ◌∷◌, length, get_or, set, Bool, true, false, Option, None, Some, refl, sym, ◌∙◌, ap, arith, ◌⊎◌, inl, inr, get_or-set_same, get_or-set_other}
use Rattle.std.proofs.lemmas.Bool.{cases_eq}
use Rattle.std.specs.Prelude.{IsSome, MatchBool, ◌||◌}
use Rattle.std.specs.FinMap as map
use Rattle.machine_names.specs.declared.names.ForkName.{ForkName}
use Rattle.machine_names.specs.declared.names.Tty.{Tty}
use Rattle.machine_names.specs.declared.names.TheConstants.{TERMINALS}
use Rattle.plain_model.specs.declared.fork.Body.{Body}
use Rattle.plain_model.specs.declared.fork.Fork.{Fork}
use Rattle.script_texts.specs.declared.status.ForkStatus.{ForkStatus}
use Rattle.script_texts.specs.declared.status.ForkStatus.TheVariants.{Run, Wait, Halted, Forced}
use Rattle.script_texts.specs.declared.status.WaitOn.TheVariants as on
use Rattle.plain_model.specs.Forks.{ForkMap, fork_in, with_status}
use Rattle.plain_model.specs.Trees.{changed, job_changed, with_body, with_mark, without_read}
use Rattle.plain_model.proofs.ChangedForks.{get_changed, of_job, others_alone, own_changed}
use Rattle.fork_tree.specs.Trees.{AreSlotted, Lives}
use Rattle.fork_tree.specs.Waking.{AreQuiet, NoneWaits, freed, freed_of, is_by, lent_notes, may_wait, quiet_notes}
use Rattle.fork_tree.specs.declared.notes.Awaited.{Awaited}
use Rattle.fork_tree.specs.declared.notes.Awaited.TheVariants.{Character, End, Moment}
use Rattle.fork_tree.specs.declared.notes.Due.{Due}
use Rattle.fork_tree.specs.declared.notes.Due.TheVariants.{Never}
use Rattle.fork_tree.specs.declared.notes.Notes.{Notes}
use Rattle.fork_tree.proofs.Slots.{cases_name, get_gone, get_gone_other, get_put, get_put_other, held_lives, in_tells, same_forks, some_of}
use Rattle.plain_model.proofs.ForkMaps.{put_itself}

-- a halted fork waits for nothing
pub halted_calm : (awaited : Awaited) → freed awaited Halted ≡ Halted
halted_calm End = refl
halted_calm Character = refl
halted_calm (Moment clock) = refl

-- where a body was lent, one may wait for anything
lent_may : (awaited : Awaited) → may_wait lent_notes awaited ≡ true
lent_may End = refl
lent_may Character = refl
lent_may (Moment clock) = refl

-- what is noted of a terminal
noted_same : (notes : List Notes) (t u : Tty) (n : Notes) → t.0 < length notes → u.0 ≡ t.0 → get_or (set notes t.0 n) u.0 quiet_notes ≡ n
noted_same notes t u n within here = ap (λ i. get_or (set notes t.0 n) i quiet_notes) here ∙ get_or-set_same notes t.0 n quiet_notes within

-- a fork that lives once one is put there is that one, or lived before
lives_put : (forks : ForkMap) (g f : Fork) → Lives (map.insert forks g.name g) f → (f ≡ g) ⊎ Lives forks f
lives_put forks g f lives = elim (cases_name f.name g.name) [
  | inl same ↦ (let both : Some f ≡ Some g = sym lives ∙ get_put forks g.name f.name g same in inl (cc both))
  | inr other ↦ inr (sym (get_put_other forks g.name f.name g other) ∙ lives)
]

-- a fork that doesn't wait is put there
pub quiet_put : (forks : ForkMap) (notes : List Notes) (g : Fork) → AreQuiet forks notes → ((awaited : Awaited) → freed awaited g.body.status ≡ g.body.status) → AreQuiet (map.insert forks g.name g) notes
quiet_put forks notes g quiet calm t a off f lives job = elim (lives_put forks g f lives) [
  | inl same ↦ rw same (calm a)
  | inr before ↦ quiet t a off f before job
]

-- a fork has the freeze mark, or not
pub quiet_marked : (forks : ForkMap) (notes : List Notes) (on : Bool) (o : Option Fork) → ((f : Fork) → o ≡ Some f → Lives forks f) → AreQuiet forks notes → AreQuiet (changed forks (with_mark on) o) notes
quiet_marked forks notes on None lives quiet = quiet
quiet_marked forks notes on (Some k) lives quiet = λ t a off f there job. elim (lives_put forks (with_mark on k) f there) [
  | inl same ↦ rw same (quiet t a off k (lives k refl) (ap (λ (x : Fork). x.name.tty.0) (sym same) ∙ job))
  | inr before ↦ quiet t a off f before job
]

-- a fork goes
pub quiet_gone : (forks : ForkMap) (notes : List Notes) (name : ForkName) → AreQuiet forks notes → AreQuiet (map.remove forks name) notes
quiet_gone forks notes name quiet t a off f lives job = elim (cases_name f.name name) [
  | inl same ↦ (let none : None ≡ Some f = sym (get_gone forks name f.name same) ∙ lives in absurd (cc none))
  | inr other ↦ quiet t a off f (sym (get_gone_other forks name f.name other) ∙ lives) job
]

-- a terminal with a fork is one
pub its_terminal : (forks : ForkMap) → AreSlotted forks → (t : Tty) (slot : ℕ) → IsSome (fork_in forks t slot) → t.0 < TERMINALS
its_terminal forks slotted t slot there =
    let f = some_of (fork_in forks t slot) there in
    let at = in_tells forks slotted t slot f.0 f.1 in
    omega (arith, at.1, (slotted.named f.0 at.0).0)

-- the body of a fork of a terminal is lent: any may wait there
pub quiet_lent : (forks : ForkMap) (notes : List Notes) (t : Tty) (body : Body) (o : Option Fork) → ((f : Fork) → o ≡ Some f → f.name.tty.0 ≡ t.0) → t.0 < length notes → AreQuiet forks notes
    → AreQuiet (changed forks (with_body body) o) (set notes t.0 lent_notes)
quiet_lent forks notes t body o at within quiet = λ u a off f lives job. elim (cases_eq u.0 t.0) [
  | inl here ↦ (let h : true ≡ false = sym (lent_may a) ∙ sym (ap (λ (n : Notes). may_wait n a) (noted_same notes t u lent_notes within here)) ∙ off in absurd (cc h))
  | inr ne ↦ quiet u a (sym (ap (λ (n : Notes). may_wait n a) (get_or-set_other notes t.0 u.0 lent_notes quiet_notes ne)) ∙ off) f (before u f ne job o at lives) job
]
  where
    before : (u : Tty) (f : Fork) → u.0 ≢ t.0 → f.name.tty.0 ≡ u.0 → (o : Option Fork) → ((k : Fork) → o ≡ Some k → k.name.tty.0 ≡ t.0) → Lives (changed forks (with_body body) o) f → Lives forks f
    before u f ne job None at lives = lives
    before u f ne job (Some k) at lives = elim (lives_put forks (with_body body k) f lives) [
      | inl same ↦ absurd (ne (sym job ∙ (ap (λ (x : Fork). x.name.tty.0) same ∙ at k refl)))
      | inr lived ↦ lived
    ]

-- something is known of the forks of a terminal
pub quiet_noted : (forks : ForkMap) (notes : List Notes) (t : Tty) (n : Notes) → t.0 < length notes → ((awaited : Awaited) → may_wait n awaited ≡ false → NoneWaits awaited forks t) → AreQuiet forks notes
    → AreQuiet forks (set notes t.0 n)
quiet_noted forks notes t n within known quiet = λ u a off f lives job. elim (cases_eq u.0 t.0) [
  | inl here ↦ known a (sym (ap (λ (m : Notes). may_wait m a) (noted_same notes t u n within here)) ∙ off) f lives (job ∙ here)
  | inr ne ↦ quiet u a (sym (ap (λ (m : Notes). may_wait m a) (get_or-set_other notes t.0 u.0 n quiet_notes ne)) ∙ off) f lives job
]

-- none waits for a character
pub readers_noted : (forks : ForkMap) (notes : List Notes) (t : Tty) (n : Notes) → t.0 < length notes → n ≡ get_or notes t.0 quiet_notes → NoneWaits Character forks t → AreQuiet forks notes
    → AreQuiet forks (set notes t.0 (record n { readers = Never }))
readers_noted forks notes t n within is none quiet = quiet_noted forks notes t (record n { readers = Never }) within known quiet
  where
    known : (awaited : Awaited) → may_wait (record n { readers = Never }) awaited ≡ false → NoneWaits awaited forks t
    known End off = absurd (cc off)
    known Character off = none
    known (Moment clock) off = quiet t (Moment clock) (sym (ap (λ (m : Notes). may_wait m (Moment clock)) is) ∙ off)

-- none sleeps that may go on before one is due
pub sleepers_noted : (forks : ForkMap) (notes : List Notes) (t : Tty) (n : Notes) (due : Due) → t.0 < length notes → n ≡ get_or notes t.0 quiet_notes
    → ((clock : ℕ) → is_by due clock ≡ false → NoneWaits (Moment clock) forks t) → AreQuiet forks notes → AreQuiet forks (set notes t.0 (record n { sleepers = due }))
sleepers_noted forks notes t n due within is none quiet = quiet_noted forks notes t (record n { sleepers = due }) within known quiet
  where
    known : (awaited : Awaited) → may_wait (record n { sleepers = due }) awaited ≡ false → NoneWaits awaited forks t
    known End off = absurd (cc off)
    known Character off = quiet t Character (sym (ap (λ (m : Notes). may_wait m Character) is) ∙ off)
    known (Moment clock) off = none clock off

-- by what is known of a terminal
pub by_notes : (b : Bool) (A B : Type 0) → A → (b ≡ false → B) → MatchBool b A B
by_notes true A B here none = here
by_notes false A B here none = none refl

-- neither of two
pub neither : (a b : Bool) → (a || b) ≡ false → (a ≡ false) × (b ≡ false)
neither true b e = absurd (cc e)
neither false b e = (refl, e)

-- of a terminal that has none, nothing waits
pub none_beyond : (forks : ForkMap) → AreSlotted forks → (t : Tty) → TERMINALS ≤ t.0 → (awaited : Awaited) → NoneWaits awaited forks t
none_beyond forks slotted t beyond awaited f lives job = absurd (omega (arith, (slotted.named f lives).0, job, beyond))

-- no fork lives
pub quiet_none : (notes : List Notes) → AreQuiet map.empty notes
quiet_none notes t a off f lives job = let h : None ≡ Some f = sym (map.get-empty _ f.name) ∙ lives in absurd (cc h)

-- ---- where none waits, nothing changes

module _ (forks : ForkMap) (slotted : AreSlotted forks) (t : Tty) (awaited : Awaited) (none : NoneWaits awaited forks t) where
  pub nobody_freed : job_changed (freed_of awaited) t forks ≡ forks
  nobody_freed = same_forks _ _ (λ q. get_changed (of_job (freed_of awaited) t) forks q ∙ by q (map.get forks q) refl)
    where
      unmoved : (k : Fork) → Lives forks k → of_job (freed_of awaited) t k ≡ k
      unmoved k lives = elim (cases_eq k.name.tty.0 t.0) [
        | inl job ↦ own_changed (freed_of awaited) t k job ∙ ap (with_status k) (none k lives job)
        | inr other ↦ others_alone (freed_of awaited) t k other
      ]

      by : (q : ForkName) (o : Option Fork) → map.get forks q ≡ o → option_map (of_job (freed_of awaited) t) o ≡ o
      by q None is = refl
      by q (Some k) is = ap Some (unmoved k (held_lives forks slotted q k is))

-- ---- who has been woken doesn't wait

pub read_once : (status : ForkStatus) → without_read (without_read status) ≡ without_read status
read_once Run = refl
read_once (Wait on.Input) = refl
read_once (Wait on.Fork) = refl
read_once (Wait (on.Sleep moment)) = refl
read_once Halted = refl
read_once (Forced channel) = refl
