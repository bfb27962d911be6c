-- Forks that stay, and codes that are kept: then no code outlives its fork.
use Rattle.std.proofs.Common.{◌≡◌, ◌≢◌, ℕ, Bool, true, false, cond, List, [], ◌∷◌, Option, None, Some, inl, inr, refl, sym, ◌∙◌, ap}
use Rattle.std.specs.Prelude.{is_some}
use Rattle.std.specs.Option.{option_map, option_map_or}
use Rattle.std.specs.Cmp.{nat_cmp_total}
use Rattle.std.specs.FinMap as map
use Rattle.std.specs.FinMap.{nat_cmp-IsAntisymmetric}
use Rattle.machine_names.specs.declared.names.ForkName.{ForkName}
use Rattle.machine_names.specs.declared.names.Tty.{Tty}
use Rattle.plain_typing.specs.Lines.{Codes}
use Rattle.plain_units.specs.declared.channel.TheConstants.{INFERIOR_ENDED}
use Rattle.plain_units.proofs.Lookups.{looked_up}
use Rattle.plain_model.specs.declared.fork.Fork.{Fork}
use Rattle.plain_model.specs.Forks.{ForkMap, fork_in, superior_of}
use Rattle.plain_model.specs.InterruptCalls.{living_codes, with_codes_of}
use Rattle.plain_model.specs.Interrupts.{posted}
use Rattle.plain_model.specs.Posting.{told_if}
use Rattle.plain_model.specs.State.{PlainJob}
use Rattle.plain_model.specs.Trees.{all_changed, awoken, changed, end_told, readers_woken, sleepers_awoken, unread, unwaited, waiters_woken}
use Rattle.plain_model.proofs.ChangedForks.{get_changed, of_job}
use Rattle.plain_model.proofs.ForkMaps.{cases_name, get_put, get_put_other}
use Rattle.plain_laws.specs.Whole.{AreOfLiving}
use Rattle.plain_laws.specs.WholeFiles.{Jobs}
use Rattle.machine_names.proofs.Keys.{cases_key, get_put as put_here, get_put_other as put_elsewhere}
use Rattle.plain_laws.proofs.FilesKept.{gone_tells, put_tells}

-- ---- forks

-- each fork that lives still does
abbrev pub Stay : ForkMap → ForkMap → Type 0
Stay m n = (f : ForkName) → map.contains_key m f ≡ true → map.contains_key n f ≡ true

pub put_there : (m : ForkMap) (k : ForkName) (g : Fork) → Stay m (map.insert m k g)
put_there m k g f lives = elim (cases_name f k) [
  | inl e ↦ ap is_some (get_put m k f g e)
  | inr ne ↦ ap is_some (get_put_other m k f g ne) ∙ lives
]

pub changed_there : (m : ForkMap) (change : Fork → Fork) (o : Option Fork) → Stay m (changed m change o)
changed_there m change None f lives = lives
changed_there m change (Some k) f lives = put_there m k.name (change k) f lives

pub all_there : (change : Fork → Fork) (m : ForkMap) → Stay m (all_changed change m)
all_there change m f lives = ap is_some (get_changed change m f) ∙ by (map.get m f) lives
  where
    by : (o : Option Fork) → is_some o ≡ true → is_some (option_map change o) ≡ true
    by None h = h
    by (Some g) h = refl

pub waiters_there : (m : ForkMap) (t : Tty) → Stay m (waiters_woken m t)
unfolding waiters_woken
waiters_there m t = all_there (of_job unwaited t) m

pub readers_there : (m : ForkMap) (t : Tty) → Stay m (readers_woken m t)
unfolding readers_woken
readers_there m t = all_there (of_job unread t) m

pub sleepers_there : (clock : ℕ) (m : ForkMap) → Stay m (sleepers_awoken clock m)
unfolding sleepers_awoken
sleepers_there clock m = all_there (awoken clock) m

pub told_there : (m : ForkMap) (g : Fork) → Stay m (end_told m g)
told_there m g f lives = let v = waiters_woken m g.name.tty in changed_there v (λ k. posted k INFERIOR_ENDED) (superior_of v g) f (waiters_there m g.name.tty f lives)

pub told_if_there : (ended : Bool) (m : ForkMap) (g : Fork) → Stay m (told_if ended m g)
told_if_there true m g f lives = told_there (map.insert m g.name g) g f (put_there m g.name g f lives)
told_if_there false m g f lives = put_there m g.name g f lives

-- ---- codes

-- each job is one that was there, with its codes
abbrev pub KeepCodes : Jobs → Jobs → Type 0
KeepCodes old new = (t : ℕ) (j : PlainJob) → map.get new t ≡ Some j → (i : PlainJob) × (map.get old t ≡ Some i) × (j.codes ≡ i.codes)

pub same_codes : (jobs : Jobs) → KeepCodes jobs jobs
same_codes jobs t j is = (j, is, refl)

pub put_codes : (jobs : Jobs) (t : ℕ) (j k : PlainJob) → map.get jobs t ≡ Some j → k.codes ≡ j.codes → KeepCodes jobs (map.insert jobs t k)
put_codes jobs t j k there codes u i is = elim (put_tells nat_cmp_total nat_cmp-IsAntisymmetric jobs t k u i is) [
  | inl e ↦ (j, ap (map.get jobs) e.0 ∙ there, ap (λ (x : PlainJob). x.codes) (sym e.1) ∙ codes)
  | inr was ↦ (i, was, refl)
]

-- a job changed but for its codes
pub change_codes : (jobs : Jobs) (t : Tty) (change : PlainJob → PlainJob) → ((j : PlainJob) → (change j).codes ≡ j.codes) → KeepCodes jobs (option_map_or (λ j. map.insert jobs t.0 (change j)) (map.get jobs t.0) jobs)
change_codes jobs t change same = looked_up (KeepCodes jobs) _ jobs (map.get jobs t.0) (λ j is. put_codes jobs t.0 j (change j) is (same j)) (λ none. same_codes jobs)

-- NO CODE OUTLIVES ITS FORK where the forks stay and the codes are kept
pub still_living : (m n : ForkMap) (old new : Jobs) → Stay m n → KeepCodes old new → AreOfLiving m old → AreOfLiving n new
still_living m n old new stay keep are t j is code f channel assigned =
    let i = keep t j is in
    let a = are t i.0 i.1 code f channel (ap (λ (c : Codes). map.get c code) (sym i.2) ∙ assigned) in
    (stay f a.0, a.1)

-- a code of forks that live is one of those that there were, of a fork that lives
pub living_tells : (forks : ForkMap) (codes : Codes) (code : ℕ) (f : ForkName) (channel : ℕ) → map.get (living_codes forks codes) code ≡ Some (f, channel) → (map.get codes code ≡ Some (f, channel)) × (map.contains_key forks f ≡ true)
living_tells forks codes code f channel is = by (map.get codes code) refl
  where
    lives : Option (ForkName × ℕ) → Bool
    lives o = option_map_or (λ (a : ForkName × ℕ). is_some (map.get forks a.0)) o false

    told : cond (lives (map.get codes code)) (map.get codes code) None ≡ Some (f, channel)
    told = sym (map.get-retain_keys codes (λ x. lives (map.get codes x)) code (λ x e. ap (λ y. lives (map.get codes y)) (sym (nat_cmp-IsAntisymmetric code x e)))) ∙ is

    kept : (a : ForkName × ℕ) (b : Bool) → is_some (map.get forks a.0) ≡ b → cond b (Some a) None ≡ Some (f, channel) → (Some a ≡ Some (f, channel)) × (map.contains_key forks f ≡ true)
    kept a true here e = let same : a ≡ (f, channel) = cc e in (e, ap (λ (x : ForkName × ℕ). map.contains_key forks x.0) (sym same) ∙ here)
    kept a false here e = absurd (cc e)

    by : (o : Option (ForkName × ℕ)) → map.get codes code ≡ o → (map.get codes code ≡ Some (f, channel)) × (map.contains_key forks f ≡ true)
    by None none = absurd (let no : None ≡ Some (f, channel) = ap (λ o. cond (lives o) o None) (sym none) ∙ told in cc no)
    by (Some a) some = (let k = kept a (is_some (map.get forks a.0)) refl (ap (λ o. cond (lives o) o None) (sym some) ∙ told) in (some ∙ k.0, k.1))

-- forks of one job go, and its codes with them
module _ (m n : ForkMap) (jobs : Jobs) (t : Tty) (stay : (f : ForkName) → f.tty.0 ≢ t.0 → map.contains_key m f ≡ true → map.contains_key n f ≡ true) (are : AreOfLiving m jobs) where
  pub narrowed_job : (j k : PlainJob) → map.get jobs t.0 ≡ Some j → k.codes ≡ living_codes n j.codes → AreOfLiving n (map.insert jobs t.0 k)
  narrowed_job j k there codes u i is code f channel assigned = elim (cases_key nat_cmp_total nat_cmp-IsAntisymmetric u t.0) [
    | inl here ↦
        let both : Some k ≡ Some i = sym (put_here nat_cmp_total nat_cmp-IsAntisymmetric jobs t.0 u k here) ∙ is in
        let same : k ≡ i = cc both in
        let l = living_tells n j.codes code f channel (ap (λ (c : Codes). map.get c code) (sym codes ∙ ap (λ (x : PlainJob). x.codes) same) ∙ assigned) in
        let a = are t.0 j there code f channel l.0 in
        (l.1, a.1 ∙ sym here)
    | inr other ↦
        let was : map.get jobs u ≡ Some i = sym (put_elsewhere nat_cmp_total nat_cmp-IsAntisymmetric jobs t.0 u k other) ∙ is in
        let a = are u i was code f channel assigned in
        (stay f (λ same. other (sym a.1 ∙ same)) a.0, a.1)
  ]

  -- where it has no job, no fork of it has assigned one
  no_job : map.get jobs t.0 ≡ None → AreOfLiving n jobs
  no_job none u i is code f channel assigned =
      let a = are u i is code f channel assigned in
      (stay f (λ same. (let no : None ≡ Some i = sym none ∙ ap (map.get jobs) (sym same ∙ a.1) ∙ is in cc no)) a.0, a.1)

  pub narrowed_codes : AreOfLiving n (with_codes_of jobs t (living_codes n))
  narrowed_codes = looked_up (AreOfLiving n) _ jobs (map.get jobs t.0) (λ j is. narrowed_job j (record j { codes = living_codes n j.codes }) is refl) (λ none. no_job none)

  pub gone_codes : AreOfLiving n (map.remove jobs t.0)
  gone_codes u i is code f channel assigned =
      let was = gone_tells nat_cmp_total nat_cmp-IsAntisymmetric jobs t.0 u i is in
      let a = are u i was.1 code f channel assigned in
      (stay f (λ same. was.0 (sym a.1 ∙ same)) a.0, a.1)
