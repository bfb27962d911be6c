-- What changes of the forks of one job leave: the forks of the others.
use Rattle.std.proofs.Common.{◌-◌, ◌==◌, ◌&&◌, cond, ◌≡◌, ◌≢◌, ℕ, Bool, true, false, List, [], ◌∷◌, Option, None, Some, inl, inr, refl, sym, ◌∙◌, ap}
use Rattle.std.specs.List.{list_any}
use Rattle.std.specs.Option.{option_and_then, option_map, option_map_or}
use Rattle.std.specs.FinMap as map
use Rattle.std.specs.Prelude.{nat_le}
use Rattle.std.proofs.lemmas.Bool.{cond_both}
use Rattle.plain_units.specs.declared.channel.TheConstants.{INFERIOR_ENDED}
use Rattle.machine_names.specs.declared.names.Tty.{Tty}
use Rattle.machine_names.specs.declared.names.ForkName.{ForkName}
use Rattle.plain_model.specs.declared.fork.Fork.{Fork}
use Rattle.plain_model.specs.declared.call.TheConstants.{FIRST_HANDLE, FORK_SELF, FORK_SUPERIOR, LAST_HANDLE}
use Rattle.plain_model.specs.Handles.{named, named_by}
use Rattle.plain_model.specs.Forks.{ForkMap, OthersStay, fork_in, superior_of}
use Rattle.plain_model.specs.Interrupts.{forces, posted, posted_all}
use Rattle.plain_model.specs.Posting.{told_if, with_all_posted}
use Rattle.plain_model.specs.Trees.{PlainTree, changed, end_told, job_changed, readers_woken, unread, unwaited, waiters_woken, with_changed_of}
use Rattle.plain_model.proofs.ChangedForks.{changed_from, get_changed, of_job, others_alone}
use Rattle.plain_model.proofs.ForkMaps.{AreOwn, cases_name, get_gone, get_gone_other, get_put, get_put_other, slot_tells, superior_tells}
use Rattle.plain_model.proofs.Posted.{posted_same}

-- forks of a job changed: each fork stands under its own name, and those of other jobs are as they were
pub record JobChanged (t : Tty) (old new : ForkMap) : Type 0 where
  pub own : AreOwn new
  pub others : OthersStay t old new

-- a change that keeps the name
abbrev pub KeepsName : (Fork → Fork) → Type 0
KeepsName change = (f : Fork) → (change f).name ≡ f.name

-- each fork that may be there is one of a job
abbrev pub AreOf : Tty → Option Fork → Type 0
AreOf t o = (f : Fork) → o ≡ Some f → f.name.tty.0 ≡ t.0

-- ---- one change after another

pub others_itself : (t : Tty) (forks : ForkMap) → OthersStay t forks forks
others_itself t forks name other = refl

pub others_on : (t : Tty) (a b c : ForkMap) → OthersStay t a b → OthersStay t b c → OthersStay t a c
others_on t a b c first second name other = second name other ∙ first name other

pub job_on : (t : Tty) (a b c : ForkMap) → JobChanged t a b → JobChanged t b c → JobChanged t a c
job_on t a b c first second = record { own = second.own; others = others_on t a b c first.others second.others }

-- terminals of one number
pub others_alike : (t u : Tty) (old new : ForkMap) → u.0 ≡ t.0 → OthersStay u old new → OthersStay t old new
others_alike t u old new same others name other = others name (λ here. other (here ∙ same))

-- ---- a fork of a job put, changed, or taken away

-- a name of another job is none of this one
other_name : (t : Tty) (name f : ForkName) → name.tty.0 ≢ t.0 → f.tty.0 ≡ t.0 → name ≡ f → ⊥
other_name t name f other here same = other (ap (λ (n : ForkName). n.tty.0) same ∙ here)

module _ (t : Tty) (m : ForkMap) where
  pub put_others : (f : Fork) → f.name.tty.0 ≡ t.0 → OthersStay t m (map.insert m f.name f)
  put_others f here name other = get_put_other m f.name name f (other_name t name f.name other here)

  pub gone_others : (f : ForkName) → f.tty.0 ≡ t.0 → OthersStay t m (map.remove m f)
  gone_others f here name other = get_gone_other m f name (other_name t name f other here)

  pub changed_others : (change : Fork → Fork) (o : Option Fork) → AreOf t o → OthersStay t m (changed m change o)
  changed_others change None of = others_itself t m
  changed_others change (Some f) of = λ name other. get_put_other m f.name name (change f) (other_name t name f.name other (of f refl))

  module _ (own : AreOwn m) where
    pub put_own : (k : ForkName) (f : Fork) → f.name ≡ k → AreOwn (map.insert m k f)
    put_own k f named q h is = elim (cases_name q k) [
      | inl e ↦ let both : Some f ≡ Some h = sym (get_put m k q f e) ∙ is in let same : f ≡ h = cc both in ap (λ (x : Fork). x.name) (sym same) ∙ named ∙ sym e
      | inr ne ↦ own q h (sym (get_put_other m k q f ne) ∙ is)
    ]

    gone_own : (k : ForkName) → AreOwn (map.remove m k)
    gone_own k q h is = elim (cases_name q k) [
      | inl e ↦ absurd (let no : None ≡ Some h = sym (get_gone m k q e) ∙ is in cc no)
      | inr ne ↦ own q h (sym (get_gone_other m k q ne) ∙ is)
    ]

    changed_own : (change : Fork → Fork) → KeepsName change → (o : Option Fork) → AreOwn (changed m change o)
    changed_own change same None = own
    changed_own change same (Some f) = put_own f.name (change f) (same f)

    pub put_job : (f : Fork) → f.name.tty.0 ≡ t.0 → JobChanged t m (map.insert m f.name f)
    put_job f here = record { own = put_own f.name f refl; others = put_others f here }

    pub gone_job : (f : ForkName) → f.tty.0 ≡ t.0 → JobChanged t m (map.remove m f)
    gone_job f here = record { own = gone_own f; others = gone_others f here }

    pub changed_job : (change : Fork → Fork) → KeepsName change → (o : Option Fork) → AreOf t o → JobChanged t m (changed m change o)
    changed_job change same o of = record { own = changed_own change same o; others = changed_others change o of }

    -- the fork of a name is of the name's job
    pub named_of : (name : ForkName) → name.tty.0 ≡ t.0 → AreOf t (map.get m name)
    named_of name here f is = ap (λ (n : ForkName). n.tty.0) (own name f is) ∙ here

-- ---- forks of a job told

pub job_changed_job : (t : Tty) (change : Fork → Fork) → KeepsName change → (m : ForkMap) → AreOwn m → JobChanged t m (job_changed change t m)
job_changed_job t change same m own = record { own = owns; others = λ name other. get_changed (of_job change t) m name ∙ stays name other (map.get m name) refl }
  where
    named : (f : Fork) → (of_job change t f).name ≡ f.name
    named f = by (f.name.tty.0 == t.0)
      where
        by : (b : Bool) → (cond b (change f) f).name ≡ f.name
        by true = same f
        by false = refl

    owns : AreOwn (job_changed change t m)
    owns name f is = let was = changed_from (of_job change t) m name f is in ap (λ (x : Fork). x.name) (sym was.2) ∙ named was.0 ∙ own name was.0 was.1

    stays : (name : ForkName) → name.tty.0 ≢ t.0 → (o : Option Fork) → map.get m name ≡ o → option_map (of_job change t) o ≡ o
    stays name other None is = refl
    stays name other (Some f) is = ap Some (others_alone change t f (λ here. other (sym (ap (λ (n : ForkName). n.tty.0) (own name f is)) ∙ here)))

pub waiters_job : (m : ForkMap) → AreOwn m → (t : Tty) → JobChanged t m (waiters_woken m t)
unfolding waiters_woken
waiters_job m own t = job_changed_job t unwaited (λ f. refl) m own

pub readers_job : (m : ForkMap) → AreOwn m → (t : Tty) → JobChanged t m (readers_woken m t)
unfolding readers_woken
readers_job m own t = job_changed_job t unread (λ f. refl) m own

-- an end is told
pub told_job : (m : ForkMap) → AreOwn m → (f : Fork) → JobChanged f.name.tty m (end_told m f)
told_job m own f =
    let t = f.name.tty in
    let woken = waiters_woken m t in
    let first = waiters_job m own t in
    job_on t m woken (end_told m f) first
    (changed_job t woken first.own (λ k. posted k INFERIOR_ENDED) (λ k. (posted_same k INFERIOR_ENDED).0) (superior_of woken f) (λ k is. (superior_tells woken first.own f k is).1))

-- ---- the fork of a name

-- it changes, where it lives
pub named_others : (tree : PlainTree) → AreOwn tree.forks → (name : ForkName) (change : Fork → Fork) → OthersStay name.tty tree.forks (with_changed_of tree name change).forks
named_others tree own name change = changed_others name.tty tree.forks change (map.get tree.forks name) (named_of name.tty tree.forks own name refl)

all_same : (f : Fork) (channels : List ℕ) → (posted_all f channels).name ≡ f.name
all_same f [] = refl
all_same f (channel ∷ channels) = all_same (posted f channel) channels ∙ (posted_same f channel).0

-- channels are posted to it, and an end that this forces is told
pub posted_others : (m : ForkMap) → AreOwn m → (name : ForkName) (channels : List ℕ) → OthersStay name.tty m (option_map_or (with_all_posted m channels) (map.get m name) m)
posted_others m own name channels = by (map.get m name) (named_of name.tty m own name refl)
  where
    told : (ended : Bool) (f : Fork) → f.name.tty.0 ≡ name.tty.0 → OthersStay name.tty m (told_if ended m f)
    told true f here =
        let put = put_job name.tty m own f here in
        let all : ForkMap = map.insert m f.name f in
        others_on name.tty m all (end_told all f) put.others (others_alike name.tty f.name.tty all (end_told all f) here (told_job all put.own f).others)
    told false f here = put_others name.tty m f here

    by : (o : Option Fork) → AreOf name.tty o → OthersStay name.tty m (option_map_or (with_all_posted m channels) o m)
    by None of = others_itself name.tty m
    by (Some f) of = told (list_any (forces f.body.psi) channels) (posted_all f channels) (ap (λ (n : ForkName). n.tty.0) (all_same f channels) ∙ of f refl)

-- ---- handles

-- the fork that a handle names is of its job
pub handle_of : (m : ForkMap) → AreOwn m → (who : ForkName) (handle : ℕ) → AreOf who.tty (named m who handle)
unfolding named
handle_of m own who handle = by (map.get m who) (named_of who.tty m own who refl)
  where
    by : (o : Option Fork) → AreOf who.tty o → AreOf who.tty (option_and_then (named_by m handle) o)
    by None of = λ f is. absurd (cc is)
    by (Some caller) of =
        let slot = cond (nat_le FIRST_HANDLE handle && nat_le handle LAST_HANDLE) (fork_in m caller.name.tty (handle - FORK_SELF)) None in
        cond_both (handle == FORK_SELF) (Some caller) (cond (handle == FORK_SUPERIOR) (superior_of m caller) slot) (AreOf who.tty) (λ self. of)
        (λ other. cond_both (handle == FORK_SUPERIOR) (superior_of m caller) slot (AreOf who.tty) (λ up f is. (superior_tells m own caller f is).1 ∙ of caller refl)
        (λ any. cond_both (nat_le FIRST_HANDLE handle && nat_le handle LAST_HANDLE) (fork_in m caller.name.tty (handle - FORK_SELF)) None (AreOf who.tty) (λ a f is. (slot_tells m own caller.name.tty (handle - FORK_SELF) f is).1 ∙ of caller refl) (λ none f is. absurd (cc is))))
