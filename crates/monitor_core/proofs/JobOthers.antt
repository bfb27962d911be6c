-- Which forks stay, and that each is in its slot, where the top fork of a terminal's job is changed, or one is made there.
use Rattle.std.proofs.Common.{◌≡◌, ℕ, ◌<◌, ◌≤◌, Option, None, Some, inl, inr, refl, ap, sym, ◌∙◌, subst}
use Rattle.std.proofs.lemmas.Bool.{cases_lt}
use Rattle.std.specs.Option.{option_map, option_map_or}
use Rattle.std.specs.FinMap as map
use Rattle.machine_names.specs.declared.names.TheConstants.{ACCUMULATORS}
use Rattle.machine_names.specs.declared.names.Tty.{Tty}
use Rattle.plain_model.specs.declared.fork.Fork.{Fork}
use Rattle.plain_model.specs.Forks.{ForkMap, OthersStay}
use Rattle.plain_model.specs.Trees.{PlainTree, changed, free_slot, new_fork, next_name, with_changed_of}
use Rattle.plain_model.proofs.ForkMaps.{cases_name, get_put, get_put_other}
use Rattle.plain_model.proofs.OtherJobs.{named_others, others_alike, others_itself, put_others}
use Rattle.fork_tree.specs.Making.{with_new, with_new_in}
use Rattle.fork_tree.specs.Trees.{AreSlotted, IsTree}
use Rattle.fork_tree.proofs.Kept.{name_unused}
use Rattle.fork_tree.proofs.Slots.{held_lives}
use Rattle.job_forks.specs.Holding.{ComeFrom, SamePlaces}
use Rattle.monitor_calls.specs.declared.job.Job.{Job}
use Rattle.monitor_core.specs.declared.system.System.{System}
use Rattle.monitor_core.specs.Reaching.{BeginsJob, ChangesJob, WereInSlots}
use Rattle.monitor_calls.specs.Jobs.{job_at}
use Rattle.turn_forms.specs.Turns.{KeepSlots}

-- ---- slots

pub slots_itself : (m : ForkMap) → WereInSlots m m
slots_itself m f h is = ap (option_map (λ (g : Fork). g.slot)) is

-- the same forks live, each in its slot
pub slots_placed : (old new : ForkMap) → SamePlaces old new → WereInSlots old new
slots_placed old new same f h is = sym (same f) ∙ ap (option_map (λ (g : Fork). g.slot)) is

-- each that lives stands where one stood of its name
pub slots_came : (old new : ForkMap) → AreSlotted new → ComeFrom old new → WereInSlots old new
slots_came old new slotted come f h is =
    let named : h.name ≡ f = slotted.own f h is in
    let c = come h (held_lives new slotted f h is) in
    let there : map.get old f ≡ Some c.before = ap (map.get old) (sym named ∙ c.name) ∙ c.lived in
    ap (option_map (λ (g : Fork). g.slot)) there ∙ ap Some (sym c.slot)

-- one is changed, in its slot
slots_changed : (m : ForkMap) (change : Fork → Fork) → ((k : Fork) → (change k).slot ≡ k.slot) → (o : Option Fork) → ((k : Fork) → o ≡ Some k → map.get m k.name ≡ Some k) → WereInSlots m (changed m change o)
slots_changed m change still None lives f h is = slots_itself m f h is
slots_changed m change still (Some k) lives f h is = elim (cases_name f k.name) [
  | inl at ↦
      let both : Some (change k) ≡ Some h = sym (get_put m k.name f (change k) at) ∙ is in
      let same : change k ≡ h = cc both in
      ap (option_map (λ (g : Fork). g.slot)) (ap (map.get m) at ∙ lives k refl) ∙ ap Some (sym (still k) ∙ ap (λ (g : Fork). g.slot) same)
  | inr ne ↦ ap (option_map (λ (g : Fork). g.slot)) (sym (get_put_other m k.name f (change k) ne) ∙ is)
]

-- who was in a slot before and is there after
slots_on : (a b c : ForkMap) → WereInSlots a b → WereInSlots b c → WereInSlots a c
slots_on a b c first second f h is = by (map.get b f) refl (second f h is)
  where
    by : (o : Option Fork) → map.get b f ≡ o → option_map (λ (g : Fork). g.slot) o ≡ Some h.slot → option_map (λ (g : Fork). g.slot) (map.get a f) ≡ Some h.slot
    by None none e = absurd (cc e)
    by (Some k) found e = first f k found ∙ e

-- ---- jobs

-- all is as it was
pub job_same : (t : Tty) (old new : ForkMap) → new ≡ old → ChangesJob t old new
job_same t old new same = subst (ChangesJob t old) (sym same) (others_itself t old, slots_itself old)

pub begins_same : (t : Tty) (old new : ForkMap) → new ≡ old → BeginsJob t old new
begins_same t old new same = subst (BeginsJob t old) (sym same) (others_itself t old, λ f g h was is. (let both : Some h ≡ Some g = sym is ∙ was in let one : h ≡ g = cc both in ap (λ (k : Fork). k.slot) one))

-- who was in a slot before keeps it
pub changes_begins : (t : Tty) (old new : ForkMap) → ChangesJob t old new → BeginsJob t old new
changes_begins t old new changes = (
  changes.0,
  λ f g h was is.
      let both : Some g.slot ≡ Some h.slot = sym (ap (option_map (λ (k : Fork). k.slot)) was) ∙ changes.1 f h is in
      let one : g.slot ≡ h.slot = cc both in
      sym one,
)

-- a job changes twice
pub job_on : (t : Tty) (a b c : ForkMap) → ChangesJob t a b → ChangesJob t b c → ChangesJob t a c
job_on t a b c first second = (λ name other. second.0 name other ∙ first.0 name other, slots_on a b c first.1 second.1)

module _ {P : Type 0} {b : _} (m : System P b) (t : Tty) (j : Job) (at : job_at m.jobs.items t.0 ≡ Some j) where
  -- its top fork is of the terminal
  pub top_others : (new : ForkMap) → OthersStay j.top.tty m.tree.forks new → OthersStay t m.tree.forks new
  top_others new stay = others_alike t j.top.tty m.tree.forks new (m.sound.each_job t.0 j at).terminal stay

  pub top_changed : IsTree m.tree → (change : Fork → Fork) → ((k : Fork) → (change k).slot ≡ k.slot) → (new : PlainTree) → new ≡ with_changed_of m.tree j.top change → ChangesJob t m.tree.forks new.forks
  top_changed trees change still new is =
      let forks = m.tree.forks in
      let whole = (with_changed_of m.tree j.top change).forks in
      let slots = slots_changed forks change still (map.get forks j.top) (λ k there. held_lives forks trees.slotted j.top k there) in
      subst (λ (x : PlainTree). ChangesJob t forks x.forks) (sym is) (top_others whole (named_others m.tree trees.slotted.own j.top change), slots)

  -- a word is put into an accumulator of it, or into a page
  pub top_poked : IsTree m.tree → (address : ℕ) (change : Fork → Fork) → ((k : Fork) → (change k).slot ≡ k.slot) → (new : PlainTree) → (address < ACCUMULATORS → new ≡ with_changed_of m.tree j.top change)
      → (ACCUMULATORS ≤ address → new ≡ m.tree) → ChangesJob t m.tree.forks new.forks
  top_poked trees address change still new low high = elim (cases_lt address ACCUMULATORS) [
    | inl below ↦ top_changed trees change still new (low below)
    | inr above ↦ job_same t m.tree.forks new.forks (ap (λ (x : PlainTree). x.forks) (high above))
  ]

-- a top fork is made, under a name that nobody had
pub made_begins : (tree new : PlainTree) → IsTree tree → (t : Tty) (superior : Option ℕ) → new ≡ with_new tree t superior → BeginsJob t tree.forks new.forks
made_begins tree new trees t superior is = subst (λ (x : PlainTree). BeginsJob t tree.forks x.forks) (sym is) (by (free_slot tree.forks t))
  where
    by : (o : Option ℕ) → BeginsJob t tree.forks (option_map_or (with_new_in tree t superior) o tree).forks
    by None = begins_same t tree.forks tree.forks refl
    by (Some slot) = (put_others t tree.forks f refl, keeps)
      where
        f : Fork
        f = new_fork (next_name tree t) slot superior

        keeps : KeepSlots tree.forks (map.insert tree.forks f.name f)
        keeps n g h was now = elim (cases_name n f.name) [
          | inl at ↦ absurd (let no : Some g ≡ None = sym was ∙ ap (map.get tree.forks) at ∙ name_unused tree t trees in cc no)
          | inr ne ↦ let both : Some h ≡ Some g = sym now ∙ get_put_other tree.forks f.name n f ne ∙ was in let one : h ≡ g = cc both in ap (λ (k : Fork). k.slot) one
        ]
