-- Forks that keep their places, and how many of them there are.
use Rattle.std.proofs.Common.{◌≡◌, ◌≢◌, ℕ, ◌+◌, List, [], ◌∷◌, length, Bool, true, false, cond, ◌==◌, Option, None, Some, refl, sym, ◌∙◌, ap, subst, arith, inl, inr}
use Rattle.std.specs.Prelude.{is_none, is_some}
use Rattle.std.specs.List.{range_with_len}
use Rattle.std.specs.Option.{option_map}
use Rattle.std.specs.FinMap as map
use Rattle.machine_names.specs.declared.names.Tty.{Tty}
use Rattle.machine_names.specs.declared.names.ForkName.{ForkName}
use Rattle.machine_names.specs.declared.names.TheConstants.{MOST_FORKS}
use Rattle.plain_model.specs.declared.fork.Fork.{Fork}
use Rattle.script_texts.specs.declared.status.ForkStatus.{ForkStatus}
use Rattle.script_texts.specs.declared.status.ForkStatus.TheVariants.{Run, Wait, Halted, Forced}
use Rattle.script_texts.specs.declared.status.WaitOn.TheVariants as on
use Rattle.plain_model.specs.Forks.{ForkMap, fork_in, forks_by_slot}
use Rattle.plain_model.specs.Trees.{all_changed, changed, job_changed, unwaited, without_wait, waiters_woken}
use Rattle.plain_model.proofs.ChangedForks.{changed_from, get_changed, of_job}
use Rattle.plain_model.proofs.ForkMaps.{AreOwn, cases_name, get_put, get_put_other, get_gone, get_gone_other}
use Rattle.fork_tree.specs.Trees.{AreSlotted, IsIn, Lives}
use Rattle.fork_tree.proofs.Slots.{held_lives, in_found, in_tells}
use Rattle.job_forks.specs.Holding.{CameFrom, ComeFrom, SamePlaces}
use Rattle.job_forks.specs.Limits.{FitsForced, IsBody}
use Rattle.job_forks.proofs.Counted.{listed_fewer, listed_same}

-- what is kept of forks that change: who lives and where, under their own names, and that each came from one that lived
pub record Keep (old new : ForkMap) : Type 0 where
  pub own : AreOwn new
  pub same : SamePlaces old new
  pub come : ComeFrom old new

-- each fork comes of itself
pub came_itself : (forks : ForkMap) → ComeFrom forks forks
came_itself forks f lives = record { before = f; lived = lives; name = refl; slot = refl; superior = refl; units = refl; within = λ b. b }

pub keep_itself : (forks : ForkMap) → AreOwn forks → Keep forks forks
keep_itself forks own = record {
  own = own;
  same = λ name. refl;
  come = came_itself forks;
}

-- who came from one that came
came_on : (a b : ForkMap) (f : Fork) → ComeFrom a b → CameFrom b f → CameFrom a f
came_on a b f first c =
    let d = first c.before c.lived in
    record { before = d.before; lived = d.lived; name = c.name ∙ d.name; slot = c.slot ∙ d.slot; superior = c.superior ∙ d.superior; units = c.units ∙ d.units; within = λ b. c.within (d.within b) }

pub come_on : (a b c : ForkMap) → ComeFrom a b → ComeFrom b c → ComeFrom a c
come_on a b c first second = λ f lives. came_on a b f first (second f lives)

pub keep_on : (a b c : ForkMap) → Keep a b → Keep b c → Keep a c
keep_on a b c first second = record {
  own = second.own;
  same = λ name. second.same name ∙ first.same name;
  come = come_on a b c first.come second.come;
}

-- a change that leaves a fork's place and its units, and keeps its limits
pub record IsMild (change : Fork → Fork) (k : Fork) : Type 0 where
  pub name : (change k).name ≡ k.name
  pub slot : (change k).slot ≡ k.slot
  pub superior : (change k).superior ≡ k.superior
  pub units : (change k).body.units ≡ k.body.units
  pub within : IsBody k.body → IsBody (change k).body

-- a change that leaves the same fork
mild_as : (change other : Fork → Fork) (k : Fork) → change k ≡ other k → IsMild other k → IsMild change k
mild_as change other k same m = record {
  name = ap (λ (f : Fork). f.name) same ∙ m.name;
  slot = ap (λ (f : Fork). f.slot) same ∙ m.slot;
  superior = ap (λ (f : Fork). f.superior) same ∙ m.superior;
  units = ap (λ (f : Fork). f.body.units) same ∙ m.units;
  within = λ b. subst (λ (f : Fork). IsBody f.body) (sym same) (m.within b);
}

module _ (forks : ForkMap) (own : AreOwn forks) (change : Fork → Fork) where
  put_keeps : (k : Fork) → map.get forks k.name ≡ Some k → IsMild change k → Keep forks (map.insert forks k.name (change k))
  put_keeps k there mild = record { own = owns; same = places; come = comes }
    where
      new : ForkMap
      new = map.insert forks k.name (change k)

      owns : AreOwn new
      owns q f e = elim (cases_name q k.name) [
        | inl at ↦ let same : Some (change k) ≡ Some f = sym (get_put forks k.name q (change k) at) ∙ e in let one : change k ≡ f = cc same in ap (λ (x : Fork). x.name) (sym one) ∙ mild.name ∙ sym at
        | inr ne ↦ own q f (sym (get_put_other forks k.name q (change k) ne) ∙ e)
      ]

      places : SamePlaces forks new
      places q = elim (cases_name q k.name) [
        | inl at ↦ ap (option_map (λ (f : Fork). f.slot)) (get_put forks k.name q (change k) at) ∙ ap Some mild.slot ∙ sym (ap (λ (n : ForkName). option_map (λ (f : Fork). f.slot) (map.get forks n)) at ∙ ap (option_map (λ (f : Fork). f.slot)) there)
        | inr ne ↦ ap (option_map (λ (f : Fork). f.slot)) (get_put_other forks k.name q (change k) ne)
      ]

      comes : ComeFrom forks new
      comes f e = elim (cases_name f.name k.name) [
        | inl at ↦
            let same : Some (change k) ≡ Some f = sym (get_put forks k.name f.name (change k) at) ∙ e in
            let one : change k ≡ f = cc same in
            let came : CameFrom forks (change k) = record { before = k; lived = there; name = mild.name; slot = mild.slot; superior = mild.superior; units = mild.units; within = mild.within } in
            subst (CameFrom forks) one came
        | inr ne ↦ came_itself forks f (sym (get_put_other forks k.name f.name (change k) ne) ∙ e)
      ]

  -- a fork that lives is changed, if there is one
  pub changed_keeps : (o : Option Fork) → ((k : Fork) → o ≡ Some k → (map.get forks k.name ≡ Some k) × IsMild change k) → Keep forks (changed forks change o)
  changed_keeps None told = keep_itself forks own
  changed_keeps (Some k) told = let t = told k refl in put_keeps k t.0 t.1

-- ---- all forks changed, or those of a job

pub all_keep : (change : Fork → Fork) → ((k : Fork) → IsMild change k) → (forks : ForkMap) → AreOwn forks → Keep forks (all_changed change forks)
all_keep change mild forks own = record { own = owns; same = λ q. ap (option_map (λ (f : Fork). f.slot)) (get_changed change forks q) ∙ places (map.get forks q); come = comes }
  where
    places : (o : Option Fork) → option_map (λ (f : Fork). f.slot) (option_map change o) ≡ option_map (λ (f : Fork). f.slot) o
    places None = refl
    places (Some f) = ap Some (mild f).slot

    owns : AreOwn (all_changed change forks)
    owns q f is = let was = changed_from change forks q f is in ap (λ (x : Fork). x.name) (sym was.2) ∙ (mild was.0).name ∙ own q was.0 was.1

    comes : ComeFrom forks (all_changed change forks)
    comes f is =
        let was = changed_from change forks f.name f is in
        let m = mild was.0 in
        let there = ap (map.get forks) (own f.name was.0 was.1) ∙ was.1 in
        let came : CameFrom forks (change was.0) = record { before = was.0; lived = there; name = m.name; slot = m.slot; superior = m.superior; units = m.units; within = m.within } in
        subst (CameFrom forks) was.2 came

pub job_keeps : (change : Fork → Fork) → ((k : Fork) → IsMild change k) → (t : Tty) (forks : ForkMap) → AreOwn forks → Keep forks (job_changed change t forks)
job_keeps change mild t forks own = all_keep (of_job change t) each forks own
  where
    each : (k : Fork) → IsMild (of_job change t) k
    each k = by (k.name.tty.0 == t.0) refl
      where
        by : (b : Bool) → (k.name.tty.0 == t.0) ≡ b → IsMild (of_job change t) k
        by true here = let same : of_job change t k ≡ change k = ap (λ b. cond b (change k) k) here in mild_as (of_job change t) change k same (mild k)
        by false other = let same : of_job change t k ≡ k = ap (λ b. cond b (change k) k) other in mild_as (of_job change t) (λ f. f) k same (record { name = refl; slot = refl; superior = refl; units = refl; within = λ b. b })

-- ---- who no longer waits

wait_fits : (s : ForkStatus) → FitsForced s → FitsForced (without_wait s)
wait_fits Run h = h
wait_fits Halted h = h
wait_fits (Forced channel) h = h
wait_fits (Wait on.Fork) h = λ channel e. absurd (cc e)
wait_fits (Wait on.Input) h = h
wait_fits (Wait (on.Sleep m)) h = h

unwaited_mild : (k : Fork) → IsMild unwaited k
unwaited_mild k = record {
  name = refl;
  slot = refl;
  superior = refl;
  units = refl;
  within = λ b. record { status = wait_fits k.body.status b.status; pc = b.pc; accumulators = b.accumulators };
}

pub waiters_keep : (forks : ForkMap) → AreOwn forks → (t : Tty) → Keep forks (waiters_woken forks t)
unfolding waiters_woken
waiters_keep forks own t = job_keeps unwaited unwaited_mild t forks own

-- ---- how many there are

same_living : (o p : Option Fork) → option_map (λ (f : Fork). f.slot) p ≡ option_map (λ (f : Fork). f.slot) o → is_some p ≡ is_some o
same_living None None e = refl
same_living None (Some f) e = absurd (cc e)
same_living (Some f) None e = absurd (cc e)
same_living (Some f) (Some g) e = refl

pub still_living : (old new : ForkMap) → SamePlaces old new → (name : ForkName) → map.contains_key new name ≡ map.contains_key old name
still_living old new same name = same_living (map.get old name) (map.get new name) (same name)

module _ (old new : ForkMap) (a : AreSlotted old) (b : AreSlotted new) (same : SamePlaces old new) where
  moved : (t : Tty) (slot : ℕ) (f : Fork) → IsIn old t slot f → is_none (fork_in new t slot) ≡ false
  moved t slot f at = by (map.get new f.name) refl (same f.name ∙ ap (option_map (λ (x : Fork). x.slot)) at.0)
    where
      by : (o : Option Fork) → map.get new f.name ≡ o → option_map (λ (x : Fork). x.slot) o ≡ Some f.slot → is_none (fork_in new t slot) ≡ false
      by None is e = absurd (cc e)
      by (Some g) is e =
          let slots : g.slot ≡ f.slot = cc e in
          let name = b.own f.name g is in
          ap is_none (in_found new b t slot g (held_lives new b f.name g is, ap (λ (n : ForkName). n.tty.0) name ∙ at.1, slots ∙ at.2))

module _ (old new : ForkMap) (a : AreSlotted old) (b : AreSlotted new) (same : SamePlaces old new) (t : Tty) where
  in_slot : (slot : ℕ) → is_none (fork_in new t slot) ≡ is_none (fork_in old t slot)
  in_slot slot = by (fork_in old t slot) refl (fork_in new t slot) refl
    where
      by : (o : Option Fork) → fork_in old t slot ≡ o → (p : Option Fork) → fork_in new t slot ≡ p → is_none (fork_in new t slot) ≡ is_none o
      by (Some f) is p new_is = moved old new a b same t slot f (in_tells old a t slot f is)
      by None is None new_is = ap is_none new_is
      by None is (Some g) new_is =
          absurd (let no : true ≡ false = sym (ap is_none is) ∙ moved new old b a (λ name. sym (same name)) t slot g (in_tells new b t slot g new_is) in cc no)

  pub same_counted : length (forks_by_slot new t) ≡ length (forks_by_slot old t)
  same_counted = listed_same (fork_in old t) (fork_in new t) 1 MOST_FORKS (λ k low. in_slot k)

-- one is taken out
module _ (forks : ForkMap) (f : Fork) (a : AreSlotted forks) (b : AreSlotted (map.remove forks f.name)) (lives : Lives forks f) where
  abbrev fewer : ForkMap
  fewer = map.remove forks f.name

  was : (g : Fork) → Lives fewer g → (g.name ≢ f.name) × Lives forks g
  was g e = elim (cases_name g.name f.name) [
    | inl at ↦ absurd (let no : None ≡ Some g = sym (get_gone forks f.name g.name at) ∙ e in cc no)
    | inr ne ↦ (ne, sym (get_gone_other forks f.name g.name ne) ∙ e)
  ]

  -- whoever is elsewhere stays there
  elsewhere : (t : Tty) (slot : ℕ) → (IsIn forks t slot f → ⊥) → is_none (fork_in fewer t slot) ≡ is_none (fork_in forks t slot)
  elsewhere t slot apart = by (fork_in forks t slot) refl (fork_in fewer t slot) refl
    where
      by : (o : Option Fork) → fork_in forks t slot ≡ o → (p : Option Fork) → fork_in fewer t slot ≡ p → is_none (fork_in fewer t slot) ≡ is_none o
      by (Some g) is p new_is =
          let at = in_tells forks a t slot g is in
          elim (cases_name g.name f.name) [
            | inl same ↦ absurd (let both : Some g ≡ Some f = sym at.0 ∙ ap (map.get forks) same ∙ lives in let one : g ≡ f = cc both in apart (subst (IsIn forks t slot) one at))
            | inr ne ↦ ap is_none (in_found fewer b t slot g (get_gone_other forks f.name g.name ne ∙ at.0, at.1, at.2))
          ]
      by None is None new_is = ap is_none new_is
      by None is (Some g) new_is =
          let at = in_tells fewer b t slot g new_is in
          absurd (let no : None ≡ Some g = sym is ∙ in_found forks a t slot g ((was g at.0).1, at.1, at.2) in cc no)

  -- nobody is where it was
  left_free : is_none (fork_in fewer f.name.tty f.slot) ≡ true
  left_free = by (fork_in fewer f.name.tty f.slot) refl
    where
      by : (p : Option Fork) → fork_in fewer f.name.tty f.slot ≡ p → is_none p ≡ true
      by None is = refl
      by (Some g) is =
          let at = in_tells fewer b f.name.tty f.slot g is in
          let w = was g at.0 in
          absurd (w.0 (ap (λ (x : Fork). x.name) (a.once f.name.tty f.slot g f (w.1, at.1, at.2) (lives, refl, refl))))

  pub one_fewer : length (forks_by_slot fewer f.name.tty) + 1 ≡ length (forks_by_slot forks f.name.tty)
  one_fewer =
      listed_fewer (fork_in forks f.name.tty) (fork_in fewer f.name.tty) 1 MOST_FORKS f.slot (a.first f lives) (omega (arith, a.last f lives))
      (ap is_none (in_found forks a f.name.tty f.slot f (lives, refl, refl))) left_free (λ i ne. elsewhere f.name.tty i (λ at. ne (sym at.2)))

  pub others_same : (t : Tty) → t ≢ f.name.tty → length (forks_by_slot fewer t) ≡ length (forks_by_slot forks t)
  others_same t ne = listed_same (fork_in forks t) (fork_in fewer t) 1 MOST_FORKS (λ k low. elsewhere t k (λ at. ne (λ i. record { 0 = sym at.1 i })))

  pub fewer_come : ComeFrom forks fewer
  fewer_come = λ g e. came_itself forks g (was g e).1

  pub fewer_living : (name : ForkName) → name ≢ f.name → map.contains_key fewer name ≡ map.contains_key forks name
  fewer_living name ne = ap is_some (get_gone_other forks f.name name ne)
