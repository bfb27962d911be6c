-- What a fork call leaves: the forks and the maps of other jobs.
use Rattle.std.proofs.Common.{◌≡◌, ◌||◌, ℕ, zero, suc, Bool, true, false, cond, not, Option, None, Some, refl, sym, ◌∙◌, ap, subst}
use Rattle.std.specs.Option.{option_map_or}
use Rattle.std.specs.FinMap as map
use Rattle.machine_names.specs.declared.names.Tty.{Tty}
use Rattle.machine_names.specs.declared.names.ForkName.{ForkName}
use Rattle.plain_units.specs.Steps.{begun}
use Rattle.plain_model.specs.Calls.{parts_behind, no_files, turn_on, Came, Asked}
use Rattle.plain_model.specs.ForkCalls.{ForkParts, killed, map_wanted, without_all, without_inferiors, with_halted, fork_changed, fork_call}
use Rattle.plain_model.specs.declared.call.End.{End}
use Rattle.plain_model.specs.declared.call.End.TheVariants.{Done, Waits, Halts, Refused, Failed, Trap}
use Rattle.plain_model.specs.declared.call.ForkChange.{ForkChange}
use Rattle.plain_model.specs.declared.call.ForkChange.TheVariants.{Nothing, Make, Kill, Freeze, Become, Halt, Store}
use Rattle.machine_names.specs.declared.names.TheConstants.{MOST_FORKS}
use Rattle.plain_model.specs.declared.fork.Fork.{Fork}
use Rattle.plain_units.specs.declared.registers.Regs.{Regs}
use Rattle.script_texts.specs.declared.status.ForkStatus.TheVariants.{Halted}
use Rattle.plain_model.specs.State.{PlainState}
use Rattle.plain_pages.specs.PlainPages.{NamedPages}
use Rattle.machine_names.specs.Orders.{fork_cmp, name_cmp, same_fork}
use Rattle.plain_pages.specs.NewMaps.{new_map}
use Rattle.plain_model.specs.Forks.{ForkMap, superior_of, with_status}
use Rattle.plain_model.specs.Inferiors.{is_in_branch, is_within, is_inferior}
use Rattle.plain_model.specs.Trees.{tree_of, next_name, changed, with_mark, with_body, waiters_woken, end_told}
use Rattle.plain_laws.specs.Whole.{IsWholeMachine}
use Rattle.plain_model.proofs.ForkEnds.{FitsChange, FitsEnd, Leads, call_ends, mapped}
use Rattle.plain_laws.proofs.Killed.{left_was}
use Rattle.plain_model.proofs.MapsGone.{get_left, gone_leaves}
use Rattle.plain_model.proofs.OtherJobs.{JobChanged, KeepsName, changed_job, put_job, told_job, waiters_job}
use Rattle.plain_model.proofs.ForkMaps.{AreOwn, get_put_other, names_same, superior_tells}
use Rattle.plain_laws.proofs.OtherMaps.{not_it, Elsewhere, run_other, words_other}
use Rattle.plain_model.specs.Families.{Parts}
use Rattle.plain_model.specs.Unit.{parts_of}
use Rattle.plain_model.proofs.Calling.{fork_came, fork_left, fork_called, forks_behind, jobs_behind}
use Rattle.std.specs.Cmp.Lexicographic.{nat_list_cmp_total}

-- whether a fork stands below another, they are of one job
module _ (forks : ForkMap) (own : AreOwn forks) (who : ForkName) where
  within_job : (n : ℕ) (t : ℕ) (o : Option Fork) → ((g : Fork) → o ≡ Some g → g.name.tty.0 ≡ t) → is_within n forks who o ≡ true → who.tty.0 ≡ t
  within_job zero t o of h = absurd (cc h)
  within_job (suc n) t None of h = absurd (cc h)
  within_job (suc n) t (Some g) of h = by (λ o of h. within_job n t o of h) (same_fork g.name who) refl h
    where
      by : ((o : Option Fork) → ((k : Fork) → o ≡ Some k → k.name.tty.0 ≡ t) → is_within n forks who o ≡ true → who.tty.0 ≡ t) → (b : Bool) → same_fork g.name who ≡ b → (b || is_within n forks who (superior_of forks g)) ≡ true → who.tty.0 ≡ t
      by rest true same e = ap (λ (x : ForkName). x.tty.0) (sym (names_same g.name who same)) ∙ of g refl
      by rest false apart e = rest (superior_of forks g) (λ k is. let at = superior_tells forks own g k is in at.1 ∙ of g refl) e

  pub inferior_job : (name : ForkName) → is_inferior forks who name ≡ true → name.tty.0 ≡ who.tty.0
  unfolding is_inferior
  inferior_job name is = by (map.get forks name) refl is
    where
      by : (o : Option Fork) → map.get forks name ≡ o → option_map_or (λ f. is_within MOST_FORKS forks who (superior_of forks f)) o false ≡ true → name.tty.0 ≡ who.tty.0
      by None none h = absurd (cc h)
      by (Some f) some h = sym (within_job MOST_FORKS name.tty.0 (superior_of forks f) (λ g is. let at = superior_tells forks own f g is in at.1 ∙ ap (λ (x : ForkName). x.tty.0) (own name f some)) h)

-- the forks of a job change, and this one stays as it was
module _ (t : Tty) (k : ForkName) (other : k.tty.0 ≡ t.0 → ⊥) (there : Option Fork) where
  pub record Stays (m : ForkMap) : Type 0 where
    pub own : AreOwn m
    pub stays : map.get m k ≡ there

  stays_on : (m n : ForkMap) (u : Tty) → u.0 ≡ t.0 → JobChanged u m n → Stays m → Stays n
  stays_on m n u here change w = record { own = change.own; stays = change.others k (λ e. other (e ∙ here)) ∙ w.stays }

  pub put_stays : (m : ForkMap) → Stays m → (f : Fork) → f.name.tty.0 ≡ t.0 → Stays (map.insert m f.name f)
  put_stays m w f here = stays_on m (map.insert m f.name f) t refl (put_job t m w.own f here) w

  changed_stays : (m : ForkMap) → Stays m → (change : Fork → Fork) → KeepsName change → (o : Option Fork) → ((j : Fork) → o ≡ Some j → j.name.tty.0 ≡ t.0) → Stays (changed m change o)
  changed_stays m w change same o here = stays_on m (changed m change o) t refl (changed_job t m w.own change same o here) w

  waiters_stay : (m : ForkMap) → Stays m → (u : Tty) → u.0 ≡ t.0 → Stays (waiters_woken m u)
  waiters_stay m w u here = stays_on m (waiters_woken m u) u here (waiters_job m w.own u) w

  pub told_stays : (m : ForkMap) → Stays m → (f : Fork) → f.name.tty.0 ≡ t.0 → Stays (end_told m f)
  told_stays m w f here = stays_on m (end_told m f) f.name.tty here (told_job m w.own f) w

  -- the forks and the maps of other jobs
  pub record PartsStay (p : NamedPages) (v : ForkParts name_cmp) : Type 0 where
    pub forks : Stays v.tree.forks
    pub maps : Elsewhere t k other p v.pages

  -- forks of a job go with their maps
  all_stay : (goes : ForkName → Bool) → goes k ≡ false → (p : NamedPages) (v : ForkParts name_cmp) → PartsStay p v → PartsStay p (without_all v goes)
  all_stay goes stay p v w = record {
    forks = record { own = λ name f is. w.forks.own name f (left_was v.tree.forks goes name f is); stays = left v.tree.forks ∙ w.forks.stays };
    maps = ap (λ (q : NamedPages). map.get q.maps k) (gone_leaves v.pages goes) ∙ left v.pages.maps ∙ w.maps;
  }
    where
      left : {X : Type 0} (m : map.FinMap fork_cmp X) → map.get (map.retain_keys m (λ f. not (goes f))) k ≡ map.get m k
      left m = get_left m goes k ∙ ap (λ b. cond (not b) (map.get m k) None) stay

  module _ (f : ForkName) (here : f.tty.0 ≡ t.0) (p : NamedPages) (v : ForkParts name_cmp) (w : PartsStay p v) where
    no_inferior : is_inferior v.tree.forks f k ≡ false
    no_inferior = by (is_inferior v.tree.forks f k) refl
      where
        by : (b : Bool) → is_inferior v.tree.forks f k ≡ b → b ≡ false
        by true below = absurd (other (inferior_job v.tree.forks w.forks.own f k below ∙ here))
        by false above = refl

    another : same_fork k f ≡ false
    another = by (same_fork k f) refl
      where
        by : (b : Bool) → same_fork k f ≡ b → b ≡ false
        by true same = absurd (other (ap (λ (n : ForkName). n.tty.0) (names_same k f same) ∙ here))
        by false apart = refl

    pub below_stays : PartsStay p (without_inferiors v f)
    unfolding without_inferiors
    below_stays = all_stay (is_inferior v.tree.forks f) no_inferior p v w

    pub killed_stays : PartsStay p (killed v f)
    unfolding killed
    killed_stays = all_stay (is_in_branch v.tree.forks f) (ap (λ b. b || is_inferior v.tree.forks f k) another ∙ no_inferior) p v w

module _ (s : PlainState) (w : IsWholeMachine s) (who : ForkName) (regs : Regs) (k : ForkName) (other : k.tty.0 ≡ who.tty.0 → ⊥) where
  abbrev caller : Asked
  caller = record { who = who; regs = regs; tree = tree_of s }

  abbrev Same : ForkParts name_cmp → Type 0
  Same v = PartsStay who.tty k other (map.get s.forks k) s.pages v

  as_it_was : Stays who.tty k other (map.get s.forks k) s.forks
  as_it_was = record { own = w.tree.slotted.own; stays = refl }

  in_job : (f : ForkName) → is_inferior s.forks who f ≡ true → f.tty.0 ≡ who.tty.0
  in_job f below = inferior_job s.forks w.tree.slotted.own who f below

  held_job : (f : ForkName) → f.tty.0 ≡ who.tty.0 → (j : Fork) → map.get s.forks f ≡ Some j → j.name.tty.0 ≡ who.tty.0
  held_job f here j is = ap (λ (x : ForkName). x.tty.0) (w.tree.slotted.own f j is) ∙ here

  module _ (q : NamedPages) where
    abbrev parts : ForkParts name_cmp
    parts = record { tree = tree_of s; pages = q }

    change_same : (change : ForkChange) → FitsChange caller s.pages (Elsewhere who.tty k other) q change → Same (fork_changed change parts)
    unfolding fork_changed
    change_same Nothing fits = record { forks = as_it_was; maps = fits }
    change_same (Make f) made = record {
      forks = put_stays who.tty k other (map.get s.forks k) s.forks as_it_was f (ap (λ (x : ForkName). x.tty.0) made.name);
      maps = made.pages ∙ get_put_other s.pages.maps (next_name (tree_of s) who.tty) k (new_map (map_wanted caller)) (not_it who.tty k other (next_name (tree_of s) who.tty) refl);
    }
    change_same (Kill f) fits =
        let here = in_job f fits.0 in
        let left = killed_stays who.tty k other (map.get s.forks k) f here s.pages parts (record { forks = as_it_was; maps = fits.1 }) in
        record { forks = waiters_stay who.tty k other (map.get s.forks k) (killed parts f).tree.forks left.forks f.tty here; maps = left.maps }
    change_same (Freeze f on) fits = record { forks = changed_stays who.tty k other (map.get s.forks k) s.forks as_it_was (with_mark on) (λ j. refl) (map.get s.forks f) (held_job f (in_job f fits.0)); maps = fits.1 }
    change_same (Become f body) fits = record { forks = changed_stays who.tty k other (map.get s.forks k) s.forks as_it_was (with_body body) (λ j. refl) (map.get s.forks f) (held_job f (in_job f fits.0)); maps = fits.1 }
    change_same (Halt f) fits = by (map.get s.forks f) (held_job f (in_job f fits.0))
      where
        by : (o : Option Fork) → ((j : Fork) → o ≡ Some j → j.name.tty.0 ≡ who.tty.0) → Same (option_map_or (with_halted (record { tree = tree_of s; pages = q })) o (record { tree = tree_of s; pages = q }))
        by None here = record { forks = as_it_was; maps = fits.1 }
        by (Some j) here =
            let g = with_status j Halted in
            record { forks = told_stays who.tty k other (map.get s.forks k) (map.insert s.forks j.name g) (put_stays who.tty k other (map.get s.forks k) s.forks as_it_was g (here j refl)) g (here j refl); maps = fits.1 }
    change_same (Store f at words) fits = record { forks = as_it_was; maps = words_other who.tty k other nat_list_cmp_total f (ap (λ (x : ForkName). x.tty.0) fits.0) q at words ∙ fits.1 }

  abbrev came : ℕ → Came name_cmp ForkChange
  came number = turn_on no_files s.pages (fork_call number caller)

  call_same : (number : ℕ) → Same (parts_behind fork_changed (record { tree = tree_of s; pages = s.pages }) (record { tree = tree_of s; pages = (came number).pages }) (came number).end)
  unfolding parts_behind
  call_same number = by (came number).end (call_ends caller s.pages (Elsewhere who.tty k other) (leading s.pages) (λ room. leading (mapped caller s.pages)) number)
    where
      leading : (q : NamedPages) → Leads caller s.pages (Elsewhere who.tty k other) q
      leading q = record { itself = refl; runs = λ steps. run_other who.tty k other nat_list_cmp_total who refl q steps (begun q regs.ac) refl }

      by : (e : End ForkChange) → FitsEnd caller s.pages (Elsewhere who.tty k other) (came number).pages e
          → Same (parts_behind fork_changed (record { tree = tree_of s; pages = s.pages }) (record { tree = tree_of s; pages = (came number).pages }) e)
      by (Done change r out post) fits = change_same (came number).pages change fits
      by (Waits on) fits = record { forks = as_it_was; maps = refl }
      by Halts fits = record { forks = as_it_was; maps = refl }
      by (Refused code) fits = record { forks = as_it_was; maps = refl }
      by (Failed code) fits = record { forks = as_it_was; maps = refl }
      by (Trap channel) fits = record { forks = as_it_was; maps = refl }

-- a fork call leaves the forks and the maps of other jobs
module _ (s : PlainState) (w : IsWholeMachine s) (caller : Fork) (number : ℕ) (k : ForkName) (other : k.tty.0 ≡ caller.name.tty.0 → ⊥) where
  abbrev left : ForkParts name_cmp
  left = let c = came s w caller.name caller.body.regs k other number in parts_behind fork_changed (record { tree = tree_of s; pages = s.pages }) (record { tree = tree_of s; pages = c.pages }) c.end

  -- the forks, the pages and the codes of the parts
  left_so : fork_left s caller number ≡ record (parts_of s) { tree = left.tree; pages = left.pages; jobs = jobs_behind (fork_came s caller number).end left.tree.forks s.jobs }
  left_so = forks_behind (parts_of s) (fork_came s caller number).pages (fork_came s caller number).end

  same : PartsStay caller.name.tty k other (map.get s.forks k) s.pages left
  same = call_same s w caller.name caller.body.regs k other number

  pub call_stays : Stays caller.name.tty k other (map.get s.forks k) (fork_called s caller number).forks
  call_stays = subst (λ (v : Parts name_cmp). Stays caller.name.tty k other (map.get s.forks k) v.tree.forks) (sym left_so) same.forks

  pub maps_same : map.get (fork_called s caller number).pages.maps k ≡ map.get s.pages.maps k
  maps_same = subst (λ (v : Parts name_cmp). map.get v.pages.maps k ≡ map.get s.pages.maps k) (sym left_so) same.maps
