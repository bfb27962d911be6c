-- What a fork that has stopped leaves.
use Rattle.std.proofs.Common.{◌≡◌, ◌≢◌, ℕ, Option, None, Some, inl, inr, refl, sym, ◌∙◌, ap, subst}
use Rattle.std.specs.Prelude.{is_some}
use Rattle.std.specs.Option.{option_map, option_map_or}
use Rattle.std.specs.Cmp.{nat_cmp_total}
use Rattle.std.specs.FinMap as map
use Rattle.std.specs.FinMap.{nat_cmp-IsAntisymmetric}
use Rattle.std.proofs.lemmas.Bool.{cond_both}
use Rattle.machine_names.proofs.Keys.{get_put, get_put_other}
use Rattle.machine_names.specs.declared.names.ForkName.{ForkName}
use Rattle.machine_names.specs.declared.names.Tty.{Tty}
use Rattle.script_texts.specs.declared.status.ForkStatus.TheVariants.{Forced}
use Rattle.plain_units.specs.declared.channel.TheConstants.{INFERIOR_ENDED}
use Rattle.plain_model.specs.declared.fork.Fork.{Fork}
use Rattle.plain_model.specs.declared.fork.TerminalMode.TheVariants.{Command}
use Rattle.plain_model.specs.Forks.{ForkMap, superior_of, with_status}
use Rattle.plain_model.specs.Interrupts.{is_panic, listens, posted}
use Rattle.plain_model.specs.State.{PlainJob, PlainState}
use Rattle.plain_model.specs.Trees.{changed, end_told, unwaited, waiters_woken}
use Rattle.plain_model.specs.Unit.{Effect, in_command_mode, stopped}
use Rattle.plain_model.proofs.ChangedForks.{get_changed, of_job, of_job_holds}
use Rattle.plain_model.proofs.ForkMaps.{AreOwn, cases_name, get_put as fork_put, get_put_other as fork_other, superior_tells}
use Rattle.plain_model.proofs.OtherJobs.{others_on, put_job, put_others, told_job, waiters_job}
use Rattle.plain_model.proofs.Shorthands.{with_stopped}
use Rattle.plain_laws.specs.JfnLaws.{Lives}
use Rattle.plain_refusals.specs.CallAnswers.{IsAsItWas, LeavesOthers}

as_it_was : (f : Fork) → IsAsItWas f f
as_it_was f = record { name = refl; slot = refl; superior = refl; frozen = refl; regs = refl; sleep = refl; units = refl; error = refl }

woken_is : (f : Fork) → IsAsItWas f (unwaited f)
woken_is f = record { name = refl; slot = refl; superior = refl; frozen = refl; regs = refl; sleep = refl; units = refl; error = refl }

posted_is : (f : Fork) (channel : ℕ) → IsAsItWas f (posted f channel)
posted_is f channel =
    cond_both (listens f.body.psi channel) _ _ (IsAsItWas f) (λ takes. record { name = refl; slot = refl; superior = refl; frozen = refl; regs = refl; sleep = refl; units = refl; error = refl })
    (λ misses. cond_both (is_panic channel) (with_status f (Forced channel)) f (IsAsItWas f)
    (λ panics. record { name = refl; slot = refl; superior = refl; frozen = refl; regs = refl; sleep = refl; units = refl; error = refl }) (λ drops. as_it_was f))

was_on : (f g h : Fork) → IsAsItWas f g → IsAsItWas g h → IsAsItWas f h
was_on f g h one two = record {
  name = two.name ∙ one.name;
  slot = two.slot ∙ one.slot;
  superior = two.superior ∙ one.superior;
  frozen = two.frozen ∙ one.frozen;
  regs = two.regs ∙ one.regs;
  sleep = two.sleep ∙ one.sleep;
  units = two.units ∙ one.units;
  error = two.error ∙ one.error;
}

-- a fork that lives, and is as it was
abbrev Stays : ForkMap → Fork → Type 0
Stays m g = (h : Fork) × (map.get m g.name ≡ Some h) × IsAsItWas g h

-- who waits for a fork of its job runs again
woken_there : (m : ForkMap) (t : Tty) (g : Fork) → map.get m g.name ≡ Some g → map.get (waiters_woken m t) g.name ≡ Some (of_job unwaited t g)
unfolding waiters_woken
woken_there m t g lives = get_changed (of_job unwaited t) m g.name ∙ ap (option_map (of_job unwaited t)) lives

-- an end is told
told_stays : (m : ForkMap) → AreOwn m → (f g : Fork) → map.get m g.name ≡ Some g → Stays (end_told m f) g
told_stays m own f g lives = by (superior_of woken f) refl
  where
    woken : ForkMap
    woken = waiters_woken m f.name.tty

    here : Fork
    here = of_job unwaited f.name.tty g

    woke : IsAsItWas g (of_job unwaited f.name.tty g)
    woke = of_job_holds IsAsItWas as_it_was unwaited woken_is f.name.tty g

    there : map.get (waiters_woken m f.name.tty) g.name ≡ Some (of_job unwaited f.name.tty g)
    there = woken_there m f.name.tty g lives

    by : (o : Option Fork) → superior_of (waiters_woken m f.name.tty) f ≡ o → Stays (changed (waiters_woken m f.name.tty) (λ k. posted k INFERIOR_ENDED) o) g
    by None is = (here, there, woke)
    by (Some k) is = elim (cases_name g.name k.name) [
      | inl e ↦ (
          let found = superior_tells woken (waiters_job m own f.name.tty).own f k is in
          let same : here ≡ k = (let both : Some here ≡ Some k = sym there ∙ ap (map.get woken) e ∙ found.0 in cc both) in
          (posted k INFERIOR_ENDED, fork_put woken k.name g.name (posted k INFERIOR_ENDED) e, was_on g k (posted k INFERIOR_ENDED) (subst (IsAsItWas g) same woke) (posted_is k INFERIOR_ENDED))
          )
      | inr ne ↦ (here, fork_other woken k.name g.name (posted k INFERIOR_ENDED) ne ∙ there, woke)
    ]

module _ (s : PlainState) (own : AreOwn s.forks) (f : Fork) where
  abbrev put : ForkMap
  put = map.insert s.forks f.name f

  others_stay : (name : ForkName) → name.tty.0 ≢ f.name.tty.0 → map.get (end_told put f) name ≡ map.get s.forks name
  others_stay = others_on f.name.tty s.forks put (end_told put f) (put_others f.name.tty s.forks f refl) (told_job put (put_job f.name.tty s.forks own f refl).own f).others

  own_stay : (g : Fork) → Lives s g → g.name ≢ f.name → Stays (end_told put f) g
  own_stay g lives other = told_stays put (put_job f.name.tty s.forks own f refl).own f g (fork_other s.forks f.name g.name f other ∙ lives)

  stays_below : LeavesOthers s (with_stopped s f) f.name
  stays_below = record {
    pages = refl;
    files = refl;
    serials = refl;
    clock = refl;
    trace = refl;
    jobs = λ u other. refl;
    job = λ j is. (j.mode, is);
    others = others_stay;
    own = own_stay;
  }

  stays_above : LeavesOthers s (in_command_mode (with_stopped s f) f.name.tty) f.name
  stays_above = by (map.get s.jobs f.name.tty.0) refl
    where
      by : (o : Option PlainJob) → map.get s.jobs f.name.tty.0 ≡ o
          → LeavesOthers s (option_map_or (λ j. record (with_stopped s f) { jobs = map.insert s.jobs f.name.tty.0 (record j { mode = Command }) }) o (with_stopped s f)) f.name
      by None none = stays_below
      by (Some j) is = record {
        pages = refl;
        files = refl;
        serials = refl;
        clock = refl;
        trace = refl;
        jobs = λ u other. get_put_other nat_cmp_total nat_cmp-IsAntisymmetric s.jobs f.name.tty.0 u (record j { mode = Command }) other;
        job = λ k at. (
          Command,
          get_put nat_cmp_total nat_cmp-IsAntisymmetric s.jobs f.name.tty.0 f.name.tty.0 (record j { mode = Command }) refl
              ∙ ap (λ (x : PlainJob). Some (record x { mode = Command })) (let both : Some j ≡ Some k = sym is ∙ at in let same : j ≡ k = cc both in same),
        );
        others = others_stay;
        own = own_stay;
      }

  -- A FORK THAT HAS STOPPED
  pub stopped_leaves : LeavesOthers s (stopped s f).state f.name
  stopped_leaves = cond_both (is_some f.superior) _ _ (λ (e : Effect). LeavesOthers s e.state f.name) (λ below. stays_below) (λ top. stays_above)
