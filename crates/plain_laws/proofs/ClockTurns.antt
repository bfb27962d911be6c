-- Calls on the clock: they make no page, and change the fork that calls alone.
use Rattle.std.proofs.Common.{◌≡◌, ℕ, ◌%◌, ◌^◌, Option, None, Some, Result, Ok, Err, refl, sym, ◌∙◌, ap, subst}
use Rattle.std.specs.Prelude.{◌==◌, nat_le}
use Rattle.std.specs.Option.{option_map}
use Rattle.std.specs.FinMap as map
use Rattle.std.proofs.lemmas.Bool.{cond_both}
use Rattle.machine_names.specs.Orders.{name_cmp}
use Rattle.machine_names.specs.declared.names.ForkName.{ForkName}
use Rattle.plain_pages.specs.PlainPages.{NamedPages}
use Rattle.plain_units.specs.Deeds.{in_ac}
use Rattle.plain_model.specs.declared.call.End.{End}
use Rattle.plain_model.specs.declared.call.SleepChange.{SleepChange}
use Rattle.plain_model.specs.declared.call.SleepChange.TheVariants.{Awakes, Nothing}
use Rattle.plain_model.specs.declared.call.TheConstants.{DISMS, RUNTM, TIME}
use Rattle.plain_model.specs.declared.fork.Fork.{Fork}
use Rattle.script_texts.specs.declared.status.WaitOn.TheVariants as on
use Rattle.plain_model.specs.declared.call.End.TheVariants.{Waits}
use Rattle.plain_model.specs.Calls.{Turn, ends, fork_behind, given, no_files, numbered, out_of, parts_behind, returning, turn_on, with_ac}
use Rattle.plain_model.specs.ClockCalls.{ClockAsked, clock_calls, disms, runtm, sleep_of, sleeping, time}
use Rattle.plain_model.specs.Families.{Parts, asks_clock}
use Rattle.plain_model.specs.ForkCalls.{own_named}
use Rattle.plain_model.specs.State.{PlainState}
use Rattle.plain_model.specs.Unit.{Effect, parts_of, turned}
use Rattle.plain_model.proofs.Calling.{caller_by, clock_called, clock_came, clock_left, clock_makes_none, clock_turned, sleeps_behind}
use Rattle.plain_model.proofs.Turns.{KeepsEnd}
use Rattle.plain_model.specs.EachFamily.{sleeps_changed}

-- a change of a fork's call: it changes that fork alone
abbrev pub SleepsOwn : ForkName → SleepChange → Type 0
SleepsOwn who Nothing = Unit {0}
SleepsOwn who (Awakes f) = f ≡ who

module _ (p : NamedPages) (a : ClockAsked) where
  abbrev Fits : Turn ⊥ SleepChange → Type 0
  Fits t = KeepsEnd (SleepsOwn a.call.who) (turn_on no_files p t).end

  told_fits : (r : Result Fork ℕ) → Fits (given r (λ f. ends (returning Nothing (with_ac a.call.regs 1 (f.body.units % 2 ^ 36)))))
  unfolding turn_on
  told_fits (Ok f) = tt
  told_fits (Err code) = tt

  slept_fits : (o : Option ℕ) → KeepsEnd (SleepsOwn a.call.who) (sleeping a o)
  slept_fits None = tt
  slept_fits (Some moment) = cond_both (nat_le moment a.clock) (returning (Awakes a.call.who) a.call.regs) (Waits (on.Sleep moment)) (KeepsEnd (SleepsOwn a.call.who)) (λ over. refl) (λ goes. tt)

  pub clock_names : (number : ℕ) → Fits (numbered clock_calls number a)
  unfolding turn_on
  clock_names number =
      cond_both (TIME == number) (time a) _ Fits (λ is. tt) (λ n1.
      cond_both (RUNTM == number) (runtm a) _ Fits (λ is. told_fits (own_named a.call)) (λ n2.
      cond_both (DISMS == number) (disms a) _ Fits
      (λ is. cond_both (in_ac a.call.regs 1 == 0) (ends (returning Nothing a.call.regs)) (ends (sleeping a (sleep_of a.call))) Fits (λ none. tt) (λ some. slept_fits (sleep_of a.call))) (λ n3. tt)))

-- a turn of one leaves other forks, and the fork that called
module _ (Holds : Effect → Type 0) (s : PlainState) (f : Fork) (number : ℕ) where
  abbrev end_of : End SleepChange
  end_of = (clock_came s f number).end

  abbrev left : Parts name_cmp
  left = record (parts_of s) { tree = clock_left s f number }

  pub clock_by : ((g : Fork) → map.get (clock_called s f number).forks f.name ≡ Some g → Holds (turned s f.name.tty (record { parts = left; caller = Some (fork_behind g end_of); out = out_of end_of })))
      → Holds (turned s f.name.tty (record { parts = left; caller = None; out = out_of end_of })) → Holds (clock_turned s f number)
  clock_by some none = subst Left (sym same) (caller_by Holds s f.name.tty left f.name (λ g. fork_behind g end_of) (out_of end_of) some none)
    where
      Left : Parts name_cmp → Type 0
      Left v = Holds (turned s f.name.tty (record { parts = v; caller = option_map (λ g. fork_behind g (clock_came s f number).end) (map.get v.tree.forks f.name); out = out_of (clock_came s f number).end }))

      same : parts_behind sleeps_changed (parts_of s) (record (parts_of s) { pages = (clock_came s f number).pages }) (clock_came s f number).end ≡ record (parts_of s) { tree = clock_left s f number }
      same =
          ap (λ (q : NamedPages). parts_behind sleeps_changed (parts_of s) (record (parts_of s) { pages = q }) (clock_came s f number).end) (clock_makes_none s.pages number (asks_clock (parts_of s) f.name f.body.regs))
          ∙ sleeps_behind (parts_of s) (clock_came s f number).end
