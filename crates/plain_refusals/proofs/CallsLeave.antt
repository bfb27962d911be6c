-- What the unit of a call leaves that is refused, waits or traps.
use Rattle.std.proofs.Common.{◌≡◌, ℕ, Bool, true, false, cond, not, List, [], ◌∷◌, Option, None, Some, refl, ◌∙◌, ap, subst}
use Rattle.std.specs.Prelude.{◌&&◌}
use Rattle.std.specs.Option.{option_map}
use Rattle.std.specs.FinMap as map
use Rattle.machine_names.specs.Orders.{name_cmp}
use Rattle.plain_pages.specs.PlainPages.{NamedPages}
use Rattle.script_texts.specs.declared.status.ForkStatus.{ForkStatus}
use Rattle.script_texts.specs.declared.status.ForkStatus.TheVariants.{Run, Forced}
use Rattle.script_texts.specs.declared.status.WaitOn.{WaitOn}
use Rattle.script_texts.specs.declared.status.WaitOn.TheVariants as on
use Rattle.plain_units.specs.declared.channel.TheConstants.{ILLEGAL_INSTRUCTION}
use Rattle.plain_model.specs.declared.call.End.{End}
use Rattle.plain_model.specs.declared.call.End.TheVariants.{Done, Waits, Halts, Refused, Failed, Trap}
use Rattle.plain_model.specs.declared.fork.Fork.{Fork}
use Rattle.plain_model.specs.Calls.{Came, fork_behind, parts_behind, with_error, with_wait}
use Rattle.plain_model.specs.EachFamily.{Family, Offer, bytes, came_of, families, filing, first_turned, forking, interrupting, mapping, opening, printing, strings, timing}
use Rattle.plain_model.specs.Families.{Turned, behind}
use Rattle.plain_model.specs.Forks.{counted, with_fork, with_status}
use Rattle.plain_model.specs.Inspections.{inspected, is_interrupted}
use Rattle.plain_model.specs.Interrupts.{is_panic, listens, pended, posted, woken}
use Rattle.plain_model.specs.State.{PlainState}
use Rattle.plain_model.specs.Unit.{Effect, decided, instruction_unit, interrupted_unit, over, parts_of, stopped, turned, unit, unit_ended}
use Rattle.plain_model.proofs.Equations.{unit_some}
use Rattle.plain_laws.specs.JfnLaws.{Lives, turn_of}
use Rattle.plain_refusals.specs.CallAnswers.{Answer, Answers, LeavesAllBut, MakesCall, all_answers, answer_by, answer_of, fails, first_answer, goes, halts, refuses, trapped, traps, waits, with_failure}

-- a fork that is put behind its unit, where it runs or waits
abbrev only : PlainState → Fork → Effect
only s g = record { state = with_fork s (counted g); items = [] }

-- a channel that is posted to a fork that runs
posted_runs : (s : PlainState) (f : Fork) (channel : ℕ) → f.body.status ≡ Run → unit_ended s (posted f channel) (posted f channel).body.status ≡ trapped s f channel
posted_runs s f channel runs = by (listens f.body.psi channel) (is_panic channel)
  where
    by : (l p : Bool) → unit_ended s (cond l (pended f channel) (cond p (with_status f (Forced channel)) f)) (cond l (pended f channel) (cond p (with_status f (Forced channel)) f)).body.status
        ≡ cond (not l && p) (stopped s (counted (cond l (pended f channel) (cond p (with_status f (Forced channel)) f)))) (only s (cond l (pended f channel) (cond p (with_status f (Forced channel)) f)))
    by true p = ap (λ (x : ForkStatus). unit_ended s (pended f channel) (woken x)) runs
    by false true = refl
    by false false = ap (unit_ended s f) runs

module _ (s : PlainState) (f : Fork) (number : ℕ) where
  -- a turn leaves the parts, and puts a fork
  abbrev puts : Fork → Turned name_cmp
  puts g = record { parts = parts_of s; caller = Some g; out = None }

  -- what is behind a turn that is answered so
  abbrev Agrees : Answer → Turned name_cmp → Type 0
  Agrees goes r = Unit {0}
  Agrees (fails code) r = r ≡ puts (with_failure f code)
  Agrees (refuses code) r = r ≡ puts (posted (with_error f code) ILLEGAL_INSTRUCTION)
  Agrees (traps channel) r = r ≡ puts (posted f channel)
  Agrees (waits what) r = r ≡ puts (with_wait f what)
  Agrees halts r = Unit {0}

  module _ (lives : Lives s f) where
    caller_is : (change : Fork → Fork) → record { parts = parts_of s; caller = option_map change (map.get s.forks f.name); out = None } ≡ puts (change f)
    caller_is change = ap (λ (o : Option Fork). record { parts = parts_of s; caller = option_map change o; out = None }) lives

    -- of any family
    family_agrees : {F A C : Type 0} (family : Family name_cmp F A C) (c : Came name_cmp C) → Agrees (answer_by c.end) (behind family.changed (parts_of s) f.name c)
    unfolding parts_behind fork_behind
    family_agrees {C = C} family c = by c.end c.pages
      where
        by : (e : End C) (q : NamedPages) → Agrees (answer_by e) (behind family.changed (parts_of s) f.name (record { end = e; pages = q }))
        by (Done change regs out post) q = tt
        by (Waits what) q = caller_is (λ g. with_wait g what)
        by Halts q = tt
        by (Refused code) q = caller_is (λ g. posted (with_error g code) ILLEGAL_INSTRUCTION)
        by (Failed code) q = caller_is (λ g. with_failure g code)
        by (Trap channel) q = caller_is (λ g. posted g channel)

    -- each of some families has its numbers in both, and agrees
    abbrev AllAgree : List Answers → List (Offer name_cmp) → Type 0
    AllAgree [] [] = Unit {0}
    AllAgree (o ∷ os) (p ∷ ps) = (o.has number ≡ p.has number) × Agrees (o.answer s f number) (p.turned (parts_of s) f.name f.body.regs number) × AllAgree os ps
    AllAgree os ps = ⊥

    first_agrees : (os : List Answers) (ps : List (Offer name_cmp)) → AllAgree os ps → Agrees (first_answer os s f number) (first_turned ps (parts_of s) f.name f.body.regs number)
    first_agrees [] [] all = caller_is (λ g. posted g ILLEGAL_INSTRUCTION)
    first_agrees [] (p ∷ ps) all = absurd all
    first_agrees (o ∷ os) [] all = absurd all
    first_agrees (o ∷ os) (p ∷ ps) all =
        subst (λ b. Agrees (first_answer (o ∷ os) s f number) (cond b (p.turned (parts_of s) f.name f.body.regs number) (first_turned ps (parts_of s) f.name f.body.regs number))) all.0
        (by (o.has number) (first_agrees os ps all.2))
      where
        by : (b : Bool) → Agrees (first_answer os s f number) (first_turned ps (parts_of s) f.name f.body.regs number)
            → Agrees (cond b (o.answer s f number) (first_answer os s f number)) (cond b (p.turned (parts_of s) f.name f.body.regs number) (first_turned ps (parts_of s) f.name f.body.regs number))
        by true rest = all.1
        by false rest = rest

    of_family : {F A C : Type 0} (family : Family name_cmp F A C) → Agrees (answer_by (came_of family (parts_of s) f.name f.body.regs number).end) (behind family.changed (parts_of s) f.name (came_of family (parts_of s) f.name f.body.regs number))
    of_family family = family_agrees family (came_of family (parts_of s) f.name f.body.regs number)

    -- ONE FOR ALL FAMILIES
    agrees : Agrees (answer_of s f number) (turn_of s f number)
    agrees = first_agrees all_answers (families (λ name. name)) (
      refl,
      of_family printing,
      (
        refl,
        of_family forking,
        (
          refl,
          of_family interrupting,
          (
            refl,
            of_family timing,
            (
              refl,
              of_family (mapping (λ name. name)),
              (
                refl,
                of_family filing,
                (refl, of_family (opening (λ name. name)), (refl, of_family (bytes (λ name. name)), (refl, of_family (strings (λ name. name)), tt))),
              ),
            ),
          ),
        ),
      ),
    )

module _ (s : PlainState) (f : Fork) (number : ℕ) (c : MakesCall s f number) where
  -- the unit is the turn of the call
  unit_is : unit s f.name ≡ turned s f.name.tty (turn_of s f number)
  unit_is = unit_some s f.name f c.lives ∙ by (is_interrupted f.body.psi) refl ∙ ap (over s f) c.calls
    where
      by : (b : Bool) → is_interrupted f.body.psi ≡ b → cond b (interrupted_unit s f) (instruction_unit s f) ≡ instruction_unit s f
      by true on = ap (decided s f (inspected f s.pages).pages) (c.at_ease on)
      by false off = refl

  abbrev Answered : Answer → Type 0
  Answered a = Agrees s f number a (turn_of s f number)

  answered : (a : Answer) → answer_of s f number ≡ a → Answered a
  answered a is = subst Answered is (agrees s f number c.lives)

  -- the fork that is put ends its unit
  ended : (g : Fork) → turn_of s f number ≡ puts s f number g → unit s f.name ≡ unit_ended s g g.body.status
  ended g is = unit_is ∙ ap (turned s f.name.tty) is

  pub failed_leaves : (code : ℕ) → answer_of s f number ≡ fails code → LeavesAllBut s f (with_failure f code)
  failed_leaves code is = ended (with_failure f code) (answered (fails code) is) ∙ ap (unit_ended s (with_failure f code)) c.runs

  pub refused_leaves : (code : ℕ) → answer_of s f number ≡ refuses code → unit s f.name ≡ trapped s (with_error f code) ILLEGAL_INSTRUCTION
  refused_leaves code is = ended (posted (with_error f code) ILLEGAL_INSTRUCTION) (answered (refuses code) is) ∙ posted_runs s (with_error f code) ILLEGAL_INSTRUCTION c.runs

  pub trapped_leaves : (channel : ℕ) → answer_of s f number ≡ traps channel → unit s f.name ≡ trapped s f channel
  trapped_leaves channel is = ended (posted f channel) (answered (traps channel) is) ∙ posted_runs s f channel c.runs

  pub waiting_leaves : (what : WaitOn) → answer_of s f number ≡ waits what → LeavesAllBut s f (with_wait f what)
  waiting_leaves what is = ended (with_wait f what) (answered (waits what) is) ∙ by what
    where
      by : (w : WaitOn) → unit_ended s (with_wait f w) (with_wait f w).body.status ≡ only s (with_wait f w)
      by on.Input = refl
      by on.Fork = refl
      by (on.Sleep moment) = refl
