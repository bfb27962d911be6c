-- How far units, calls and what is told of them reach among the forks.
use Rattle.std.proofs.Common.{◌≡◌, ℕ, ◌==◌, Bool, true, false, cond, Option, None, Some, inl, inr, refl, sym, ◌∙◌, ap, subst}
use Rattle.std.proofs.lemmas.Bool.Decides.{eqb_tells}
use Rattle.std.specs.Option.{option_map_or}
use Rattle.std.specs.FinMap as map
use Rattle.machine_names.specs.declared.names.ForkName.{ForkName}
use Rattle.machine_names.specs.declared.names.Tty.{Tty}
use Rattle.plain_model.specs.declared.call.TheConstants.{CFORK}
use Rattle.plain_model.specs.declared.fork.Body.{Body}
use Rattle.plain_model.specs.declared.fork.Fork.{Fork}
use Rattle.plain_model.specs.Forks.{ForkMap, OthersStay, fork_in}
use Rattle.plain_model.specs.Trees.{PlainTree, changed, with_body}
use Rattle.plain_model.proofs.ForkMaps.{AreOwn, get_put, put_again, put_itself}
use Rattle.plain_model.proofs.OtherJobs.{named_others, others_alike, others_on, told_job}
use Rattle.call_turns.specs.declared.family.CallFamily.{CallFamily}
use Rattle.call_turns.specs.declared.family.CallFamily.TheVariants.{Printing, Forks, Interrupts, Clock, Maps, Errors, Jfns, Bytes, Strings}
use Rattle.call_turns.specs.Families.{family_of}
use Rattle.fork_tree.specs.Changes.{with_body_at, with_body_of}
use Rattle.fork_tree.specs.Making.{AddsBeside, AddsLast}
use Rattle.monitor_calls.proofs.MadeBeside.{beside_last, beside_none, beside_others, body_then, then_body}
use Rattle.step_shown.specs.Reaching.{Reaches, ReachesOwn}
use Rattle.monitor_calls.specs.Reaching.{family_reach, reach_of}
use Rattle.step_shown.specs.Runners.{told_at, told_where}
use Rattle.step_shown.specs.declared.reach.Reach.{Reach}
use Rattle.step_shown.specs.declared.reach.Reach.TheVariants.{Own, Made, Job}

-- nothing is changed
pub others_same : (t : Tty) (old new : ForkMap) → new ≡ old → OthersStay t old new
others_same t old new same = λ name other. ap (λ (m : ForkMap). map.get m name) same

-- whatever a fork has reached, the forks of other jobs are as they were
pub reaches_others : (r : Reach) (who : ForkName) (old new : PlainTree) → AreOwn old.forks → Reaches r who old new → OthersStay who.tty old.forks new.forks
reaches_others Own who old new own reaches =
    others_on who.tty old.forks (with_body_of old who reaches.body).forks new.forks (named_others old own who (with_body reaches.body))
    (others_same who.tty (with_body_of old who reaches.body).forks new.forks (ap (λ (x : PlainTree). x.forks) reaches.left))
reaches_others Made who old new own reaches = beside_others who old new reaches
reaches_others Job who old new own reaches = reaches

module _ (tree : PlainTree) (who : ForkName) (f : Fork) (there : map.get tree.forks who ≡ Some f) (named : f.name ≡ who) where
  -- its own body is the one that it has
  body_itself : with_body_of tree who f.body ≡ tree
  body_itself =
      ap (λ o. record tree { forks = changed tree.forks (with_body f.body) o }) there
      ∙ ap (λ m. record tree { forks = m }) (put_itself tree.forks f.name f (ap (map.get tree.forks) named ∙ there))

  -- nothing was changed
  pub same_reaches : (r : Reach) (new : PlainTree) → new ≡ tree → Reaches r who tree new
  same_reaches Own new same = record { body = f.body; left = same ∙ sym body_itself }
  same_reaches Made new same = beside_none who tree new same
  same_reaches Job new same = others_same who.tty tree.forks new.forks (ap (λ (x : PlainTree). x.forks) same)

  -- a fork has another body, and then another
  body_twice : (first second : Body) → with_body_of (with_body_of tree who first) who second ≡ with_body_of tree who second
  body_twice first second =
      let g = with_body first f in
      let put = map.insert tree.forks f.name g in
      let left : with_body_of tree who first ≡ record tree { forks = put } = ap (λ o. record tree { forks = changed tree.forks (with_body first) o }) there in
      ap (λ (x : PlainTree). with_body_of x who second) left
      ∙ ap (λ o. record tree { forks = changed put (with_body second) o }) (get_put tree.forks f.name who g (sym named))
      ∙ ap (λ m. record tree { forks = m }) (put_again tree.forks f.name g (with_body second f))
      ∙ sym (ap (λ o. record tree { forks = changed tree.forks (with_body second) o }) there)

  -- units of it, and then a call of it
  pub own_then : (r : Reach) (mid new : PlainTree) → AreOwn tree.forks → ReachesOwn who tree mid → Reaches r who mid new → Reaches r who tree new
  own_then Own mid new own first then = record { body = then.body; left = then.left ∙ ap (λ (x : PlainTree). with_body_of x who then.body) first.left ∙ body_twice first.body then.body }
  own_then Made mid new own first then = body_then tree own who first.body new (subst (λ (x : PlainTree). AddsBeside who x new) first.left then)
  own_then Job mid new own first then = others_on who.tty tree.forks mid.forks new.forks (reaches_others Own who tree mid own first) then

-- the body of the fork in a slot is that of the fork of a name
pub slot_reaches : (tree : PlainTree) (who : ForkName) (slot : ℕ) (f : Fork) (body : Body) → fork_in tree.forks who.tty slot ≡ Some f → map.get tree.forks who ≡ Some f → ReachesOwn who tree (with_body_at tree who.tty slot body)
slot_reaches tree who slot f body at there = record { body = body; left = ap (λ o. record tree { forks = changed tree.forks (with_body body) o }) (at ∙ sym there) }

-- a call of a fork, and then its answer in its body
pub called_reaches : (r : Reach) (who : ForkName) (old turned new : PlainTree) → (r ≡ Own → turned ≡ old) → (r ≡ Made → AddsLast who.tty old turned) → OthersStay who.tty old.forks turned.forks → AreOwn turned.forks → (body : Body) → new ≡ with_body_of turned who body → Reaches r who old new
called_reaches Own who old turned new same adds others own body is = record { body = body; left = is ∙ ap (λ (x : PlainTree). with_body_of x who body) (same refl) }
called_reaches Made who old turned new same adds others own body is =
    subst (λ (x : PlainTree). AddsBeside who old x) (sym is) (then_body turned own who body old (beside_last who old turned (adds refl)))
called_reaches Job who old turned new same adds others own body is =
    others_on who.tty old.forks turned.forks new.forks others
    (reaches_others Own who turned new own (record { body = body; left = is }))

-- nothing is told of one that goes on
untold : (tree : PlainTree) (o : Option Fork) → record tree { forks = option_map_or (λ f. told_where tree.forks f false) o tree.forks } ≡ tree
untold tree None = refl
untold tree (Some f) = refl

-- and then it is told that it has ended, where it has stopped
pub told_reaches : (r : Reach) (stops : Bool) (who : ForkName) (old mid new : PlainTree) → AreOwn old.forks → AreOwn mid.forks → Reaches r who old mid → new ≡ told_at mid who stops → Reaches (cond stops Job r) who old new
told_reaches r true who old mid new own owned reaches told =
    others_on who.tty old.forks mid.forks new.forks (reaches_others r who old mid own reaches)
    (others_on who.tty mid.forks (told_at mid who true).forks new.forks (by (map.get mid.forks who) refl) (others_same who.tty (told_at mid who true).forks new.forks (ap (λ (x : PlainTree). x.forks) told)))
  where
    by : (o : Option Fork) → map.get mid.forks who ≡ o → OthersStay who.tty mid.forks (option_map_or (λ f. told_where mid.forks f true) o mid.forks)
    by None none = others_same who.tty mid.forks mid.forks refl
    by (Some f) there = others_alike who.tty f.name.tty mid.forks (told_where mid.forks f true) (ap (λ (n : ForkName). n.tty.0) (owned who f there)) (told_job mid.forks owned f).others
told_reaches Own false who old mid new own owned reaches told = record { body = reaches.body; left = told ∙ untold mid (map.get mid.forks who) ∙ reaches.left }
told_reaches Made false who old mid new own owned reaches told = subst (λ (x : PlainTree). AddsBeside who old x) (sym (told ∙ untold mid (map.get mid.forks who))) reaches
told_reaches Job false who old mid new own owned reaches told =
    others_on who.tty old.forks mid.forks new.forks reaches (others_same who.tty mid.forks new.forks (ap (λ (x : PlainTree). x.forks) (told ∙ untold mid (map.get mid.forks who))))

-- ---- calls, by their families

by_reach : (made : Bool) (family : Option CallFamily) → cond made Made (family_reach family) ≡ Own → family_reach family ≡ Own
by_reach true family own = absurd (cc own)
by_reach false family own = own

-- a call of a family that reaches the forks of a job reaches more than its own
pub job_reaches : (number : ℕ) (family : Option CallFamily) → family_of number ≡ family → family_reach family ≡ Job → reach_of number ≡ Own → ⊥
job_reaches number family is job own =
    let both : Own ≡ Job = sym (by_reach (number == CFORK) (family_of number) own) ∙ ap family_reach is ∙ job in cc both

-- ---- CFORK alone makes a fork

made_by : (made : Bool) (family : Option CallFamily) → cond made Made (family_reach family) ≡ Made → made ≡ true
made_by true family is = refl
made_by false None is = absurd (cc is)
made_by false (Some Printing) is = absurd (cc is)
made_by false (Some Forks) is = absurd (cc is)
made_by false (Some Interrupts) is = absurd (cc is)
made_by false (Some Clock) is = absurd (cc is)
made_by false (Some Maps) is = absurd (cc is)
made_by false (Some Errors) is = absurd (cc is)
made_by false (Some Jfns) is = absurd (cc is)
made_by false (Some Bytes) is = absurd (cc is)
made_by false (Some Strings) is = absurd (cc is)

pub made_is : (number : ℕ) → reach_of number ≡ Made → number ≡ CFORK
made_is number is = elim (eqb_tells number CFORK) [
  | inl same ↦ same.1
  | inr other ↦ let both : true ≡ false = sym (made_by (number == CFORK) (family_of number) is) ∙ other.0 in absurd (cc both)
]

-- which is a fork call
pub made_family : (number : ℕ) → reach_of number ≡ Made → family_of number ≡ Some Forks
made_family number is = ap family_of (made_is number is)
