use Rattle.std.proofs.Common.{◌≡◌, ◌<◌, ◌^◌, ℕ, None, Option, Some, refl, sym, ◌∙◌, ap, subst, arith}
use Rattle.std.specs.Prelude.{IsSome}
use Rattle.std.specs.Option.{option_map, unwrap_or}
use Rattle.std.specs.Ordering.{nat_cmp}
use Rattle.std.specs.FinMap as map
use Rattle.plain_model.specs.declared.fork.Body.{Body}
use Rattle.plain_model.specs.declared.fork.Fork.{Fork}
use Rattle.machine_names.specs.declared.names.ForkName.{ForkName}
use Rattle.script_texts.specs.declared.status.ForkStatus.{ForkStatus}
use Rattle.script_texts.specs.declared.status.ForkStatus.TheVariants.{Run, Wait, Halted, Forced}
use Rattle.plain_model.specs.Families.{Parts, Turned, call_turned}
use Rattle.plain_model.specs.Forks.{OthersStay, counted, fork_in}
use Rattle.page_contracts.specs.Pages.{PagesMeaning}
use Rattle.plain_model.specs.Trees.{PlainTree, changed, with_body, with_changed_of}
use Rattle.fork_tree.specs.Making.{AddsLast}
use Rattle.fork_tree.specs.Trees.{IsTree, Lives}
use Rattle.fork_tree.proofs.Slots.{get_put, in_tells, some_of}
use Rattle.call_turns.specs.Answers.{AnswerNeeds, IsDone}
use Rattle.job_forks.specs.Holding.{CallLeaves}
use Rattle.job_forks.specs.Limits.{AreWithin, FitsForced, IsBody}
use Rattle.file_tables.specs.Keys.{key_of}
use Rattle.monitor_calls.specs.Limits.{unit_frames}
use Rattle.monitor_calls.specs.ForkUnit.{CallReason, Kept, LeavesForks, Tables, TurnedSo, answered, answered_turn, called_behind, fork_of, out_in, parts_in, put_back, put_in, rest_of, turn_behind}
use Rattle.step_shown.specs.Shown.{FitsShown, FitsStop, shown_of, stop_of}
use Rattle.monitor_calls.proofs.Calling.{done_else, out_fits, so_done}
use Rattle.monitor_calls.proofs.Keeping.{answered_keeps}
use Rattle.monitor_calls.proofs.Leaving.{after_keeps, caller_keeps, caller_within, turn_leaves}
use Rattle.step_shown.specs.Reaching.{Reaches}
use Rattle.monitor_calls.specs.Reaching.{reach_of}
use Rattle.step_shown.specs.declared.reach.Reach.{Reach}
use Rattle.step_shown.specs.declared.reach.Reach.TheVariants.{Own, Made, Job}
use Rattle.monitor_calls.proofs.MadeBeside.{beside_last}
use Rattle.monitor_calls.proofs.ReachDid.{called_reaches, same_reaches}
use Rattle.monitor_calls.proofs.calls.called.Goals as goal

-- the fork that called, behind its turn
module _ {P : Type 0} {means : PagesMeaning P} {p q : P} {pages : ℕ} (old new : PlainTree) (who : ForkName) (left : CallLeaves means p q old new who pages)
    (was : IsTree old) (is : IsTree new) (can : AreWithin old.forks) (slot : ℕ) (f : Fork) (at : fork_in old.forks who.tty slot ≡ Some f) (named : f.name ≡ who) where
  lived : Lives old.forks f
  lived = (in_tells old.forks was.slotted who.tty slot f at).0

  there : (g : Fork) × (map.get new.forks f.name ≡ Some g)
  there = let s = some_of (map.get new.forks who) (left.caller (subst IsSome (sym (ap (map.get old.forks) (sym named) ∙ lived)) refl)) in (s.0, ap (map.get new.forks) named ∙ s.1)

  module _ (body : Body) (lent : Some body ≡ option_map (λ (k : Fork). k.body) (map.get new.forks who)) where
    lent_is : body ≡ there.0.body
    lent_is = let both : Some body ≡ Some there.0.body = lent ∙ ap (option_map (λ (k : Fork). k.body)) (ap (map.get new.forks) (sym named) ∙ there.1) in cc both

    lent_within : IsBody body
    lent_within = subst IsBody (sym lent_is) (caller_within old new was is left.kept f there.0 lived (can f lived) there.1)

    lent_few : f.body.units < 2 ^ 63 → body.units < 2 ^ 63
    lent_few few = omega (arith, few, ap (λ (b : Body). b.units) lent_is, (caller_keeps old new was is left.kept f there.0 lived (can f lived) there.1).units)

-- how a fork stands that keeps its limits
stop_fits : (status : ForkStatus) → FitsForced status → FitsStop (stop_of status)
stop_fits Run fits = tt
stop_fits (Wait on) fits = tt
stop_fits Halted fits = tt
stop_fits (Forced channel) fits = fits channel refl

-- a turn alone
turn_reaches : (r : Reach) (who : ForkName) (old turned : PlainTree) (slot : ℕ) → IsTree old → IsSome (fork_in old.forks who.tty slot) → ((f : Fork) → fork_in old.forks who.tty slot ≡ Some f → f.name ≡ who) → (r ≡ Own → turned ≡ old) → (r ≡ Made → AddsLast who.tty old turned) → OthersStay who.tty old.forks turned.forks → Reaches r who old turned
turn_reaches Own who old turned slot trees found named same adds others =
    let f = some_of (fork_in old.forks who.tty slot) found in
    let name = named f.0 f.1 in
    let lives = in_tells old.forks trees.slotted who.tty slot f.0 f.1 in
    same_reaches old who f.0 (ap (map.get old.forks) (sym name) ∙ lives.0) name Own turned (same refl)
turn_reaches Made who old turned slot trees found named same adds others = beside_last who old turned (adds refl)
turn_reaches Job who old turned slot trees found named same adds others = others

pub turn-answer-requires-clause-regs : goal.turn-answer-requires-clause-regs
turn-answer-requires-clause-regs g c =
    let f = c.in-Some.fork.now in
    let lives = in_tells c.args.tree.now.forks c.fork_at.ensures.tree.slotted c.args.who.fork.tty c.args.who.slot f (sym c.in-Some.ensures.found) in
    let fits = c.requires.can f lives.0 in
    (fits.pc, fits.accumulators)

pub turn-answer-requires-clause-lives : goal.turn-answer-requires-clause-lives
turn-answer-requires-clause-lives g c =
    let f = some_of _ c.requires.there in
    let lives = in_tells c.args.tree.now.forks c.fork_at.ensures.tree.slotted c.args.who.fork.tty c.args.who.slot f.0 f.1 in
    subst IsSome (sym (ap (map.get c.args.tree.now.forks) (sym (c.requires.named f.0 f.1)) ∙ lives.0)) refl

pub answered-requires : goal.answered-requires
answered-requires g c =
    let old = c.args.tree.now in
    let new = c.turn-answer.new.tree in
    let was = c.fork_at.ensures.tree in
    let left = c.turn-answer.ensures.leaves in
    let f = some_of _ c.requires.there in
    let named = c.requires.named f.0 f.1 in
    let within = lent_within old new c.args.who.fork left was c.are_trees.ensures c.requires.can c.args.who.slot f.0 f.1 named _ c.in-Some-body_mut.ensures.body in
    record {
      few = lent_few old new c.args.who.fork left was c.are_trees.ensures c.requires.can c.args.who.slot f.0 f.1 named _ c.in-Some-body_mut.ensures.body (c.requires.few f.0 f.1);
      pc = within.pc;
      accumulators = within.accumulators;
      done = done_else c.turn-answer.result (λ n is. c.in_default-answer.not-Need n is);
    }

pub returns-in-None-clause-called : goal.returns-in-None-clause-called
returns-in-None-clause-called g c at b found =
    let who = c.args.who.fork in
    let old = c.args.tree.now in
    let new = c.turn-answer.new.tree in
    let stands = there old new who c.turn-answer.ensures.leaves c.fork_at.ensures.tree c.are_trees.ensures c.requires.can c.args.who.slot (fork_of who at b) found refl in
    let no : None ≡ Some stands.0.body = c.in-None.ensures.body ∙ ap (option_map (λ (k : Fork). k.body)) stands.1 in
    absurd (cc no)

pub returns-in-Some-body_mut-clause-called : goal.returns-in-Some-body_mut-clause-called
returns-in-Some-body_mut-clause-called g c at b found =
    let who = c.args.who.fork in
    let number = c.args.number in
    let f = fork_of who at b in
    let old = c.args.tree.now in
    let new = c.turn-answer.new.tree in
    let answer = c.turn-answer.result in
    let turn = c.turn-answer.ensures in
    let tables : Tables = record { tree = old; files = c.args.files.now; jobs = c.args.jobs.now.items; typed = c.args.typed.now.items; clock = c.args.clock } in
    let mid : Tables = record tables { tree = new; files = c.turn-answer.new.files; typed = c.turn-answer.new.typed.items } in
    let was = c.fork_at.ensures.tree in
    let is = c.are_trees.ensures in
    let left = c.turn-answer.ensures.leaves in
    let body = c.answered.new.body in
    let lent = c.in-Some-body_mut.ensures.body in
    let lives : Lives old.forks f = lived old new who left was is c.requires.can c.args.who.slot f found refl in
    let stands = there old new who left was is c.requires.can c.args.who.slot f found refl in
    let k = stands.0 in
    let fits = c.requires.can f lives in
    let here = lent_is old new who left was is c.requires.can c.args.who.slot f found refl _ lent in
    let within : IsBody k.body = caller_within old new was is left.kept f k lives fits stands.1 in
    let seen : Some c.in-Some.fork.now ≡ Some f = c.in-Some.ensures.found ∙ found in
    let same : c.in-Some.fork.now ≡ f = cc seen in
    let fork : with_body body k ≡ counted (answered k answer) = c.answered.ensures.fork k ∙ ap (λ x. counted (answered (with_body x k) answer)) here in
    let back : with_changed_of new who (with_body body) ≡ put_back new (with_body body k) = ap (λ o. record new { forks = changed new.forks (with_body body) o }) stands.1 in
    let keeps : Kept k (with_body body k) 1 = subst (λ h. Kept k h 1) (sym fork) (answered_keeps k within.pc within.accumulators answer c.turn-answer.ensures.regs) in
    record {
      after = with_body body k;
      there = subst (λ (x : PlainTree). Lives x.forks (with_body body k)) (sym back) (get_put new.forks k.name k.name (with_body body k) refl);
      told = λ d drum.
          let p = g.P.Pages.means.plain c.args.pages.now d in
          let q = g.P.Pages.means.plain c.turn-answer.new.pages d in
          let v = parts_in (rest_of tables) p in
          let w = parts_in (rest_of mid) q in
          let turned : call_turned (key_of tables.files) v who f.body.regs number ≡ answered_turn w who answer =
          subst (λ (x : Fork). call_turned (key_of tables.files) v who x.body.regs number ≡ answered_turn w who answer) same
          (so_done (key_of tables.files) v w who c.in-Some.fork.now.body.regs number answer (done_else answer (λ n is. c.in_default-answer.not-Need n is)) (turn.told.told d drum)) in
          let behind_is : called_behind (key_of tables.files) (rest_of tables) f p number ≡ turn_behind w (out_in answer) (answered k answer) =
          ap (λ (r : Turned nat_cmp). turn_behind r.parts r.out (unwrap_or r.caller f)) turned
          ∙ ap (λ (o : Option Fork). turn_behind w (out_in answer) (unwrap_or (option_map (λ h. answered h answer) o) f)) stands.1 in
          let left_is : turn_behind w (out_in answer) (answered k answer) ≡ record { rest = put_in (rest_of mid) (with_body body k); fork = with_body body k; pages = q; shown = shown_of (out_in answer) body.status } =
          ap (λ (h : Fork). record { rest = put_in (rest_of mid) h; fork = h; pages = q; shown = shown_of (out_in answer) h.body.status }) (sym fork) in
          (turn.told.fits d drum, behind_is ∙ left_is ∙ (λ i. record { rest = rest_of (record mid { tree = sym back i }); fork = with_body body k; pages = q; shown = sym c.answered.ensures.shown i }));
      numbers = turn.told.numbers;
      unheld = turn.unheld;
      typing_room = turn.typing_room;
      loses = left.loses;
      keeps = after_keeps old new was is left.kept f k lives fits stands.1 body keeps;
      leaves = subst (λ x. LeavesForks g.P.Pages.means c.args.pages.now c.turn-answer.new.pages old x f 1) (sym back)
          (turn_leaves old new was is left.kept f k lives fits stands.1 body keeps g.P.Pages.means c.args.pages.now c.turn-answer.new.pages left);
      fits = subst FitsShown (sym c.answered.ensures.shown) (out_fits answer c.turn-answer.ensures.regs, stop_fits body.status (keeps.status within.status));
    }

pub returns-in-Need-clause-needs : goal.returns-in-Need-clause-needs
returns-in-Need-clause-needs g c =
    let means = g.P.Pages.means in
    let who = c.args.who.fork in
    let turn = c.turn-answer.ensures in
    let n = c.in-Need.need in
    let tables : Tables = record { tree = c.args.tree.now; files = c.args.files.now; jobs = c.args.jobs.now.items; typed = c.args.typed.now.items; clock = c.args.clock } in
    let left : Tables = record tables { tree = c.turn-answer.new.tree; files = c.turn-answer.new.files; typed = c.turn-answer.new.typed.items } in
    record {
      told = record {
        tree = turn.left n c.in-Need.is;
        files = turn.stays n c.in-Need.is;
        typed = turn.untyped n c.in-Need.is;
        each = λ d drum.
            let p = means.plain c.args.pages.now d in
            let q = means.plain c.turn-answer.new.pages d in
            let same = subst (TurnedSo (key_of tables.files) (parts_in (rest_of tables) p) (parts_in (rest_of left) q) who c.in-Some.fork.now.body.regs c.args.number) c.in-Need.is (turn.told.told d drum) in
            (turn.told.fits d drum, ap (λ (v : Parts nat_cmp). v.pages) same);
      };
      left = turn.leaves;
      unmade = turn.unmade n c.in-Need.is;
      needed = subst (AnswerNeeds means.store unit_frames c.turn-answer.new.pages) c.in-Need.is turn.needs;
      reason = λ f lives.
          let k = c.in-Some.fork.now in
          let found : fork_in c.args.tree.now.forks who.tty c.args.who.slot ≡ Some k = sym c.in-Some.ensures.found in
          let at : map.get c.args.tree.now.forks who ≡ Some k = ap (map.get c.args.tree.now.forks) (sym (c.requires.named k found)) ∙ (in_tells c.args.tree.now.forks c.fork_at.ensures.tree.slotted who.tty c.args.who.slot k found).0 in
          let both : Some k ≡ Some f = sym at ∙ lives in
          let same : k ≡ f = cc both in
          subst (λ (h : Fork). CallReason means c.args.pages.now tables who h.body.regs c.args.number n) same (turn.reason n c.in-Need.is);
    }

pub returns-in-Need-clause-core : goal.returns-in-Need-clause-core
returns-in-Need-clause-core g c flat = absurd (subst IsDone c.in-Need.is (c.turn-answer.ensures.core flat))

-- how far the call has reached
pub returns-in-Need-clause-reach : goal.returns-in-Need-clause-reach
returns-in-Need-clause-reach g c = turn_reaches (reach_of c.args.number) c.args.who.fork c.args.tree.now c.turn-answer.new.tree c.args.who.slot c.fork_at.ensures.tree c.requires.there c.requires.named c.turn-answer.ensures.own c.turn-answer.ensures.made c.turn-answer.ensures.leaves.others

pub returns-in-None-clause-reach : goal.returns-in-None-clause-reach
returns-in-None-clause-reach g c = turn_reaches (reach_of c.args.number) c.args.who.fork c.args.tree.now c.turn-answer.new.tree c.args.who.slot c.fork_at.ensures.tree c.requires.there c.requires.named c.turn-answer.ensures.own c.turn-answer.ensures.made c.turn-answer.ensures.leaves.others

pub returns-in-Some-body_mut-clause-reach : goal.returns-in-Some-body_mut-clause-reach
returns-in-Some-body_mut-clause-reach g c =
    called_reaches (reach_of c.args.number) c.args.who.fork c.args.tree.now c.turn-answer.new.tree _ c.turn-answer.ensures.own c.turn-answer.ensures.made c.turn-answer.ensures.leaves.others c.are_trees.ensures.slotted.own c.answered.new.body refl
