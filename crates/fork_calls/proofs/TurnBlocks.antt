-- A turn that takes a block of words.
use Rattle.std.proofs.Common.{◌≡◌, ℕ, Bool, true, false, cond, List, None, sym, ◌∙◌, ap, subst, inl, inr}
use Rattle.std.specs.Prelude.{Result, Ok, Err, replicate, ◌==◌}
use Rattle.std.specs.Ordering.{nat_cmp}
use Rattle.word36.specs.Words.{bit}
use Rattle.plain_model.specs.declared.call.End.{End}
use Rattle.plain_model.specs.declared.call.End.TheVariants.{Done, Trap as TrapEnd}
use Rattle.plain_model.specs.declared.call.ForkChange.{ForkChange}
use Rattle.plain_model.specs.declared.call.ForkChange.TheVariants.{Nothing, Store}
use Rattle.machine_names.specs.declared.names.ForkName.{ForkName}
use Rattle.machine_names.specs.declared.names.Kind.{Kind}
use Rattle.machine_names.specs.declared.names.Kind.TheVariants.{Read}
use Rattle.plain_units.specs.declared.registers.Regs.{Regs}
use Rattle.plain_pages.specs.PlainPages.{NumberedPages}
use Rattle.plain_model.specs.Trees.{PlainTree}
use Rattle.plain_units.specs.Deeds.{in_ac}
use Rattle.plain_model.specs.Forks.{ForkMap}
use Rattle.plain_units.specs.Steps.{Planned, put_into}
use Rattle.call_turns.specs.declared.answer.Answer.{Answer}
use Rattle.plain_model.specs.Calls.{Turn, no_files, turn_on, ends, stepped, with_block, Asked}
use Rattle.plain_model.specs.ForkCalls.{ForkParts, address_named, fork_changed}
use Rattle.plain_units.specs.Blocks.{stored_from}
use Rattle.ka10_unit.specs.declared.taken.Taken.{Taken}
use Rattle.ka10_unit.specs.declared.taken.Stop.{Stop}
use Rattle.ka10_unit.specs.declared.taken.Stop.TheVariants.{Trap, Need}
use Rattle.ka10_unit.specs.Blocks.{TakesBlock}
use Rattle.ka10_unit.specs.Gathers.{Framed}
use Rattle.ka10_unit.specs.Taking.{pages_so_far}
use Rattle.call_turns.specs.Answers.{answer_of, stopped_by}
use Rattle.fork_calls.specs.Needing.{TurnNeeds}
use Rattle.job_forks.specs.Holding.{parts}
use Rattle.fork_calls.specs.Turning.{ComesOut}
use Rattle.fork_calls.proofs.Going.{goes, stops, WentTo}
use Rattle.fork_calls.specs.Blocks.{GoesOn, GoesOnWith, TookAccumulators, TookBlock}

-- a unit as a plan of the plain machine
abbrev PlainPlan : Type 0
PlainPlan = Planned nat_cmp ⊥

-- nothing is changed
pub nothing_changes : (what : ForkChange) (v : ForkParts nat_cmp) → what ≡ Nothing → v ≡ fork_changed what v
unfolding fork_changed
nothing_changes what v is = ap (λ (w : ForkChange). fork_changed w v) (sym is)

module _ (f : ForkName) (p : Framed) (regs : Regs) (at : ℕ) (kind : Kind) (t : Taken) where
  -- no word was kept
  left_there : t.kept ≡ None → put_into f (pages_so_far p t) t.kept ≡ pages_so_far p t
  left_there kept = ap (put_into f (pages_so_far p t)) kept

  pub took_goes : (words : List ℕ) (q : NumberedPages) → q ≡ pages_so_far p t → t.kept ≡ None → TakesBlock f p regs at kind t (Ok words) → GoesOn f regs at kind p.pages q words
  unfolding turn_on
  took_goes words q made kept took = record {
    comes = λ next.
        ap (λ (plan : PlainPlan). stepped f plan (λ r e. turn_on no_files r (next e.regs.ac)) (λ channel. record { end = TrapEnd channel; pages = p.pages })) took.plain ∙ ap (λ (r : NumberedPages). turn_on no_files r (next words)) (left_there kept ∙ sym made);
  }

  pub took_stops : (e : Stop) (q : NumberedPages) → TakesBlock f p regs at kind t (Err e) → TookBlock f regs at kind p q (Err e)
  unfolding turn_on
  took_stops (Trap channel) q took = λ next. ap (λ (plan : PlainPlan). (stepped f plan (λ r x. turn_on no_files r (next x.regs.ac)) (λ channel. record { end = TrapEnd channel; pages = p.pages })).end) took.plain
  took_stops (Need n) q took = took.is

-- the accumulators of a new fork, where they are read
module _ (a : Asked) (p : Framed) (q : NumberedPages) where
  -- the turn that reads them, where they are
  abbrev read_if : (List ℕ → Turn ⊥ ForkChange) → Bool → Turn ⊥ ForkChange
  read_if next b = cond b (with_block a.who a.regs (address_named a.regs) Read next) (next (replicate 16 0))

  pub read_accumulators : (result : Result (List ℕ) Stop) → (bit (in_ac a.regs 1) 3 == 1) ≡ true → TookBlock a.who a.regs (address_named a.regs) Read p q result → TookAccumulators a p q result
  read_accumulators (Ok words) reads took = record {
    comes = λ next. ap (λ b. turn_on no_files p.pages (read_if next b)) reads ∙ took.comes next;
  }
  read_accumulators (Err (Trap channel)) reads took = λ next. ap (λ b. (turn_on no_files p.pages (read_if next b)).end) reads ∙ took next
  read_accumulators (Err (Need n)) reads took = λ next. subst (λ b. TurnNeeds p a.tree.forks (read_if next b) n) (sym reads) took

-- and where they are 0
pub zero_accumulators : (a : Asked) (p : NumberedPages) → (bit (in_ac a.regs 1) 3 == 1) ≡ false → GoesOnWith a p p (replicate 16 0)
zero_accumulators a p none = record {
  comes = λ next. ap (λ b. turn_on no_files p (cond b (with_block a.who a.regs (address_named a.regs) Read next) (next (replicate 16 0)))) none;
}

-- ---- how a turn goes that takes one block

-- a turn stops so
abbrev pub StopsSo : Framed → ForkMap → Turn ⊥ ForkChange → Stop → Type 0
StopsSo p forks t (Trap channel) = (turn_on no_files p.pages t).end ≡ TrapEnd channel
StopsSo p forks t (Need n) = TurnNeeds p forks t n

module _ (tree : PlainTree) (p : Framed) (w : ForkParts nat_cmp) (result : Answer) where
  -- it leaves all as it was, and answers why
  pub turn_stops : (t : Turn ⊥ ForkChange) (e : Stop) → StopsSo p tree.forks t e → w ≡ parts tree p.pages → result ≡ stopped_by e → ComesOut p tree w result t
  turn_stops t (Trap channel) is same answered = inl (stops (parts tree p.pages) w result t (TrapEnd channel) is (λ what regs out post h. cc h) answered same)
  turn_stops t (Need n) is same answered = inr (record { need = n; answered = answered; reason = is; left = same })

-- so does one whose block does
pub block_stops : (who : ForkName) (regs : Regs) (at : ℕ) (kind : Kind) (p : Framed) (q : NumberedPages) (forks : ForkMap) (next : List ℕ → Turn ⊥ ForkChange) (e : Stop) → TookBlock who regs at kind p q (Err e) → StopsSo p forks (with_block who regs at kind next) e
block_stops who regs at kind p q forks next (Trap channel) took = took next
block_stops who regs at kind p q forks next (Need n) took = took

module _ (v w : ForkParts nat_cmp) where
  pub block_goes : (result : Answer) (who : ForkName) (regs : Regs) (at : ℕ) (kind : Kind) (q : NumberedPages) (words : List ℕ) → GoesOn who regs at kind v.pages q words → (end : List ℕ → End ForkChange) (what : ForkChange) (after : Regs) → end words ≡ Done what after None None
      → w ≡ fork_changed what (record v { pages = q }) → result ≡ answer_of (Done what after None None) → WentTo v w result (with_block who regs at kind (λ ws. ends (end ws)))
  unfolding turn_on
  block_goes result who regs at kind q words on end what after is left answered =
      goes v w result (with_block who regs at kind (λ ws. ends (end ws))) what after q (on.comes (λ ws. ends (end ws)) ∙ ap (λ (e : End ForkChange). record { end = e; pages = q }) is) left answered

-- words that are stored
pub words_stored : (tree : PlainTree) (q r : NumberedPages) (who : ForkName) (at : ℕ) (words : List ℕ) → r ≡ stored_from q who at words → (p : NumberedPages) → parts tree r ≡ fork_changed (Store who at words) (record (parts tree p) { pages = q })
unfolding fork_changed
words_stored tree q r who at words put p = ap (parts tree) put
