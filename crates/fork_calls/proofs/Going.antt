-- How turns go that are over.
use Rattle.std.proofs.Common.{◌≡◌, ℕ, Option, None, refl, sym, ◌∙◌, subst}
use Rattle.std.specs.Ordering.{nat_cmp}
use Rattle.plain_model.specs.declared.call.End.{End}
use Rattle.plain_model.specs.declared.call.End.TheVariants.{Done, Waits, Halts, Refused, Failed, Trap}
use Rattle.plain_model.specs.declared.call.ForkChange.{ForkChange}
use Rattle.call_turns.specs.declared.answer.Answer.{Answer}
use Rattle.plain_units.specs.declared.registers.Regs.{Regs}
use Rattle.plain_pages.specs.PlainPages.{NumberedPages}
use Rattle.plain_model.specs.Calls.{Turn, Came, ends, no_files, turn_on, parts_behind}
use Rattle.plain_model.specs.ForkCalls.{ForkParts, fork_changed}
use Rattle.call_turns.specs.Answers.{Went, answer_of}

abbrev Parts : Type 0
Parts = ForkParts nat_cmp

module _ (v w : Parts) (result : Answer) where
  -- a turn that is not done leaves all as it was
  undone : (e : End ForkChange) (made : Parts) → ((what : ForkChange) (regs : Regs) (out post : Option ℕ) → e ≡ Done what regs out post → ⊥) → v ≡ parts_behind fork_changed v made e
  unfolding parts_behind
  undone (Done what regs out post) made open_end = absurd (open_end what regs out post refl)
  undone (Waits on) made open_end = refl
  undone Halts made open_end = refl
  undone (Refused code) made open_end = refl
  undone (Failed code) made open_end = refl
  undone (Trap channel) made open_end = refl

  -- a turn went to its end over these parts
  abbrev pub WentTo : Turn ⊥ ForkChange → Type 0
  WentTo t = let c = turn_on no_files v.pages t in Went fork_changed v (record v { pages = c.pages }) w result c.end

  pub stops : (t : Turn ⊥ ForkChange) (e : End ForkChange) → (turn_on no_files v.pages t).end ≡ e → ((what : ForkChange) (regs : Regs) (out post : Option ℕ) → e ≡ Done what regs out post → ⊥) → result ≡ answer_of e → w ≡ v → WentTo t
  stops t e is open_end answered same =
      let made : Parts = record v { pages = (turn_on no_files v.pages t).pages } in
      let here : Went fork_changed v made w result e = record { answered = answered; left = same ∙ undone e made open_end } in
      subst (λ (x : End ForkChange). Went fork_changed v made w result x) (sym is) here

  -- one that is done leaves what its change leaves, on the pages that it has made
  pub goes : (t : Turn ⊥ ForkChange) (what : ForkChange) (regs : Regs) (q : NumberedPages) → turn_on no_files v.pages t ≡ record { end = Done what regs None None; pages = q } → w ≡ fork_changed what (record v { pages = q }) → result ≡ answer_of (Done what regs None None) → WentTo t
  unfolding parts_behind
  goes t what regs q is left answered =
      let here : Went fork_changed v (record v { pages = q }) w result (Done what regs None None) = record { answered = answered; left = left } in
      subst (λ (c : Came nat_cmp ForkChange). Went fork_changed v (record v { pages = c.pages }) w result c.end) (sym is) here

  -- the same of a turn that ends at once
  pub ends_so : (e : End ForkChange) → ((what : ForkChange) (regs : Regs) (out post : Option ℕ) → e ≡ Done what regs out post → ⊥) → result ≡ answer_of e → w ≡ v → WentTo (ends e)
  unfolding turn_on
  ends_so e open_end answered same = stops (ends e) e refl open_end answered same

  pub ends_done : (e : End ForkChange) (what : ForkChange) (regs : Regs) (out post : Option ℕ) → e ≡ Done what regs out post → w ≡ fork_changed what v → result ≡ answer_of (Done what regs out post) → WentTo (ends e)
  unfolding turn_on parts_behind
  ends_done e what regs out post is left answered =
      let here : Went fork_changed v v w result (Done what regs out post) = record { answered = answered; left = left } in
      subst (λ (x : End ForkChange). Went fork_changed v v w result x) (sym is) here
