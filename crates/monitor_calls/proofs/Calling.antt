-- A fork's body, lent out of a tree; and a turn of a call, by its family and its answer.
use Rattle.std.proofs.Common.{◌≡◌, ℕ, List, Option, None, Some, refl, sym, ◌∙◌, ap, subst, inl, inr}
use Rattle.std.specs.Prelude.{IsSome}
use Rattle.std.specs.Option.{option_map}
use Rattle.std.specs.Ordering.{nat_cmp}
use Rattle.std.specs.FinMap as map
use Rattle.plain_model.specs.declared.call.ByteChange.{ByteChange}
use Rattle.plain_model.specs.declared.call.End.{End}
use Rattle.plain_model.specs.declared.call.End.TheVariants.{Done, Waits, Halts, Refused, Failed, Trap}
use Rattle.plain_units.specs.declared.channel.TheConstants.{ILLEGAL_INSTRUCTION}
use Rattle.call_turns.specs.declared.answer.Answer.{Answer}
use Rattle.call_turns.specs.declared.answer.Answer.TheVariants as answer
use Rattle.plain_model.specs.declared.fork.Body.{Body}
use Rattle.plain_model.specs.declared.fork.Fork.{Fork}
use Rattle.machine_names.specs.declared.names.ForkName.{ForkName}
use Rattle.page_contracts.specs.declared.answers.Need.{Need}
use Rattle.machine_names.specs.declared.names.Tty.{Tty}
use Rattle.plain_units.specs.declared.registers.Regs.{Regs}
use Rattle.plain_pages.specs.PlainPages.{NumberedPages}
use Rattle.plain_model.specs.ByteCalls.{ByteAsked, ByteTurn, byte_calls, byte_changed}
use Rattle.plain_model.specs.Calls.{Came, Turn, fork_behind, no_files, numbered, out_of, parts_behind, turn_on}
use Rattle.plain_model.specs.Families.{Parts, Turned, behind, print_calls, asks, asks_bytes, asks_clock, asks_jfns, asks_maps, bytes_changed, files_seen, forks_changed, interrupts_changed, jfns_changed, names_seen, call_turned}
use Rattle.plain_model.specs.FileCalls.{FileParts, file_call, file_changed, jfn_call}
use Rattle.plain_model.specs.ForkCalls.{ForkParts, fork_call, fork_changed}
use Rattle.plain_model.specs.ClockCalls.{clock_calls, clock_changed}
use Rattle.plain_model.specs.InterruptCalls.{interrupt_calls}
use Rattle.plain_model.specs.MapCalls.{map_call, map_changed}
use Rattle.plain_model.specs.StringCalls.{string_calls}
use Rattle.plain_model.specs.Forks.{fork_in}
use Rattle.plain_model.specs.Trees.{PlainTree, changed, with_body}
use Rattle.plain_model.proofs.Calling.{MakesNone, bytes_behind, clock_makes_none, file_makes_none, filed_of, forks_behind, jfns_behind, jobs_behind, nothing_behind, pages_behind, print_makes_none, sleeps_behind, with_filed}
use Rattle.call_turns.specs.declared.family.CallFamily.{CallFamily}
use Rattle.call_turns.specs.declared.family.CallFamily.TheVariants.{Printing, Forks, Interrupts, Clock, Maps, Errors, Jfns, Bytes, Strings}
use Rattle.call_turns.specs.Families.{family_of}
use Rattle.call_turns.proofs.Families.{by_family, turned_by}
use Rattle.call_turns.specs.Answers.{FitsAnswer, IsDone, IsTurn, Went, answer_of, HasRegs}
use Rattle.call_turns.specs.Turns.{IsOut}
use Rattle.fork_tree.specs.Changes.{body_in, with_body_at}
use Rattle.fork_tree.specs.Trees.{IsTree}
use Rattle.fork_tree.proofs.Kept.{changed_tree}
use Rattle.fork_tree.proofs.Slots.{get_put, in_found, in_tells, some_of}
use Rattle.job_forks.specs.Limits.{AreWithin, IsBody}
use Rattle.job_forks.specs.Holding.{parts}
use Rattle.monitor_calls.specs.ForkUnit.{TurnedSo, answered, answered_turn, out_in, put_back}
use Rattle.plain_model.specs.EachFamily.{own_changed, sleeps_changed, pages_changed}

-- what holds of the body of the fork in a slot
pub body_has : (P : Body → Type 0) (o : Option Fork) (b : Body) → IsSome o → b ≡ body_in o → ((f : Fork) → o ≡ Some f → P f.body) → P b
body_has P o b there is holds = let f = some_of o there in subst P (sym (is ∙ ap body_in f.1)) (holds f.0 f.1)

-- it is within its limits
pub lent_within : (tree : PlainTree) → IsTree tree → AreWithin tree.forks → (t : Tty) (slot : ℕ) (b : Body) → IsSome (fork_in tree.forks t slot) → b ≡ body_in (fork_in tree.forks t slot) → IsBody b
lent_within tree trees can t slot b there is = body_has IsBody (fork_in tree.forks t slot) b there is (λ f e. can f (in_tells tree.forks trees.slotted t slot f e).0)

-- the tree once the body is back
pub left_tree : (tree : PlainTree) (t : Tty) (slot : ℕ) (f : Fork) (b : Body) → fork_in tree.forks t slot ≡ Some f → with_body_at tree t slot b ≡ put_back tree (with_body b f)
left_tree tree t slot f b e = ap (λ o. record tree { forks = changed tree.forks (with_body b) o }) e

-- the fork is in its slot as before
pub still_in : (tree : PlainTree) → IsTree tree → (t : Tty) (slot : ℕ) (f : Fork) (b : Body) → fork_in tree.forks t slot ≡ Some f
    → fork_in (changed tree.forks (with_body b) (fork_in tree.forks t slot)) t slot ≡ Some (with_body b f)
still_in tree is t slot f b e =
    let there = in_tells tree.forks is.slotted t slot f e in
    let after = changed_tree tree f (with_body b f) is there.0 refl refl refl in
    ap (λ o. fork_in (changed tree.forks (with_body b) o) t slot) e
    ∙ in_found (map.insert tree.forks f.name (with_body b f)) after.slotted t slot (with_body b f) (get_put tree.forks f.name f.name (with_body b f) refl, there.1, there.2)

-- ---- turns, behind their answers

-- an answer within its limits has registers and a character within theirs
pub has_regs : (a : Answer) → FitsAnswer a → HasRegs a
has_regs (answer.After regs out post) fits = (fits.0, fits.1)
has_regs (answer.Wait on) fits = tt
has_regs answer.Halt fits = tt
has_regs (answer.Refused code) fits = tt
has_regs (answer.Failed code) fits = tt
has_regs (answer.Trap channel) fits = tt
has_regs (answer.Need need) fits = tt

-- so has what it prints
pub out_fits : (a : Answer) → HasRegs a → IsOut (out_in a)
out_fits (answer.After regs out post) fits = fits.1
out_fits (answer.Wait on) fits = tt
out_fits answer.Halt fits = tt
out_fits (answer.Refused code) fits = tt
out_fits (answer.Failed code) fits = tt
out_fits (answer.Trap channel) fits = tt
out_fits (answer.Need need) fits = tt

-- an answer of an end is done
pub answer_done : {C : Type 0} (e : End C) → IsDone (answer_of e)
answer_done (Done what regs out post) = tt
answer_done (Waits on) = tt
answer_done Halts = tt
answer_done (Refused code) = tt
answer_done (Failed code) = tt
answer_done (Trap channel) = tt

-- an answer that is no need is done
pub done_else : (a : Answer) → ((n : Need) → a ≡ answer.Need n → ⊥) → IsDone a
done_else (answer.After regs out post) none = tt
done_else (answer.Wait on) none = tt
done_else answer.Halt none = tt
done_else (answer.Refused code) none = tt
done_else (answer.Failed code) none = tt
done_else (answer.Trap channel) none = tt
done_else (answer.Need n) none = absurd (none n refl)

module _ (key : List ℕ → ℕ) (old new : Parts nat_cmp) (who : ForkName) (regs : Regs) (number : ℕ) where
  -- a turn that is done left what its call leaves
  pub done_so : (a : Answer) → IsDone a → call_turned key old who regs number ≡ answered_turn new who a → TurnedSo key old new who regs number a
  done_so (answer.After rs out post) done is = is
  done_so (answer.Wait on) done is = is
  done_so answer.Halt done is = is
  done_so (answer.Refused code) done is = is
  done_so (answer.Failed code) done is = is
  done_so (answer.Trap channel) done is = is
  done_so (answer.Need n) done is = absurd done

  pub so_done : (a : Answer) → IsDone a → TurnedSo key old new who regs number a → call_turned key old who regs number ≡ answered_turn new who a
  so_done (answer.After rs out post) done is = is
  so_done (answer.Wait on) done is = is
  so_done answer.Halt done is = is
  so_done (answer.Refused code) done is = is
  so_done (answer.Failed code) done is = is
  so_done (answer.Trap channel) done is = is
  so_done (answer.Need n) done is = absurd done

-- a turn went to its end, or needs something first, and left its family's part as it was
pub turned_so : {C V : Type 0} {IsReason : Need → Type 0} {changed : C → V → V} {made : V} {e : End C} (key : List ℕ → ℕ) (whole : V → Parts nat_cmp) (old new : V) (who : ForkName) (regs : Regs) (number : ℕ) (a : Answer) → IsTurn IsReason changed old made new a e
    → (Went changed old made new a e → call_turned key (whole old) who regs number ≡ answered_turn (whole new) who a) → TurnedSo key (whole old) (whole new) who regs number a
turned_so key whole old new who regs number a (inl went) is = done_so key (whole old) (whole new) who regs number a (subst IsDone (sym went.answered) (answer_done _)) (is went)
turned_so key whole old new who regs number a (inr waits) is = subst (TurnedSo key (whole old) (whole new) who regs number) (sym waits.answered) (ap whole waits.left)

module _ (key : List ℕ → ℕ) (v : Parts nat_cmp) (who : ForkName) where
  -- the answer of a turn that ends so leaves its fork as the end does, and prints what that prints
  answer_is : {C : Type 0} (left : Parts nat_cmp) (o : Option Fork) (e : End C)
      → ◌≡◌ {A = Turned nat_cmp} (record { parts = left; caller = option_map (λ f. fork_behind f e) o; out = out_of e }) (record { parts = left; caller = option_map (λ f. answered f (answer_of e)) o; out = out_in (answer_of e) })
  unfolding fork_behind
  answer_is left o (Done change regs out post) = refl
  answer_is left o (Waits on) = refl
  answer_is left o Halts = refl
  answer_is left o (Refused code) = refl
  answer_is left o (Failed code) = refl
  answer_is left o (Trap channel) = refl

  -- what is behind a turn that came out so
  came_behind : {C : Type 0} (change : C → Parts nat_cmp → Parts nat_cmp) (came : Came nat_cmp C) (left : Parts nat_cmp) (a : Answer) → a ≡ answer_of came.end → left ≡ parts_behind change v (record v { pages = came.pages }) came.end
      → behind change v who came ≡ answered_turn left who a
  came_behind change came left a is same =
      ap (λ (u : Parts nat_cmp). record { parts = u; caller = option_map (λ f. fork_behind f came.end) (map.get u.tree.forks who); out = out_of came.end }) (sym same)
      ∙ answer_is left (map.get left.tree.forks who) came.end
      ∙ ap (answered_turn left who) (sym is)

  -- a turn of a call, by its family
  module _ (regs : Regs) (number : ℕ) where
    -- one that changes the fork that called alone
    own_behind : (t : Turn ⊥ (Unit {0})) → MakesNone v.pages t → (a : Answer) → a ≡ answer_of (turn_on no_files v.pages t).end → behind own_changed v who (turn_on no_files v.pages t) ≡ answered_turn v who a
    own_behind t makes a is =
        came_behind own_changed (turn_on no_files v.pages t) v a is
        (sym (ap (λ (q : NumberedPages). parts_behind own_changed v (record v { pages = q }) (turn_on no_files v.pages t).end) makes
        ∙ nothing_behind v (turn_on no_files v.pages t).end))

    -- a call of a family that changes pages, files and jobs as the calls on bytes do, and is asked with the same
    module _ (rows : List (ℕ × (ByteAsked → ByteTurn))) where
      abbrev pub byte_came : Came nat_cmp ByteChange
      byte_came = turn_on (files_seen key v who) v.pages (numbered rows number (asks_bytes key v who regs))

      abbrev pub BytesWent : FileParts nat_cmp → Answer → Type 0
      BytesWent part a = Went (byte_changed key) (filed_of v) (record (filed_of v) { pages = byte_came.pages }) part a byte_came.end

      bytes_left : (part : FileParts nat_cmp) (a : Answer) → BytesWent part a → behind (bytes_changed key) v who byte_came ≡ answered_turn (with_filed v part) who a
      bytes_left part a w = came_behind (bytes_changed key) byte_came (with_filed v part) a w.answered (ap (with_filed v) w.left ∙ sym (bytes_behind key v byte_came.pages byte_came.end))

    -- a turn is that of its family
    of_family : (family : Option CallFamily) → family_of number ≡ family → call_turned key v who regs number ≡ turned_by key v who regs number family
    of_family family is = by_family key v who regs number ∙ ap (turned_by key v who regs number) is

    pub print_went : family_of number ≡ Some Printing → (a : Answer) → a ≡ answer_of (turn_on no_files v.pages (numbered print_calls number regs)).end → call_turned key v who regs number ≡ answered_turn v who a
    print_went prints a is = of_family (Some Printing) prints ∙ own_behind (numbered print_calls number regs) (print_makes_none v.pages number regs) a is

    pub forks_went : family_of number ≡ Some Forks → (tree : PlainTree) (q : NumberedPages) (a : Answer)
        → (let c = turn_on no_files v.pages (fork_call number (asks v who regs)) in Went fork_changed (parts v.tree v.pages) (parts v.tree c.pages) (parts tree q) a c.end)
        → (let c = turn_on no_files v.pages (fork_call number (asks v who regs)) in call_turned key v who regs number ≡ answered_turn (record v { tree = tree; pages = q; jobs = jobs_behind c.end tree.forks v.jobs }) who a)
    forks_went forks tree q a w =
        of_family (Some Forks) forks
        ∙ came_behind forks_changed (turn_on no_files v.pages (fork_call number (asks v who regs))) _ a w.answered
        (ap (λ (part : ForkParts nat_cmp). record v { tree = part.tree; pages = part.pages; jobs = jobs_behind (turn_on no_files v.pages (fork_call number (asks v who regs))).end part.tree.forks v.jobs }) w.left
        ∙ sym (forks_behind v (turn_on no_files v.pages (fork_call number (asks v who regs))).pages (turn_on no_files v.pages (fork_call number (asks v who regs))).end))

    pub interrupts_went : family_of number ≡ Some Interrupts → (new : Parts nat_cmp) (a : Answer)
        → (let c = turn_on no_files v.pages (numbered interrupt_calls number (asks v who regs)) in Went interrupts_changed v (record v { pages = c.pages }) new a c.end)
        → call_turned key v who regs number ≡ answered_turn new who a
    interrupts_went interrupts new a w =
        of_family (Some Interrupts) interrupts
        ∙ came_behind interrupts_changed (turn_on no_files v.pages (numbered interrupt_calls number (asks v who regs))) new a w.answered w.left

    pub clock_went : family_of number ≡ Some Clock → (tree : PlainTree) (a : Answer)
        → (let c = turn_on no_files v.pages (numbered clock_calls number (asks_clock v who regs)) in (a ≡ answer_of c.end) × (tree ≡ parts_behind clock_changed v.tree v.tree c.end))
        → call_turned key v who regs number ≡ answered_turn (record v { tree = tree }) who a
    clock_went clocks tree a w =
        let c = turn_on no_files v.pages (numbered clock_calls number (asks_clock v who regs)) in
        of_family (Some Clock) clocks
        ∙ came_behind sleeps_changed c (record v { tree = tree }) a w.0
        (ap (λ (x : PlainTree). record v { tree = x }) w.1
        ∙ sym (ap (λ (q : NumberedPages). parts_behind sleeps_changed v (record v { pages = q }) c.end) (clock_makes_none v.pages number (asks_clock v who regs)) ∙ sleeps_behind v c.end))

    pub maps_went : family_of number ≡ Some Maps → (q : NumberedPages) (a : Answer)
        → (let c = turn_on (files_seen key v who) v.pages (map_call number (asks_maps v who regs)) in Went (map_changed key) v.pages c.pages q a c.end)
        → call_turned key v who regs number ≡ answered_turn (record v { pages = q }) who a
    maps_went maps q a w =
        of_family (Some Maps) maps
        ∙ came_behind (pages_changed key) (turn_on (files_seen key v who) v.pages (map_call number (asks_maps v who regs))) (record v { pages = q }) a w.answered
        (ap (λ (r : NumberedPages). record v { pages = r }) w.left
        ∙ sym (pages_behind key v (turn_on (files_seen key v who) v.pages (map_call number (asks_maps v who regs))).pages (turn_on (files_seen key v who) v.pages (map_call number (asks_maps v who regs))).end))

    pub errors_went : family_of number ≡ Some Errors → (a : Answer) → a ≡ answer_of (turn_on no_files v.pages (file_call number (asks v who regs))).end → call_turned key v who regs number ≡ answered_turn v who a
    errors_went errors a is = of_family (Some Errors) errors ∙ own_behind (file_call number (asks v who regs)) (file_makes_none v.pages number (asks v who regs)) a is

    pub jfns_went : family_of number ≡ Some Jfns → (part : FileParts nat_cmp) (a : Answer)
        → (let c = turn_on (names_seen v who) v.pages (jfn_call number (asks_jfns v who regs)) in Went (file_changed key) (filed_of v) (record (filed_of v) { pages = c.pages }) part a c.end)
        → call_turned key v who regs number ≡ answered_turn (with_filed v part) who a
    jfns_went jfns part a w =
        of_family (Some Jfns) jfns
        ∙ came_behind (jfns_changed key) (turn_on (names_seen v who) v.pages (jfn_call number (asks_jfns v who regs))) (with_filed v part) a w.answered
        (ap (with_filed v) w.left
        ∙ sym (jfns_behind key v (turn_on (names_seen v who) v.pages (jfn_call number (asks_jfns v who regs))).pages (turn_on (names_seen v who) v.pages (jfn_call number (asks_jfns v who regs))).end))

    pub bytes_went : family_of number ≡ Some Bytes → (part : FileParts nat_cmp) (a : Answer) → BytesWent byte_calls part a → call_turned key v who regs number ≡ answered_turn (with_filed v part) who a
    bytes_went bytes part a w = of_family (Some Bytes) bytes ∙ bytes_left byte_calls part a w

    pub strings_went : family_of number ≡ Some Strings → (part : FileParts nat_cmp) (a : Answer) → BytesWent string_calls part a → call_turned key v who regs number ≡ answered_turn (with_filed v part) who a
    strings_went strings part a w = of_family (Some Strings) strings ∙ bytes_left string_calls part a w

    -- a number that is no call
    pub none_went : family_of number ≡ None → call_turned key v who regs number ≡ answered_turn v who (answer.Trap ILLEGAL_INSTRUCTION)
    none_went none = of_family None none
