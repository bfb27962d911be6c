use Rattle.std.proofs.Common.{◌≡◌, ℕ, ◌<◌, ◌∙◌, length, None, Option, Some, inl, refl, sym, ap, subst, arith, length-set}
use Rattle.std.specs.Prelude.{IsSome}
use Rattle.plain_model.specs.ByteCalls.{ByteAsked, byte_call}
use Rattle.plain_model.specs.MapCalls.{MapAsked, map_call}
use Rattle.plain_model.specs.StringCalls.{string_call}
use Rattle.plain_model.specs.Trees.{PlainTree}
use Rattle.page_contracts.specs.Pages.{PagesMeaning}
use Rattle.machine_names.specs.declared.names.ForkName.{ForkName}
use Rattle.ka10_unit.proofs.Carried.{grows_none, grows_within}
use Rattle.call_turns.specs.declared.family.CallFamily.{CallFamily}
use Rattle.call_turns.specs.declared.family.CallFamily.TheVariants.{Forks, Interrupts, Clock, Maps, Jfns, Bytes, Strings}
use Rattle.call_turns.specs.Families.{family_of}
use Rattle.call_turns.specs.declared.answer.Answer.{Answer}
use Rattle.call_turns.specs.declared.answer.Answer.TheVariants as answer
use Rattle.call_turns.specs.Answers.{IsDone}
use Rattle.ka10_unit.specs.Gathers.{framed}
use Rattle.file_tables.specs.declared.tables.FileTables.{FileTables}
use Rattle.file_tables.specs.Tables.{files_of, open_of}
use Rattle.file_calls.specs.Asking.{asked_of}
use Rattle.file_tables.specs.Keys.{key_of}
use Rattle.file_calls.specs.Turning.{Stays, TextNeeds}
use Rattle.file_bytes.specs.Asking.{asked_on}
use Rattle.file_bytes.specs.Turning.{ByteNeeds, Stays as StaysWhole}
use Rattle.string_io.specs.Turning.{StringNeeds, string_frames}
use Rattle.plain_model.specs.Calls.{numbered}
use Rattle.plain_model.specs.InterruptCalls.{interrupt_calls}
use Rattle.job_forks.specs.Asking.{asked as asked_by}
use Rattle.psi_calls.specs.Turning.{PsiNeeds, Stays as StaysAll, psi_frames}
use Rattle.fork_tree.proofs.Slots.{some_of}
use Rattle.job_forks.specs.Holding.{CallLeaves, Holds, SamePlaces}
use Rattle.job_forks.proofs.Branch.{plans_none}
use Rattle.job_forks.proofs.CallLeaving.{grown_leaves}
use Rattle.fork_calls.proofs.Needed.{answer_more, done_needs}
use Rattle.pmap_calls.specs.Asking.{asked}
use Rattle.pmap_calls.specs.Making.{MapNeeds}
use Rattle.monitor_calls.proofs.CodeTurns.{fork_turned, has_codes, interrupt_turned, typed_stay}
use Rattle.monitor_calls.proofs.ReachDid.{job_reaches, made_family, made_is}
use Rattle.job_forks.proofs.Holdings.{holds_same}
use Rattle.plain_model.specs.Forks.{ForkMap}
use Rattle.plain_model.specs.declared.fork.Fork.{Fork}
use Rattle.std.specs.FinMap as map
use Rattle.std.specs.Option.{option_map}
use Rattle.monitor_calls.proofs.Calling.{clock_went, done_so, errors_went, has_regs, none_went, print_went}
use Rattle.monitor_calls.specs.Limits.{unit_frames}
use Rattle.monitor_calls.specs.ForkUnit.{Tables, line_behind, parts_in, rest_of}
use Rattle.monitor_calls.specs.Jobs.{job_at, jobs_of}
use Rattle.monitor_calls.specs.Makings.{most_makings}
use Rattle.monitor_calls.proofs.ByteTurns.{byte_turned, bytes_asked, has_line, string_turned}
use Rattle.monitor_calls.proofs.JfnTurns.{jfn_turned}
use Rattle.monitor_calls.proofs.MapTurns.{map_grows, map_turned, map_unmade, maps_asked}
use Rattle.monitor_calls.proofs.WhyNeeded.{by_family, no_reason, reason_of}
use Rattle.monitor_calls.proofs.JfnsAsked.{dir_stays, jobs_held, numbers_follow, still_unheld}
use Rattle.monitor_calls.proofs.Sounds.{entry_read, job_read, typing_read}
use Rattle.monitor_calls.proofs.calls.turn.Goals as goal

-- a call is of this family
of_call : (number : ℕ) {f g : CallFamily} → Some f ≡ family_of number → f ≡ g → family_of number ≡ Some g
of_call number its is = sym its ∙ ap Some is

-- the files behind a turn that is done, or needs something first
by_answer : {P X : Type 0} (old new : P) (tables tables' : FileTables) (a : Answer) → (IsDone a → X) → (tables' ≡ tables → X) → Stays old new tables tables' a → X
by_answer old new tables tables' (answer.Need n) done waits stays = waits stays.1
by_answer old new tables tables' (answer.After regs out post) done waits stays = done tt
by_answer old new tables tables' (answer.Wait on) done waits stays = done tt
by_answer old new tables tables' answer.Halt done waits stays = done tt
by_answer old new tables tables' (answer.Refused code) done waits stays = done tt
by_answer old new tables tables' (answer.Failed code) done waits stays = done tt
by_answer old new tables tables' (answer.Trap channel) done waits stays = done tt

-- nothing was changed
nothing_left : {P : Type 0} (means : PagesMeaning P) (who : ForkName) (tree : PlainTree) (p : P) → Holds means p tree.forks → CallLeaves means p p tree tree who most_makings
nothing_left means who tree p holds = grown_leaves means who tree most_makings p p (grows_within means who.tty 0 most_makings p p (omega arith) (grows_none means who.tty p)) holds

-- who lived lives on, where each fork stays in its slot
still_there : (old new : ForkMap) → SamePlaces old new → (name : ForkName) → IsSome (map.get old name) → IsSome (map.get new name)
still_there old new same name there = by (map.get new name) (same name ∙ ap (option_map (λ (f : Fork). f.slot)) (some_of (map.get old name) there).1)
  where
    by : (o : Option Fork) → option_map (λ (f : Fork). f.slot) o ≡ Some (some_of (map.get old name) there).0.slot → IsSome o
    by None none = absurd (cc none)
    by (Some f) is = refl

pub returns-in-Printing-clause-told : goal.returns-in-Printing-clause-told
returns-in-Printing-clause-told g c =
    let was : Tables = record { tree = c.args.tree.now; files = c.args.files.now; jobs = c.args.jobs.now.items; typed = c.args.typed.now.items; clock = c.args.clock } in
    record {
      fits = λ d fits. fits;
      told = λ d fits.
          let p = g.P.Pages.means.plain c.args.pages.now d in
          done_so (key_of was.files) _ _ c.args.who c.args.regs.now c.args.number c.print_call.result c.print_call.ensures.done
          (print_went (key_of was.files) (parts_in (rest_of was) p) c.args.who c.args.regs.now c.args.number (of_call c.args.number c.in-Some.ensures c.in-Printing.is) c.print_call.result (c.print_call.ensures.told p));
      numbers = λ d fits. dir_stays was.files was.files refl;
    }

pub returns-in-Printing-clause-leaves : goal.returns-in-Printing-clause-leaves
returns-in-Printing-clause-leaves g c = nothing_left g.P.Pages.means c.args.who c.args.tree.now c.args.pages.now c.requires.holds

pub returns-in-Forks-clause-told : goal.returns-in-Forks-clause-told
returns-in-Forks-clause-told g c =
    let means = g.P.Pages.means in
    let was : Tables = record { tree = c.args.tree.now; files = c.args.files.now; jobs = c.args.jobs.now.items; typed = c.args.typed.now.items; clock = c.args.clock } in
    let who = c.args.who in
    let turn = c.fork_turn in
    let typing = c.index_mut.result.now in
    let job = c.requires.job in
    let at = typing_read was.typed who.tty.0 typing job.typing_room job.terminal c.index_mut.ensures.value in
    let j = some_of (job_at was.jobs who.tty.0) job.there in
    record {
      fits = λ d fits. (turn.ensures.told d fits).0;
      told = λ d fits.
          let p = means.plain c.args.pages.now d in
          let q = means.plain turn.new.pages d in
          fork_turned was who c.args.regs.now c.args.number j.0 j.1 typing at (subst (λ n. who.tty.0 < n) (sym job.room) job.terminal) (subst (λ n. who.tty.0 < n) (sym job.typing_room) job.terminal) turn.new.line turn.ensures.input turn.ensures.trees p turn.new.tree
          (of_call c.args.number c.in-Some.ensures c.in-Forks.is) _ q turn.result turn.ensures.line (turn.ensures.told d fits).1;
      numbers = λ d fits. dir_stays was.files was.files refl;
    }

-- a call that may make fewer pages leaves what one leaves that may make as many as any
leaves_more : {P : Type 0} (means : PagesMeaning P) (p q : P) (tree tree' : PlainTree) (who : ForkName) → CallLeaves means p q tree tree' who 128 → CallLeaves means p q tree tree' who most_makings
leaves_more means p q tree tree' who left = record { holds = left.holds; kept = left.kept; caller = left.caller; tops = left.tops; others = left.others; loses = left.loses; made = record { most = left.made.most; serial = omega (arith, left.made.serial); serials = left.made.serials } }

pub returns-in-Forks-clause-leaves : goal.returns-in-Forks-clause-leaves
returns-in-Forks-clause-leaves g c =
    leaves_more g.P.Pages.means c.args.pages.now c.fork_turn.new.pages c.args.tree.now c.fork_turn.new.tree c.args.who c.fork_turn.ensures.leaves

pub returns-in-Forks-clause-untyped : goal.returns-in-Forks-clause-untyped
returns-in-Forks-clause-untyped g c n is =
    let typing = c.index_mut.result.now in
    typed_stay c.args.typed.now.items c.args.who.tty.0 typing c.fork_turn.new.line c.index_mut.ensures.value (c.fork_turn.ensures.line ∙ ap (λ a. line_behind c.args.number a c.fork_turn.new.tree.forks typing.input) is)

pub returns-in-Forks-clause-typing_room : goal.returns-in-Forks-clause-typing_room
returns-in-Forks-clause-typing_room g c = length-set c.args.typed.now.items c.args.who.tty.0 (record c.index_mut.result.now { input = c.fork_turn.new.line }) ∙ c.requires.job.typing_room

pub returns-in-Interrupts-clause-told : goal.returns-in-Interrupts-clause-told
returns-in-Interrupts-clause-told g c =
    let means = g.P.Pages.means in
    let was : Tables = record { tree = c.args.tree.now; files = c.args.files.now; jobs = c.args.jobs.now.items; typed = c.args.typed.now.items; clock = c.args.clock } in
    let who = c.args.who in
    let call = c.call in
    let typing = c.index_mut-in-Interrupts.result.now in
    let job = c.requires.job in
    let at = typing_read was.typed who.tty.0 typing job.typing_room job.terminal c.index_mut-in-Interrupts.ensures.value in
    let j = some_of (job_at was.jobs who.tty.0) job.there in
    let low = subst (λ n. who.tty.0 < n) (sym job.room) job.terminal in
    let room = subst (λ n. who.tty.0 < n) (sym job.typing_room) job.terminal in
    record {
      fits = call.ensures.told.fits;
      told = λ d fits.
          let p = means.plain c.args.pages.now d in
          let q = means.plain call.new.pages d in
          interrupt_turned was who c.args.regs.now c.args.number j.0 j.1 typing at low room call.new.line call.ensures.input
          (of_call c.args.number c.in-Some.ensures c.in-Interrupts.is) call.new.tree (PsiNeeds (means.scene c.args.pages.now) p (numbered interrupt_calls c.args.number (asked_by who c.args.regs.now was.tree))) p q call.result
          (call.ensures.told.comes d (files_of was.files) (jobs_of (open_of was.files) was.typed was.jobs) was.clock fits (has_codes was who c.args.regs.now c.args.number j.0 j.1 typing at low room));
      numbers = λ d fits. dir_stays was.files was.files refl;
    }

pub returns-in-Interrupts-clause-leaves : goal.returns-in-Interrupts-clause-leaves
returns-in-Interrupts-clause-leaves g c =
    leaves_more g.P.Pages.means c.args.pages.now c.call.new.pages c.args.tree.now c.call.new.tree c.args.who c.call.ensures.leaves

pub returns-in-Interrupts-clause-untyped : goal.returns-in-Interrupts-clause-untyped
returns-in-Interrupts-clause-untyped g c n is =
    let call = c.call in
    let typing = c.index_mut-in-Interrupts.result.now in
    typed_stay c.args.typed.now.items c.args.who.tty.0 typing call.new.line c.index_mut-in-Interrupts.ensures.value
    (subst (StaysAll c.args.pages.now call.new.pages c.args.tree.now call.new.tree typing.input call.new.line) is call.ensures.stays).2

pub returns-in-Interrupts-clause-typing_room : goal.returns-in-Interrupts-clause-typing_room
returns-in-Interrupts-clause-typing_room g c = length-set c.args.typed.now.items c.args.who.tty.0 (record c.index_mut-in-Interrupts.result.now { input = c.call.new.line }) ∙ c.requires.job.typing_room

pub returns-in-Interrupts-clause-needs : goal.returns-in-Interrupts-clause-needs
returns-in-Interrupts-clause-needs g c = answer_more g.P.Pages.means.store psi_frames c.call.new.pages unit_frames c.call.result (omega arith) c.call.ensures.needs

pub returns-in-Interrupts-clause-unmade : goal.returns-in-Interrupts-clause-unmade
returns-in-Interrupts-clause-unmade g c n is =
    let means = g.P.Pages.means in
    let call = c.call in
    let same = (subst (StaysAll c.args.pages.now call.new.pages c.args.tree.now call.new.tree c.index_mut-in-Interrupts.result.now.input call.new.line) is call.ensures.stays).0 in
    plans_none means c.args.pages.now call.new.pages c.args.who.tty same

-- a turn of a call on the clock
pub returns-in-Clock-clause-told : goal.returns-in-Clock-clause-told
returns-in-Clock-clause-told g c =
    let means = g.P.Pages.means in
    let was : Tables = record { tree = c.args.tree.now; files = c.args.files.now; jobs = c.args.jobs.now.items; typed = c.args.typed.now.items; clock = c.args.clock } in
    let call = c.call-in-Clock in
    record {
      fits = λ d fits. fits;
      told = λ d fits.
          let p = means.plain c.args.pages.now d in
          let v = parts_in (rest_of was) p in
          done_so (key_of was.files) v (record v { tree = call.new.tree }) c.args.who c.args.regs.now c.args.number call.result call.ensures.done
          (clock_went (key_of was.files) v c.args.who c.args.regs.now c.args.number (of_call c.args.number c.in-Some.ensures c.in-Clock.is) call.new.tree call.result (call.ensures.told p));
      numbers = λ d fits. dir_stays was.files was.files refl;
    }

pub returns-in-Clock-clause-needs : goal.returns-in-Clock-clause-needs
returns-in-Clock-clause-needs g c = done_needs g.P.Pages.means.store unit_frames c.args.pages.now c.call-in-Clock.result c.call-in-Clock.ensures.done

pub returns-in-Clock-clause-unmade : goal.returns-in-Clock-clause-unmade
returns-in-Clock-clause-unmade g c n is = plans_none g.P.Pages.means c.args.pages.now c.args.pages.now c.args.who.tty refl

pub returns-in-Clock-clause-leaves : goal.returns-in-Clock-clause-leaves
returns-in-Clock-clause-leaves g c =
    let means = g.P.Pages.means in
    let call = c.call-in-Clock in
    let none = nothing_left means c.args.who c.args.tree.now c.args.pages.now c.requires.holds in
    let same = call.ensures.same in
    record {
      holds = holds_same means c.args.pages.now c.args.tree.now.forks call.new.tree.forks c.are_trees.ensures.slotted call.ensures.trees.slotted same c.requires.holds;
      kept = λ f e. inl (call.ensures.kept f e);
      caller = λ there. still_there c.args.tree.now.forks call.new.tree.forks same c.args.who there;
      tops = λ name top. same name ∙ top;
      others = call.ensures.others;
      made = none.made;
      loses = none.loses;
    }

pub returns-in-Maps-clause-told : goal.returns-in-Maps-clause-told
returns-in-Maps-clause-told g c =
    let means = g.P.Pages.means in
    let was : Tables = record { tree = c.args.tree.now; files = c.args.files.now; jobs = c.args.jobs.now.items; typed = c.args.typed.now.items; clock = c.args.clock } in
    let a = c.call-in-Maps in
    record {
      fits = λ d fits. (a.ensures.told d fits).0;
      told = λ d fits.
          let p = means.plain c.args.pages.now d in
          map_turned was c.args.who c.args.regs.now c.args.number c.requires.job.unheld (of_call c.args.number c.in-Some.ensures c.in-Maps.is)
          (MapNeeds was.files (means.scene c.args.pages.now) p (map_call c.args.number (asked c.args.who c.args.regs.now was.tree was.files))) p (means.plain a.new.pages d) a.result (a.ensures.told d fits).1;
      numbers = λ d fits. dir_stays was.files was.files refl;
    }

pub returns-in-Maps-clause-leaves : goal.returns-in-Maps-clause-leaves
returns-in-Maps-clause-leaves g c =
    let means = g.P.Pages.means in
    let a = c.call-in-Maps in
    grown_leaves means c.args.who c.args.tree.now most_makings c.args.pages.now a.new.pages (map_grows means c.args.who.tty c.args.pages.now a.new.pages a.result a.ensures.made a.ensures.loses) c.requires.holds

pub returns-in-Maps-clause-regs : goal.returns-in-Maps-clause-regs
returns-in-Maps-clause-regs g c = has_regs c.call-in-Maps.result c.call-in-Maps.ensures.fits

pub returns-in-Errors-clause-told : goal.returns-in-Errors-clause-told
returns-in-Errors-clause-told g c =
    let was : Tables = record { tree = c.args.tree.now; files = c.args.files.now; jobs = c.args.jobs.now.items; typed = c.args.typed.now.items; clock = c.args.clock } in
    let a = c.call-in-Errors in
    record {
      fits = λ d fits. fits;
      told = λ d fits.
          let p = g.P.Pages.means.plain c.args.pages.now d in
          done_so (key_of was.files) _ _ c.args.who c.args.regs.now c.args.number a.result a.ensures.done
          (errors_went (key_of was.files) (parts_in (rest_of was) p) c.args.who c.args.regs.now c.args.number (of_call c.args.number c.in-Some.ensures c.in-Errors.is)
          a.result (a.ensures.told p));
      numbers = λ d fits. dir_stays was.files was.files refl;
    }

pub returns-in-Errors-clause-leaves : goal.returns-in-Errors-clause-leaves
returns-in-Errors-clause-leaves g c = nothing_left g.P.Pages.means c.args.who c.args.tree.now c.args.pages.now c.requires.holds

pub returns-in-Errors-clause-regs : goal.returns-in-Errors-clause-regs
returns-in-Errors-clause-regs g c = has_regs c.call-in-Errors.result c.call-in-Errors.ensures.fits

pub returns-in_default-clause-told : goal.returns-in_default-clause-told
returns-in_default-clause-told g c =
    let was : Tables = record { tree = c.args.tree.now; files = c.args.files.now; jobs = c.args.jobs.now.items; typed = c.args.typed.now.items; clock = c.args.clock } in
    record {
      fits = λ d fits. fits;
      told = λ d fits.
          none_went (key_of was.files) (parts_in (rest_of was) (g.P.Pages.means.plain c.args.pages.now d)) c.args.who c.args.regs.now c.args.number (sym c.in_default.ensures);
      numbers = λ d fits. dir_stays was.files was.files refl;
    }

pub returns-in_default-clause-leaves : goal.returns-in_default-clause-leaves
returns-in_default-clause-leaves g c = nothing_left g.P.Pages.means c.args.who c.args.tree.now c.args.pages.now c.requires.holds

pub returns-in-Printing-clause-needs : goal.returns-in-Printing-clause-needs
returns-in-Printing-clause-needs g c = done_needs g.P.Pages.means.store unit_frames c.args.pages.now c.print_call.result c.print_call.ensures.done

pub returns-in-Printing-clause-unmade : goal.returns-in-Printing-clause-unmade
returns-in-Printing-clause-unmade g c n is = plans_none g.P.Pages.means c.args.pages.now c.args.pages.now c.args.who.tty refl

pub returns-in-Maps-clause-needs : goal.returns-in-Maps-clause-needs
returns-in-Maps-clause-needs g c = answer_more g.P.Pages.means.store 1 c.call-in-Maps.new.pages unit_frames c.call-in-Maps.result (omega arith) c.call-in-Maps.ensures.needs

pub returns-in-Maps-clause-unmade : goal.returns-in-Maps-clause-unmade
returns-in-Maps-clause-unmade g c n is = map_unmade g.P.Pages.means c.args.who.tty c.args.pages.now c.call-in-Maps.new.pages c.call-in-Maps.result n is c.call-in-Maps.ensures.made

pub returns-in-Errors-clause-needs : goal.returns-in-Errors-clause-needs
returns-in-Errors-clause-needs g c = done_needs g.P.Pages.means.store unit_frames c.args.pages.now c.call-in-Errors.result c.call-in-Errors.ensures.done

pub returns-in-Errors-clause-unmade : goal.returns-in-Errors-clause-unmade
returns-in-Errors-clause-unmade g c n is = plans_none g.P.Pages.means c.args.pages.now c.args.pages.now c.args.who.tty refl

-- a turn of a call on JFNs
pub returns-in-Some-index-clause-told : goal.returns-in-Some-index-clause-told
returns-in-Some-index-clause-told g c =
    let means = g.P.Pages.means in
    let was : Tables = record { tree = c.args.tree.now; files = c.args.files.now; jobs = c.args.jobs.now.items; typed = c.args.typed.now.items; clock = c.args.clock } in
    let j = c.in-Some-index.job in
    let there = job_read was.jobs c.args.who.tty.0 c.index.result.now j c.requires.job.room c.requires.job.terminal c.index.ensures c.in-Some-index.is in
    let t = c.jfn_call.ensures.told in
    let a = c.jfn_call.result in
    record {
      fits = t.fits;
      told = λ d fits.
          let p = means.plain c.args.pages.now d in
          jfn_turned was c.args.who c.args.regs.now c.args.number j there c.requires.job.unheld (of_call c.args.number c.in-Some.ensures c.in-Jfns.is)
          (TextNeeds (framed means c.args.pages.now d) (asked_of c.args.who c.args.regs.now j.user was.files)) c.jfn_call.new.tables p (means.plain c.jfn_call.new.pages d) a
          (t.comes d (jobs_of (open_of was.files) was.typed was.jobs) fits (jobs_held was.typed was.jobs (open_of was.files) c.requires.job.unheld));
      numbers = λ d fits. by_answer c.args.pages.now c.jfn_call.new.pages was.files c.jfn_call.new.tables a (λ done. numbers_follow was.files c.jfn_call.new.tables _ (t.numbers d fits done)) (λ need. dir_stays was.files c.jfn_call.new.tables (ap (λ (x : FileTables). x.dir) need)) c.jfn_call.ensures.stays;
    }

pub returns-in-Some-index-clause-unheld : goal.returns-in-Some-index-clause-unheld
returns-in-Some-index-clause-unheld g c = still_unheld c.args.files.now c.jfn_call.new.tables c.args.jobs.now.items c.args.typed.now.items c.args.who.tty c.requires.job c.jfn_call.ensures.others

pub returns-in-Some-index-clause-stays : goal.returns-in-Some-index-clause-stays
returns-in-Some-index-clause-stays g c n is = (subst (Stays c.args.pages.now c.jfn_call.new.pages c.args.files.now c.jfn_call.new.tables) is c.jfn_call.ensures.stays).1

pub returns-in-Some-index-clause-leaves : goal.returns-in-Some-index-clause-leaves
returns-in-Some-index-clause-leaves g c = grown_leaves g.P.Pages.means c.args.who c.args.tree.now most_makings c.args.pages.now c.jfn_call.new.pages (grows_within g.P.Pages.means c.args.who.tty 128 most_makings c.args.pages.now c.jfn_call.new.pages (omega arith) c.jfn_call.ensures.grows) c.requires.holds

pub returns-in-Some-index-clause-unmade : goal.returns-in-Some-index-clause-unmade
returns-in-Some-index-clause-unmade g c n is =
    let means = g.P.Pages.means in
    let same = (subst (Stays c.args.pages.now c.jfn_call.new.pages c.args.files.now c.jfn_call.new.tables) is c.jfn_call.ensures.stays).0 in
    plans_none means c.args.pages.now c.jfn_call.new.pages c.args.who.tty same

pub call-requires-in-Maps-clause-terminal : goal.call-requires-in-Maps-clause-terminal
call-requires-in-Maps-clause-terminal g c = c.requires.job.terminal

pub jfn_call-requires-clause-serves : goal.jfn_call-requires-clause-serves
jfn_call-requires-clause-serves g c = record { lives = c.requires.holds.living c.args.who ∙ c.requires.lives; terminal = c.requires.job.terminal }

pub unreachable-requires : goal.unreachable-requires
unreachable-requires g c =
    let none = entry_read c.args.jobs.now.items c.args.who.tty.0 c.index.result.now c.requires.job.room c.requires.job.terminal c.index.ensures ∙ c.in_default-index.is in
    let there = subst IsSome none c.requires.job.there in cc there

-- a turn of a call on bytes
pub returns-in-Bytes-clause-told : goal.returns-in-Bytes-clause-told
returns-in-Bytes-clause-told g c =
    let means = g.P.Pages.means in
    let was : Tables = record { tree = c.args.tree.now; files = c.args.files.now; jobs = c.args.jobs.now.items; typed = c.args.typed.now.items; clock = c.args.clock } in
    let who = c.args.who in
    let job = c.requires.job in
    let j = some_of (job_at was.jobs who.tty.0) job.there in
    let typing = c.index_mut-in-Bytes.result.now in
    let at = typing_read was.typed who.tty.0 typing job.typing_room job.terminal c.index_mut-in-Bytes.ensures.value in
    let call = c.call-in-Bytes in
    let within : who.tty.0 < length was.jobs = omega (arith, job.room, job.terminal) in
    let typing_within : who.tty.0 < length was.typed = omega (arith, job.typing_room, job.terminal) in
    record {
      fits = call.ensures.told.fits;
      told = λ d fits.
          let p = means.plain c.args.pages.now d in
          byte_turned was who c.args.regs.now c.args.number j.0 j.1 job.unheld typing at call.new.tables call.new.input call.ensures.others within typing_within
          (of_call c.args.number c.in-Some.ensures c.in-Bytes.is)
          (ByteNeeds was.files (means.scene c.args.pages.now) p (byte_call c.args.number (asked_on who c.args.regs.now was.files typing.input.input p))) p (means.plain call.new.pages d) call.result
          (call.ensures.told.comes d (jobs_of (open_of was.files) was.typed was.jobs) fits (has_line was who c.args.regs.now c.args.number j.0 j.1 job.unheld typing at));
      numbers = λ d fits. dir_stays was.files call.new.tables call.ensures.others.dir;
    }

pub returns-in-Bytes-clause-unheld : goal.returns-in-Bytes-clause-unheld
returns-in-Bytes-clause-unheld g c = still_unheld c.args.files.now c.call-in-Bytes.new.tables c.args.jobs.now.items c.args.typed.now.items c.args.who.tty c.requires.job c.call-in-Bytes.ensures.others.jfns

pub returns-in-Bytes-clause-stays : goal.returns-in-Bytes-clause-stays
returns-in-Bytes-clause-stays g c n is =
    let call = c.call-in-Bytes in
    (subst (StaysWhole c.args.pages.now call.new.pages c.args.files.now call.new.tables c.index_mut-in-Bytes.result.now.input call.new.input) is call.ensures.stays).1

pub returns-in-Bytes-clause-untyped : goal.returns-in-Bytes-clause-untyped
returns-in-Bytes-clause-untyped g c n is =
    let call = c.call-in-Bytes in
    let typing = c.index_mut-in-Bytes.result.now in
    typed_stay c.args.typed.now.items c.args.who.tty.0 typing call.new.input c.index_mut-in-Bytes.ensures.value (subst (StaysWhole c.args.pages.now call.new.pages c.args.files.now call.new.tables typing.input call.new.input) is call.ensures.stays).2

pub returns-in-Bytes-clause-typing_room : goal.returns-in-Bytes-clause-typing_room
returns-in-Bytes-clause-typing_room g c = length-set c.args.typed.now.items c.args.who.tty.0 (record c.index_mut-in-Bytes.result.now { input = c.call-in-Bytes.new.input }) ∙ c.requires.job.typing_room

pub returns-in-Bytes-clause-needs : goal.returns-in-Bytes-clause-needs
returns-in-Bytes-clause-needs g c = answer_more g.P.Pages.means.store 1 c.call-in-Bytes.new.pages unit_frames c.call-in-Bytes.result (omega arith) c.call-in-Bytes.ensures.needs

pub returns-in-Bytes-clause-unmade : goal.returns-in-Bytes-clause-unmade
returns-in-Bytes-clause-unmade g c n is = map_unmade g.P.Pages.means c.args.who.tty c.args.pages.now c.call-in-Bytes.new.pages c.call-in-Bytes.result n is c.call-in-Bytes.ensures.made

pub returns-in-Bytes-clause-leaves : goal.returns-in-Bytes-clause-leaves
returns-in-Bytes-clause-leaves g c =
    let means = g.P.Pages.means in
    let call = c.call-in-Bytes in
    grown_leaves means c.args.who c.args.tree.now most_makings c.args.pages.now call.new.pages (map_grows means c.args.who.tty c.args.pages.now call.new.pages call.result call.ensures.made call.ensures.loses) c.requires.holds

pub returns-in-Bytes-clause-regs : goal.returns-in-Bytes-clause-regs
returns-in-Bytes-clause-regs g c = has_regs c.call-in-Bytes.result c.call-in-Bytes.ensures.fits

-- a turn of a call on strings
pub returns-in-Strings-clause-told : goal.returns-in-Strings-clause-told
returns-in-Strings-clause-told g c =
    let means = g.P.Pages.means in
    let was : Tables = record { tree = c.args.tree.now; files = c.args.files.now; jobs = c.args.jobs.now.items; typed = c.args.typed.now.items; clock = c.args.clock } in
    let who = c.args.who in
    let job = c.requires.job in
    let j = some_of (job_at was.jobs who.tty.0) job.there in
    let typing = c.index_mut-in-Strings.result.now in
    let at = typing_read was.typed who.tty.0 typing job.typing_room job.terminal c.index_mut-in-Strings.ensures.value in
    let call = c.call-in-Strings in
    let within : who.tty.0 < length was.jobs = omega (arith, job.room, job.terminal) in
    let typing_within : who.tty.0 < length was.typed = omega (arith, job.typing_room, job.terminal) in
    record {
      fits = call.ensures.told.fits;
      told = λ d fits.
          let p = means.plain c.args.pages.now d in
          string_turned was who c.args.regs.now c.args.number j.0 j.1 job.unheld typing at call.new.tables call.new.input call.ensures.others within typing_within
          (of_call c.args.number c.in-Some.ensures c.in-Strings.is)
          (StringNeeds was.files (means.scene c.args.pages.now) p (string_call c.args.number (asked_on who c.args.regs.now was.files typing.input.input p))) p (means.plain call.new.pages d) call.result
          (call.ensures.told.comes d (jobs_of (open_of was.files) was.typed was.jobs) fits (has_line was who c.args.regs.now c.args.number j.0 j.1 job.unheld typing at));
      numbers = λ d fits. dir_stays was.files call.new.tables call.ensures.others.dir;
    }

pub returns-in-Strings-clause-needs : goal.returns-in-Strings-clause-needs
returns-in-Strings-clause-needs g c = answer_more g.P.Pages.means.store string_frames c.call-in-Strings.new.pages unit_frames c.call-in-Strings.result (omega arith) c.call-in-Strings.ensures.needs

pub returns-in-Strings-clause-unheld : goal.returns-in-Strings-clause-unheld
returns-in-Strings-clause-unheld g c = still_unheld c.args.files.now c.call-in-Strings.new.tables c.args.jobs.now.items c.args.typed.now.items c.args.who.tty c.requires.job c.call-in-Strings.ensures.others.jfns

pub returns-in-Strings-clause-stays : goal.returns-in-Strings-clause-stays
returns-in-Strings-clause-stays g c n is =
    let call = c.call-in-Strings in
    (subst (StaysWhole c.args.pages.now call.new.pages c.args.files.now call.new.tables c.index_mut-in-Strings.result.now.input call.new.input) is call.ensures.stays).1

pub returns-in-Strings-clause-untyped : goal.returns-in-Strings-clause-untyped
returns-in-Strings-clause-untyped g c n is =
    let call = c.call-in-Strings in
    let typing = c.index_mut-in-Strings.result.now in
    typed_stay c.args.typed.now.items c.args.who.tty.0 typing call.new.input c.index_mut-in-Strings.ensures.value (subst (StaysWhole c.args.pages.now call.new.pages c.args.files.now call.new.tables typing.input call.new.input) is call.ensures.stays).2

pub returns-in-Strings-clause-typing_room : goal.returns-in-Strings-clause-typing_room
returns-in-Strings-clause-typing_room g c = length-set c.args.typed.now.items c.args.who.tty.0 (record c.index_mut-in-Strings.result.now { input = c.call-in-Strings.new.input }) ∙ c.requires.job.typing_room

pub returns-in-Strings-clause-unmade : goal.returns-in-Strings-clause-unmade
returns-in-Strings-clause-unmade g c n is =
    let means = g.P.Pages.means in
    let call = c.call-in-Strings in
    let same = (subst (StaysWhole c.args.pages.now call.new.pages c.args.files.now call.new.tables c.index_mut-in-Strings.result.now.input call.new.input) is call.ensures.stays).0 in
    plans_none means c.args.pages.now call.new.pages c.args.who.tty same

pub returns-in-Strings-clause-leaves : goal.returns-in-Strings-clause-leaves
returns-in-Strings-clause-leaves g c = grown_leaves g.P.Pages.means c.args.who c.args.tree.now most_makings c.args.pages.now c.call-in-Strings.new.pages c.call-in-Strings.ensures.grows c.requires.holds

pub call-requires-in-Strings-clause-serves : goal.call-requires-in-Strings-clause-serves
call-requires-in-Strings-clause-serves g c = record { lives = c.requires.holds.living c.args.who ∙ c.requires.lives; terminal = c.requires.job.terminal }

pub returns-in-Forks-clause-own : goal.returns-in-Forks-clause-own
returns-in-Forks-clause-own g c own = absurd (job_reaches c.args.number (Some Forks) (of_call c.args.number c.in-Some.ensures c.in-Forks.is) refl own)

pub returns-in-Interrupts-clause-own : goal.returns-in-Interrupts-clause-own
returns-in-Interrupts-clause-own g c own = absurd (job_reaches c.args.number (Some Interrupts) (of_call c.args.number c.in-Some.ensures c.in-Interrupts.is) refl own)

pub returns-in-Clock-clause-own : goal.returns-in-Clock-clause-own
returns-in-Clock-clause-own g c own = absurd (job_reaches c.args.number (Some Clock) (of_call c.args.number c.in-Some.ensures c.in-Clock.is) refl own)

-- one call alone makes a fork, and is a fork call
pub returns-in-Forks-clause-made : goal.returns-in-Forks-clause-made
returns-in-Forks-clause-made g c made = c.fork_turn.ensures.adds (made_is c.args.number made)

pub returns-in-Interrupts-clause-made : goal.returns-in-Interrupts-clause-made
returns-in-Interrupts-clause-made g c made = (let both : Some Forks ≡ Some Interrupts = sym (made_family c.args.number made) ∙ of_call c.args.number c.in-Some.ensures c.in-Interrupts.is in absurd (cc both))

pub returns-in-Clock-clause-made : goal.returns-in-Clock-clause-made
returns-in-Clock-clause-made g c made = (let both : Some Forks ≡ Some Clock = sym (made_family c.args.number made) ∙ of_call c.args.number c.in-Some.ensures c.in-Clock.is in absurd (cc both))

-- ---- why something is needed first

pub returns-in_default-clause-reason : goal.returns-in_default-clause-reason
returns-in_default-clause-reason g c n is = no_reason tt is

pub returns-in-Printing-clause-reason : goal.returns-in-Printing-clause-reason
returns-in-Printing-clause-reason g c n is = no_reason c.print_call.ensures.done is

pub returns-in-Clock-clause-reason : goal.returns-in-Clock-clause-reason
returns-in-Clock-clause-reason g c n is = no_reason c.call-in-Clock.ensures.done is

pub returns-in-Errors-clause-reason : goal.returns-in-Errors-clause-reason
returns-in-Errors-clause-reason g c n is = no_reason c.call-in-Errors.ensures.done is

pub returns-in-Forks-clause-reason : goal.returns-in-Forks-clause-reason
returns-in-Forks-clause-reason g c n is d fits =
    let means = g.P.Pages.means in
    let was : Tables = record { tree = c.args.tree.now; files = c.args.files.now; jobs = c.args.jobs.now.items; typed = c.args.typed.now.items; clock = c.args.clock } in
    let pages = c.args.pages.now in
    by_family (Some Forks) was.files (means.scene pages) (parts_in (rest_of was) (means.plain pages d)) c.args.who c.args.regs.now c.args.number n (of_call c.args.number c.in-Some.ensures c.in-Forks.is) (reason_of n is (c.fork_turn.ensures.told d fits).1)

pub returns-in-Interrupts-clause-reason : goal.returns-in-Interrupts-clause-reason
returns-in-Interrupts-clause-reason g c n is d fits =
    let means = g.P.Pages.means in
    let was : Tables = record { tree = c.args.tree.now; files = c.args.files.now; jobs = c.args.jobs.now.items; typed = c.args.typed.now.items; clock = c.args.clock } in
    let who = c.args.who in
    let pages = c.args.pages.now in
    let typing = c.index_mut-in-Interrupts.result.now in
    let job = c.requires.job in
    let at = typing_read was.typed who.tty.0 typing job.typing_room job.terminal c.index_mut-in-Interrupts.ensures.value in
    let j = some_of (job_at was.jobs who.tty.0) job.there in
    let low = subst (λ n. who.tty.0 < n) (sym job.room) job.terminal in
    let room = subst (λ n. who.tty.0 < n) (sym job.typing_room) job.terminal in
    by_family (Some Interrupts) was.files (means.scene pages) (parts_in (rest_of was) (means.plain pages d)) who c.args.regs.now c.args.number n (of_call c.args.number c.in-Some.ensures c.in-Interrupts.is)
    (reason_of n is (c.call.ensures.told.comes d (files_of was.files) (jobs_of (open_of was.files) was.typed was.jobs) was.clock fits (has_codes was who c.args.regs.now c.args.number j.0 j.1 typing at low room)))

pub returns-in-Maps-clause-reason : goal.returns-in-Maps-clause-reason
returns-in-Maps-clause-reason g c n is d fits =
    let means = g.P.Pages.means in
    let was : Tables = record { tree = c.args.tree.now; files = c.args.files.now; jobs = c.args.jobs.now.items; typed = c.args.typed.now.items; clock = c.args.clock } in
    let pages = c.args.pages.now in
    let p = means.plain pages d in
    by_family (Some Maps) was.files (means.scene pages) (parts_in (rest_of was) p) c.args.who c.args.regs.now c.args.number n (of_call c.args.number c.in-Some.ensures c.in-Maps.is)
    (subst (λ (a : MapAsked). MapNeeds was.files (means.scene pages) p (map_call c.args.number a) n) (sym (maps_asked was c.args.who c.args.regs.now c.args.number c.requires.job.unheld p)) (reason_of n is (c.call-in-Maps.ensures.told d fits).1))

pub returns-in-Some-index-clause-reason : goal.returns-in-Some-index-clause-reason
returns-in-Some-index-clause-reason g c n is d fits =
    let means = g.P.Pages.means in
    let was : Tables = record { tree = c.args.tree.now; files = c.args.files.now; jobs = c.args.jobs.now.items; typed = c.args.typed.now.items; clock = c.args.clock } in
    let pages = c.args.pages.now in
    by_family (Some Jfns) was.files (means.scene pages) (parts_in (rest_of was) (means.plain pages d)) c.args.who c.args.regs.now c.args.number n (of_call c.args.number c.in-Some.ensures c.in-Jfns.is)
    (c.jfn_call.ensures.reads n is, reason_of n is (c.jfn_call.ensures.told.comes d (jobs_of (open_of was.files) was.typed was.jobs) fits (jobs_held was.typed was.jobs (open_of was.files) c.requires.job.unheld)))

pub returns-in-Bytes-clause-reason : goal.returns-in-Bytes-clause-reason
returns-in-Bytes-clause-reason g c n is d fits =
    let means = g.P.Pages.means in
    let was : Tables = record { tree = c.args.tree.now; files = c.args.files.now; jobs = c.args.jobs.now.items; typed = c.args.typed.now.items; clock = c.args.clock } in
    let who = c.args.who in
    let job = c.requires.job in
    let j = some_of (job_at was.jobs who.tty.0) job.there in
    let typing = c.index_mut-in-Bytes.result.now in
    let at = typing_read was.typed who.tty.0 typing job.typing_room job.terminal c.index_mut-in-Bytes.ensures.value in
    let pages = c.args.pages.now in
    let p = means.plain pages d in
    by_family (Some Bytes) was.files (means.scene pages) (parts_in (rest_of was) p) who c.args.regs.now c.args.number n (of_call c.args.number c.in-Some.ensures c.in-Bytes.is)
    (subst (λ (a : ByteAsked). ByteNeeds was.files (means.scene pages) p (byte_call c.args.number a) n) (sym (bytes_asked was who c.args.regs.now c.args.number j.0 j.1 job.unheld typing at p))
    (reason_of n is (c.call-in-Bytes.ensures.told.comes d (jobs_of (open_of was.files) was.typed was.jobs) fits (has_line was who c.args.regs.now c.args.number j.0 j.1 job.unheld typing at))))

pub returns-in-Strings-clause-reason : goal.returns-in-Strings-clause-reason
returns-in-Strings-clause-reason g c n is d fits =
    let means = g.P.Pages.means in
    let was : Tables = record { tree = c.args.tree.now; files = c.args.files.now; jobs = c.args.jobs.now.items; typed = c.args.typed.now.items; clock = c.args.clock } in
    let who = c.args.who in
    let job = c.requires.job in
    let j = some_of (job_at was.jobs who.tty.0) job.there in
    let typing = c.index_mut-in-Strings.result.now in
    let at = typing_read was.typed who.tty.0 typing job.typing_room job.terminal c.index_mut-in-Strings.ensures.value in
    let pages = c.args.pages.now in
    let p = means.plain pages d in
    by_family (Some Strings) was.files (means.scene pages) (parts_in (rest_of was) p) who c.args.regs.now c.args.number n (of_call c.args.number c.in-Some.ensures c.in-Strings.is)
    (subst (λ (a : ByteAsked). StringNeeds was.files (means.scene pages) p (string_call c.args.number a) n) (sym (bytes_asked was who c.args.regs.now c.args.number j.0 j.1 job.unheld typing at p))
    (reason_of n is (c.call-in-Strings.ensures.told.comes d (jobs_of (open_of was.files) was.typed was.jobs) fits (has_line was who c.args.regs.now c.args.number j.0 j.1 job.unheld typing at))))

-- where something is needed first, the tree is as it was
pub returns-in-Forks-clause-left : goal.returns-in-Forks-clause-left
returns-in-Forks-clause-left g c n is = c.fork_turn.ensures.left n is

pub returns-in-Interrupts-clause-left : goal.returns-in-Interrupts-clause-left
returns-in-Interrupts-clause-left g c n is =
    let call = c.call in
    (subst (StaysAll c.args.pages.now call.new.pages c.args.tree.now call.new.tree c.index_mut-in-Interrupts.result.now.input call.new.line) is call.ensures.stays).1

pub returns-in-Clock-clause-left : goal.returns-in-Clock-clause-left
returns-in-Clock-clause-left g c n is = absurd (subst IsDone is c.call-in-Clock.ensures.done)
