use Rattle.std.proofs.Common.{◌≡◌, true, false, not, ◌&&◌, None, refl, sym, ◌∙◌, ap, subst, arith, inl, inr}
use Rattle.std.specs.Prelude.{is_some}
use Rattle.std.specs.FinMap as map
use Rattle.plain_model.specs.declared.call.TheConstants.{NO_ROOM}
use Rattle.plain_model.specs.declared.call.End.TheVariants.{Done, Failed}
use Rattle.plain_model.specs.declared.call.ForkChange.{ForkChange}
use Rattle.plain_model.specs.declared.call.ForkChange.TheVariants.{Make}
use Rattle.machine_names.specs.declared.names.ForkName.{ForkName}
use Rattle.machine_names.specs.declared.names.PageName.{PageName}
use Rattle.machine_names.specs.declared.names.Tty.{Tty}
use Rattle.plain_pages.specs.declared.map.NewMap.{NewMap}
use Rattle.plain_units.specs.declared.registers.Regs.{Regs}
use Rattle.plain_model.specs.Forks.{ForkMap, OthersStay}
use Rattle.machine_names.specs.Bounds.{IsForkName}
use Rattle.machine_names.specs.Orders.{same_fork}
use Rattle.plain_pages.specs.NewMaps.{with_map}
use Rattle.plain_pages.specs.Room.{HasRoom}
use Rattle.plain_pages.specs.References.{without_fork}
use Rattle.page_contracts.specs.declared.answers.Need.TheVariants.{Frame}
use Rattle.page_contracts.proofs.Losing.{needed_more}
use Rattle.page_contracts.proofs.MapsBack.{added_and_dropped}
use Rattle.page_contracts.specs.Changes.{ForkDropped}
use Rattle.page_contracts.specs.Pages.{IsNewMap, MayLose, NamesPage, PagesMeaning, TakesMap}
use Rattle.plain_model.specs.Trees.{PlainTree, next_name}
use Rattle.plain_model.specs.ForkCalls.{made_fork, map_wanted}
use Rattle.plain_model.proofs.OtherJobs.{others_itself, put_others}
use Rattle.call_turns.specs.Answers.{AnswerNeeds, IsDone, answer_of}
use Rattle.ka10_unit.specs.Carrying.{Grows}
use Rattle.ka10_unit.specs.Gathers.{framed}
use Rattle.ka10_unit.specs.Taking.{read_frames}
use Rattle.ka10_spots.proofs.Stored.{lost_on}
use Rattle.fork_tree.specs.Making.{AddsLast}
use Rattle.fork_tree.specs.Trees.{AreSlotted, IsTree}
use Rattle.fork_tree.proofs.Kept.{name_unused}
use Rattle.fork_tree.proofs.Slots.{held_lives, some_of}
use Rattle.job_forks.specs.Asking.{asked}
use Rattle.job_forks.specs.Holding.{ComeOrNew, Holds, MakesPages, TopsStay, parts}
use Rattle.fork_calls.specs.Needing.{making_frames}
use Rattle.fork_calls.specs.Steps.{made_where, second_regs}
use Rattle.fork_calls.proofs.Adding.{adds_made, adds_nobody}
use Rattle.fork_calls.proofs.Added.{added_dropped, added_holds, back_holds, enough_room, few_forks, no_frame, no_room, not_there, room_told}
use Rattle.job_forks.proofs.Branch.{made_on, none_made, plans_none}
use Rattle.job_forks.proofs.CallLeaving.{grown_leaves, none_grown}
use Rattle.fork_calls.proofs.Going.{goes, stops}
use Rattle.fork_calls.proofs.Grown.{slot_told}
use Rattle.fork_calls.proofs.HomesBack.{homed_back}
use Rattle.job_forks.proofs.Holdings.{grown_made, holds_still}
use Rattle.fork_calls.proofs.MadeTurns.{still_there, made_come, made_full, made_goes, made_new, made_stops, make_changes, wanted_new}
use Rattle.fork_calls.proofs.Needed.{done_needs, dropped_needs}
use Rattle.job_forks.proofs.Places.{came_itself}
use Rattle.job_forks.proofs.Tops.{made_tops}
use Rattle.fork_calls.proofs.TurnBlocks.{turn_stops}
use Rattle.fork_calls.proofs.making.make.Goals as goal

-- the next fork of a terminal doesn't live yet
unborn : {P : Type 0} (means : PagesMeaning P) (pages : P) (tree : PlainTree) → IsTree tree → Holds means pages tree.forks → (t : Tty) → means.lives pages (next_name tree t) ≡ false
unborn means pages tree is holds t = holds.living (next_name tree t) ∙ ap is_some (name_unused tree t is)

-- pages of which a map was added, and then pages for words made
words_made : {P : Type 0} (means : PagesMeaning P) (t : Tty) (old mid new : P) → means.serial mid ≡ means.serial old → means.most mid ≡ means.most old → Grows means t 128 mid new → MakesPages means t 128 old new
words_made means t old mid new serials most grown = made_on means t 0 128 old mid new (none_made means old mid t serials most) (grown_made means t 128 mid new grown)

pub add_fork-requires-clause-few : goal.add_fork-requires-clause-few
add_fork-requires-clause-few g c =
    let t = c.args.who.tty in
    let few = few_forks c.args.tree.now.forks t c.args.slot (slot_told c.args.tree.now t c.args.slot c.requires.slot).0 in
    let counts = c.requires.holds.counts t c.requires.serves.terminal in
    let at : g.P.Pages.means.forks_of c.args.pages.now c.next_name-name.result.tty ≡ g.P.Pages.means.forks_of c.args.pages.now t = ap (λ (n : ForkName). g.P.Pages.means.forks_of c.args.pages.now n.tty) c.next_name-name.ensures in
    omega (arith, few, counts, at, c.requires.holds.roomy)

pub add_fork-requires-clause-map : goal.add_fork-requires-clause-map
add_fork-requires-clause-map g c =
    let a = asked c.args.who c.args.regs.now c.args.tree.now in
    let lives = g.P.Pages.means.lives c.args.pages.now in
    subst (λ (m : NewMap). IsNewMap lives c.next_name-name.result m) (sym (c.map_wanted.ensures.told c.args.tree.now)) (wanted_new a lives c.next_name-name.result c.requires.serves.lives (ap (λ (n : ForkName). n.tty) c.next_name-name.ensures))

pub drop_fork-requires-clause-seen : goal.drop_fork-requires-clause-seen
drop_fork-requires-clause-seen g c = ap (λ s. (g.P.Pages.means.scene s).map_away c.next_name-name.result) c.in-Err.ensures.stopped ∙ c.add_fork.ensures.scene.own

pub returns-in-Full-clause-told : goal.returns-in-Full-clause-told
returns-in-Full-clause-told g c d fits =
    let means = g.P.Pages.means in
    let pages = c.args.pages.now in
    let tree = c.args.tree.now in
    let a = asked c.args.who c.args.regs.now tree in
    let p = means.plain pages d in
    let name = next_name tree c.args.who.tty in
    let dead = unborn means pages tree c.are_trees.ensures c.requires.holds c.args.who.tty in
    let none : HasRoom (with_map p name (map_wanted a)) c.args.who.tty ≡ false =
    room_told means pages p (g.met.P.Pages.agrees pages d fits) (g.met.P.Pages.whole pages d fits) name (map_wanted a) dead ∙ no_room (means.count pages) (means.most pages) (means.scene pages).free_frames c.in-Full.ensures.answer in
    (fits, inl (stops (parts tree p) (parts tree p) _ (made_where a c.args.slot) (Failed NO_ROOM) (made_full a c.args.slot p none) (λ what regs out post h. cc h) refl refl))

pub returns-in-NeedFrame-clause-told : goal.returns-in-NeedFrame-clause-told
returns-in-NeedFrame-clause-told g c d fits =
    let means = g.P.Pages.means in
    let pages = c.args.pages.now in
    let tree = c.args.tree.now in
    let a = asked c.args.who c.args.regs.now tree in
    let p = means.plain pages d in
    let name = next_name tree c.args.who.tty in
    let dead = unborn means pages tree c.are_trees.ensures c.requires.holds c.args.who.tty in
    let none = no_frame (means.count pages) (means.most pages) (means.scene pages).free_frames c.in-NeedFrame.ensures.answer in
    let room : HasRoom (with_map p name (map_wanted a)) c.args.who.tty ≡ true =
    room_told means pages p (g.met.P.Pages.agrees pages d fits) (g.met.P.Pages.whole pages d fits) name (map_wanted a) dead ∙ none.0 in
    (fits, inr (record { need = Frame; answered = refl; reason = inl (record { room = room; frames = none.1; is = refl }); left = refl }))

pub returns-in-Err-clause-told : goal.returns-in-Err-clause-told
returns-in-Err-clause-told g c d fits =
    let means = g.P.Pages.means in
    let pages = c.args.pages.now in
    let tree = c.args.tree.now in
    let a = asked c.args.who c.args.regs.now tree in
    let p = framed means pages d in
    let name = next_name tree c.args.who.tty in
    let agrees = g.met.P.Pages.agrees pages d fits in
    let whole = g.met.P.Pages.whole pages d fits in
    let dead = unborn means pages tree c.are_trees.ensures c.requires.holds c.args.who.tty in
    let room : HasRoom (with_map p.pages name (map_wanted a)) c.args.who.tty ≡ true =
    room_told means pages p.pages agrees whole name (map_wanted a) dead ∙ enough_room (means.count pages) (means.most pages) (means.scene pages).free_frames c.in-Enough.ensures.answer in
    let add = c.add_fork.ensures.told d fits in
    let mapped : means.plain c.add_fork.new.self d ≡ with_map p.pages name (map_wanted a) = add.1 ∙ (λ i. with_map p.pages (c.next_name-name.ensures i) (c.map_wanted.ensures.told tree i)) in
    let takes : TakesMap p.scene (means.scene c.add_fork.new.self) name = subst (λ (n : ForkName). TakesMap p.scene (means.scene c.add_fork.new.self) n) c.next_name-name.ensures c.add_fork.ensures.scene in
    let words = c.in-Err.ensures.told d tree add.0 in
    let same : means.plain c.accumulators.new.pages d ≡ means.plain c.add_fork.new.self d = ap (λ s. means.plain s d) c.in-Err.ensures.stopped in
    let drop = c.drop_fork.ensures.told d words.0 in
    let back : means.plain c.drop_fork.new.self d ≡ p.pages =
    drop.1 ∙ (λ i. without_fork ((same ∙ mapped) i) (c.next_name-name.ensures i)) ∙ added_dropped p.pages name (map_wanted a) (not_there means pages p.pages agrees whole name (map_wanted a) dead) in (
      drop.0,
      turn_stops tree p (parts tree (means.plain c.drop_fork.new.self d)) c.stopped.result (made_where a c.args.slot) c.in-Err.stop
          (made_stops a c.args.slot p.pages room p.scene (means.scene c.add_fork.new.self) (means.plain c.add_fork.new.self d) (means.plain c.accumulators.new.pages d) c.in-Err.stop mapped takes words.1) (ap (parts tree) back) c.stopped.ensures.answer,
    )

pub returns-in-Ok-clause-told : goal.returns-in-Ok-clause-told
returns-in-Ok-clause-told g c d fits =
    let means = g.P.Pages.means in
    let pages = c.args.pages.now in
    let tree = c.args.tree.now in
    let a = asked c.args.who c.args.regs.now tree in
    let p = means.plain pages d in
    let q = means.plain c.accumulators.new.pages d in
    let name = next_name tree c.args.who.tty in
    let dead = unborn means pages tree c.are_trees.ensures c.requires.holds c.args.who.tty in
    let room : HasRoom (with_map p name (map_wanted a)) c.args.who.tty ≡ true =
    room_told means pages p (g.met.P.Pages.agrees pages d fits) (g.met.P.Pages.whole pages d fits) name (map_wanted a) dead
    ∙ enough_room (means.count pages) (means.most pages) (means.scene pages).free_frames c.in-Enough.ensures.answer in
    let add = c.add_fork.ensures.told d fits in
    let mapped : means.plain c.add_fork.new.self d ≡ with_map p name (map_wanted a) = add.1 ∙ (λ i. with_map p (c.next_name-name.ensures i) (c.map_wanted.ensures.told tree i)) in
    let words = c.in-Ok.ensures.told d tree add.0 in
    let made = made_goes a c.args.slot p room (means.plain c.add_fork.new.self d) q c.in-Ok.words mapped words.1 in
    let f = made_fork a c.args.slot c.in-Ok.words in
    let change : ForkChange = Make f in (
      words.0,
      inl (goes (parts tree p) (parts c.grow.new.tree q) c.returned.result (made_where a c.args.slot) change (second_regs c.args.regs.now c.args.slot) q made
          (make_changes tree c.grow.new.tree f p q (c.grow.ensures.told c.args.slot c.requires.slot)) (c.returned.ensures.answer change ∙ ap (λ (r : Regs). answer_of (Done change r None None)) c.with_handle.ensures.regs)),
    )

pub returns-in-Full-clause-leaves : goal.returns-in-Full-clause-leaves
returns-in-Full-clause-leaves g c =
    let means = g.P.Pages.means in
    let who = c.args.who in
    let pages = c.args.pages.now in
    grown_leaves means who c.args.tree.now 128 pages pages (none_grown means who.tty pages) c.requires.holds

pub returns-in-NeedFrame-clause-leaves : goal.returns-in-NeedFrame-clause-leaves
returns-in-NeedFrame-clause-leaves g c =
    let means = g.P.Pages.means in
    let who = c.args.who in
    let pages = c.args.pages.now in
    grown_leaves means who c.args.tree.now 128 pages pages (none_grown means who.tty pages) c.requires.holds

pub returns-in-Err-clause-leaves : goal.returns-in-Err-clause-leaves
returns-in-Err-clause-leaves g c =
    let means = g.P.Pages.means in
    let t = c.args.who.tty in
    let forks = c.args.tree.now.forks in
    let name = c.next_name-name.result in
    let absent : map.get forks name ≡ None = ap (map.get forks) c.next_name-name.ensures ∙ name_unused c.args.tree.now t c.are_trees.ensures in
    let add = c.add_fork.ensures in
    let drop = c.drop_fork.ensures in
    let same = c.in-Err.ensures.stopped in
    let old = c.args.pages.now in
    let mapped = c.add_fork.new.self in
    let grown = c.accumulators.new.pages in
    let new = c.drop_fork.new.self in
    record {
      holds = back_holds means old mapped name add.lives add.forks add.others new forks absent (λ f. drop.lives f ∙ ap (λ s. not (same_fork f name) && means.lives s f) same)
          (drop.forks ∙ ap (λ s. means.forks_of s name.tty) same) (λ u ne. drop.others u ne ∙ ap (λ s. means.forks_of s u) same) c.requires.holds;
      kept = λ f lives. inl (came_itself forks f lives);
      caller = λ lives. lives;
      tops = λ n top. top;
      others = others_itself t forks;
      made = made_on means t 128 0 old grown new (words_made means t old mapped grown add.serials add.most c.in-Err.ensures.grows) (none_made means grown new t drop.serials drop.most);
      loses = lost_on means old grown new (subst (MayLose means old) (sym same) add.loses) drop.loses;
    }

pub returns-in-Ok-clause-leaves : goal.returns-in-Ok-clause-leaves
returns-in-Ok-clause-leaves g c =
    let means = g.P.Pages.means in
    let tree = c.args.tree.now in
    let who = c.args.who in
    let a = asked who c.args.regs.now tree in
    let f = made_fork a c.args.slot c.in-Ok.words in
    let name = c.next_name-name.result in
    let unused = name_unused tree who.tty c.are_trees.ensures in
    let add = c.add_fork.ensures in
    let made : c.grow.new.tree.forks ≡ map.insert tree.forks f.name f = ap (λ (t : PlainTree). t.forks) (c.grow.ensures.told c.args.slot c.requires.slot) in
    let forks : c.grow.new.tree.forks ≡ map.insert tree.forks name f = made ∙ ap (λ (n : ForkName). map.insert tree.forks n f) (sym c.next_name-name.ensures) in
    let absent : map.get tree.forks name ≡ None = ap (map.get tree.forks) c.next_name-name.ensures ∙ unused in
    let slotted : AreSlotted (map.insert tree.forks name f) = subst AreSlotted forks c.are_trees-in-Ok.ensures.slotted in
    let old = c.args.pages.now in
    let mapped = c.add_fork.new.self in
    let new = c.accumulators.new.pages in
    let grows = c.in-Ok.ensures.grows in
    let more : Holds means mapped (map.insert tree.forks name f) =
    added_holds means old mapped name add.lives add.forks add.others tree.forks f (sym c.next_name-name.ensures) absent c.are_trees.ensures.slotted slotted c.requires.holds in
    record {
      holds = subst (Holds means new) (sym forks) (holds_still means mapped new (map.insert tree.forks name f) grows.lives grows.forks more);
      kept = subst (ComeOrNew tree) (sym made) (made_come tree f (made_new a c.args.slot c.in-Ok.words c.requires.lives (omega arith)));
      caller = λ lives. ap (λ (m : ForkMap). map.contains_key m who) made ∙ still_there tree.forks f who lives;
      tops = subst (TopsStay tree.forks) (sym made) (made_tops tree.forks f unused);
      others = subst (OthersStay who.tty tree.forks) (sym made) (put_others who.tty tree.forks f refl);
      made = words_made means who.tty old mapped new add.serials add.most grows;
      loses = lost_on means old mapped new add.loses grows.loses;
    }

pub returns-in-NeedFrame-clause-needs : goal.returns-in-NeedFrame-clause-needs
returns-in-NeedFrame-clause-needs g c = needed_more g.P.Pages.means.store 1 making_frames c.args.pages.now Frame (omega arith) (c.in-NeedFrame.ensures.frames refl)

pub returns-in-Err-clause-needs : goal.returns-in-Err-clause-needs
returns-in-Err-clause-needs g c =
    let means = g.P.Pages.means in
    let mid = c.accumulators.new.pages in
    let new = c.drop_fork.new.self in
    let name = c.next_name-name.result in
    let same = c.in-Err.ensures.stopped in
    let names : (n : PageName) → NamesPage means mid name n → ⊥ = subst (λ s. (n : PageName) → NamesPage means s name n → ⊥) (sym same) c.add_fork.ensures.adds.names in
    let here : (means.scene mid).map_away name ≡ None = ap (λ s. (means.scene s).map_away name) same ∙ c.add_fork.ensures.scene.own in
    subst (AnswerNeeds means.store making_frames new) (sym c.stopped.ensures.answer)
    (dropped_needs means read_frames mid new name (g.met.P.Pages.housed mid) (g.met.P.Pages.housed new) names here c.drop_fork.ensures.drops c.in-Err.stop c.in-Err.ensures.needs)

pub returns-in-Ok-clause-needs : goal.returns-in-Ok-clause-needs
returns-in-Ok-clause-needs g c = done_needs g.P.Pages.means.store making_frames c.accumulators.new.pages c.returned.result c.returned.ensures.core

pub returns-in-NeedFrame-clause-unmade : goal.returns-in-NeedFrame-clause-unmade
returns-in-NeedFrame-clause-unmade g c n is = plans_none g.P.Pages.means c.args.pages.now c.args.pages.now c.args.who.tty refl

pub returns-in-Err-clause-unmade : goal.returns-in-Err-clause-unmade
returns-in-Err-clause-unmade g c n is =
    let means = g.P.Pages.means in
    let same = c.in-Err.ensures.stopped in
    let add = c.add_fork.ensures in
    let name = c.next_name-name.result in
    let new = c.drop_fork.new.self in
    let drop : ForkDropped means name c.add_fork.new.self new = subst (λ s. ForkDropped means name s new) same c.drop_fork.ensures in
    let absent : map.get c.args.tree.now.forks name ≡ None = ap (map.get c.args.tree.now.forks) c.next_name-name.ensures ∙ name_unused c.args.tree.now c.args.who.tty c.are_trees.ensures in
    record {
      made = none_made means c.args.pages.now new c.args.who.tty (drop.serials ∙ add.serials) (drop.most ∙ add.most);
      planned = added_and_dropped means name c.map_wanted.result c.args.pages.now c.add_fork.new.self new (g.met.P.Pages.housed c.args.pages.now) (g.met.P.Pages.housed new) add drop;
      homed = homed_back means name c.map_wanted.result c.args.pages.now c.add_fork.new.self new (g.met.P.Pages.housed c.args.pages.now) (g.met.P.Pages.housed new) (c.requires.holds.living name ∙ ap is_some absent) add drop;
    }

pub returns-in-Ok-clause-unmade : goal.returns-in-Ok-clause-unmade
returns-in-Ok-clause-unmade g c n is = absurd (subst IsDone is c.returned.ensures.core)

pub returns-in-Full-clause-adds : goal.returns-in-Full-clause-adds
returns-in-Full-clause-adds g c = adds_nobody c.args.who.tty c.args.tree.now c.args.tree.now refl

pub returns-in-NeedFrame-clause-adds : goal.returns-in-NeedFrame-clause-adds
returns-in-NeedFrame-clause-adds g c = adds_nobody c.args.who.tty c.args.tree.now c.args.tree.now refl

pub returns-in-Err-clause-adds : goal.returns-in-Err-clause-adds
returns-in-Err-clause-adds g c = adds_nobody c.args.who.tty c.args.tree.now c.args.tree.now refl

pub returns-in-Ok-clause-adds : goal.returns-in-Ok-clause-adds
returns-in-Ok-clause-adds g c =
    let tree = c.args.tree.now in
    let f = made_fork (asked c.args.who c.args.regs.now tree) c.args.slot c.in-Ok.words in
    subst (AddsLast c.args.who.tty tree) (sym (c.grow.ensures.told c.args.slot c.requires.slot)) (adds_made c.args.who.tty tree f refl c.are_trees.ensures c.requires.serves.terminal)

pub map_wanted-requires-clause-name : goal.map_wanted-requires-clause-name
map_wanted-requires-clause-name g c =
    let slotted = c.are_trees.ensures.slotted in
    let f = some_of (map.get c.args.tree.now.forks c.args.who) c.requires.lives in
    subst IsForkName (slotted.own c.args.who f.0 f.1) (slotted.named f.0 (held_lives c.args.tree.now.forks slotted c.args.who f.0 f.1))
