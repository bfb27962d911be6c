use Rattle.std.proofs.Common.{◌≡◌, ℕ, Some, refl, sym, ◌∙◌, ap, subst, arith}
use Rattle.std.specs.Prelude.{IsSome}
use Rattle.std.specs.FinMap as map
use Rattle.plain_model.specs.declared.fork.Body.{Body}
use Rattle.plain_model.specs.declared.fork.Fork.{Fork}
use Rattle.machine_names.specs.declared.names.ForkName.{ForkName}
use Rattle.machine_names.specs.declared.names.Tty.{Tty}
use Rattle.plain_model.specs.Forks.{fork_in}
use Rattle.page_contracts.specs.Pages.{PagesMeaning}
use Rattle.ka10_spots.proofs.Stored.{lost_on}
use Rattle.ka10_unit.specs.Gathers.{framed}
use Rattle.plain_model.specs.Trees.{PlainTree, with_body}
use Rattle.fork_tree.specs.Changes.{body_in, with_body_at}
use Rattle.fork_tree.specs.Trees.{IsTree, Lives}
use Rattle.fork_tree.proofs.Slots.{get_put, in_tells, some_of}
use Rattle.job_forks.specs.Holding.{Holds}
use Rattle.job_forks.specs.Limits.{AreWithin}
use Rattle.job_forks.proofs.Holdings.{holds_still}
use Rattle.monitor_calls.specs.Limits.{CanUnit}
use Rattle.monitor_calls.specs.Makings.{Makes}
use Rattle.monitor_calls.specs.Reasons.{UnitStops}
use Rattle.monitor_calls.specs.ForkUnit.{CallWaits, FitsLast, HasRoom, IsMet, IsRow, LastNeeds, Kept, LeavesForks, Place, Ran, RanUnits, Tables, called_behind, fork_of, makings_of, put_back, rest_of}
use Rattle.monitor_calls.proofs.Calling.{body_has, left_tree, still_in}
use Rattle.monitor_calls.proofs.JfnsAsked.{dir_stays}
use Rattle.monitor_calls.proofs.Keeping.{more_keeps}
use Rattle.monitor_calls.proofs.Leaving.{leaves_one, leaves_then, left_came, left_holds}
use Rattle.step_shown.specs.Reaching.{Reaches, ReachesOwn}
use Rattle.monitor_calls.specs.Reaching.{reach_of}
use Rattle.step_shown.specs.declared.reach.Reach.{Reach}
use Rattle.step_shown.specs.declared.reach.Reach.TheVariants.{Own}
use Rattle.monitor_calls.proofs.ReachDid.{own_then, reaches_others, slot_reaches}
use Rattle.monitor_calls.proofs.Stopping.{StopsBehind, with_tree, before_few, before_reach, before_some, call_stops, stops_ran, stops_waits, unit_stops}
use Rattle.monitor_calls.proofs.UnitRan.{call_behind}
use Rattle.file_tables.specs.Keys.{key_of}
use Rattle.monitor_calls.proofs.units.units_with_call.Goals as goal

-- where a fork stands
abbrev place_of : Fork → Place
place_of f = record { slot = f.slot; superior = f.superior; frozen = f.frozen }

-- the fork in a slot, behind units that left it this body
module _ (tree : PlainTree) (is : IsTree tree) (t : Tty) (slot : ℕ) (f : Fork) (at : fork_in tree.forks t slot ≡ Some f) (body : Body) (n : ℕ) (keeps : Kept f (with_body body f) n) where
  lived : Lives tree.forks f
  lived = (in_tells tree.forks is.slotted t slot f at).0

  back : with_body_at tree t slot body ≡ put_back tree (with_body body f)
  back = left_tree tree t slot f body at

  row_within : AreWithin tree.forks → AreWithin (with_body_at tree t slot body).forks
  row_within can = subst (λ (x : PlainTree). AreWithin x.forks) (sym back) (λ k e. let came = left_came tree is f lived body n keeps k e in came.within (can came.before came.lived))

  row_holds : {P : Type 0} (means : PagesMeaning P) (p q : P) (owner : Tty) (pages : ℕ) → Holds means p tree.forks → Makes means p q owner pages → Holds means q (with_body_at tree t slot body).forks
  row_holds means p q owner pages holds made = subst (λ (x : PlainTree). Holds means q x.forks) (sym back) (left_holds tree is f lived body n keeps means q (holds_still means p q tree.forks made.lives made.forks holds))

-- a row reaches its own fork, and a call behind it as far as it may
module _ (tree : PlainTree) (is : IsTree tree) (who : ForkName) (slot : ℕ) (f : Fork) (at : fork_in tree.forks who.tty slot ≡ Some f) (named : f.name ≡ who) (body : Body) where
  at_name : map.get tree.forks who ≡ Some f
  at_name = let lives = in_tells tree.forks is.slotted who.tty slot f at in ap (map.get tree.forks) (sym named) ∙ lives.0

  row_reaches : ReachesOwn who tree (with_body_at tree who.tty slot body)
  row_reaches = slot_reaches tree who slot f body at at_name

  call_reaches : (r : Reach) (new : PlainTree) → Reaches r who (with_body_at tree who.tty slot body) new → Reaches r who tree new
  call_reaches r new then = own_then tree who f at_name named r (with_body_at tree who.tty slot body) new is.slotted.own row_reaches then

kept_as : (who : ForkName) (f : Fork) (x y : Body) (n : ℕ) → f.name ≡ who → x ≡ f.body → Kept (fork_of who (place_of f) x) (fork_of who (place_of f) y) n → Kept f (with_body y f) n
kept_as who f x y n named here k =
    let at = place_of f in
    subst (λ name. Kept (fork_of name at f.body) (fork_of name at y) n) (sym named) (subst (λ b. Kept (fork_of who at b) (fork_of who at y) n) here k)

pub units_to_call-row-requires-clause-can : goal.units_to_call-row-requires-clause-can
units_to_call-row-requires-clause-can g c = body_has CanUnit _ c.body_at-body.result.now c.requires.there c.body_at-body.ensures.body (λ f e. (c.requires.can f e).1)

pub called-requires-clause-there : goal.called-requires-clause-there
called-requires-clause-there g c =
    let f = some_of _ c.requires.there in
    subst IsSome (sym (still_in c.args.tree.now c.requires.tree c.args.who.fork.tty c.args.who.slot f.0 c.units_to_call-row.new.body f.1)) refl

pub called-requires-clause-named : goal.called-requires-clause-named
called-requires-clause-named g c h e =
    let f = some_of _ c.requires.there in
    let both : Some (with_body c.units_to_call-row.new.body f.0) ≡ Some h = sym (still_in c.args.tree.now c.requires.tree c.args.who.fork.tty c.args.who.slot f.0 c.units_to_call-row.new.body f.1) ∙ e in
    let same : with_body c.units_to_call-row.new.body f.0 ≡ h = cc both in
    ap (λ (k : Fork). k.name) (sym same) ∙ (c.requires.can f.0 f.1).0

pub called-requires-clause-can : goal.called-requires-clause-can
called-requires-clause-can g c =
    let f = some_of _ c.requires.there in
    let here = c.body_at-body.ensures.body ∙ ap body_in f.1 in
    let keeps = kept_as c.args.who.fork f.0 _ c.units_to_call-row.new.body c.units_to_call-row.result.count (c.requires.can f.0 f.1).0 here (c.units_to_call-row.ensures.ran (place_of f.0)).keeps in
    row_within c.args.tree.now c.requires.tree c.args.who.fork.tty c.args.who.slot f.0 f.1 c.units_to_call-row.new.body c.units_to_call-row.result.count keeps c.requires.within

pub called-requires-clause-few : goal.called-requires-clause-few
called-requires-clause-few g c h e =
    let f = some_of _ c.requires.there in
    let both : Some (with_body c.units_to_call-row.new.body f.0) ≡ Some h = sym (still_in c.args.tree.now c.requires.tree c.args.who.fork.tty c.args.who.slot f.0 c.units_to_call-row.new.body f.1) ∙ e in
    let same : with_body c.units_to_call-row.new.body f.0 ≡ h = cc both in
    let here : c.body_at-body.result.now.units ≡ f.0.body.units = ap (λ b. b.units) (c.body_at-body.ensures.body ∙ ap body_in f.1) in
    let room = subst (HasRoom c.args.most c.units_to_call-row.result.count) c.in-Calls.is c.units_to_call-row.ensures.room in
    omega (arith, ap (λ (k : Fork). k.body.units) same, (c.units_to_call-row.ensures.ran (place_of f.0)).keeps.units, here, c.requires.few f.0 f.1, room, c.ranges.most.fits)

pub called-requires-clause-holds : goal.called-requires-clause-holds
called-requires-clause-holds g c =
    let f = some_of _ c.requires.there in
    let ran = c.units_to_call-row.ensures.ran (place_of f.0) in
    let keeps = kept_as c.args.who.fork f.0 _ c.units_to_call-row.new.body c.units_to_call-row.result.count (c.requires.can f.0 f.1).0 (c.body_at-body.ensures.body ∙ ap body_in f.1) ran.keeps in
    row_holds c.args.tree.now c.requires.tree c.args.who.fork.tty c.args.who.slot f.0 f.1 c.units_to_call-row.new.body c.units_to_call-row.result.count keeps
    g.P.Pages.means c.args.pages.now c.units_to_call-row.new.pages c.args.who.fork.tty (makings_of c.units_to_call-row.result.last) c.requires.holds ran.made

pub called-requires-clause-serial : goal.called-requires-clause-serial
called-requires-clause-serial g c =
    let f = some_of _ c.requires.there in
    let made = subst (λ l. Makes g.P.Pages.means c.args.pages.now c.units_to_call-row.new.pages c.args.who.fork.tty (makings_of l)) c.in-Calls.is (c.units_to_call-row.ensures.ran (place_of f.0)).made in
    omega (arith, made.own, c.requires.serial)

pub returns-in-Shows-clause-ran : goal.returns-in-Shows-clause-ran
returns-in-Shows-clause-ran g c at b there =
    let who = c.args.who.fork in
    let tree = c.args.tree.now in
    let was : Tables = record { tree = tree; files = c.args.files.now; jobs = c.args.jobs.now.items; typed = c.args.typed.now.items; clock = c.args.clock } in
    let f = fork_of who at b in
    let body = c.units_to_call-row.new.body in
    let after = fork_of who at body in
    let row = c.units_to_call-row.result in
    let here : c.body_at-body.result.now ≡ b = c.body_at-body.ensures.body ∙ ap body_in there in
    let ran = subst (λ x. Ran g.P.Pages.means c.args.pages.now c.units_to_call-row.new.pages (fork_of who at x) after row) here (c.units_to_call-row.ensures.ran at) in
    let is = c.requires.tree in
    let lives = lived tree is who.tty c.args.who.slot f there body row.count ran.keeps in
    let left = left_tree tree who.tty c.args.who.slot f body there in
    record {
      after = after;
      there = λ d drum. subst (λ (x : PlainTree). Lives x.forks after) (sym left) (get_put tree.forks who who after refl);
      told = λ d drum.
          let p = g.P.Pages.means.plain c.args.pages.now d in
          let q = g.P.Pages.means.plain c.units_to_call-row.new.pages d in
          let t = ran.told d drum in
          (t.0, subst (λ x. RanUnits (key_of was.files) (rest_of was) f p row.count (record { rest = rest_of (record was { tree = x }); fork = after; pages = q; shown = c.in-Shows.shown })) (sym left) (subst (IsRow f p row.count after q) c.in-Shows.is t.1 (key_of was.files) (rest_of was)));
      numbers = λ d drum. dir_stays was.files was.files refl;
      unheld = c.requires.job.unheld;
      typing_room = c.requires.job.typing_room;
      keeps = ran.keeps;
      loses = ran.loses;
      leaves = subst (λ x. LeavesForks g.P.Pages.means c.args.pages.now c.units_to_call-row.new.pages tree x f row.count) (sym left)
          (leaves_one tree is f lives body row.count ran.keeps g.P.Pages.means c.args.pages.now c.units_to_call-row.new.pages c.requires.holds
          (subst (λ l. Makes g.P.Pages.means c.args.pages.now c.units_to_call-row.new.pages who.tty (makings_of l)) c.in-Shows.is ran.made));
      shown = subst FitsLast c.in-Shows.is ran.fits;
    }

pub returns-in-Ok-clause-ran : goal.returns-in-Ok-clause-ran
returns-in-Ok-clause-ran g c at b there =
    let who = c.args.who.fork in
    let tree = c.args.tree.now in
    let was : Tables = record { tree = tree; files = c.args.files.now; jobs = c.args.jobs.now.items; typed = c.args.typed.now.items; clock = c.args.clock } in
    let f = fork_of who at b in
    let body = c.units_to_call-row.new.body in
    let mid = fork_of who at body in
    let row = c.units_to_call-row.result in
    let here : c.body_at-body.result.now ≡ b = c.body_at-body.ensures.body ∙ ap body_in there in
    let ran = subst (λ x. Ran g.P.Pages.means c.args.pages.now c.units_to_call-row.new.pages (fork_of who at x) mid row) here (c.units_to_call-row.ensures.ran at) in
    let is = c.requires.tree in
    let lives = lived tree is who.tty c.args.who.slot f there body row.count ran.keeps in
    let left = left_tree tree who.tty c.args.who.slot f body there in
    let called = c.in-Ok.ensures.called at body (still_in tree is who.tty c.args.who.slot f body there) in
    record {
      after = called.after;
      there = λ d drum. called.there;
      told = λ d drum.
          let p = g.P.Pages.means.plain c.args.pages.now d in
          let q = g.P.Pages.means.plain c.units_to_call-row.new.pages d in
          let t = ran.told d drum in
          let made = called.told d t.0 in
          let row_is = subst (IsRow f p row.count mid q) c.in-Calls.is t.1 in
          (made.0, call_behind (key_of was.files) (rest_of was) f p row.count row_is.0.alone mid q c.in-Calls.number _ row_is.0 row_is.1 (ap (λ (x : PlainTree). called_behind (key_of was.files) (rest_of (record was { tree = x })) mid q c.in-Calls.number) (sym left) ∙ made.1));
      numbers = λ d drum. called.numbers d (ran.told d drum).0;
      unheld = called.unheld;
      typing_room = called.typing_room;
      loses = lost_on g.P.Pages.means c.args.pages.now c.units_to_call-row.new.pages c.called.new.pages ran.loses called.loses;
      keeps = more_keeps f mid called.after row.count 1 ran.keeps called.keeps;
      leaves = leaves_then tree is f lives body row.count ran.keeps g.P.Pages.means c.args.pages.now c.units_to_call-row.new.pages c.called.new.pages c.called.new.tree 1
          (subst (λ l. Makes g.P.Pages.means c.args.pages.now c.units_to_call-row.new.pages who.tty (makings_of l)) c.in-Calls.is ran.made)
          (subst (λ x. LeavesForks g.P.Pages.means c.units_to_call-row.new.pages c.called.new.pages x c.called.new.tree mid 1) left called.leaves);
      shown = called.fits;
    }

pub returns-in-Err-clause-ran : goal.returns-in-Err-clause-ran
returns-in-Err-clause-ran g c at b there =
    let who = c.args.who.fork in
    let tree = c.args.tree.now in
    let was : Tables = record { tree = tree; files = c.args.files.now; jobs = c.args.jobs.now.items; typed = c.args.typed.now.items; clock = c.args.clock } in
    let f = fork_of who at b in
    let body = c.units_to_call-row.new.body in
    let mid = fork_of who at body in
    let row = c.units_to_call-row.result in
    let here : c.body_at-body.result.now ≡ b = c.body_at-body.ensures.body ∙ ap body_in there in
    let ran = subst (λ x. Ran g.P.Pages.means c.args.pages.now c.units_to_call-row.new.pages (fork_of who at x) mid row) here (c.units_to_call-row.ensures.ran at) in
    let is = c.requires.tree in
    let lives = lived tree is who.tty c.args.who.slot f there body row.count ran.keeps in
    let left = left_tree tree who.tty c.args.who.slot f body there in
    let means = g.P.Pages.means in
    let old = c.args.pages.now in
    let now = c.units_to_call-row.new.pages in
    let made = subst (λ l. Makes means old now who.tty (makings_of l)) c.in-Calls.is ran.made in
    let waits = subst (λ x. CallWaits means now c.called.new.pages (record was { tree = x }) (with_tree was c.called.new.tree c.called.new.files c.called.new.typed.items) who c.in-Calls.number c.in-Err.need) left c.in-Err.ensures.needs in
    let stops = call_stops was is f lives body row.count ran.keeps means old now made ran.undone ran.loses c.requires.holds c.called.new.pages c.called.new.tree c.called.new.files c.called.new.typed.items c.in-Calls.number c.in-Err.need (λ d fits. (let t = ran.told d fits in (t.0, (subst (IsRow f (means.plain old d) row.count mid (means.plain now d)) c.in-Calls.is t.1).0))) (λ d fits. subst (UnitStops (framed means now d) mid) c.in-Calls.is (ran.stops d fits)) waits in
    stops_ran means old c.called.new.pages was c.called.new.tree c.called.new.files c.called.new.typed.items f mid c.in-Err.need lives c.requires.job.unheld c.requires.job.typing_room row.count c.reach_of-reach.result c.done_before.result c.done_before.ensures stops

pub returns-in-Err-clause-waits : goal.returns-in-Err-clause-waits
returns-in-Err-clause-waits g c at b there =
    let who = c.args.who.fork in
    let tree = c.args.tree.now in
    let was : Tables = record { tree = tree; files = c.args.files.now; jobs = c.args.jobs.now.items; typed = c.args.typed.now.items; clock = c.args.clock } in
    let f = fork_of who at b in
    let body = c.units_to_call-row.new.body in
    let mid = fork_of who at body in
    let row = c.units_to_call-row.result in
    let here : c.body_at-body.result.now ≡ b = c.body_at-body.ensures.body ∙ ap body_in there in
    let ran = subst (λ x. Ran g.P.Pages.means c.args.pages.now c.units_to_call-row.new.pages (fork_of who at x) mid row) here (c.units_to_call-row.ensures.ran at) in
    let is = c.requires.tree in
    let lives = lived tree is who.tty c.args.who.slot f there body row.count ran.keeps in
    let left = left_tree tree who.tty c.args.who.slot f body there in
    let means = g.P.Pages.means in
    let old = c.args.pages.now in
    let now = c.units_to_call-row.new.pages in
    let made = subst (λ l. Makes means old now who.tty (makings_of l)) c.in-Calls.is ran.made in
    let waits = subst (λ x. CallWaits means now c.called.new.pages (record was { tree = x }) (with_tree was c.called.new.tree c.called.new.files c.called.new.typed.items) who c.in-Calls.number c.in-Err.need) left c.in-Err.ensures.needs in
    let stops = call_stops was is f lives body row.count ran.keeps means old now made ran.undone ran.loses c.requires.holds c.called.new.pages c.called.new.tree c.called.new.files c.called.new.typed.items c.in-Calls.number c.in-Err.need (λ d fits. (let t = ran.told d fits in (t.0, (subst (IsRow f (means.plain old d) row.count mid (means.plain now d)) c.in-Calls.is t.1).0))) (λ d fits. subst (UnitStops (framed means now d) mid) c.in-Calls.is (ran.stops d fits)) waits in
    stops_waits means old c.called.new.pages was c.called.new.tree c.called.new.files c.called.new.typed.items f mid c.in-Err.need lives c.requires.job.unheld c.requires.job.typing_room row.count c.reach_of-reach.result c.done_before.result c.done_before.ensures stops

pub returns-in-Needs-clause-ran : goal.returns-in-Needs-clause-ran
returns-in-Needs-clause-ran g c at b there =
    let who = c.args.who.fork in
    let tree = c.args.tree.now in
    let was : Tables = record { tree = tree; files = c.args.files.now; jobs = c.args.jobs.now.items; typed = c.args.typed.now.items; clock = c.args.clock } in
    let f = fork_of who at b in
    let body = c.units_to_call-row.new.body in
    let mid = fork_of who at body in
    let row = c.units_to_call-row.result in
    let here : c.body_at-body.result.now ≡ b = c.body_at-body.ensures.body ∙ ap body_in there in
    let ran = subst (λ x. Ran g.P.Pages.means c.args.pages.now c.units_to_call-row.new.pages (fork_of who at x) mid row) here (c.units_to_call-row.ensures.ran at) in
    let is = c.requires.tree in
    let lives = lived tree is who.tty c.args.who.slot f there body row.count ran.keeps in
    let left = left_tree tree who.tty c.args.who.slot f body there in
    let means = g.P.Pages.means in
    let old = c.args.pages.now in
    let now = c.units_to_call-row.new.pages in
    let n = c.in-Needs.need in
    let made = subst (λ l. Makes means old now who.tty (makings_of l)) c.in-Needs.is ran.made in
    let stops = subst (λ x. StopsBehind means old now was x was.files was.typed f mid row.count n) (sym left)
    (unit_stops was is f lives body row.count ran.keeps means old now made ran.undone ran.loses c.requires.holds n (λ d fits. (let t = ran.told d fits in (t.0, subst (IsRow f (means.plain old d) row.count mid (means.plain now d)) c.in-Needs.is t.1))) (λ d fits. subst (UnitStops (framed means now d) mid) c.in-Needs.is (ran.stops d fits)) (subst (LastNeeds means.store now) c.in-Needs.is ran.needs)) in
    stops_ran means old now was _ was.files was.typed f mid n lives c.requires.job.unheld c.requires.job.typing_room row.count Own c.done_before-in-Needs.result c.done_before-in-Needs.ensures stops

pub returns-in-Needs-clause-waits : goal.returns-in-Needs-clause-waits
returns-in-Needs-clause-waits g c at b there =
    let who = c.args.who.fork in
    let tree = c.args.tree.now in
    let was : Tables = record { tree = tree; files = c.args.files.now; jobs = c.args.jobs.now.items; typed = c.args.typed.now.items; clock = c.args.clock } in
    let f = fork_of who at b in
    let body = c.units_to_call-row.new.body in
    let mid = fork_of who at body in
    let row = c.units_to_call-row.result in
    let here : c.body_at-body.result.now ≡ b = c.body_at-body.ensures.body ∙ ap body_in there in
    let ran = subst (λ x. Ran g.P.Pages.means c.args.pages.now c.units_to_call-row.new.pages (fork_of who at x) mid row) here (c.units_to_call-row.ensures.ran at) in
    let is = c.requires.tree in
    let lives = lived tree is who.tty c.args.who.slot f there body row.count ran.keeps in
    let left = left_tree tree who.tty c.args.who.slot f body there in
    let means = g.P.Pages.means in
    let old = c.args.pages.now in
    let now = c.units_to_call-row.new.pages in
    let n = c.in-Needs.need in
    let made = subst (λ l. Makes means old now who.tty (makings_of l)) c.in-Needs.is ran.made in
    let stops = subst (λ x. StopsBehind means old now was x was.files was.typed f mid row.count n) (sym left)
    (unit_stops was is f lives body row.count ran.keeps means old now made ran.undone ran.loses c.requires.holds n (λ d fits. (let t = ran.told d fits in (t.0, subst (IsRow f (means.plain old d) row.count mid (means.plain now d)) c.in-Needs.is t.1))) (λ d fits. subst (UnitStops (framed means now d) mid) c.in-Needs.is (ran.stops d fits)) (subst (LastNeeds means.store now) c.in-Needs.is ran.needs)) in
    stops_waits means old now was _ was.files was.typed f mid n lives c.requires.job.unheld c.requires.job.typing_room row.count Own c.done_before-in-Needs.result c.done_before-in-Needs.ensures stops

pub returns-in-Err-clause-core : goal.returns-in-Err-clause-core
returns-in-Err-clause-core g c flat = (let no = c.in-Err.ensures.core flat in absurd (cc no))

pub returns-in-Err-clause-some : goal.returns-in-Err-clause-some
returns-in-Err-clause-some g c = before_some c.units_to_call-row.result.count c.in-Err.need c.reach_of-reach.result c.done_before.result c.done_before.ensures

pub returns-in-Err-clause-few : goal.returns-in-Err-clause-few
returns-in-Err-clause-few g c =
    let room = subst (HasRoom c.args.most c.units_to_call-row.result.count) c.in-Calls.is c.units_to_call-row.ensures.room in
    before_few c.units_to_call-row.result.count c.args.most c.in-Err.need c.reach_of-reach.result c.done_before.result (omega (arith, room)) c.done_before.ensures

pub returns-in-Needs-clause-core : goal.returns-in-Needs-clause-core
returns-in-Needs-clause-core g c flat = (let f = some_of _ c.requires.there in absurd (subst IsMet c.in-Needs.is ((c.units_to_call-row.ensures.ran (place_of f.0)).core flat)))

pub returns-in-Needs-clause-some : goal.returns-in-Needs-clause-some
returns-in-Needs-clause-some g c = before_some c.units_to_call-row.result.count c.in-Needs.need Own c.done_before-in-Needs.result c.done_before-in-Needs.ensures

pub returns-in-Needs-clause-few : goal.returns-in-Needs-clause-few
returns-in-Needs-clause-few g c =
    let room = subst (HasRoom c.args.most c.units_to_call-row.result.count) c.in-Needs.is c.units_to_call-row.ensures.room in
    before_few c.units_to_call-row.result.count c.args.most c.in-Needs.need Own c.done_before-in-Needs.result (omega (arith, room)) c.done_before-in-Needs.ensures

-- how far the units have reached
pub returns-in-Shows-clause-reach : goal.returns-in-Shows-clause-reach
returns-in-Shows-clause-reach g c =
    let f = some_of _ c.requires.there in
    row_reaches c.args.tree.now c.requires.tree c.args.who.fork c.args.who.slot f.0 f.1 (c.requires.can f.0 f.1).0 c.units_to_call-row.new.body

pub returns-in-Shows-clause-others : goal.returns-in-Shows-clause-others
returns-in-Shows-clause-others g c =
    let f = some_of _ c.requires.there in
    reaches_others Own c.args.who.fork c.args.tree.now _ c.requires.tree.slotted.own (row_reaches c.args.tree.now c.requires.tree c.args.who.fork c.args.who.slot f.0 f.1 (c.requires.can f.0 f.1).0 c.units_to_call-row.new.body)

pub returns-in-Needs-clause-reach : goal.returns-in-Needs-clause-reach
returns-in-Needs-clause-reach g c =
    let f = some_of _ c.requires.there in
    let tree = c.args.tree.now in
    let who = c.args.who.fork in
    before_reach (λ r. Reaches r who tree (with_body_at tree who.tty c.args.who.slot c.units_to_call-row.new.body)) c.units_to_call-row.result.count c.in-Needs.need Own c.done_before-in-Needs.result
    (row_reaches tree c.requires.tree who c.args.who.slot f.0 f.1 (c.requires.can f.0 f.1).0 c.units_to_call-row.new.body) c.done_before-in-Needs.ensures

pub returns-in-Needs-clause-others : goal.returns-in-Needs-clause-others
returns-in-Needs-clause-others g c =
    let f = some_of _ c.requires.there in
    reaches_others Own c.args.who.fork c.args.tree.now _ c.requires.tree.slotted.own (row_reaches c.args.tree.now c.requires.tree c.args.who.fork c.args.who.slot f.0 f.1 (c.requires.can f.0 f.1).0 c.units_to_call-row.new.body)

pub returns-in-Ok-clause-reach : goal.returns-in-Ok-clause-reach
returns-in-Ok-clause-reach g c =
    let f = some_of _ c.requires.there in
    call_reaches c.args.tree.now c.requires.tree c.args.who.fork c.args.who.slot f.0 f.1 (c.requires.can f.0 f.1).0 c.units_to_call-row.new.body c.reach_of-reach.result c.called.new.tree
    (subst (λ r. Reaches r c.args.who.fork (with_body_at c.args.tree.now c.args.who.fork.tty c.args.who.slot c.units_to_call-row.new.body) c.called.new.tree) (sym c.reach_of-reach.ensures) c.called.ensures.reach)

pub returns-in-Ok-clause-others : goal.returns-in-Ok-clause-others
returns-in-Ok-clause-others g c =
    let f = some_of _ c.requires.there in
    reaches_others (reach_of c.in-Calls.number) c.args.who.fork c.args.tree.now c.called.new.tree c.requires.tree.slotted.own
    (call_reaches c.args.tree.now c.requires.tree c.args.who.fork c.args.who.slot f.0 f.1 (c.requires.can f.0 f.1).0 c.units_to_call-row.new.body (reach_of c.in-Calls.number) c.called.new.tree c.called.ensures.reach)

pub returns-in-Err-clause-reach : goal.returns-in-Err-clause-reach
returns-in-Err-clause-reach g c =
    let f = some_of _ c.requires.there in
    let who = c.args.who.fork in
    before_reach (λ r. Reaches r who c.args.tree.now c.called.new.tree) c.units_to_call-row.result.count c.in-Err.need c.reach_of-reach.result c.done_before.result
    (call_reaches c.args.tree.now c.requires.tree who c.args.who.slot f.0 f.1 (c.requires.can f.0 f.1).0 c.units_to_call-row.new.body c.reach_of-reach.result c.called.new.tree
    (subst (λ r. Reaches r who (with_body_at c.args.tree.now who.tty c.args.who.slot c.units_to_call-row.new.body) c.called.new.tree) (sym c.reach_of-reach.ensures) c.called.ensures.reach)) c.done_before.ensures

pub returns-in-Err-clause-others : goal.returns-in-Err-clause-others
returns-in-Err-clause-others g c =
    let f = some_of _ c.requires.there in
    reaches_others (reach_of c.in-Calls.number) c.args.who.fork c.args.tree.now c.called.new.tree c.requires.tree.slotted.own
    (call_reaches c.args.tree.now c.requires.tree c.args.who.fork c.args.who.slot f.0 f.1 (c.requires.can f.0 f.1).0 c.units_to_call-row.new.body (reach_of c.in-Calls.number) c.called.new.tree c.called.ensures.reach)
