use Rattle.std.proofs.Common.{◌≡◌, sym, ◌∙◌, ap, refl, is_some, None}
use Rattle.std.specs.Prelude.{Err}
use Rattle.script_texts.specs.declared.event.Event.TheVariants.{Login}
use Rattle.script_texts.specs.declared.event.Item.TheVariants.{Refusal}
use Rattle.script_texts.specs.declared.event.Refusal.TheVariants.{Busy, SerialsOut}
use Rattle.step_shown.specs.declared.reply.Reply.TheVariants.{One}
use Rattle.monitor_calls.specs.Jobs.{job_at}
use Rattle.monitor_core.proofs.EventDid.{is_busy, serials_are_out, missing}
use Rattle.monitor_core.proofs.JobDid.{did_still}
use Rattle.monitor_core.proofs.Logins.{never_full, none_first, used_up}
use Rattle.monitor_calls.proofs.Sounds.{entry_read}
use Rattle.monitor_core.proofs.system.System.login.Goals as goal

pub returns-then-is_some-clause-did : goal.returns-then-is_some-clause-did
returns-then-is_some-clause-did g c =
    did_still c.args.self.now c.args.self.now refl refl refl refl refl refl (Login c.args.t c.args.user) (One (Refusal (Busy c.args.t))) c.requires.terminal
    (λ d f. is_busy c.args.self.now c.args.t c.args.user d (ap is_some (entry_read c.args.self.now.jobs.items c.args.t.0 c.index.result.now c.args.self.now.sound.job_room c.requires.terminal c.index.ensures) ∙ sym c.is_some.ensures ∙ c.if-is_some.true))

pub add_where_room-requires-clause-free : goal.add_where_room-requires-clause-free
add_where_room-requires-clause-free g c = (entry_read c.args.self.now.jobs.items c.args.t.0 c.index.result.now c.args.self.now.sound.job_room c.requires.terminal c.index.ensures) ∙ missing c.index.result.now (sym c.is_some.ensures ∙ c.if-is_some.false)

pub unreachable-requires : goal.unreachable-requires
unreachable-requires g c =
    let m = c.args.self.now in
    let free : job_at m.jobs.items c.args.t.0 ≡ None = (entry_read m.jobs.items c.args.t.0 c.index.result.now m.sound.job_room c.requires.terminal c.index.ensures) ∙ missing c.index.result.now (sym c.is_some.ensures ∙ c.if-is_some.false) in
    let none = none_first g.P.Pages.means m.pages m.tree m.jobs.items m.sound c.args.t free c.requires.terminal c.are_trees.ensures in
    never_full m.tree c.args.t none (sym c.can_make.ensures ∙ c.in-Err-ForksFull.is ∙ ap Err c.in-Err-ForksFull.field-0-is)

pub returns-in-Err-SerialsOut-clause-did : goal.returns-in-Err-SerialsOut-clause-did
returns-in-Err-SerialsOut-clause-did g c =
    let m = c.args.self.now in
    let free : job_at m.jobs.items c.args.t.0 ≡ None = (entry_read m.jobs.items c.args.t.0 c.index.result.now m.sound.job_room c.requires.terminal c.index.ensures) ∙ missing c.index.result.now (sym c.is_some.ensures ∙ c.if-is_some.false) in
    let none = none_first g.P.Pages.means m.pages m.tree m.jobs.items m.sound c.args.t free c.requires.terminal c.are_trees.ensures in
    let used = used_up m.tree c.args.t none (sym c.can_make.ensures ∙ c.in-Err-SerialsOut.is ∙ ap Err c.in-Err-SerialsOut.field-0-is) in
    did_still m m refl refl refl refl refl refl (Login c.args.t c.args.user) (One (Refusal (SerialsOut c.args.t))) c.requires.terminal
    (λ d f. serials_are_out m c.args.t c.args.user free d used)
