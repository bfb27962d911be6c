use Rattle.std.proofs.Common.{◌<◌, ◌&&◌, ◌==◌, not, length, refl, sym, ◌∙◌, ap, subst, arith, false}
use Rattle.machine_names.specs.declared.names.TheConstants.{TERMINALS}
use Rattle.machine_names.specs.declared.names.ForkName.{ForkName}
use Rattle.plain_model.proofs.ForkMaps.{held_there}
use Rattle.plain_model.specs.Interrupts.{channels_of, forces}
use Rattle.std.specs.List.{list_any}
use Rattle.std.specs.Option.{option_map_or}
use Rattle.std.specs.FinMap as map
use Rattle.plain_model.specs.declared.fork.Fork.{Fork}
use Rattle.plain_model.specs.Posting.{with_all_posted}
use Rattle.file_tables.specs.Tables.{open_of}
use Rattle.monitor_calls.specs.Jobs.{AreUnheld, jobs_left}
use Rattle.step_shown.specs.Shown.{FitsStop, is_stopped}
use Rattle.monitor_calls.specs.Sound.{AreSound}
use Rattle.monitor_core.proofs.SoundKept.{sound_kept}
use Rattle.monitor_typing.proofs.PostDid.{forced_fits, forced_is, has_posted, kept, stop_by}
use Rattle.monitor_core.proofs.Systems.{unheld_still}
use Rattle.monitor_core.proofs.UnitDid.{seen_fits, tops_left}
use Rattle.monitor_typing.proofs.CharacterOthers.{posts_change}
use Rattle.std.proofs.Common.{rules}
use Rattle.ka10_spots.proofs.Stored.{lost_none}
use Rattle.monitor_typing.proofs.characters.post_typed.Goals as goal

pub invariant_of-system : goal.invariant_of-system
invariant_of-system g c =
    let m = c.args.system.now in
    let name = c.args.name in
    let f = c.in-Some.fork.now in
    let trees = c.are_trees.ensures in
    let there = sym c.in-Some.ensures.found in
    let lived = held_there m.tree.forks trees.slotted.own name f there in
    let low : name.tty.0 < TERMINALS = subst (λ (n : ForkName). n.tty.0 < TERMINALS) (trees.slotted.own name f there) (trees.slotted.named f lived).0 in
    let within : name.tty.0 < length m.jobs.items = omega (arith, m.sound.job_room, low) in
    let word = c.channel_word.ensures.word in
    let bit = c.channel_of.ensures in
    let keep = kept m.tree trees name f there c.args.channel c.channel_of.result bit.low (bit.posts f) (bit.forces f.body.psi) c.post_channels-forced.result
    (c.post_channels-forced.ensures.forced ∙ ap (λ w. option_map_or (λ (k : Fork). list_any (forces k.body.psi) (channels_of w)) (map.get m.tree.forks name) false) word)
    c.post_channels-forced.new.self (c.post_channels-forced.ensures.forks ∙ ap (λ w. record m.tree { forks = option_map_or (with_all_posted m.tree.forks (channels_of w)) (map.get m.tree.forks name) m.tree.forks }) word) in
    let tops = tops_left m.jobs.items name.tty.0 (is_stopped c.seen_stop.result) within in
    let jobs = jobs_left m.jobs.items name.tty.0 (is_stopped c.seen_stop.result) in
    record {
      sound = subst (AreSound g.P.Pages.means m.pages c.post_channels-forced.new.self) (sym c.seen_stop.ensures.jobs) (sound_kept g.P.Pages.means m.pages m.pages m.tree c.post_channels-forced.new.self m.jobs.items m.sound jobs tops trees c.are_trees-2.ensures keep refl refl);
      unheld = subst (AreUnheld (open_of m.files)) (sym c.seen_stop.ensures.jobs) (unheld_still (open_of m.files) m.jobs.items jobs m.unheld tops);
      typing_room = m.typing_room;
    }

pub returns-clause-has : goal.returns-clause-has
returns-clause-has g c t =
    let m = c.args.system.now in
    let name = c.args.name in
    let f = c.in-Some.fork.now in
    let trees = c.are_trees.ensures in
    let there = sym c.in-Some.ensures.found in
    let lived = held_there m.tree.forks trees.slotted.own name f there in
    let low : name.tty.0 < TERMINALS = subst (λ (n : ForkName). n.tty.0 < TERMINALS) (trees.slotted.own name f there) (trees.slotted.named f lived).0 in
    let within : name.tty.0 < length m.jobs.items = omega (arith, m.sound.job_room, low) in
    let word = c.channel_word.ensures.word in
    let bit = c.channel_of.ensures in
    has_posted m _ trees name f there c.args.channel c.channel_of.result bit.low (bit.posts f) (bit.forces f.body.psi) c.post_channels-forced.result
    (c.post_channels-forced.ensures.forced ∙ ap (λ w. option_map_or (λ (k : Fork). list_any (forces k.body.psi) (channels_of w)) (map.get m.tree.forks name) false) word)
    (c.post_channels-forced.ensures.forks ∙ ap (λ w. record m.tree { forks = option_map_or (with_all_posted m.tree.forks (channels_of w)) (map.get m.tree.forks name) m.tree.forks }) word)
    c.stop_by-stop.result c.seen_stop.result c.stop_by-stop.ensures c.seen_stop.ensures.stop refl refl refl refl c.seen_stop.ensures.jobs within t

pub returns-clause-fits : goal.returns-clause-fits
returns-clause-fits g c =
    let m = c.args.system.now in
    let name = c.args.name in
    let f = c.in-Some.fork.now in
    let trees = c.are_trees.ensures in
    let there = sym c.in-Some.ensures.found in
    let lived = held_there m.tree.forks trees.slotted.own name f there in
    let word = c.channel_word.ensures.word in
    let bit = c.channel_of.ensures in
    let forced = forced_is m.tree trees name f there c.args.channel c.channel_of.result bit.low (bit.posts f) (bit.forces f.body.psi) c.post_channels-forced.result
    (c.post_channels-forced.ensures.forced ∙ ap (λ w. option_map_or (λ (k : Fork). list_any (forces k.body.psi) (channels_of w)) (map.get m.tree.forks name) false) word)
    c.post_channels-forced.new.self (c.post_channels-forced.ensures.forks ∙ ap (λ w. record m.tree { forks = option_map_or (with_all_posted m.tree.forks (channels_of w)) (map.get m.tree.forks name) m.tree.forks }) word) in
    let stop = c.stop_by-stop.result in
    let fits : FitsStop stop = subst FitsStop (sym (c.stop_by-stop.ensures ∙ ap (λ b. stop_by b c.args.channel) forced)) (forced_fits f.body.psi c.args.channel) in (
      subst (λ (n : ForkName). n.tty.0 < TERMINALS) (trees.slotted.own name f there) (trees.slotted.named f lived).0,
      subst FitsStop (sym c.seen_stop.ensures.stop) (seen_fits (is_stopped stop && not (f.slot == 1)) stop fits),
    )

pub returns-clause-others : goal.returns-clause-others
returns-clause-others g c t = posts_change c.args.system.now.tree c.post_channels-forced.new.self c.are_trees.ensures c.args.name c.channel_word.result c.post_channels-forced.ensures.forks

pub returns-in_default-clause-has : goal.returns-in_default-clause-has
returns-in_default-clause-has g c t = record { each = search rules; within = search rules; most = search rules; loses = lost_none g.P.Pages.means c.args.system.now.pages }
