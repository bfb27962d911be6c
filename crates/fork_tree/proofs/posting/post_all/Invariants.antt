use Rattle.std.proofs.Common.{◌≡◌, ℕ, ◌||◌}
use Rattle.std.specs.List.{list_any}
use Rattle.plain_model.specs.declared.fork.Fork.{Fork as AFork}
use Rattle.plain_model.specs.Interrupts.{channels_of, forces, listens, posted_all}
use Rattle.plain_model.specs.Trees.{with_body}
use Rattle.fork_tree.proofs.Posted.{channels_from}
use Rattle.fork_tree.proofs.posting.post_all.Given as goal

abbrev pub invariant-loop-channel : goal.invariant-loop-channel
invariant-loop-channel l = record {
  fork : (f : AFork) → posted_all (with_body l.body f) (channels_from l.channels l.channel) ≡ posted_all (with_body l.initial.body f) (channels_of l.channels);
  forced : l.forced || list_any (forces l.initial.body.psi) (channels_from l.channels l.channel) ≡ list_any (forces l.initial.body.psi) (channels_of l.channels);
  hears : (c : ℕ) → listens l.body.psi c ≡ listens l.initial.body.psi c;
  regs : l.body.regs ≡ l.initial.body.regs;
  sleep : l.body.sleep ≡ l.initial.body.sleep;
  units : l.body.units ≡ l.initial.body.units;
  error : l.body.error ≡ l.initial.body.error;
}
