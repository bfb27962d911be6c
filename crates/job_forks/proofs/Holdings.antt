-- Pages and forks that are the same still.
use Rattle.std.proofs.Common.{◌≡◌, ℕ, sym, ◌∙◌, ap, subst}
use Rattle.std.specs.Prelude.{IsSome, is_some}
use Rattle.std.specs.FinMap as map
use Rattle.machine_names.specs.declared.names.Tty.{Tty}
use Rattle.machine_names.specs.declared.names.ForkName.{ForkName}
use Rattle.plain_model.specs.Forks.{ForkMap}
use Rattle.page_contracts.specs.Pages.{PagesMeaning}
use Rattle.machine_names.specs.Bounds.{IsTerminal}
use Rattle.ka10_unit.specs.Carrying.{Grows}
use Rattle.ka10_unit.specs.Gathers.{Serves}
use Rattle.fork_tree.proofs.Slots.{held_lives, some_of}
use Rattle.fork_tree.specs.Trees.{AreSlotted}
use Rattle.job_forks.specs.Holding.{Holds, MakesPages, SamePlaces}
use Rattle.job_forks.proofs.Places.{same_counted, still_living}

module _ {P : Type 0} (means : PagesMeaning P) where
  -- forks that keep their places
  pub holds_same : (p : P) (old new : ForkMap) → AreSlotted old → AreSlotted new → SamePlaces old new → Holds means p old → Holds means p new
  holds_same p old new a b same holds = record {
    living = λ name. holds.living name ∙ sym (still_living old new same name);
    counts = λ t terminal. holds.counts t terminal ∙ sym (same_counted old new a b same t);
    roomy = holds.roomy;
  }

  -- pages whose forks are the same
  pub holds_still : (old new : P) (forks : ForkMap) → means.lives new ≡ means.lives old → means.forks_of new ≡ means.forks_of old → Holds means old forks → Holds means new forks
  holds_still old new forks lives counts holds = record {
    living = λ name. ap (λ (l : ForkName → _). l name) lives ∙ holds.living name;
    counts = λ t terminal. ap (λ (n : Tty → ℕ). n t) counts ∙ holds.counts t terminal;
    roomy = holds.roomy;
  }

  -- pages that were made by a block
  pub grown_made : (t : Tty) (n : ℕ) (old new : P) → Grows means t n old new → MakesPages means t n old new
  grown_made t n old new g = record { most = g.most; serial = g.serial; serials = g.serials }

-- the fork that calls is a terminal's, and has its map
module _ (forks : ForkMap) (slotted : AreSlotted forks) (who : ForkName) (lives : IsSome (map.get forks who)) where
  pub caller_terminal : IsTerminal who.tty
  caller_terminal =
      let f = some_of (map.get forks who) lives in
      subst (λ (n : ForkName). IsTerminal n.tty) (slotted.own who f.0 f.1) (slotted.named f.0 (held_lives forks slotted who f.0 f.1)).0

pub caller_serves : {P : Type 0} (means : PagesMeaning P) (p : P) (forks : ForkMap) → AreSlotted forks → (who : ForkName) → IsSome (map.get forks who) → Holds means p forks → Serves means p who
caller_serves means p forks slotted who lives holds =
    let f = some_of (map.get forks who) lives in
    record { lives = holds.living who ∙ ap is_some f.1; terminal = caller_terminal forks slotted who lives }
