-- How turns come out that end at once.
use Rattle.std.proofs.Common.{◌≡◌, refl, sym, ◌∙◌, ap}
use Rattle.machine_names.specs.declared.names.Tty.{Tty}
use Rattle.page_contracts.specs.Pages.{PagesMeaning}
use Rattle.plain_pages.specs.PlainPages.{NumberedPages}
use Rattle.plain_model.specs.declared.call.ByteChange.{ByteChange}
use Rattle.plain_model.specs.declared.call.ByteChange.TheVariants.{Nothing, Take, Move, Put}
use Rattle.plain_model.specs.declared.call.End.{End}
use Rattle.plain_model.specs.declared.call.End.TheVariants.{Done, Waits, Halts, Refused, Failed, Trap}
use Rattle.plain_model.specs.ByteCalls.{ByteTurn}
use Rattle.plain_model.specs.Calls.{ends, turn_on}
use Rattle.call_turns.specs.Turns.{FitsEnd}
use Rattle.file_tables.specs.declared.tables.FileTables.{FileTables}
use Rattle.file_tables.specs.Keys.{seen_in}
use Rattle.file_bytes.specs.Planning.{CanChange, CanTurn, made_for}

module _ (tables : FileTables) (t : Tty) where
  -- what puts no byte makes no page
  module _ (p : NumberedPages) where
    pub still : (e : End ByteChange) → FitsEnd (CanTurn tables t) e → made_for tables t p e ≡ p
    still (Done Nothing regs out post) h = refl
    still (Done (Take u) regs out post) h = refl
    still (Done (Move u n at) regs out post) h = refl
    still (Done (Put u n byte) regs out post) h = absurd h.0
    still (Waits on) h = refl
    still Halts h = refl
    still (Refused code) h = refl
    still (Failed code) h = refl
    still (Trap channel) h = refl

    -- a turn that ends so is planned so
    pub comes_so : (turn : ByteTurn) (e : End ByteChange) → FitsEnd (CanTurn tables t) e → turn_on (seen_in tables) p turn ≡ record { end = e; pages = p }
        → turn_on (seen_in tables) p turn ≡ record { end = e; pages = made_for tables t p e }
    comes_so turn e fits is = is ∙ ap (λ (q : NumberedPages). record { end = e; pages = q }) (sym (still e fits))

    pub ends_at_once : (turn : ByteTurn) (e : End ByteChange) → FitsEnd (CanTurn tables t) e → ends e ≡ turn → turn_on (seen_in tables) p turn ≡ record { end = e; pages = made_for tables t p e }
    unfolding turn_on
    ends_at_once turn e fits is = comes_so turn e fits (ap (turn_on (seen_in tables) p) (sym is))

  -- it can be made
  module _ {P : Type 0} (means : PagesMeaning P) (pages : P) where
    pub can_turn : (e : End ByteChange) → FitsEnd (CanTurn tables t) e → FitsEnd (CanChange means pages tables t) e
    can_turn (Done Nothing regs out post) h = h
    can_turn (Done (Take u) regs out post) h = h
    can_turn (Done (Move u n at) regs out post) h = h
    can_turn (Done (Put u n byte) regs out post) h = absurd h.0
    can_turn (Waits on) h = h
    can_turn Halts h = h
    can_turn (Refused code) h = h
    can_turn (Failed code) h = h
    can_turn (Trap channel) h = h
