-- The byte that is written next, over plain pages.
use Rattle.std.proofs.Common.{◌≡◌, inl, inr, ℕ, Bool, true, false, cond, Option, Some, refl, sym, ◌∙◌, ap, subst, nat_lt}
use Rattle.std.specs.Option.{option_map_or}
use Rattle.std.specs.FinMap as map
use Rattle.machine_names.specs.Orders.{file_page}
use Rattle.machine_names.specs.declared.names.Tty.{Tty}
use Rattle.machine_names.specs.declared.names.Kind.TheVariants.{Write}
use Rattle.page_contracts.specs.declared.answers.Need.{Need}
use Rattle.page_contracts.specs.Pages.{Scene}
use Rattle.plain_files.specs.Bytes.{most_bytes, page_of_byte}
use Rattle.plain_files.specs.Jobs.{jfns_of}
use Rattle.plain_files.specs.OpenFiles.{OpenFile}
use Rattle.plain_files.specs.declared.jfn.Jfn.{Jfn}
use Rattle.plain_pages.specs.PlainPages.{NumberedPages}
use Rattle.plain_pages.specs.References.{in_file, settled}
use Rattle.plain_units.specs.Deeds.{in_ac}
use Rattle.plain_model.specs.declared.call.ByteChange.{ByteChange}
use Rattle.plain_model.specs.declared.call.ByteChange.TheVariants.{Put}
use Rattle.plain_model.specs.declared.call.End.{End}
use Rattle.plain_model.specs.declared.call.End.TheVariants.{Refused}
use Rattle.plain_model.specs.declared.call.TheConstants.{BAD_POSITION}
use Rattle.plain_model.specs.ByteCalls.{ByteAsked, ByteTurn, byte_page, if_written, jfn_number, put_byte}
use Rattle.plain_model.specs.Calls.{Came, ends, returning, touches, turn_on}
use Rattle.plain_model.specs.MapCalls.{file_spot}
use Rattle.call_turns.specs.declared.turn.Grant.TheVariants.{Fill}
use Rattle.call_turns.specs.declared.turn.Outcome.{Outcome}
use Rattle.call_turns.specs.declared.turn.WhenFull.TheVariants.{Traps}
use Rattle.call_turns.specs.Granting.{GrantsOr, pages_granted}
use Rattle.call_turns.specs.Numbers.{by_number}
use Rattle.call_turns.specs.Telling.{looks_need, touch_need}
use Rattle.call_turns.specs.Turns.{filling}
use Rattle.file_tables.specs.declared.tables.FileTables.{FileTables}
use Rattle.file_tables.specs.Keys.{key_of, seen_in}
use Rattle.file_bytes.specs.Planning.{made_for}
use Rattle.file_bytes.specs.Turning.{ByteNeeds}
use Rattle.file_bytes.proofs.NextByte.{first_needs}

module _ (tables : FileTables) (scene : Scene) (p : NumberedPages) (a : ByteAsked) (j : OpenFile) where
  abbrev done : End ByteChange
  done = returning (Put a.who.tty (jfn_number a) (in_ac a.regs 2)) a.regs

  abbrev writes : ByteTurn
  writes = touches a.who.tty (file_spot j (byte_page j)) Write (λ what. ends (if_written done what))

  abbrev branch : Bool → ByteTurn
  branch b = cond b writes (ends (Refused BAD_POSITION))

  -- no room for the byte
  pub no_place : nat_lt j.at (most_bytes j.size) ≡ false → ends (Refused BAD_POSITION) ≡ put_byte a j
  no_place h = ap branch (sym h)

  module _ (h : nat_lt j.at (most_bytes j.size) ≡ true) (f : ℕ) (key : key_of tables j.file ≡ f) where
    abbrev fills : Rattle.plain_model.specs.Calls.Turn ℕ ByteChange
    fills = filling a.who.tty (file_page f (byte_page j)) done Traps

    -- it goes as the turn that fills a page by its number
    pub fills_so : turn_on (seen_in tables) p (put_byte a j) ≡ turn_on (by_number (seen_in tables)) p fills
    unfolding turn_on
    fills_so = ap (λ b. turn_on (seen_in tables) p (branch b)) h ∙ ap (λ (k : ℕ). turn_on (by_number (seen_in tables)) p (filling a.who.tty (file_page k (byte_page j)) done Traps)) key

    looks : looks_need (by_number (seen_in tables)) scene p fills ≡ touch_need scene p (in_file (file_page f (byte_page j))) Write a.who.tty
    unfolding looks_need
    looks = refl

    -- its page is in no frame, or wants one
    pub fill_needs : (n : Need) → looks_need (by_number (seen_in tables)) scene p fills ≡ Some n → ByteNeeds tables scene p (put_byte a j) n
    fill_needs n is =
        subst (λ b. ByteNeeds tables scene p (branch b) n) (sym h)
        (first_needs _ _ n (ap (λ (k : ℕ). touch_need scene p (in_file (file_page k (byte_page j))) Write a.who.tty) key ∙ sym looks ∙ is))

  -- what it makes is what its end writes into
  module _ (jfn : Jfn) (held : map.get (jfns_of tables.jobs a.who.tty.0) (jfn_number a) ≡ Some jfn) (page : ℕ) (is : page ≡ page_of_byte jfn.size jfn.at) where
    abbrev owner : Tty
    owner = a.who.tty

    pub made_is : (o : Outcome ByteChange) → GrantsOr (Fill jfn.file page) done Traps o → pages_granted p owner o.grant ≡ made_for tables owner p o.end
    made_is o (inl e) =
        ap (λ (x : Outcome ByteChange). pages_granted p owner x.grant) e
        ∙ ap (λ (k : ℕ). settled p (in_file (file_page jfn.file.0 k)) Write owner) is
        ∙ ap (λ (x : Option Jfn). option_map_or (λ (k : Jfn). settled p (in_file (file_page k.file.0 (page_of_byte k.size k.at))) Write owner) x p) (sym held)
        ∙ sym (ap (λ (x : Outcome ByteChange). made_for tables owner p x.end) e)
    made_is o (inr (inl e)) = ap (λ (x : Outcome ByteChange). pages_granted p owner x.grant) e.1 ∙ sym (ap (λ (x : Outcome ByteChange). made_for tables owner p x.end) e.1)
    made_is o (inr (inr e)) = ap (λ (x : Outcome ByteChange). pages_granted p owner x.grant) e ∙ sym (ap (λ (x : Outcome ByteChange). made_for tables owner p x.end) e)
