-- What a plan leaves that is carried out.
use Rattle.std.proofs.Common.{◌≡◌, ℕ, ◌+◌, ◌%◌, Option, None, Some, refl, sym, subst}
use Rattle.std.specs.Option.{option_map_or}
use Rattle.std.specs.Ordering.{nat_cmp}
use Rattle.outside.specs.declared.TheConstants.{PAGE_WORDS}
use Rattle.machine_names.specs.declared.names.ForkName.{ForkName}
use Rattle.machine_names.specs.declared.names.PageName.{PageName}
use Rattle.machine_names.specs.declared.names.Tty.{Tty}
use Rattle.page_contracts.specs.Pages.{MayLose, PagesMeaning, Scene}
use Rattle.page_gather.specs.Gathering.{most_framed}
use Rattle.plain_pages.specs.PlainPages.{NumberedPages}
use Rattle.plain_pages.specs.References.{in_map, page_at, slot_at, with_word}
use Rattle.plain_pages.specs.Room.{live, names}
use Rattle.plain_units.specs.declared.registers.Regs.{Regs}
use Rattle.plain_units.specs.declared.unit.Put.{Put}
use Rattle.plain_units.specs.Steps.{put_into}
use Rattle.plain_model.specs.declared.call.ByteChange.{ByteChange}
use Rattle.plain_model.specs.declared.call.ByteChange.TheVariants.{Nothing, Take, Move, Put as Write}
use Rattle.plain_model.specs.declared.call.End.{End}
use Rattle.plain_model.specs.declared.call.End.TheVariants.{Done, Waits, Halts, Refused, Failed, Trap}
use Rattle.plain_model.specs.ByteCalls.{byte_changed}
use Rattle.plain_model.specs.Calls.{parts_behind}
use Rattle.plain_model.specs.FileCalls.{FileParts, Jobs}
use Rattle.call_turns.specs.Making.{MakesAtMost}
use Rattle.file_tables.specs.declared.tables.FileTables.{FileTables}
use Rattle.file_tables.specs.Keys.{key_of}
use Rattle.ka10_unit.specs.Carrying.{Grows}
use Rattle.ka10_unit.specs.Gathers.{Framed}
use Rattle.file_bytes.specs.Asking.{parts}
use Rattle.file_bytes.specs.Planning.{made_for, pages_for}
use Rattle.string_io.specs.Carrying.{Opens}
use Rattle.string_io.specs.Planning.{OpensEnd}

-- a word that is stored leaves how many pages there are
pub live_put : (f : ForkName) (p : NumberedPages) (put : Option Put) → live (put_into f p put) ≡ live p
unfolding live names
live_put f p None = refl
live_put f p (Some put) = by (page_at p (in_map (slot_at f put.at)))
  where
    by : (n : Option PageName) → live (option_map_or (with_word p (put.at % PAGE_WORDS) put.word) n p) ≡ live p
    by None = refl
    by (Some n) = refl

-- the page of the byte that an end writes can be had, once what its plan refers to was made
module _ (tables : FileTables) (p : Framed) (t : Tty) (q now : NumberedPages) (scene : Scene) (same : now ≡ q) (away : scene.page_away ≡ p.scene.page_away) (framed : live q + scene.free_frames ≡ most_framed p.pages p.scene) where
  opens_what : (what : ByteChange) (regs : Regs) (out post : Option ℕ) → OpensEnd tables p t q (Done what regs out post) → Opens now scene tables t what
  opens_what Nothing regs out post h = tt
  opens_what (Take u) regs out post h = tt
  opens_what (Move u n at) regs out post h = tt
  opens_what (Write u n byte) regs out post h = λ jfn held. subst (λ (r : NumberedPages). Opens r scene tables t (Write u n byte)) (sym same) (λ k is. h k is scene away framed) jfn held

  pub opens_done : (e : End ByteChange) (what : ByteChange) (regs : Regs) (out post : Option ℕ) → e ≡ Done what regs out post → OpensEnd tables p t q e → Opens now scene tables t what
  opens_done e what regs out post is h = opens_what what regs out post (subst (OpensEnd tables p t q) is h)

-- an end that is done leaves what its change does, and another what was there
module _ (tables : FileTables) (t : Tty) (jobs : Jobs) (p q : NumberedPages) where
  abbrev Behind : FileParts nat_cmp → End ByteChange → Type 0
  Behind new e = new ≡ parts_behind (byte_changed (key_of tables)) (parts jobs tables p) (parts jobs tables (made_for tables t q e)) e

  pub behind_done : (new : FileParts nat_cmp) (e : End ByteChange) (what : ByteChange) (regs : Regs) (out post : Option ℕ) → e ≡ Done what regs out post → new ≡ byte_changed (key_of tables) what (parts jobs tables (pages_for tables t q what)) → Behind new e
  unfolding parts_behind
  behind_done new e what regs out post is h = subst (Behind new) (sym is) h

  pub behind_other : (new : FileParts nat_cmp) (e : End ByteChange) → ((what : ByteChange) (regs : Regs) (out post : Option ℕ) → e ≡ Done what regs out post → ⊥) → new ≡ parts jobs tables p → Behind new e
  unfolding parts_behind
  behind_other new (Done what regs out post) other h = absurd (other what regs out post refl)
  behind_other new (Waits on) other h = h
  behind_other new Halts other h = h
  behind_other new (Refused code) other h = h
  behind_other new (Failed code) other h = h
  behind_other new (Trap channel) other h = h

-- so many pages at most were made, and transfers may have been taken
pub made_grows : {P : Type 0} (means : PagesMeaning P) (t : Tty) (n : ℕ) (old new : P) → MakesAtMost means t n old new → MayLose means old new → Grows means t n old new
made_grows means t n old new m loses = record { lives = m.lives; forks = m.forks; most = m.most; serial = m.serial; serials = m.serials; loses = loses }
