-- The bytes that SOUT writes to a file.
use Rattle.std.proofs.Common.{◌≡◌, ℕ, Bool, true, false, cond, ◌&&◌, ◌==◌, nat_lt, List, Option, None, Some, refl, sym, ◌∙◌, ap, subst}
use Rattle.std.specs.Prelude.{⊤, Result, Ok, Err}
use Rattle.std.specs.Option.{option_map_or}
use Rattle.std.specs.FinMap as map
use Rattle.machine_names.specs.declared.names.ForkName.{ForkName}
use Rattle.machine_names.specs.declared.names.Kind.TheVariants.{Write}
use Rattle.machine_names.specs.Orders.{FilePage, file_page}
use Rattle.page_contracts.specs.DrumWords.{DrumWords}
use Rattle.page_contracts.specs.declared.answers.Need.{Need as ANeed}
use Rattle.page_contracts.specs.Pages.{PagesMeaning, Scene}
use Rattle.page_gather.specs.Gathering.{most_framed}
use Rattle.plain_files.specs.Bytes.{most_bytes, page_of_byte}
use Rattle.plain_files.specs.Jobs.{jfns_of}
use Rattle.plain_files.specs.NamedFiles.{open_file}
use Rattle.plain_files.specs.OpenFiles.{OpenFile}
use Rattle.plain_files.specs.declared.jfn.Jfn.{Jfn}
use Rattle.plain_pages.specs.PlainPages.{NumberedPages}
use Rattle.plain_pages.specs.References.{Referred, full, granted, in_file, reference, settled}
use Rattle.plain_units.specs.declared.channel.TheConstants.{DRUM_FULL}
use Rattle.plain_units.specs.declared.registers.Regs.{Regs}
use Rattle.plain_units.specs.Deeds.{in_ac}
use Rattle.plain_model.specs.declared.call.ByteChange.{ByteChange}
use Rattle.plain_model.specs.declared.call.ByteChange.TheVariants.{Nothing, Put}
use Rattle.plain_model.specs.declared.call.End.{End}
use Rattle.plain_model.specs.declared.call.End.TheVariants.{Done, Refused, Trap as TrapEnd}
use Rattle.plain_model.specs.declared.call.TheConstants.{BAD_POSITION}
use Rattle.plain_model.specs.ByteCalls.{ByteAsked, ByteTurn, byte_page, if_written, jfn_number}
use Rattle.plain_model.specs.Calls.{ends, returning, touches, turn_on}
use Rattle.plain_model.specs.MapCalls.{file_spot}
use Rattle.plain_model.specs.StringCalls.{behind_byte, next_pointer, puts_byte, with_next}
use Rattle.ka10_unit.specs.declared.taken.Stop.{Stop}
use Rattle.ka10_unit.specs.declared.taken.Stop.TheVariants.{Trap, Need}
use Rattle.ka10_unit.specs.Gathers.{Framed, framed}
use Rattle.call_turns.specs.Telling.{touch_need}
use Rattle.file_tables.specs.declared.tables.FileTables.{FileTables}
use Rattle.file_tables.specs.Keys.{key_of, seen_in}
use Rattle.text_pointers.specs.Needing.{frames_left}
use Rattle.text_pointers.specs.declared.byte.PointedByte.{PointedByte}
use Rattle.text_pointers.specs.Reading.{ReadsByte, pages_so_far}
use Rattle.text_pointers.proofs.Needs.{byte_later}
use Rattle.text_pointers.proofs.Turns.{byte_goes}
use Rattle.file_bytes.specs.Asking.{asked_on}
use Rattle.file_bytes.specs.Planning.{made_for, page_for}
use Rattle.file_bytes.proofs.NextByte.{first_needs}
use Rattle.string_io.specs.declared.plan.Plan.{Plan}
use Rattle.string_io.specs.Depositing.{CanCarry, pages_planned}
use Rattle.string_io.specs.Filling.{FillsAs}
use Rattle.string_io.specs.Planning.{CanFill, IsPlan, OpensEnd, Plans}
use Rattle.string_io.specs.Turning.{StringNeeds}
use Rattle.string_io.specs.Writing.{writes_to}
use Rattle.string_io.proofs.Planned.{byte_pages, byte_stands}

module _ (a : ByteAsked) (j : OpenFile) where
  -- a byte for which the file has room, or not
  abbrev branch : Bool → ByteTurn
  branch b = cond b (with_next a (puts_byte a j)) (ends (Refused BAD_POSITION))

  pub no_place : nat_lt j.at (most_bytes j.size) ≡ false → ends (Refused BAD_POSITION) ≡ writes_to a j
  no_place h = ap branch (sym h)

  pub has_place : nat_lt j.at (most_bytes j.size) ≡ true → with_next a (puts_byte a j) ≡ writes_to a j
  has_place h = ap branch (sym h)

  module _ (pointer byte : ℕ) where
    abbrev pub written_end : End ByteChange
    written_end = Done (Put a.who.tty (jfn_number a) byte) (behind_byte a.regs pointer byte) None None

    abbrev pub far : ByteTurn
    far = touches a.who.tty (file_spot j (byte_page j)) Write (λ what. ends (if_written written_end what))

    abbrev by_end : Bool → ByteTurn
    by_end b = cond b (ends (returning Nothing a.regs)) far

    -- a byte that ends its string, or not
    pub ends_so : ((in_ac a.regs 3 == 0) && (byte == 0)) ≡ true → ends (returning Nothing a.regs) ≡ puts_byte a j pointer byte
    ends_so h = ap by_end (sym h)

    pub goes_so : ((in_ac a.regs 3 == 0) && (byte == 0)) ≡ false → far ≡ puts_byte a j pointer byte
    goes_so h = ap by_end (sym h)

    module _ (tables : FileTables) (f : ℕ) (key : key_of tables j.file ≡ f) (q : NumberedPages) where
      abbrev at : ℕ → FilePage ℕ
      at k = file_page k (byte_page j)

      by_key : (k : ℕ) → key_of tables j.file ≡ k → (x : Referred _) → reference q (in_file (at k)) Write a.who.tty ≡ x → reference q (in_file (at (key_of tables j.file))) Write a.who.tty ≡ x
      by_key k same x is = ap (λ n. reference q (in_file (at n)) Write a.who.tty) same ∙ is

      -- its page can be had
      pub far_goes : (r : NumberedPages) → reference q (in_file (at f)) Write a.who.tty ≡ granted r → turn_on (seen_in tables) q far ≡ record { end = written_end; pages = r }
      unfolding turn_on
      far_goes r is = rw (by_key f key (granted r) is) refl

      -- or the drum is full
      pub far_full : reference q (in_file (at f)) Write a.who.tty ≡ full → (turn_on (seen_in tables) q far).end ≡ TrapEnd DRUM_FULL
      unfolding turn_on
      far_full is = rw (by_key f key full is) refl

      -- or something is needed first
      pub far_needs : (scene : Scene) (n : ANeed) → touch_need scene q (in_file (at f)) Write a.who.tty ≡ Some n → StringNeeds tables scene q far n
      far_needs scene n is = first_needs _ _ n (ap (λ k. touch_need scene q (in_file (at k)) Write a.who.tty) key ∙ is)

-- THE PLAN OF A BYTE that is written into a file
module _ {P : Type 0} (means : PagesMeaning P) (pages : P) (tables : FileTables) (who : ForkName) (regs : Regs) (input : List ℕ) (jfn : Jfn) (key : key_of tables (open_file tables.dir jfn).file ≡ jfn.file.0)
    (b : PointedByte) (reads_so : (d : DrumWords) → means.fits pages d → ReadsByte who (framed means pages d) regs (next_pointer (in_ac regs 2)) (Ok b)) (more : ((in_ac regs 3 == 0) && (b.byte == 0)) ≡ false)
    (page : ℕ) (is_page : page ≡ page_of_byte jfn.size jfn.at) where
  abbrev j : OpenFile
  j = open_file tables.dir jfn

  abbrev asking : NumberedPages → ByteAsked
  asking p = asked_on who regs tables input p

  abbrev pub turn : NumberedPages → ByteTurn
  turn p = let a = asking p in with_next a (puts_byte a j)

  abbrev pointer : ℕ
  pointer = next_pointer (in_ac regs 2)

  abbrev left : DrumWords → NumberedPages
  left d = pages_so_far (framed means pages d) b.reader

  abbrev FillsNow : DrumWords → Result ⊤ Stop → Type 0
  FillsNow d result = FillsAs (framed means pages d) (left d) who.tty (file_page jfn.file.0 page) result

  -- it goes on behind its reading
  comes : (d : DrumWords) → means.fits pages d → turn_on (seen_in tables) (means.plain pages d) (turn (means.plain pages d)) ≡ turn_on (seen_in tables) (left d) (far (asking (means.plain pages d)) j pointer b.byte)
  comes d fits =
      let a = asking (means.plain pages d) in
      byte_goes (seen_in tables) who regs (puts_byte a j pointer) (framed means pages d) pointer b (reads_so d fits) ∙ ap (turn_on (seen_in tables) (left d)) (sym (goes_so a j pointer b.byte more))

  same_page : file_page jfn.file.0 page ≡ page_for jfn
  same_page = ap (file_page jfn.file.0) is_page

  -- it is stopped by its page
  pub write_stops : (stop : Stop) → ((d : DrumWords) → means.fits pages d → FillsNow d (Err stop)) → Plans means pages tables who turn (Err stop)
  write_stops stop fills_so = record {
    stands = λ plan d no fits. absurd (cc no);
    opens = λ plan d no fits. absurd (cc no);
    is = λ d fits. by d fits stop (fills_so d fits);
  }
    where
      by : (d : DrumWords) → means.fits pages d → (e : Stop) → FillsNow d (Err e) → IsPlan tables (framed means pages d) who.tty (turn (means.plain pages d)) (Err e)
      by d fits (Trap channel) h =
          let a = asking (means.plain pages d) in
          let full_now = subst (λ (f : FilePage ℕ). reference (left d) (in_file f) Write who.tty ≡ full) same_page h.1 in
          ap (λ c. c.end) (comes d fits) ∙ far_full a j pointer b.byte tables jfn.file.0 key (left d) full_now ∙ ap TrapEnd (sym h.0)
      by d fits (Need n) h =
          let p = framed means pages d in
          let a = asking p.pages in
          let needs = subst (λ (f : FilePage ℕ). touch_need (frames_left p.scene p.pages (left d)) (left d) (in_file f) Write who.tty ≡ Some n) same_page h in
          byte_later (λ scene q u. StringNeeds tables scene q u n) who regs n (puts_byte a j pointer) (λ scene q steps rest k. k) p pointer (left d) b.byte (reads_so d fits).is
          (subst (λ (u : ByteTurn). StringNeeds tables (frames_left p.scene p.pages (left d)) (left d) u n) (goes_so a j pointer b.byte more) (far_needs a j pointer b.byte tables jfn.file.0 key (left d) (frames_left p.scene p.pages (left d)) n needs))

  -- or it is written
  module _ (plan : Plan) (fork : plan.fork ≡ b.reader.fork) (gather : plan.gather ≡ b.reader.gather) (put : plan.put ≡ None) (n : ℕ) (ending : plan.ending ≡ Done (Put who.tty n b.byte) (behind_byte regs pointer b.byte) None None)
      (number : (p : NumberedPages) → n ≡ jfn_number (asking p)) (held : map.get (jfns_of tables.jobs who.tty.0) n ≡ Some jfn) where
    left_is : (d : DrumWords) → left d ≡ pages_planned (framed means pages d) plan
    left_is d = byte_pages means pages tables who regs pointer (λ p. puts_byte (asking p) j pointer) b plan fork gather put reads_so (framed means pages d)

    made_is : (q : NumberedPages) → settled q (in_file (page_for jfn)) Write who.tty ≡ made_for tables who.tty q plan.ending
    made_is q = ap (λ (o : Option Jfn). option_map_or (λ k. settled q (in_file (page_for k)) Write who.tty) o q) (sym held) ∙ ap (made_for tables who.tty q) (sym ending)

    opens_so : (p : Framed) (q : NumberedPages) → CanFill q p.scene (most_framed p.pages p.scene) who.tty (page_for jfn) → OpensEnd tables p who.tty q plan.ending
    opens_so p q can = subst (OpensEnd tables p who.tty q) (sym ending) (λ other is. (let its : jfn ≡ other = same other (sym held ∙ is) in subst (λ (k : Jfn). CanFill q p.scene (most_framed p.pages p.scene) who.tty (page_for k)) its can))
      where
        same : (other : Jfn) → Some jfn ≡ Some other → jfn ≡ other
        same other h = cc h

    pub write_plans : (x : ⊤) → ((d : DrumWords) → means.fits pages d → FillsNow d (Ok x)) → Plans means pages tables who turn (Ok plan)
    write_plans x fills_so = record {
      stands = λ one d same fits. (let its : plan ≡ one = cc same in subst (CanCarry who (framed means pages d)) its (byte_stands means pages tables who regs pointer (λ p. puts_byte (asking p) j pointer) b plan fork gather put reads_so d fits));
      opens = λ one d same fits.
          let p = framed means pages d in
          let its : plan ≡ one = cc same in
          let can = subst (λ (f : FilePage ℕ). CanFill (left d) p.scene (most_framed p.pages p.scene) who.tty f) same_page (fills_so d fits).1 in
          subst (λ (y : Plan). OpensEnd tables p who.tty (pages_planned p y) y.ending) its (subst (λ (q : NumberedPages). OpensEnd tables p who.tty q plan.ending) (left_is d) (opens_so p (left d) can));
      is = λ d fits.
          let p = framed means pages d in
          let a = asking p.pages in
          let go = subst (λ (f : FilePage ℕ). reference (left d) (in_file f) Write who.tty ≡ granted (settled (left d) (in_file f) Write who.tty)) same_page (fills_so d fits).0 in
          let done : written_end a j pointer b.byte ≡ plan.ending = ap (λ (k : ℕ). Done (Put who.tty k b.byte) (behind_byte regs pointer b.byte) None None) (sym (number p.pages)) ∙ sym ending in
          comes d fits ∙ far_goes a j pointer b.byte tables jfn.file.0 key (left d) (settled (left d) (in_file (page_for jfn)) Write who.tty) go
          ∙ (λ i. record { end = done i; pages = made_is (left d) i }) ∙ ap (λ (q : NumberedPages). record { end = plan.ending; pages = made_for tables who.tty q plan.ending }) (left_is d);
    }
