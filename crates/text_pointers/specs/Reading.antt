-- How far a reading has come, and what a part of it that was done says of the whole.
use Rattle.std.specs.Prelude.{◌≡◌, ◌≢◌, ◌⊎◌, ℕ, ◌+◌, ◌*◌, ◌≤◌, true, List, [], Option, None, Some, Result, Ok, Err, ⊤, false, is_some}
use Rattle.std.specs.Option.{option_map}
use Rattle.arrayvec.specs.ArrayVec.{ArrayVec}
use Rattle.machine_names.specs.declared.names.ForkName.{ForkName}
use Rattle.machine_names.specs.declared.names.Kind.TheVariants.{Read}
use Rattle.machine_names.specs.declared.names.Slot.{Slot}
use Rattle.plain_pages.specs.PlainPages.{NumberedPages}
use Rattle.plain_pages.specs.References.{in_map, makings, page_at}
use Rattle.page_contracts.specs.declared.answers.Need.{Need}
use Rattle.page_contracts.specs.Pages.{PagesMeaning}
use Rattle.plain_units.specs.declared.channel.TheConstants.{DENIED_READ, DENIED_WRITE, DRUM_FULL}
use Rattle.plain_units.specs.declared.registers.Regs.{Regs}
use Rattle.plain_model.specs.declared.text.TheConstants.{MOST_BYTES}
use Rattle.plain_model.specs.PointedTexts.{byte_at, bytes_from, text_at}
use Rattle.plain_units.specs.Steps.{is_accumulator}
use Rattle.plain_model.specs.Readings.{Reading, read, word_steps, words, written_steps}
use Rattle.page_gather.specs.Gathering.{Gathers, IsNear, left_of, most_made}
use Rattle.ka10_unit.specs.declared.taken.Stop.{Stop}
use Rattle.ka10_unit.specs.declared.taken.Stop.TheVariants as stop
use Rattle.ka10_unit.specs.Gathers.{Framed, asks, weight}
use Rattle.ka10_unit.specs.Taking.{IsOpenAt, IsTrap, StopNeeds, asked_as, read_frames, stop_of}
use Rattle.text_pointers.specs.declared.reader.Reader.{Reader}
use Rattle.text_pointers.specs.declared.byte.PointedByte.{PointedByte}
use Rattle.text_pointers.specs.Outcomes.{IsPlain, Outcome, leaves, read_on, read_over, stops}

-- the pages that the references so far leave
abbrev pub pages_so_far : Framed → Reader → NumberedPages
pages_so_far p r = left_of p.pages r.gather

-- a page of a fork's space
abbrev pub in_space : ForkName → ℕ → Slot
in_space f page = record { fork = f; page = page }

-- a page of a fork's space is there and in a frame, and a read of it makes nothing more
pub record IsReadable (f : ForkName) (p : Framed) (q : NumberedPages) (page : ℕ) : Type 0 where
  pub makes : makings q (in_map (in_space f page)) Read ≡ Some []
  pub there : is_some (page_at q (in_map (in_space f page))) ≡ true
  pub near : IsNear q p.scene (in_space f page)

-- so is that of the last word that was read in one
abbrev pub HasPage : ForkName → Framed → NumberedPages → Option ℕ → Type 0
HasPage f p q None = Unit {0}
HasPage f p q (Some page) = IsReadable f p q page

-- what a reader of a fork's space has referred to: each reference goes through
pub record Stands (f : ForkName) (p : Framed) (r : Reader) : Type 0 where
  pub fork : r.fork ≡ f
  pub gathers : Gathers p.pages p.scene r.gather
  pub page : HasPage f p (pages_so_far p r) r.page

-- ---- how much is referred to

-- how many frames a reading may want: those of its address, and one for each of the two pages of its bytes
abbrev pub text_frames : ℕ
text_frames = read_frames + 2 * most_made Read

-- a page was referred to before, or there is room for one more
abbrev pub MayRefer : Reader → ℕ → Type 0
MayRefer r page = (r.page ≡ Some page) ⊎ (weight r.gather + 1 ≤ text_frames)

-- nothing more was referred to
pub record IsSame (old new : Reader) : Type 0 where
  pub page : new.page ≡ old.page
  pub weight_is : weight new.gather ≤ weight old.gather

-- one page more was, another than that of the last byte
pub record IsNext (old new : Reader) (page : ℕ) : Type 0 where
  pub page_is : new.page ≡ Some page
  pub other : old.page ≢ Some page
  pub weight_is : weight new.gather ≤ weight old.gather + 1

-- a page is referred to once in a row
abbrev pub RefersOnce : {A : Type 0} → Reader → Reader → ℕ → Result A Stop → Type 0
RefersOnce old new page (Ok x) = IsSame old new ⊎ IsNext old new page
RefersOnce old new page (Err e) = Unit {0}

-- what a reading that stops needs first is so, and it needs nothing over pages in memory
abbrev pub StopsFor : {P : Type 0} → PagesMeaning P → P → Stop → Type 0
StopsFor means p stop = (means.flat ≡ true → IsTrap stop) × StopNeeds means.store text_frames p stop

-- a stop that is a trap is by a reference that is denied, or for which the drum is full
abbrev pub IsByReference : Stop → Type 0
IsByReference (stop.Trap channel) = (channel ≡ DENIED_READ) ⊎ (channel ≡ DENIED_WRITE) ⊎ (channel ≡ DRUM_FULL)
IsByReference (stop.Need n) = Unit {0}

-- ---- what the calls say

-- a page was referred to, and can be read on the pages that this leaves
pub record ReadsPage (f : ForkName) (p : Framed) (old new : Reader) (page : ℕ) (result : Result ⊤ Stop) : Type 0 where
  pub is : asks f p (pages_so_far p old) (in_space f page) Read ≡ asked_as result (pages_so_far p new)
  pub stands : (x : ⊤) → result ≡ Ok x → Stands f p new
  pub readable : (x : ⊤) → result ≡ Ok x → IsReadable f p (pages_so_far p new) page

-- a reading goes on with what was found, or stops
abbrev pub went_on : {A B : Type 0} → Result B Stop → (B → Outcome Need A) → Outcome Need A
went_on (Ok x) next = next x
went_on (Err e) next = stops (stop_of e)

-- the reading of the word at an address
abbrev pub one_word : Regs → ℕ → Reading ℕ
one_word regs at = words (word_steps regs at) (λ w. read w)

-- a word was read, or the reading stopped
pub record ReadsWord (f : ForkName) (p : Framed) (regs : Regs) (old new : Reader) (at : ℕ) (result : Result ℕ Stop) : Type 0 where
  pub stands : (w : ℕ) → result ≡ Ok w → Stands f p new
  pub is : read_over f p regs (one_word regs at) (pages_so_far p old) ≡ went_on result (leaves (pages_so_far p new))

-- the reading that refers to the word at an address, to write it, whatever it is
abbrev pub one_opened : Regs → ℕ → Reading ⊤
one_opened regs at = words (written_steps regs at) (λ w. read tt)

-- a word that is to be written was referred to, and can be stored on the pages that this leaves; or the reading stopped
pub record OpensWord (f : ForkName) (p : Framed) (old new : Reader) (at : ℕ) (result : Result ⊤ Stop) : Type 0 where
  pub stands : (x : ⊤) → result ≡ Ok x → Stands f p new
  pub is : (regs : Regs) → read_over f p regs (one_opened regs at) (pages_so_far p old) ≡ went_on result (leaves (pages_so_far p new))
  pub open_at : (x : ⊤) → result ≡ Ok x → is_accumulator at ≡ false → IsOpenAt f (record p { pages = pages_so_far p new }) at

-- the bytes of a text, if there is one
abbrev pub bytes_of : Option (ArrayVec ℕ) → Option (List ℕ)
bytes_of text = option_map (λ t. t.items) text

-- how a reading ended, or why it stopped
abbrev pub came_to : Framed → Reader → Result (Option (ArrayVec ℕ)) Stop → Outcome Need (Option (List ℕ))
came_to p new (Ok text) = leaves (pages_so_far p new) (bytes_of text)
came_to p new (Err e) = stops (stop_of e)

-- the bytes from a pointer on were read
pub record ReadsBytes (f : ForkName) (p : Framed) (regs : Regs) (old new : Reader) (first : ℕ) (result : Result (Option (ArrayVec ℕ)) Stop) : Type 0 where
  pub stands : (text : Option (ArrayVec ℕ)) → result ≡ Ok text → Stands f p new
  pub is : read_over f p regs (bytes_from MOST_BYTES regs first []) (pages_so_far p old) ≡ came_to p new result

-- A TEXT WAS READ: over these pages its reading comes to this, and over the plain ones where it needs nothing first
pub record ReadsText (f : ForkName) (p : Framed) (regs : Regs) (pointer : ℕ) (new : Reader) (result : Result (Option (ArrayVec ℕ)) Stop) : Type 0 where
  pub stands : (text : Option (ArrayVec ℕ)) → result ≡ Ok text → Stands f p new
  pub is : read_over f p regs (text_at regs pointer) p.pages ≡ came_to p new result
  pub plain : IsPlain (came_to p new result) (read_on f regs (text_at regs pointer) p.pages)

-- how the reading of a byte ended
abbrev pub byte_ended : Framed → Result PointedByte Stop → Outcome Need ℕ
byte_ended p (Ok b) = leaves (pages_so_far p b.reader) b.byte
byte_ended p (Err e) = stops (stop_of e)

-- A BYTE WAS READ: over these pages its reading comes to this, and over the plain ones where it needs nothing first
pub record ReadsByte (f : ForkName) (p : Framed) (regs : Regs) (pointer : ℕ) (result : Result PointedByte Stop) : Type 0 where
  pub stands : (b : PointedByte) → result ≡ Ok b → Stands f p b.reader
  pub is : read_over f p regs (byte_at regs pointer) p.pages ≡ byte_ended p result
  pub plain : IsPlain (byte_ended p result) (read_on f regs (byte_at regs pointer) p.pages)
