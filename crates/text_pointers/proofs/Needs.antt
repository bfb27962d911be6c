-- A turn that reads needs first what the reading needs.
use Rattle.std.proofs.Common.{◌≡◌, ℕ, zero, suc, ◌+◌, ◌-◌, ◌≤◌, Bool, true, false, cond, List, [], ◌∷◌, ◌++◌, Option, None, Some, refl, sym, ◌∙◌, ap, subst, arith}
use Rattle.std.specs.Prelude.{◌==◌, length, nat_le, slice_index}
use Rattle.std.specs.Ordering.{nat_cmp}
use Rattle.std.proofs.lemmas.Bool.Decides.{nat_tests}
use Rattle.word36.specs.Bytes.{incremented, loaded}
use Rattle.machine_names.specs.declared.names.ForkName.{ForkName}
use Rattle.machine_names.specs.declared.names.Kind.{Kind}
use Rattle.machine_names.specs.declared.names.Kind.TheVariants.{Read}
use Rattle.machine_names.specs.declared.names.Slot.{Slot}
use Rattle.page_contracts.specs.declared.answers.Need.{Need}
use Rattle.page_contracts.specs.declared.answers.Need.TheVariants.{Frame}
use Rattle.page_contracts.specs.Pages.{Scene, first_away, map_away, page_away}
use Rattle.plain_units.specs.declared.channel.TheConstants.{ILLEGAL_INSTRUCTION}
use Rattle.plain_units.specs.declared.registers.Regs.{Regs}
use Rattle.plain_units.specs.declared.unit.Put.{Put}
use Rattle.plain_units.specs.declared.unit.TheConstants.{MOST_REFERENCES}
use Rattle.std.specs.Option.{option_or}
use Rattle.plain_pages.specs.Maps.{entry_at, maps_on_way}
use Rattle.plain_pages.specs.PlainPages.{NumberedPages}
use Rattle.plain_pages.specs.References.{Referred, denied, full, granted, in_map, reference, slot_at}
use Rattle.plain_pages.specs.Room.{live}
use Rattle.plain_units.specs.Addressing.{address, address_within, indexed, is_indirect}
use Rattle.plain_units.specs.Steps.{Asked, Ending, Progress, Steps, asked_at, begun, calls, done, call, ends as steps_end, goes, goes_on as steps_go, is_accumulator, keeps, need, pages_left, put_into, referred, refers, run, stopped, stops as asked_stops, trap, traps, widens, word_taken}
use Rattle.plain_model.specs.Calls.{Turn, takes}
use Rattle.plain_model.specs.PointedTexts.{byte_at, bytes_from, full_pointer, pointing_to, text_at}
use Rattle.plain_model.specs.Readings.{Reading, ends_with, read, with_reading, words}
use Rattle.page_gather.specs.declared.reference.Added.TheVariants as added
use Rattle.page_gather.specs.Gathering.{answered, came_to, left_by, most_framed, page_or}
use Rattle.ka10_unit.specs.Gathers.{Framed, asked_by, asks}
use Rattle.ka10_unit.specs.Taking.{Plan, run_over}
use Rattle.text_pointers.specs.Needing.{NeedsFirst, StepsNeed, frames_left}
use Rattle.text_pointers.specs.Outcomes.{goes_on, leaves, read_over, reads, stops}

-- ---- steps that only read

-- they end with no word stored
abbrev pub OnlyRead : Steps → Type 0
OnlyRead (refers a kind next) = (w : ℕ) → OnlyRead (next w)
OnlyRead (widens a next) = ⊥
OnlyRead (keeps a w next) = ⊥
OnlyRead (steps_end e) = e.put ≡ None
OnlyRead (traps channel) = Unit {0}
OnlyRead (calls number) = ⊥

module _ (f : ForkName) (p : Framed) where
  abbrev pub most : ℕ
  most = most_framed p.pages p.scene

  -- what they leave is framed, and stored nowhere
  abbrev pub AreLeft : Plan → Type 0
  AreLeft (done t e) = (t.kept ≡ None) × (e.put ≡ None) × (live t.pages ≤ most)
  AreLeft plan = Unit {0}

  abbrev IsFramed : Asked Need NumberedPages → Type 0
  IsFramed (goes q) = live q ≤ most
  IsFramed (asked_stops why) = Unit {0}

  asks_framed : (q : NumberedPages) (s : Slot) (kind : Kind) → IsFramed (asks f p q s kind)
  unfolding asks answered
  asks_framed q s kind = by (map_away q p.scene (in_map s)) (page_away q p.scene (in_map s)) (reference q (in_map s) kind f.tty)
    where
      here : (away : Option ℕ) (y : NumberedPages) (b : Bool) → nat_le (live y) most ≡ b → IsFramed (asked_by (page_or away (cond b added.Went (added.Need Frame))) y)
      here None y true is = grind (arith, nat_tests, is)
      here None y false is = tt
      here (Some home) y b is = tt

      by : (way away : Option ℕ) (x : Referred nat_cmp) → IsFramed (asked_by (page_or way (came_to x away most)) (left_by q x))
      by (Some home) away x = tt
      by None away (granted y) = here away y (nat_le (live y) most) refl
      by None away (denied k) = tt
      by None away full = tt

  at_framed : (q : NumberedPages) (a : ℕ) (kind : Kind) → live q ≤ most → IsFramed (asked_at (asks f p) f q a kind)
  at_framed q a kind low = by (is_accumulator a)
    where
      by : (b : Bool) → IsFramed (cond b (goes q) (asks f p q (slot_at f a) kind))
      by true = low
      by false = asks_framed q (slot_at f a) kind

  on_framed : (x : Asked Need NumberedPages) (next : NumberedPages → Plan) → IsFramed x → ((q : NumberedPages) → live q ≤ most → AreLeft (next q)) → AreLeft (steps_go x next)
  on_framed (goes q) next low each = each q low
  on_framed (asked_stops why) next low each = tt

  pub run_left : (steps : Steps) → OnlyRead steps → (t : Progress nat_cmp) → t.kept ≡ None → live t.pages ≤ most → AreLeft (run_over f p steps t)
  unfolding run
  run_left (refers a kind next) only t kept low = by (nat_le MOST_REFERENCES (length t.refs)) (λ q l. run_left (next (word_taken f (referred t a kind q) a)) (only (word_taken f (referred t a kind q) a)) (referred t a kind q) kept l)
    where
      over : NumberedPages → Plan
      over q = run_over f p (next (word_taken f (referred t a kind q) a)) (referred t a kind q)

      by : (b : Bool) → ((q : NumberedPages) → live q ≤ most → AreLeft (over q)) → AreLeft (cond b (stopped (trap ILLEGAL_INSTRUCTION)) (steps_go (asked_at (asks f p) f t.pages a kind) over))
      by true each = tt
      by false each = on_framed (asked_at (asks f p) f t.pages a kind) over (at_framed t.pages a kind low) each
  run_left (widens a next) only t kept low = absurd only
  run_left (keeps a w next) only t kept low = absurd only
  run_left (steps_end e) only t kept low = (kept, only, low)
  run_left (traps channel) only t kept low = tt
  run_left (calls number) only t kept low = absurd only

-- ---- the same is asked, once pages were made

-- pages that became others, in the frames that are left
abbrev pub Behind : Framed → NumberedPages → Framed
Behind p q = record { pages = q; scene = frames_left p.scene p.pages q }

-- the first map that is away
first_same : (scene : Scene) (n : ℕ) (fs : List ForkName) → first_away (record scene { free_frames = n }) fs ≡ first_away scene fs
first_same scene n [] = refl
first_same scene n (f ∷ fs) = ap (option_or (scene.map_away f)) (first_same scene n fs)

asks_behind : (f : ForkName) (p : Framed) (q : NumberedPages) → live q ≤ most_framed p.pages p.scene → asks f (Behind p q) ≡ asks f p
unfolding asks answered
asks_behind f p q low = λ i r s kind. each r s kind i
  where
    same : live q + (live p.pages + p.scene.free_frames - live q) ≡ live p.pages + p.scene.free_frames
    same = omega (arith, low)

    each : (r : NumberedPages) (s : Slot) (kind : Kind) → asks f (Behind p q) r s kind ≡ asks f p r s kind
    each r s kind =
        ap (λ (most : ℕ). asked_by (page_or (map_away r (frames_left p.scene p.pages q) (in_map s)) (came_to (reference r (in_map s) kind f.tty) (page_away r p.scene (in_map s)) most)) (left_by r (reference r (in_map s) kind f.tty))) same
        ∙ ap (λ (way : Option ℕ). asked_by (page_or way (came_to (reference r (in_map s) kind f.tty) (page_away r p.scene (in_map s)) (most_framed p.pages p.scene))) (left_by r (reference r (in_map s) kind f.tty))) (first_same p.scene (live p.pages + p.scene.free_frames - live q) (maps_on_way (entry_at r.maps) s))

-- so the same is read
pub run_behind : (f : ForkName) (p : Framed) (q : NumberedPages) → live q ≤ most_framed p.pages p.scene → (steps : Steps) (t : Progress nat_cmp) → run_over f (Behind p q) steps t ≡ run_over f p steps t
run_behind f p q low steps t = ap (λ ask. run ask f steps t) (asks_behind f p q low)

-- ---- a text, and a byte

pub address_only : (n : ℕ) (ac : List ℕ) (w : ℕ) (regs : Regs) → OnlyRead (address_within n ac w (λ e last. ends_with regs e))
unfolding address_within
address_only zero ac w regs = tt
address_only (suc n) ac w regs = by (is_indirect w) (λ v. address_only n ac v regs)
  where
    by : (b : Bool) → ((v : ℕ) → OnlyRead (address_within n ac v (λ e last. ends_with regs e)))
        → OnlyRead (cond b (refers (indexed ac w) Read (λ v. address_within n ac v (λ e last. ends_with regs e))) (ends_with regs (indexed ac w)))
    by true rest = rest
    by false rest = refl

-- all steps of a reading only read
abbrev pub OnlyReads : {A : Type 0} → Reading A → Type 0
OnlyReads (words steps rest) = OnlyRead steps × ((w : ℕ) → OnlyReads (rest w))
OnlyReads (read found) = Unit {0}

bytes_only : (n : ℕ) (regs : Regs) (p : ℕ) (text : List ℕ) → OnlyReads (bytes_from n regs p text)
unfolding bytes_from
bytes_only zero regs p text = tt
bytes_only (suc n) regs p text = (λ w. refl, λ w. by (loaded p w) (loaded p w == 0) (bytes_only n regs (incremented p) (text ++ loaded p w ∷ [])))
  where
    by : (byte : ℕ) (b : Bool) → OnlyReads (bytes_from n regs (incremented p) (text ++ byte ∷ [])) → OnlyReads (cond b (read (Some text)) (bytes_from n regs (incremented p) (text ++ byte ∷ [])))
    by byte true rest = tt
    by byte false rest = rest

text_only : (regs : Regs) (pointer : ℕ) → OnlyReads (text_at regs pointer)
unfolding address
text_only regs pointer = (address_only 17 regs.ac (incremented (full_pointer pointer)) regs, λ e. bytes_only 40 regs (pointing_to (incremented (full_pointer pointer)) e) [])

byte_only : (regs : Regs) (pointer : ℕ) → OnlyReads (byte_at regs pointer)
unfolding address
byte_only regs pointer = (address_only 17 regs.ac pointer regs, λ e. (λ w. refl, λ w. tt))

-- ---- a turn

module _ {F C A : Type 0} (Needs : Scene → NumberedPages → Turn F C → Type 0) (f : ForkName) (regs : Regs) (n : Need) (next : A → Turn F C)
    (takes_needs : (scene : Scene) (q : NumberedPages) (steps : Steps) (rest : Ending → Turn F C) → StepsNeed scene q f regs steps (λ after r e. Needs after r (rest e)) n → Needs scene q (takes f regs steps rest)) (p : Framed) where
  abbrev Left : NumberedPages → Scene
  Left q = frames_left p.scene p.pages q

  -- the frames that are left do not depend on the way
  left_on : (q r : NumberedPages) → live q ≤ most_framed p.pages p.scene → frames_left (Left q) q r ≡ Left r
  left_on q r low = ap (λ (k : ℕ). record p.scene { free_frames = k }) (by low)
    where
      by : live q ≤ live p.pages + p.scene.free_frames → live q + (live p.pages + p.scene.free_frames - live q) - live r ≡ live p.pages + p.scene.free_frames - live r
      by l = omega (arith, l)

  reading_needs : (reading : Reading A) → OnlyReads reading → (q : NumberedPages) → live q ≤ most_framed p.pages p.scene → read_over f p regs reading q ≡ stops (need n) → Needs (Left q) q (with_reading f regs reading next)
  unfolding reads with_reading
  reading_needs (words steps rest) only q low h = takes_needs (Left q) q steps (λ e. with_reading f regs (rest (slice_index e.regs.ac 0)) next)
      (subst (λ (x : Plan). NeedsFirst f (Left q) q x (λ after r e. Needs after r (with_reading f regs (rest (slice_index e.regs.ac 0)) next)) n) (sym (run_behind f p q low steps (begun q regs.ac)))
      (by (run_over f p steps (begun q regs.ac)) (run_left f p steps only.0 (begun q regs.ac) refl low) (λ w r l g. reading_needs (rest w) (only.1 w) r l g) h))
    where
      by : (x : Plan) → AreLeft f p x → ((w : ℕ) (r : NumberedPages) → live r ≤ most_framed p.pages p.scene → read_over f p regs (rest w) r ≡ stops (need n) → Needs (Left r) r (with_reading f regs (rest w) next))
          → goes_on f x (λ r w. read_over f p regs (rest w) r) ≡ stops (need n)
          → NeedsFirst f (Left q) q x (λ after r e. Needs after r (with_reading f regs (rest (slice_index e.regs.ac 0)) next)) n
      by (done t e) left each g =
          let same : pages_left f t e ≡ t.pages = ap (λ (o : Option Put). put_into f (put_into f t.pages o) e.put) left.0 ∙ ap (put_into f t.pages) left.1 in
          let framed = subst (λ (r : NumberedPages). live r ≤ most_framed p.pages p.scene) (sym same) left.2 in
          subst (λ (after : Scene). Needs after (pages_left f t e) (with_reading f regs (rest (slice_index e.regs.ac 0)) next)) (sym (left_on q (pages_left f t e) low)) (each (slice_index e.regs.ac 0) (pages_left f t e) framed g)
      by (stopped (trap channel)) left each g = absurd (cc g)
      by (stopped (need m)) left each g = cc g
      by (call number) left each g = absurd (cc g)
  reading_needs (read found) only q low h = absurd (cc h)

  -- where the reading needs nothing, it needs what comes behind it
  reading_later : (reading : Reading A) → OnlyReads reading → (q : NumberedPages) → live q ≤ most_framed p.pages p.scene → (r : NumberedPages) (x : A) → read_over f p regs reading q ≡ leaves r x → Needs (Left r) r (next x)
      → Needs (Left q) q (with_reading f regs reading next)
  unfolding reads with_reading
  reading_later (words steps rest) only q low r x h later = takes_needs (Left q) q steps (λ e. with_reading f regs (rest (slice_index e.regs.ac 0)) next)
      (subst (λ (y : Plan). NeedsFirst f (Left q) q y (λ after z e. Needs after z (with_reading f regs (rest (slice_index e.regs.ac 0)) next)) n) (sym (run_behind f p q low steps (begun q regs.ac)))
      (by (run_over f p steps (begun q regs.ac)) (run_left f p steps only.0 (begun q regs.ac) refl low) (λ w z l g. reading_later (rest w) (only.1 w) z l r x g later) h))
    where
      by : (y : Plan) → AreLeft f p y → ((w : ℕ) (z : NumberedPages) → live z ≤ most_framed p.pages p.scene → read_over f p regs (rest w) z ≡ leaves r x → Needs (Left z) z (with_reading f regs (rest w) next))
          → goes_on f y (λ z w. read_over f p regs (rest w) z) ≡ leaves r x
          → NeedsFirst f (Left q) q y (λ after z e. Needs after z (with_reading f regs (rest (slice_index e.regs.ac 0)) next)) n
      by (done t e) left each g =
          let same : pages_left f t e ≡ t.pages = ap (λ (o : Option Put). put_into f (put_into f t.pages o) e.put) left.0 ∙ ap (put_into f t.pages) left.1 in
          let framed = subst (λ (z : NumberedPages). live z ≤ most_framed p.pages p.scene) (sym same) left.2 in
          subst (λ (after : Scene). Needs after (pages_left f t e) (with_reading f regs (rest (slice_index e.regs.ac 0)) next)) (sym (left_on q (pages_left f t e) low)) (each (slice_index e.regs.ac 0) (pages_left f t e) framed g)
      by (stopped why) left each g = absurd (cc g)
      by (call number) left each g = absurd (cc g)
  reading_later (read found) only q low r x h later = let its : (q ≡ r) × (found ≡ x) = (cc h, cc h) in subst (λ (y : A). Needs (Left q) q (next y)) (sym its.1) (subst (λ (z : NumberedPages). Needs (Left z) z (next x)) (sym its.0) later)

  -- IT NEEDS WHAT THE READING NEEDS, for any sense of need in which what takes steps needs what these need first
  pub read_needs : (reading : Reading A) → OnlyReads reading → read_over f p regs reading p.pages ≡ stops (need n) → Needs p.scene p.pages (with_reading f regs reading next)
  read_needs reading only h = subst (λ (scene : Scene). Needs scene p.pages (with_reading f regs reading next)) same (reading_needs reading only p.pages (omega arith) h)
    where
      same : Left p.pages ≡ p.scene
      same = ap (λ (k : ℕ). record p.scene { free_frames = k }) (by (live p.pages))
        where
          by : (m : ℕ) → m + p.scene.free_frames - m ≡ p.scene.free_frames
          by m = omega arith

  -- or what comes behind it
  pub read_later : (reading : Reading A) → OnlyReads reading → (r : NumberedPages) (x : A) → read_over f p regs reading p.pages ≡ leaves r x → Needs (Left r) r (next x) → Needs p.scene p.pages (with_reading f regs reading next)
  read_later reading only r x h later = subst (λ (scene : Scene). Needs scene p.pages (with_reading f regs reading next)) same (reading_later reading only p.pages (omega arith) r x h later)
    where
      same : Left p.pages ≡ p.scene
      same = ap (λ (k : ℕ). record p.scene { free_frames = k }) (by (live p.pages))
        where
          by : (m : ℕ) → m + p.scene.free_frames - m ≡ p.scene.free_frames
          by m = omega arith

module _ {F C : Type 0} (Needs : Scene → NumberedPages → Turn F C → Type 0) (f : ForkName) (regs : Regs) (n : Need) where
  abbrev StepsFirst : Type 0
  StepsFirst = (scene : Scene) (q : NumberedPages) (steps : Steps) (rest : Ending → Turn F C) → StepsNeed scene q f regs steps (λ after r e. Needs after r (rest e)) n → Needs scene q (takes f regs steps rest)

  -- so does one that reads a text
  pub text_needs : (next : Option (List ℕ) → Turn F C) → StepsFirst → (p : Framed) (pointer : ℕ) → read_over f p regs (text_at regs pointer) p.pages ≡ stops (need n) → Needs p.scene p.pages (with_reading f regs (text_at regs pointer) next)
  text_needs next first p pointer h = read_needs Needs f regs n next first p (text_at regs pointer) (text_only regs pointer) h

  -- and one that reads a byte
  pub byte_needs : (next : ℕ → Turn F C) → StepsFirst → (p : Framed) (pointer : ℕ) → read_over f p regs (byte_at regs pointer) p.pages ≡ stops (need n) → Needs p.scene p.pages (with_reading f regs (byte_at regs pointer) next)
  byte_needs next first p pointer h = read_needs Needs f regs n next first p (byte_at regs pointer) (byte_only regs pointer) h

  -- which needs what comes behind it, where its reading needs nothing
  pub byte_later : (next : ℕ → Turn F C) → StepsFirst → (p : Framed) (pointer : ℕ) (r : NumberedPages) (byte : ℕ) → read_over f p regs (byte_at regs pointer) p.pages ≡ leaves r byte → Needs (frames_left p.scene p.pages r) r (next byte)
      → Needs p.scene p.pages (with_reading f regs (byte_at regs pointer) next)
  byte_later next first p pointer r byte h later = read_later Needs f regs n next first p (byte_at regs pointer) (byte_only regs pointer) r byte h later
