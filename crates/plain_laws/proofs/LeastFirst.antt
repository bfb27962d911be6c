-- Of the channels that can be taken the one of the least level is found, and of equal levels the one of the least number.
use Rattle.std.proofs.Common.{◌≡◌, ◌⊎◌, ◌<◌, ◌≤◌, ◌+◌, ◌&&◌, ℕ, zero, suc, Bool, true, false, cond, not, List, [], ◌∷◌, Option, None, Some, inl, inr, refl, sym, ◌∙◌, ap, subst, arith, All}
use Rattle.std.specs.Prelude.{map as list_map, nat_le, nat_lt}
use Rattle.std.specs.List.{Contains, filter, range_with_len}
use Rattle.std.specs.Option.{option_map_or}
use Rattle.std.proofs.lemmas.Bool.{cases_lt, cond_both}
use Rattle.std.proofs.lemmas.Bool.Decides.{nat_tests}
use Rattle.std.proofs.lemmas.List.Elements.{All-cons, All-nil}
use Rattle.word36.specs.Words.{left, right}
use Rattle.machine_names.specs.declared.names.Kind.TheVariants.{Read}
use Rattle.plain_pages.specs.PlainPages.{NamedPages}
use Rattle.plain_model.specs.declared.call.End.TheVariants.{Done}
use Rattle.plain_model.specs.declared.fork.Fork.{Fork}
use Rattle.plain_model.specs.declared.interrupt.Delivery.{Delivery}
use Rattle.plain_model.specs.declared.interrupt.Found.{Found}
use Rattle.plain_model.specs.declared.interrupt.Inspected.{Inspected}
use Rattle.plain_model.specs.declared.interrupt.Inspected.TheVariants.{Nothing, Delivers, Forces}
use Rattle.plain_model.specs.declared.interrupt.TheConstants.{CHANNELS, LEVELS}
use Rattle.machine_names.specs.Orders.{name_cmp}
use Rattle.plain_model.specs.Calls.{Came, Turn, ends, no_files, turn_on}
use Rattle.plain_model.specs.Inspections.{better, channel_at, chosen, goes_before, inspected, inspected_by, inspecting, is_wanted, judged, wanted}
use Rattle.plain_model.specs.Interrupts.{is_panic}
use Rattle.plain_model.specs.Readings.{Reading, read, with_reading}
use Rattle.plain_model.specs.State.{PlainState}
use Rattle.plain_laws.specs.InterruptLaws.{CanBeTaken, Finds, IsFirst, IsFound, ReadsChannels, ReadsWords}
use Rattle.plain_laws.proofs.LevelsNest.{level_is, turn_good}
use Rattle.plain_laws.proofs.ReadingsTaken.{reads_on}

-- ---- channels in rising order

abbrev Above : ℕ → List (ℕ × ℕ) → Type 0
Above channel [] = Unit {0}
Above channel (c ∷ cs) = (channel < c.0) × Above channel cs

abbrev Rising : List (ℕ × ℕ) → Type 0
Rising [] = Unit {0}
Rising (c ∷ cs) = Above c.0 cs × Rising cs

abbrev AboveBest : Option Found → List (ℕ × ℕ) → Type 0
AboveBest None cs = Unit {0}
AboveBest (Some b) cs = Above b.channel cs

-- numbers of a list that are at least one, in rising order
abbrev From : ℕ → List ℕ → Type 0
From n [] = Unit {0}
From n (k ∷ ks) = (n ≤ k) × From (k + 1) ks

from_more : (m n : ℕ) (ks : List ℕ) → n ≤ m → From m ks → From n ks
from_more m n [] less h = tt
from_more m n (k ∷ ks) less h = (omega (arith, less, h.0), h.1)

passing_from : (p : ℕ → Bool) (n from : ℕ) → From from (filter p (range_with_len from n))
passing_from p zero from = tt
passing_from p (suc n) from = by (p from) (passing_from p n (from + 1))
  where
    by : (b : Bool) → From (from + 1) (filter p (range_with_len (from + 1) n)) → From from (cond b (from ∷ filter p (range_with_len (from + 1) n)) (filter p (range_with_len (from + 1) n)))
    by true h = (omega arith, h)
    by false h = from_more (from + 1) from (filter p (range_with_len (from + 1) n)) (omega arith) h

above_from : (channel n : ℕ) (cs : List (ℕ × ℕ)) → channel < n → From n (list_map (λ c. c.0) cs) → Above channel cs
above_from channel n [] less h = tt
above_from channel n (c ∷ cs) less h = (omega (arith, less, h.0), above_from channel (c.0 + 1) cs (omega (arith, less, h.0)) h.1)

rising_from : (n : ℕ) (cs : List (ℕ × ℕ)) → From n (list_map (λ c. c.0) cs) → Rising cs
rising_from n [] h = tt
rising_from n (c ∷ cs) h = (above_from c.0 (c.0 + 1) cs (omega arith) h.1, rising_from (c.0 + 1) cs h.1)

-- ---- elements of lists

here_first : {X : Type 0} (x : X) (xs : List X) → Contains (x ∷ xs) x
here_first x xs = (zero, omega arith, refl)

in_rest : {X : Type 0} (y x : X) (xs : List X) → Contains xs x → Contains (y ∷ xs) x
in_rest y x xs has = (suc has.0, omega (arith, has.1), has.2)

-- ---- what is found

module _ (f : Fork) (table : ℕ) where
  abbrev Bars : ℕ × ℕ → Type 0
  Bars c = (CanBeTaken f.body.psi c → ⊥) × (is_panic c.0 ≡ false)

  -- what was found stood among channels
  abbrev Among : List (ℕ × ℕ) → Found → Type 0
  Among cs found = (c : ℕ × ℕ) × Contains cs c × IsFound found c × CanBeTaken f.body.psi c

  abbrev Source : List (ℕ × ℕ) → Option Found → Found → Type 0
  Source cs best found = (best ≡ Some found) ⊎ Among cs found

  -- it is as good as the best before
  abbrev AsGood : Option Found → Found → Type 0
  AsGood None found = Unit {0}
  AsGood (Some b) found = (found.level < b.level) ⊎ (found ≡ b)

  -- what comes of channels, with the best before
  abbrev Good : List (ℕ × ℕ) → Option Found → Inspected → Type 0
  Good cs best Nothing = (best ≡ None) × All Bars cs
  Good cs best (Delivers d) = Source cs best d.found × All (λ c. CanBeTaken f.body.psi c → IsFirst d.found c) cs × AsGood best d.found
  Good cs best (Forces channel) = Unit {0}

  abbrev turn : Reading Inspected → Turn ⊥ Inspected
  turn r = with_reading f.name f.body.regs r (λ what. ends (Done what f.body.regs None None))

  abbrev come_to : NamedPages → Reading Inspected → Inspected
  come_to p r = inspected_by (turn_on no_files p (turn r)).end

  chosen_good : (best : Option Found) (p : NamedPages) → Good [] best (come_to p (chosen f.body.regs table best))
  chosen_good None p = turn_good f (Good [] None) (λ channel. tt) (chosen f.body.regs table None) (refl, All-nil Bars) p
  chosen_good (Some b) p = turn_good f (Good [] (Some b)) (λ channel. tt) (chosen f.body.regs table (Some b)) (λ w old. (inl refl, All-nil (λ c. CanBeTaken f.body.psi c → IsFirst b c), inr refl)) p

  forced_good : (cs : List (ℕ × ℕ)) (best : Option Found) (channel : ℕ) (p : NamedPages) → Good cs best (come_to p (read (Forces channel)))
  forced_good cs best channel p = turn_good f (Good cs best) (λ x. tt) (read (Forces channel)) tt p

  -- one channel more
  module _ (c : ℕ × ℕ) (cs : List (ℕ × ℕ)) where
    abbrev this : Found
    this = record { channel = c.0; level = left c.1; to = right c.1 }

    lifted : (best : Option Found) (found : Found) → Source cs best found → Source (c ∷ cs) best found
    lifted best found (inl is) = inl is
    lifted best found (inr among) = inr (among.0, in_rest c among.0 cs among.1, among.2, among.3)

    -- it can't be taken, and is no panic channel
    passed_good : (best : Option Found) → Bars c → (what : Inspected) → Good cs best what → Good (c ∷ cs) best what
    passed_good best bars Nothing h = (h.0, All-cons Bars c cs bars h.1)
    passed_good best bars (Delivers d) h = (lifted best d.found h.0, All-cons (λ x. CanBeTaken f.body.psi x → IsFirst d.found x) c cs (λ can. absurd (bars.0 can)) h.1, h.2)
    passed_good best bars (Forces channel) h = tt

    -- it is better than the best before
    new_good : (best : Option Found) → CanBeTaken f.body.psi c → ((b : Found) → best ≡ Some b → left c.1 < b.level) → (what : Inspected) → Good cs (Some this) what → Good (c ∷ cs) best what
    new_good best can less Nothing h = absurd (let never : Some this ≡ None = h.0 in cc never)
    new_good best can less (Forces channel) h = tt
    new_good best can less (Delivers d) h = (inr (source h.0), All-cons (λ x. CanBeTaken f.body.psi x → IsFirst d.found x) c cs (λ also. first h.2) h.1, good best refl)
      where
        source : Source cs (Some this) d.found → Among (c ∷ cs) d.found
        source (inl is) = (c, here_first c cs, (let same : this ≡ d.found = cc is in sym same), can)
        source (inr among) = (among.0, in_rest c among.0 cs among.1, among.2, among.3)

        first : (d.found.level < left c.1) ⊎ (d.found ≡ this) → IsFirst d.found c
        first (inl l) = inl l
        first (inr e) = inr (ap (λ (x : Found). x.level) e, (let same = ap (λ (x : Found). x.channel) e in omega (arith, same)))

        level_less : (d.found.level < left c.1) ⊎ (d.found ≡ this) → d.found.level ≤ left c.1
        level_less (inl l) = omega (arith, l)
        level_less (inr e) = (let same = ap (λ (x : Found). x.level) e in omega (arith, same))

        good : (o : Option Found) → best ≡ o → AsGood o d.found
        good None is = tt
        good (Some b) is = inl (omega (arith, less b is, level_less h.2))

    -- the best before is at least as good
    old_good : (b : Found) → b.channel < c.0 → b.level ≤ left c.1 → (what : Inspected) → Good cs (Some b) what → Good (c ∷ cs) (Some b) what
    old_good b before least Nothing h = absurd (let never : Some b ≡ None = h.0 in cc never)
    old_good b before least (Forces channel) h = tt
    old_good b before least (Delivers d) h = (lifted (Some b) d.found h.0, All-cons (λ x. CanBeTaken f.body.psi x → IsFirst d.found x) c cs (λ also. first h.2) h.1, h.2)
      where
        first : (d.found.level < b.level) ⊎ (d.found ≡ b) → IsFirst d.found c
        first (inl l) = inl (omega (arith, l, least))
        first (inr e) = tied (ap (λ (x : Found). x.level) e) (ap (λ (x : Found). x.channel) e) (cases_lt b.level (left c.1))
          where
            tied : d.found.level ≡ b.level → d.found.channel ≡ b.channel → (b.level < left c.1) ⊎ (left c.1 ≤ b.level) → IsFirst d.found c
            tied l k (inl less) = inl (omega (arith, l, less))
            tied l k (inr most) = inr (omega (arith, l, least, most), omega (arith, k, before))

  not_less : (m n : ℕ) → nat_lt m n ≡ false → n ≤ m
  not_less m n h = grind (arith, nat_tests)

  less_so : (m n : ℕ) → nat_lt m n ≡ true → m < n
  less_so m n h = grind (arith, nat_tests)

  led : (cs : List (ℕ × ℕ)) (best : Option Found) (p q : NamedPages) → Rising cs → AboveBest best cs → ReadsWords f table p cs q → Good cs best (come_to p (inspecting f table (list_map (λ c. c.0) cs) best))
  unfolding inspecting
  led [] best p q rising above reads = chosen_good best p
  led (c ∷ cs) best p q rising above reads =
      subst (λ e. Good (c ∷ cs) best (inspected_by e)) (sym (ap (λ (x : Came name_cmp Inspected). x.end) (reads_on f.name f.body.regs Read (channel_at table c.0) (λ w. judged f.body.psi c.0 w best next) (λ what. ends (Done what f.body.regs None None)) p reads.0 c.1 reads.1)))
      (cond_both (not (nat_le 1 (left c.1) && nat_le (left c.1) LEVELS)) _ _ (λ r. Good (c ∷ cs) best (come_to reads.0 r)) (λ bad. forced_good (c ∷ cs) best c.0 reads.0) (λ is.
      cond_both (goes_before (left c.1) f.body.psi) _ _ (λ r. Good (c ∷ cs) best (come_to reads.0 r)) (λ before. taken (λ b h. led cs b reads.0 q rising.1 h reads.2) best above (level_is f (left c.1) is, before)) (λ after.
      cond_both (is_panic c.0) _ _ (λ r. Good (c ∷ cs) best (come_to reads.0 r)) (λ panics. forced_good (c ∷ cs) best c.0 reads.0)
      (λ drops. passed_good c cs best ((λ can. (let never : true ≡ false = sym can.1 ∙ after in cc never)), drops) (come_to reads.0 (next best)) (led cs best reads.0 q rising.1 (rest best above) reads.2)))))
    where
      next : Option Found → Reading Inspected
      next b = inspecting f table (list_map (λ x. x.0) cs) b

      rest : (o : Option Found) → AboveBest o (c ∷ cs) → AboveBest o cs
      rest None h = tt
      rest (Some b) h = h.1

      new : Found
      new = record { channel = c.0; level = left c.1; to = right c.1 }

      taken : ((b : Option Found) → AboveBest b cs → Good cs b (come_to reads.0 (next b))) → (o : Option Found) → AboveBest o (c ∷ cs) → CanBeTaken f.body.psi c → Good (c ∷ cs) o (come_to reads.0 (next (Some (better new o))))
      taken later None h can = new_good c cs None can (λ b is. absurd (cc is)) (come_to reads.0 (next (Some new))) (later (Some new) rising.0)
      taken later (Some b) h can = cond_both (nat_lt (left c.1) b.level) new b (λ x. Good (c ∷ cs) (Some b) (come_to reads.0 (next (Some x))))
          (λ less. new_good c cs (Some b) can (λ x is. (let same : b ≡ x = cc is in subst (λ (y : Found). left c.1 < y.level) same (less_so (left c.1) b.level less))) (come_to reads.0 (next (Some new))) (later (Some new) rising.0))
          (λ more. old_good c cs b h.0 (not_less (left c.1) b.level more) (come_to reads.0 (next (Some b))) (later (Some b) h.1))

-- WHAT AN INSPECTION FINDS that reads the words of its channels
pub found_so : (s : PlainState) (f : Fork) (words : List (ℕ × ℕ)) (q : NamedPages) (reads : ReadsChannels s.pages f words q) (what : Inspected) → Finds s f what → Good f reads.table words None what
found_so s f words q reads what is =
    subst (Good f reads.table words None) (told ∙ is) (led f reads.table words None s.pages q (rising_from 0 words (subst (From 0) (sym reads.channels) (passing_from (is_wanted f.body.psi) CHANNELS 0))) tt reads.reads)
  where
    told : come_to f reads.table s.pages (inspecting f reads.table (list_map (λ c. c.0) words) None) ≡ inspected_by (inspected f s.pages).end
    told =
        ap (λ (l : List ℕ). come_to f reads.table s.pages (inspecting f reads.table l None)) reads.channels
        ∙ ap (λ (o : Option ℕ). come_to f reads.table s.pages (option_map_or (λ table. inspecting f table (wanted f.body.psi) None) o (read Nothing))) (sym reads.has_table)

pub first_so : (s : PlainState) (f : Fork) (words : List (ℕ × ℕ)) (q : NamedPages) (d : Delivery) → ReadsChannels s.pages f words q → Finds s f (Delivers d)
    → ((c : ℕ × ℕ) × Contains words c × IsFound d.found c × CanBeTaken f.body.psi c) × All (λ c. CanBeTaken f.body.psi c → IsFirst d.found c) words
first_so s f words q d reads is = (let good = found_so s f words q reads (Delivers d) is in (among good.0, good.1))
  where
    among : Source f reads.table words None d.found → (c : ℕ × ℕ) × Contains words c × IsFound d.found c × CanBeTaken f.body.psi c
    among (inl none) = absurd (cc none)
    among (inr it) = it

pub none_so : (s : PlainState) (f : Fork) (words : List (ℕ × ℕ)) (q : NamedPages) → ReadsChannels s.pages f words q → Finds s f Nothing → All (λ c. (CanBeTaken f.body.psi c → ⊥) × (is_panic c.0 ≡ false)) words
none_so s f words q reads is = (let good = found_so s f words q reads Nothing is in good.1)
