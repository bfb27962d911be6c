-- The inspection of a fork's channels refers to few pages: the words of all channels stand in two.
use Rattle.std.proofs.Common.{◌≡◌, ◌⊎◌, inl, inr, ℕ, zero, suc, ◌+◌, ◌<◌, ◌≤◌, List, [], ◌∷◌, ◌++◌, length, map, filter, Bool, true, false, ◌||◌, cond, Option, None, Some, refl, sym, ◌∙◌, ap, subst, arith, length-append}
use Rattle.std.specs.Prelude.{◌%◌, ◌/◌, ◌^◌, nat_lt, slice_index}
use Rattle.std.specs.Option.{option_map_or}
use Rattle.std.proofs.lemmas.Bool.Decides.{nat_tests}
use Rattle.std.specs.List.{AllByRecursion, range_with_len}
use Rattle.std.specs.declared.cmp.Ordering.{Ordering}
use Rattle.word36.specs.Words.{right}
use Rattle.machine_names.specs.declared.names.ForkName.{ForkName}
use Rattle.machine_names.specs.declared.names.Kind.TheVariants.{Read}
use Rattle.machine_names.specs.declared.names.PageName.{PageName}
use Rattle.machine_names.specs.declared.names.Slot.{Slot}
use Rattle.plain_pages.specs.Maps.{entry_at, maps_on_way}
use Rattle.plain_pages.specs.PlainPages.{PlainPages}
use Rattle.plain_pages.specs.References.{Referred, denied, full, granted, in_map, page_at, reference, slot_at}
use Rattle.plain_units.specs.Steps.{Asked, Ending, begun, done, goes, goes_on, is_accumulator, plain_asked, plainly, referred, run, word_taken}
use Rattle.plain_model.specs.declared.call.End.TheVariants.{Done}
use Rattle.plain_model.specs.declared.fork.Fork.{Fork}
use Rattle.plain_model.specs.declared.interrupt.Found.{Found}
use Rattle.plain_model.specs.declared.interrupt.Inspected.{Inspected}
use Rattle.plain_model.specs.declared.interrupt.Inspected.TheVariants.{Forces, Nothing}
use Rattle.plain_model.specs.Calls.{Turn, ends, no_files, stepped}
use Rattle.plain_model.specs.Inspections.{channel_at, chosen, inspecting, inspection_turn, is_wanted, judged, level_at, wanted}
use Rattle.plain_model.specs.Readings.{Reading, read, with_reading, word_steps, words}
use Rattle.step_wants.specs.Names.{Housed, a_map, is_named, names_of_steps, names_of_turn, names_on_way, none_at_end, page_named, where_granted}
use Rattle.step_wants.proofs.Away.{named_more, or_first, or_later}
use Rattle.step_wants.proofs.Bounded.{ReadsAtMost, turn_small}
use Rattle.step_wants.proofs.Few.{page_few}
use Rattle.step_wants.proofs.FewCalls.{NoneMore, reading_few, word_at_most}
use Rattle.step_wants.proofs.Keeping.{read_keeps}
use Rattle.step_wants.proofs.Small.{AreAll, IsSmall, Within, maps_own, more_small, none_small}

-- numbers of a range that pass a test are below its end
range_below : (p : ℕ → Bool) (limit n a : ℕ) → a + n ≤ limit → AllByRecursion (λ c. c < limit) (filter p (range_with_len a n))
range_below p limit zero a low = tt
range_below p limit (suc n) a low = by (p a) (range_below p limit n (a + 1) (omega (arith, low)))
  where
    by : (b : Bool) → AllByRecursion (λ c. c < limit) (filter p (range_with_len (a + 1) n)) → AllByRecursion (λ c. c < limit) (cond b (a ∷ filter p (range_with_len (a + 1) n)) (filter p (range_with_len (a + 1) n)))
    by true rest = (omega (arith, low), rest)
    by false rest = rest

-- the page of a channel's word is that of the first channel or that of the last
page_either : (base c : ℕ) → base < 2 ^ 18 → c < 36 → (((base + c) % 2 ^ 18) / 512 ≡ base / 512) ⊎ (((base + c) % 2 ^ 18) / 512 ≡ ((base + 35) % 2 ^ 18) / 512)
page_either base c low few = by (nat_lt (base % 512 + c) 512) refl
  where
    by : (b : Bool) → nat_lt (base % 512 + c) 512 ≡ b → (((base + c) % 2 ^ 18) / 512 ≡ base / 512) ⊎ (((base + c) % 2 ^ 18) / 512 ≡ ((base + 35) % 2 ^ 18) / 512)
    by true is = let same : base % 512 + c < 512 = grind (arith, nat_tests, is) in inl (omega (arith, low, few, same))
    by false is = let next : 512 ≤ base % 512 + c = grind (arith, nat_tests, is) in inr (omega (arith, low, few, next))

module _ (map_home : ForkName → Option ℕ) (page_home : PageName → Option ℕ) (f : Fork) (own : List ForkName) (owns : AreAll map_home page_home f.name.tty own) (table : ℕ) where
  -- the slots of the first channel's word and of the last one's
  abbrev first_slot : Slot
  first_slot = slot_at f.name (right table)

  abbrev last_slot : Slot
  last_slot = slot_at f.name ((right table + 35) % 2 ^ 18)

  abbrev ending : Inspected → Turn ⊥ Inspected
  ending what = ends (Done what f.body.regs None None)

  abbrev has : List Housed → ℕ → Bool
  has names h = is_named map_home page_home names h

  -- among the last of these lists
  behind_all : (a b c d : List Housed) (h : ℕ) → has (a ++ d) h ≡ true → has (a ++ (b ++ (c ++ d))) h ≡ true
  behind_all a b c d h is =
      named_more map_home page_home h a (b ++ (c ++ d)) ∙ ap (λ x. has a h || x) (named_more map_home page_home h b (c ++ d) ∙ ap (λ x. has b h || x) (named_more map_home page_home h c d))
      ∙ by (has a h) (has b h) (has c h) (has d h) (sym (named_more map_home page_home h a d) ∙ is)
    where
      by : (u v w x : Bool) → (u || x) ≡ true → (u || (v || (w || x))) ≡ true
      by true v w x e = refl
      by false true w x e = refl
      by false false true x e = refl
      by false false false x e = e

  pick : (P : Reading Inspected → Type 0) (b : Bool) (x y : Reading Inspected) → P x → P y → P (cond b x y)
  pick P true x y p q = p
  pick P false x y p q = q

  nothing_behind : (xs : List Housed) → xs ++ [] ≡ xs
  nothing_behind [] = refl
  nothing_behind (x ∷ xs) = ap (λ (ys : List Housed). x ∷ ys) (nothing_behind xs)

  module _ {K : Type 0} {file_cmp : K → K → Ordering} where
    abbrev names_from : PlainPages file_cmp → Reading Inspected → List Housed
    names_from q r = names_of_turn no_files none_at_end q (with_reading f.name f.body.regs r ending)

    -- Names from these pages on: those of the terminal's maps, of one page of each of the two slots, which is the page there if one is, and of two more at most.
    record Looked (q : PlainPages file_cmp) (names : List Housed) : Type 0 where
      pub first : Option PageName
      pub last : Option PageName
      pub at_first : (n : PageName) → page_at q (in_map first_slot) ≡ Some n → first ≡ Some n
      pub at_last : (n : PageName) → page_at q (in_map last_slot) ≡ Some n → last ≡ Some n
      pub more : List Housed
      pub few : length more ≤ 2
      pub within : Within map_home page_home names (map a_map own ++ (page_named first ++ (page_named last ++ more)))

    looked_none : (q : PlainPages file_cmp) → Looked q []
    looked_none q = record {
      first = page_at q (in_map first_slot);
      last = page_at q (in_map last_slot);
      at_first = λ n e. e;
      at_last = λ n e. e;
      more = [];
      few = omega arith;
      within = λ h is. absurd (cc is);
    }

    -- what is counted by itself
    looked_small : (q : PlainPages file_cmp) (names : List Housed) → IsSmall map_home page_home f.name.tty own owns 2 names → Looked q names
    looked_small q names small = record {
      first = page_at q (in_map first_slot);
      last = page_at q (in_map last_slot);
      at_first = λ n e. e;
      at_last = λ n e. e;
      more = small.others;
      few = small.few;
      within = λ h is. behind_all (map a_map own) (page_named (page_at q (in_map first_slot))) (page_named (page_at q (in_map last_slot))) small.others h (small.within h is);
    }

    chosen_looked : (q : PlainPages file_cmp) (best : Option Found) → Looked q (names_from q (chosen f.body.regs table best))
    chosen_looked q best =
        looked_small q (names_from q (chosen f.body.regs table best))
        (turn_small map_home page_home f.name.tty own owns no_files none_at_end NoneMore (λ n e low. more_small map_home page_home f.name.tty own owns 0 n [] (omega arith) (none_small map_home page_home f.name.tty own owns)) 2
        (with_reading f.name f.body.regs (chosen f.body.regs table best) ending) q (reading_few f.name.tty f.name f.body.regs ending refl 0 2 (λ x m le. tt) (chosen f.body.regs table best) (at_most best)))
      where
        at_most : (o : Option Found) → ReadsAtMost 2 (chosen f.body.regs table o)
        at_most None = tt
        at_most (Some b) = (1, 1, omega arith, word_at_most f.body.regs (level_at table b.level), λ w. (1, 0, omega arith, (λ v. tt), λ v. tt))

    -- the word of a channel, and what is behind it
    looked_more : (q r : PlainPages file_cmp) (s : Slot) (names : List Housed) → s.fork.tty ≡ f.name.tty → (s ≡ first_slot) ⊎ (s ≡ last_slot)
        → ((t : Slot) (n : PageName) → page_at q (in_map t) ≡ Some n → page_at r (in_map t) ≡ Some n) → Looked r names → Looked q (names_on_way q (in_map s) ++ names)
    looked_more q r s names of_its which keeps looked = record {
      first = looked.first;
      last = looked.last;
      at_first = λ n e. looked.at_first n (keeps first_slot n e);
      at_last = λ n e. looked.at_last n (keeps last_slot n e);
      more = looked.more;
      few = looked.few;
      within = λ h is. either (has (names_on_way q (in_map s)) h) (has names h) (sym (named_more map_home page_home h (names_on_way q (in_map s)) names) ∙ is) (λ e. on_way h e) (looked.within h);
    }
      where
        all : List Housed
        all = map a_map own ++ (page_named looked.first ++ (page_named looked.last ++ looked.more))

        either : {A : Type 0} (a b : Bool) → (a || b) ≡ true → (a ≡ true → A) → (b ≡ true → A) → A
        either true b e x y = x refl
        either false b e x y = y e

        split : (h : ℕ) → (has (map a_map own) h || (has (page_named looked.first) h || (has (page_named looked.last) h || has looked.more h))) ≡ true → has all h ≡ true
        split h e =
            named_more map_home page_home h (map a_map own) (page_named looked.first ++ (page_named looked.last ++ looked.more))
            ∙ ap (λ x. has (map a_map own) h || x) (named_more map_home page_home h (page_named looked.first) (page_named looked.last ++ looked.more) ∙ ap (λ x. has (page_named looked.first) h || x) (named_more map_home page_home h (page_named looked.last) looked.more)) ∙ e

        -- the page of the slot, if there is one, is that of the first channel's or of the last one's
        page_there : (h : ℕ) (o : Option PageName) → page_at q (in_map s) ≡ o → has (page_named o) h ≡ true → has all h ≡ true
        page_there h None at e = absurd (cc e)
        page_there h (Some n) at e = elim which [
          | inl same ↦ (let there : looked.first ≡ Some n = looked.at_first n (keeps first_slot n (ap (λ (t : Slot). page_at q (in_map t)) (sym same) ∙ at)) in
              split h (or_later (has (map a_map own) h) _ (or_first (has (page_named looked.first) h) _ (ap (λ (x : Option PageName). has (page_named x) h) there ∙ e))))
          | inr same ↦ (let there : looked.last ≡ Some n = looked.at_last n (keeps last_slot n (ap (λ (t : Slot). page_at q (in_map t)) (sym same) ∙ at)) in
              split h (or_later (has (map a_map own) h) _ (or_later (has (page_named looked.first) h) _ (or_first (has (page_named looked.last) h) _ (ap (λ (x : Option PageName). has (page_named x) h) there ∙ e)))))
        ]

        -- on the way are maps of the terminal, and the page
        on_way : (h : ℕ) → has (names_on_way q (in_map s)) h ≡ true → has all h ≡ true
        on_way h e = either (has (map a_map (maps_on_way (entry_at q.maps) s)) h) (has (page_named (page_at q (in_map s))) h) (sym (named_more map_home page_home h (map a_map (maps_on_way (entry_at q.maps) s)) (page_named (page_at q (in_map s)))) ∙ e)
            (λ maps. split h (or_first (has (map a_map own) h) _ (maps_own map_home page_home f.name.tty own owns (entry_at q.maps) s of_its h maps))) (page_there h (page_at q (in_map s)) refl)

    read_looked : (r : PlainPages file_cmp) (what : Inspected) → Looked r (names_from r (read what))
    unfolding with_reading names_of_turn
    read_looked r what = looked_none r

    judged_looked : (r : PlainPages file_cmp) (channel word : ℕ) (best : Option Found) (next : Option Found → Reading Inspected) → ((o : Option Found) → Looked r (names_from r (next o)))
        → Looked r (names_from r (judged f.body.psi channel word best next))
    judged_looked r channel word best next each =
        pick Is _ _ _ (read_looked r (Forces channel)) (pick Is _ _ _ (each _) (pick Is _ _ _ (read_looked r (Forces channel)) (each best)))
      where
        Is : Reading Inspected → Type 0
        Is x = Looked r (names_from r x)

    -- the word of one channel, and what is behind it
    one_looked : (q : PlainPages file_cmp) (c : ℕ) → c < 36 → (rest : ℕ → Reading Inspected) → ((r : PlainPages file_cmp) (w : ℕ) → Looked r (names_from r (rest w)))
        → Looked q (names_from q (words (word_steps f.body.regs (channel_at table c)) rest))
    unfolding with_reading names_of_turn names_of_steps run
    one_looked q c few rest each = by (is_accumulator at)
      where
        at : ℕ
        at = channel_at table c

        s : Slot
        s = slot_at f.name at

        which : (s ≡ first_slot) ⊎ (s ≡ last_slot)
        which = elim (page_either (right table) c (omega arith) few) [ inl e ↦ inl (λ i. record { fork = f.name; page = e i }) | inr e ↦ inr (λ i. record { fork = f.name; page = e i }) ]

        told : PlainPages file_cmp → Ending
        told p = record { regs = record f.body.regs { ac = word_taken f.name (referred (begun q f.body.regs.ac) at Read p) at ∷ [] }; put = None; post = None }

        later : PlainPages file_cmp → Ending → List Housed
        later p e = names_from p (rest (slice_index e.regs.ac 0))

        over : Asked ⊥ (PlainPages file_cmp) → List Housed
        over x = stepped f.name (goes_on x (λ p. done (referred (begun q f.body.regs.ac) at Read p) (told p))) later (λ channel. [])

        alone : Looked q ((names_on_way q (in_map s) ++ []) ++ [])
        alone = subst (Looked q) (sym (nothing_behind (names_on_way q (in_map s) ++ []))) (looked_more q q s [] refl which (λ t n e. e) (looked_none q))

        referred_to : (x : Referred file_cmp) → reference q (in_map s) Read f.name.tty ≡ x → Looked q ((names_on_way q (in_map s) ++ where_granted (plain_asked x) (λ p. [])) ++ over (plain_asked x))
        referred_to (granted r) is =
            subst (λ (xs : List Housed). Looked q (xs ++ over (goes r))) (sym (nothing_behind (names_on_way q (in_map s))))
            (looked_more q r s (over (goes r)) refl which (λ t n e. read_keeps q r t s f.name.tty n e is) (each r (slice_index (told r).regs.ac 0)))
        referred_to (denied k) is = alone
        referred_to full is = alone

        by : (b : Bool) → Looked q ((cond b [] (names_on_way q (in_map s)) ++ where_granted (cond b (goes q) (plainly f.name q s Read)) (λ p. [])) ++ over (cond b (goes q) (plainly f.name q s Read)))
        by true = each q (slice_index (told q).regs.ac 0)
        by false = referred_to (reference q (in_map s) Read f.name.tty) refl

    looking : (channels : List ℕ) → AllByRecursion (λ c. c < 36) channels → (best : Option Found) (q : PlainPages file_cmp) → Looked q (names_from q (inspecting f table channels best))
    unfolding inspecting
    looking [] low best q = chosen_looked q best
    looking (c ∷ cs) low best q = one_looked q c low.0 (λ w. judged f.body.psi c w best (inspecting f table cs)) (λ r w. judged_looked r c w best (inspecting f table cs) (λ o. looking cs low.1 o r))

    pub looks_small : (q : PlainPages file_cmp) → IsSmall map_home page_home f.name.tty own owns 4 (names_from q (inspecting f table (wanted f.body.psi) None))
    looks_small q =
        let looked = looking (wanted f.body.psi) (range_below (is_wanted f.body.psi) 36 36 0 (omega arith)) None q in
        let few = looked.few in
        record {
          others = page_named looked.first ++ (page_named looked.last ++ looked.more);
          few = omega (arith, few, page_few looked.first, page_few looked.last, length-append (page_named looked.first) (page_named looked.last ++ looked.more), length-append (page_named looked.last) looked.more);
          within = looked.within;
        }

module _ (map_home : ForkName → Option ℕ) (page_home : PageName → Option ℕ) (f : Fork) (own : List ForkName) (owns : AreAll map_home page_home f.name.tty own) {K : Type 0} {file_cmp : K → K → Ordering} where
  pub inspection_small : (q : PlainPages file_cmp) → IsSmall map_home page_home f.name.tty own owns 4 (names_of_turn no_files none_at_end q (inspection_turn f))
  unfolding with_reading names_of_turn
  inspection_small q = by f.body.psi.table
    where
      by : (o : Option ℕ) → IsSmall map_home page_home f.name.tty own owns 4 (names_of_turn no_files none_at_end q (with_reading f.name f.body.regs (option_map_or (λ table. inspecting f table (wanted f.body.psi) None) o (read Nothing)) (λ what. ends (Done what f.body.regs None None))))
      by None = more_small map_home page_home f.name.tty own owns 0 4 [] (omega arith) (none_small map_home page_home f.name.tty own owns)
      by (Some table) = looks_small map_home page_home f own owns table q
