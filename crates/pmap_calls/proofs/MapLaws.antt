-- The laws of the calls on maps.
use Rattle.std.proofs.Common.{◌≡◌, ◌≢◌, ℕ, ◌+◌, ◌-◌, ◌%◌, ◌^◌, ◌<◌, Bool, true, false, cond, List, length, Some, refl, ◌∙◌, ap, arith, get_or, set, get_or-set_same, length-set}
use Rattle.std.specs.Prelude.{◌==◌, if◌then◌else◌}
use Rattle.std.proofs.lemmas.Bool.{cond_both}
use Rattle.std.proofs.lemmas.Bool.Decides.{nat_tests}
use Rattle.std.specs.Option.{option_map_or}
use Rattle.machine_names.specs.declared.names.TheConstants.{ACCUMULATORS}
use Rattle.machine_names.specs.declared.names.Access.{Access}
use Rattle.machine_names.specs.declared.names.Slot.{Slot}
use Rattle.plain_model.specs.declared.call.MapChange.TheVariants.{Follow, Unmap}
use Rattle.plain_units.specs.declared.channel.TheConstants.{ILLEGAL_INSTRUCTION}
use Rattle.plain_pages.specs.declared.map.MapEntry.{MapEntry}
use Rattle.plain_pages.specs.declared.map.MapEntry.TheVariants.{Empty, Follows}
use Rattle.plain_model.specs.declared.fork.Fork.{Fork}
use Rattle.plain_units.specs.declared.registers.Regs.{Regs}
use Rattle.script_texts.specs.declared.status.ForkStatus.TheVariants.{Forced}
use Rattle.plain_pages.specs.PlainPages.{NumberedPages, Maps}
use Rattle.plain_pages.specs.Maps.{Chain, chain, entry_at, followed}
use Rattle.plain_pages.specs.References.{in_map, words_at, with_entry}
use Rattle.plain_pages.specs.WholePages.{AreWhole}
use Rattle.plain_model.specs.Forks.{with_status}
use Rattle.plain_model.specs.Interrupts.{listens, pended, is_panic}
use Rattle.plain_units.specs.Deeds.{next_pc, in_ac}
use Rattle.plain_model.specs.AccessWords.{access_in, access_word}
use Rattle.plain_model.specs.Calls.{behind_call, with_error, fork_behind, parts_behind}
use Rattle.plain_model.specs.MapCalls.{behind_page, is_counted, map_changed, on_next_page, pages_left, next_source}
use Rattle.plain_pages.proofs.Chains.{entry_set, entry_other}
use Rattle.plain_pages.proofs.Kept.{entry_maps}
use Rattle.plain_pages.proofs.Reading.{follower_words}
use Rattle.pmap_calls.specs.Laws.{HasEntry, LeavesErrorAlone, refusal}
use Rattle.call_turns.specs.Turns.{IsRegs}

bits : (r w x c : Bool) → access_in (access_word (record { r = r; w = w; x = x; c = c })) ≡ record { r = r; w = w; x = x; c = c }
unfolding access_in access_word
bits true true true true = refl
bits true true true false = refl
bits true true false true = refl
bits true true false false = refl
bits true false true true = refl
bits true false true false = refl
bits true false false true = refl
bits true false false false = refl
bits false true true true = refl
bits false true true false = refl
bits false true false true = refl
bits false true false false = refl
bits false false true true = refl
bits false false true false = refl
bits false false false true = refl
bits false false false false = refl

pub comes_back : (a : Access) → access_in (access_word a) ≡ a
comes_back a = bits a.r a.w a.x a.c

module _ (key : List ℕ → ℕ) (p : NumberedPages) (w : AreWhole p) (s : Slot) (there : HasEntry p s) where
  -- an entry set anew stands in its slot, and in no other
  pub set_there : (y : MapEntry) → entry_at (with_entry p s y).maps s ≡ Some y
  set_there y = ap (λ (m : Maps). entry_at m s) (entry_maps p w s there.0 y there.1) ∙ entry_set p.maps s there.0 y there.1

  set_others : (y : MapEntry) (u : Slot) → u ≢ s → entry_at (with_entry p s y).maps u ≡ entry_at p.maps u
  set_others y u ne = ap (λ (m : Maps). entry_at m u) (entry_maps p w s there.0 y there.1) ∙ entry_other p.maps s there.0 y there.1 u ne

  follow_is : (t : Slot) (a : Access) → map_changed key (Follow s t a) p ≡ with_entry p s (Follows t.fork.serial t.page a)
  unfolding map_changed
  follow_is t a = ap (λ o. option_map_or (λ e. with_entry p s (Follows t.fork.serial t.page a)) o p) there.1

  unmap_is : map_changed key (Unmap s) p ≡ with_entry p s Empty
  unfolding map_changed
  unmap_is = ap (λ o. option_map_or (λ e. with_entry p s Empty) o p) there.1

  pub reads_source : (t : Slot) (a : Access) (c : Chain) → s.fork.tty ≡ t.fork.tty → chain (entry_at (map_changed key (Follow s t a) p).maps) s ≡ Some c
      → words_at (map_changed key (Follow s t a) p) (in_map s) ≡ words_at (map_changed key (Follow s t a) p) (in_map t)
  reads_source t a c same h =
      let q = map_changed key (Follow s t a) p in
      let is : entry_at q.maps s ≡ Some (Follows t.fork.serial t.page a) = ap (λ (r : NumberedPages). entry_at r.maps s) (follow_is t a) ∙ set_there (Follows t.fork.serial t.page a) in
      let source : followed s t.fork.serial t.page ≡ t = λ i. record { fork = record { tty = same i; serial = t.fork.serial }; page = t.page } in
      follower_words q s t.fork.serial t.page a c h is ∙ ap (λ u. words_at q (in_map u)) source

  pub others_stay : (t u : Slot) (a : Access) → u ≢ s → entry_at (map_changed key (Follow s t a) p).maps u ≡ entry_at p.maps u
  others_stay t u a ne = ap (λ (r : NumberedPages). entry_at r.maps u) (follow_is t a) ∙ set_others (Follows t.fork.serial t.page a) u ne

  pub is_unmapped : entry_at (map_changed key (Unmap s) p).maps s ≡ Some Empty
  is_unmapped = ap (λ (r : NumberedPages). entry_at r.maps s) unmap_is ∙ set_there Empty

pub refused_pages : (key : List ℕ → ℕ) (p q : NumberedPages) (code : ℕ) → parts_behind (map_changed key) p q (refusal code) ≡ p
unfolding parts_behind
refused_pages key p q code = refl

pub refused_fork : (f : Fork) (code : ℕ) → LeavesErrorAlone f code (fork_behind f (refusal code))
unfolding fork_behind
refused_fork f code =
    let g = with_error f code in
    let forced = with_status g (Forced ILLEGAL_INSTRUCTION) in
    cond_both (listens g.body.psi ILLEGAL_INSTRUCTION) (pended g ILLEGAL_INSTRUCTION) (cond (is_panic ILLEGAL_INSTRUCTION) forced g) (LeavesErrorAlone f code)
    (λ takes. record { error = refl; regs = refl; name = refl; slot = refl; superior = refl; frozen = refl; sleep = refl; units = refl })
    (λ misses. record { error = refl; regs = refl; name = refl; slot = refl; superior = refl; frozen = refl; sleep = refl; units = refl })

module _ (regs : Regs) (fits : IsRegs regs) (counted : is_counted regs ≡ true) (some : 0 < pages_left regs) where
  -- a word stands where it was put
  put : (xs : List ℕ) (word : ℕ) → length xs ≡ ACCUMULATORS → get_or (set xs 3 word) 3 0 ≡ word
  put xs word n = let lt : 3 < length xs = omega (arith, n) in rw get_or-set_same refl

  one_less : pages_left (on_next_page regs) + 1 ≡ pages_left regs
  one_less =
      let before : List ℕ = set (set regs.ac 1 (next_source (in_ac regs 1))) 2 ((in_ac regs 2 + 1) % 2 ^ 36) in
      let sixteen : length before ≡ ACCUMULATORS = length-set (set regs.ac 1 (next_source (in_ac regs 1))) 2 ((in_ac regs 2 + 1) % 2 ^ 36) ∙ length-set regs.ac 1 (next_source (in_ac regs 1)) ∙ fits.1 in
      let third = put before (in_ac regs 3 - 1) sixteen in
      ap (λ n. n % 2 ^ 18 + 1) third ∙ less (in_ac regs 3) some
    where
      less : (n : ℕ) → 0 < n % 2 ^ 18 → (n - 1) % 2 ^ 18 + 1 ≡ n % 2 ^ 18
      less n h = omega (arith, h)

  behind_is : behind_page regs ≡ (if pages_left (on_next_page regs) == 0 then behind_call (on_next_page regs) else (on_next_page regs))
  unfolding behind_page
  behind_is = ap (λ b. cond b (if pages_left (on_next_page regs) == 0 then behind_call (on_next_page regs) else (on_next_page regs)) (behind_call regs)) counted

  pub one_page_less : pages_left (behind_page regs) + 1 ≡ pages_left regs
  one_page_less =
      ap (λ r. pages_left r + 1) behind_is
      ∙ cond_both (pages_left (on_next_page regs) == 0) (behind_call (on_next_page regs)) (on_next_page regs) (λ r. pages_left r + 1 ≡ pages_left regs) (λ last. one_less) (λ more. one_less)

  pub done_behind_last : (behind_page regs).pc ≡ cond (pages_left regs == 1) (next_pc regs) regs.pc
  done_behind_last = ap (λ r. r.pc) behind_is ∙ at (pages_left (on_next_page regs)) (pages_left regs) one_less
    where
      at : (m n : ℕ) → m + 1 ≡ n → (cond (m == 0) (behind_call (on_next_page regs)) (on_next_page regs)).pc ≡ cond (n == 1) (next_pc regs) regs.pc
      at m n e = of (m == 0) ∙ ap (λ b. cond b (next_pc regs) regs.pc) (tests m n e)
        where
          of : (b : Bool) → (cond b (behind_call (on_next_page regs)) (on_next_page regs)).pc ≡ cond b (next_pc regs) regs.pc
          of true = refl
          of false = refl

          tests : (m n : ℕ) → m + 1 ≡ n → (m == 0) ≡ (n == 1)
          tests m n e = grind (arith, nat_tests)
