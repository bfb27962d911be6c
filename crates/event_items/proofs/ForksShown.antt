-- The forks of a terminal as the machine shows them.
use Rattle.std.proofs.Common.{◌≡◌, ℕ, zero, suc, ◌+◌, ◌-◌, ◌≤◌, List, [], ◌∷◌, ◌++◌, Option, None, Some, refl, sym, ◌∙◌, ap, arith, map}
use Rattle.std.proofs.lemmas.List.{append-nil}
use Rattle.std.specs.List.{cons_option, filter_map, range_with_len}
use Rattle.std.specs.Option.{option_map_or}
use Rattle.script_texts.specs.declared.event.Item.{Item}
use Rattle.script_texts.specs.declared.event.Item.TheVariants.{ForkLine}
use Rattle.machine_names.specs.declared.names.Tty.{Tty}
use Rattle.machine_names.specs.declared.names.TheConstants.{LAST_SERIAL, MOST_FORKS}
use Rattle.plain_model.specs.declared.fork.Fork.{Fork}
use Rattle.script_texts.specs.declared.status.ForkStatus.{ForkStatus}
use Rattle.script_texts.specs.declared.status.ForkStatus.TheVariants.{Run, Wait, Halted, Forced}
use Rattle.script_texts.specs.Limits.{FitsForkLine, FitsStatus}
use Rattle.plain_model.specs.Forks.{ForkMap, fork_in, fork_line, superior_of}
use Rattle.plain_model.specs.Trees.{PlainTree}
use Rattle.fork_tree.specs.Trees.{IsTree, Lives}
use Rattle.fork_tree.proofs.Upward.{superior_lives}
use Rattle.job_forks.specs.Limits.{FitsForced, IsBody}
use Rattle.step_shown.specs.Replies.{lines_of}

-- a status whose channel is one of the 36
fits_status : (status : ForkStatus) → FitsForced status → FitsStatus status
fits_status Run fits = tt
fits_status (Wait on) fits = tt
fits_status Halted fits = tt
fits_status (Forced channel) fits = fits channel refl

-- a fork's superior has a serial
superior_fits : (tree : PlainTree) → IsTree tree → (f : Fork) → Lives tree.forks f → option_map_or (λ g. g.name.serial) (superior_of tree.forks f) 0 ≤ LAST_SERIAL
superior_fits tree is f lives = by (superior_of tree.forks f) refl
  where
    by : (o : Option Fork) → superior_of tree.forks f ≡ o → option_map_or (λ g. g.name.serial) o 0 ≤ LAST_SERIAL
    by None e = omega arith
    by (Some g) e = let over = superior_lives tree is f g lives e in (is.slotted.named g over.0).2

-- a fork is shown within its limits
pub line_fits : (tree : PlainTree) → IsTree tree → (f : Fork) → Lives tree.forks f → IsBody f.body → FitsForkLine (fork_line tree.forks f)
line_fits tree is f lives body = (is.slotted.named f lives, superior_fits tree is f lives, fits_status f.body.status body.status, body.pc)

-- the forks in so many slots, and in one more
abbrev pub lines : ForkMap → Tty → ℕ → List Item
lines forks t n = map (λ f. ForkLine (fork_line forks f)) (filter_map (fork_in forks t) (range_with_len 1 n))

module _ (forks : ForkMap) (t : Tty) where
  abbrev shown : List Fork → List Item
  shown fs = map (λ f. ForkLine (fork_line forks f)) fs

  lines_cons : (o : Option Fork) (fs : List Fork) → shown (cons_option o fs) ≡ lines_of forks o ++ shown fs
  lines_cons None fs = refl
  lines_cons (Some f) fs = refl

  append_again : (xs ys zs : List Item) → xs ++ (ys ++ zs) ≡ (xs ++ ys) ++ zs
  append_again [] ys zs = refl
  append_again (x ∷ xs) ys zs = ap (λ l. x ∷ l) (append_again xs ys zs)

  lines_from : (from n : ℕ) → shown (filter_map (fork_in forks t) (range_with_len from (suc n))) ≡ shown (filter_map (fork_in forks t) (range_with_len from n)) ++ lines_of forks (fork_in forks t (from + n))
  lines_from from zero =
      let here : from + 0 ≡ from = omega arith in
      lines_cons (fork_in forks t from) [] ∙ append-nil (lines_of forks (fork_in forks t from)) ∙ ap (λ k. lines_of forks (fork_in forks t k)) (sym here)
  lines_from from (suc n) =
      let next : from + 1 + n ≡ from + suc n = omega arith in
      lines_cons (fork_in forks t from) (filter_map (fork_in forks t) (range_with_len (from + 1) (suc n)))
      ∙ ap (λ l. lines_of forks (fork_in forks t from) ++ l) (lines_from (from + 1) n ∙ ap (λ k. shown (filter_map (fork_in forks t) (range_with_len (from + 1) n)) ++ lines_of forks (fork_in forks t k)) next)
      ∙ append_again (lines_of forks (fork_in forks t from)) (shown (filter_map (fork_in forks t) (range_with_len (from + 1) n))) (lines_of forks (fork_in forks t (from + suc n)))
      ∙ ap (λ l. l ++ lines_of forks (fork_in forks t (from + suc n))) (sym (lines_cons (fork_in forks t from) (filter_map (fork_in forks t) (range_with_len (from + 1) n))))

  pub one_line_more : (slot : ℕ) → 1 ≤ slot → lines forks t (slot - 1) ++ lines_of forks (fork_in forks t slot) ≡ lines forks t slot
  one_line_more zero h = absurd (omega arith)
  one_line_more (suc n) h = let here : 1 + n ≡ suc n = omega arith in let less : suc n - 1 ≡ n = omega arith in ap (λ k. lines forks t k ++ lines_of forks (fork_in forks t (suc n))) less ∙ ap (λ k. lines forks t n ++ lines_of forks (fork_in forks t k)) (sym here) ∙ sym (lines_from 1 n)

  -- all of them are those before a slot, that one, and others
  more_lines : (n k : ℕ) → (rest : List Item) × (lines forks t (n + k) ≡ lines forks t n ++ rest)
  more_lines n zero = let none : n + 0 ≡ n = omega arith in ([], ap (lines forks t) none ∙ sym (append-nil (lines forks t n)))
  more_lines n (suc k) =
      let before = more_lines n k in
      let next : n + k + 1 ≡ n + suc k = omega arith in
      let less : n + k + 1 - 1 ≡ n + k = omega arith in (
        before.0 ++ lines_of forks (fork_in forks t (n + k + 1)),
        ap (lines forks t) (sym next) ∙ sym (one_line_more (n + k + 1) (omega arith))
            ∙ ap (λ l. l ++ lines_of forks (fork_in forks t (n + k + 1))) (ap (lines forks t) less ∙ before.1)
            ∙ sym (append_again (lines forks t n) before.0 (lines_of forks (fork_in forks t (n + k + 1)))),
      )

  pub lines_upto : (slot : ℕ) → 1 ≤ slot → slot ≤ MOST_FORKS → (rest : List Item) × (lines forks t MOST_FORKS ≡ lines forks t (slot - 1) ++ (lines_of forks (fork_in forks t slot) ++ rest))
  lines_upto slot first last =
      let behind = more_lines slot (MOST_FORKS - slot) in
      let all : slot + (MOST_FORKS - slot) ≡ MOST_FORKS = omega (arith, last) in (
        behind.0,
        ap (lines forks t) (sym all) ∙ behind.1 ∙ ap (λ l. l ++ behind.0) (sym (one_line_more slot first)) ∙ sym (append_again (lines forks t (slot - 1)) (lines_of forks (fork_in forks t slot)) behind.0),
      )
