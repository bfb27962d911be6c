-- The channels of a fork, looked at one after another.
use Rattle.std.proofs.Common.{◌≡◌, ℕ, suc, ◌+◌, ◌-◌, ◌<◌, ◌≤◌, Bool, true, false, List, ◌∷◌, Option, None, refl, sym, ◌∙◌, ap, arith}
use Rattle.std.specs.Prelude.{Result, Ok, Err, filter}
use Rattle.std.specs.List.{range_with_len}
use Rattle.machine_names.specs.declared.names.ForkName.{ForkName}
use Rattle.page_contracts.specs.declared.answers.Need.{Need}
use Rattle.plain_model.specs.declared.fork.Body.{Body}
use Rattle.plain_model.specs.declared.interrupt.Found.{Found}
use Rattle.plain_model.specs.declared.interrupt.Inspected.{Inspected}
use Rattle.plain_model.specs.Inspections.{channel_at, chosen, inspecting, is_wanted, judged, wanted}
use Rattle.plain_model.specs.Readings.{Reading, word_steps, words}
use Rattle.ka10_unit.specs.declared.taken.Stop.{Stop}
use Rattle.ka10_unit.specs.Gathers.{Framed}
use Rattle.text_pointers.specs.declared.reader.Reader.{Reader}
use Rattle.text_pointers.specs.Outcomes.{Outcome, read_over}
use Rattle.text_pointers.specs.Reading.{ReadsWord, Stands, pages_so_far, went_on}
use Rattle.text_pointers.proofs.WordReads.{word_runs}
use Rattle.psi_system.specs.declared.judging.Judged.{Judged}
use Rattle.psi_system.specs.declared.judging.Judged.TheVariants.{Best, Forces}
use Rattle.psi_system.specs.Judgements.{behind}
use Rattle.psi_system.specs.Inspecting.{ReadsOn, fork_with}

-- the first of some numbers passes a test, or doesn't
first_passes : (p : ℕ → Bool) (c n : ℕ) → p c ≡ true → filter p (range_with_len c (suc n)) ≡ c ∷ filter p (range_with_len (c + 1) n)
first_passes p c n passes = rw passes refl

first_fails : (p : ℕ → Bool) (c n : ℕ) → p c ≡ false → filter p (range_with_len c (suc n)) ≡ filter p (range_with_len (c + 1) n)
first_fails p c n fails = rw fails refl

one_more : (n i : ℕ) → i < n → n - i ≡ suc (n - (i + 1))
one_more n i h = omega arith

module _ (f : ForkName) (p : Framed) (body : Body) (table : ℕ) (old : Reader) where
  -- the channels from one on that are active and pending
  abbrev Left : ℕ → List ℕ
  Left c = filter (is_wanted body.psi) (range_with_len c (36 - c))

  -- what is read of some channels
  abbrev Of : List ℕ → Option Found → Reading Inspected
  Of cs best = inspecting (fork_with f body) table cs best

  -- what the whole comes to
  abbrev Whole : Outcome Need Inspected
  Whole = read_over f p body.regs (inspecting (fork_with f body) table (wanted body.psi) None) (pages_so_far p old)

  -- the channels below one were looked at
  pub record LooksSoFar (r : Reader) (c : ℕ) (best : Option Found) : Type 0 where
    pub stands : Stands f p r
    pub runs : read_over f p body.regs (Of (Left c) best) (pages_so_far p r) ≡ Whole

  -- what a look at all comes to
  abbrev Looks : Reader → Result Judged Stop → Type 0
  Looks new result = ReadsOn f p body.regs old new (inspecting (fork_with f body) table (wanted body.psi) None) (behind (chosen body.regs table)) result

  pub none_looked : Stands f p old → LooksSoFar old 0 None
  none_looked stands = record { stands = stands; runs = refl }

  pub all_looked : (r : Reader) (c : ℕ) (best : Option Found) → 36 ≤ c → LooksSoFar r c best → Looks r (Ok (Best best))
  unfolding inspecting
  all_looked r c best most before = record {
    stands = λ j is. before.stands;
    is = sym before.runs ∙ ap (λ n. read_over f p body.regs (Of (filter (is_wanted body.psi) (range_with_len c n)) best) (pages_so_far p r)) none;
  }
    where
      none : 36 - c ≡ 0
      none = omega arith

  module _ (r : Reader) (c : ℕ) (best : Option Found) (less : c < 36) (before : LooksSoFar r c best) where
    -- one that isn't wanted is passed over
    pub passed_over : is_wanted body.psi c ≡ false → LooksSoFar r (c + 1) best
    passed_over unwanted = record { stands = before.stands; runs = ap (λ cs. read_over f p body.regs (Of cs best) (pages_so_far p r)) (sym same) ∙ before.runs }
      where
        same : Left c ≡ Left (c + 1)
        same = ap (λ n. filter (is_wanted body.psi) (range_with_len c n)) (one_more 36 c less) ∙ first_fails (is_wanted body.psi) c (36 - (c + 1)) unwanted

    module _ (new : Reader) (is_one : is_wanted body.psi c ≡ true) where
      first : Left c ≡ c ∷ Left (c + 1)
      first = ap (λ n. filter (is_wanted body.psi) (range_with_len c n)) (one_more 36 c less) ∙ first_passes (is_wanted body.psi) c (36 - (c + 1)) is_one

      -- what is read behind its word
      abbrev Rest : ℕ → Reading Inspected
      Rest w = judged body.psi c w best (inspecting (fork_with f body) table (Left (c + 1)))

      one_read : (cs : List ℕ) → Of (c ∷ cs) best ≡ words (word_steps body.regs (channel_at table c)) (λ w. judged body.psi c w best (inspecting (fork_with f body) table cs))
      unfolding inspecting
      one_read cs = refl

      behind_word : (result : Result ℕ Stop) → ReadsWord f p body.regs r new (channel_at table c) result → Whole ≡ went_on result (λ w. read_over f p body.regs (Rest w) (pages_so_far p new))
      behind_word result word =
          sym before.runs ∙ ap (λ cs. read_over f p body.regs (Of cs best) (pages_so_far p r)) first ∙ ap (λ b. read_over f p body.regs b (pages_so_far p r)) (one_read (Left (c + 1)))
          ∙ word_runs f p body.regs r new (channel_at table c) result word Rest

      -- its word stops the look
      pub word_stops : (e : Stop) → ReadsWord f p body.regs r new (channel_at table c) (Err e) → Looks new (Err e)
      word_stops e word = record { stands = λ j no. absurd (cc no); is = behind_word (Err e) word }

      module _ (w : ℕ) (word : ReadsWord f p body.regs r new (channel_at table c) (Ok w)) where
        judged_so : (j : Judged) → ((next : Option Found → Reading Inspected) → judged body.psi c w best next ≡ behind next j)
            → Whole ≡ read_over f p body.regs (behind (inspecting (fork_with f body) table (Left (c + 1))) j) (pages_so_far p new)
        judged_so j is = behind_word (Ok w) word ∙ ap (λ b. read_over f p body.regs b (pages_so_far p new)) (is (inspecting (fork_with f body) table (Left (c + 1))))

        -- it forces the fork
        pub word_forces : (by : ℕ) → ((next : Option Found → Reading Inspected) → judged body.psi c w best next ≡ behind next (Forces by)) → Looks new (Ok (Forces by))
        word_forces by is = record { stands = λ j same. word.stands w refl; is = judged_so (Forces by) is }

        -- or tells the best so far
        pub word_goes : (more : Option Found) → ((next : Option Found → Reading Inspected) → judged body.psi c w best next ≡ behind next (Best more)) → LooksSoFar new (c + 1) more
        word_goes more is = record { stands = word.stands w refl; runs = sym (judged_so (Best more) is) }
