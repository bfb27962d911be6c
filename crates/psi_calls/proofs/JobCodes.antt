-- The job at a terminal with other codes.
use Rattle.std.proofs.Common.{◌≡◌, ◌≢◌, ◌⊎◌, inl, inr, ℕ, Option, None, Some, refl, sym, ◌∙◌, ap}
use Rattle.std.specs.Option.{option_map_or}
use Rattle.std.specs.FinMap as map
use Rattle.std.proofs.lemmas.Bool.{cases_eq}
use Rattle.number_map.proofs.Keys.{get_put, get_put_other, same}
use Rattle.machine_names.specs.declared.names.Tty.{Tty}
use Rattle.plain_typing.specs.Lines.{Codes, InputLine}
use Rattle.plain_model.specs.State.{PlainJob}
use Rattle.plain_model.specs.FileCalls.{Jobs}
use Rattle.plain_model.specs.InterruptCalls.{with_codes_of}
use Rattle.psi_calls.specs.Turning.{HasCodes, jobs_with}

-- what is put where it stands changes nothing
put_same : (jobs : Jobs) (k : ℕ) (j : PlainJob) → map.get jobs k ≡ Some j → map.insert jobs k j ≡ jobs
put_same jobs k j there = same (map.insert jobs k j) jobs (λ q. by q (cases_eq q k))
  where
    by : (q : ℕ) → (q ≡ k) ⊎ (q ≢ k) → map.get (map.insert jobs k j) q ≡ map.get jobs q
    by q (inl e) = get_put jobs k q j e ∙ sym (ap (map.get jobs) e ∙ there)
    by q (inr ne) = get_put_other jobs k q j ne

module _ (jobs : Jobs) (t : Tty) (line line' : InputLine) (has : HasCodes jobs t line) where
  own_codes : (j : PlainJob) → map.get jobs t.0 ≡ Some j → j.codes ≡ line.codes
  own_codes j there = sym (ap (λ (o : Option PlainJob). option_map_or (λ k. k.codes) o map.empty) there) ∙ has

  codes_in : (change : Codes → Codes) (o : Option PlainJob) → map.get jobs t.0 ≡ o → with_codes_of jobs t change ≡ option_map_or (λ j. map.insert jobs t.0 (record j { codes = change j.codes })) o jobs
  codes_in change o is = ap (λ (x : Option PlainJob). option_map_or (λ j. map.insert jobs t.0 (record j { codes = change j.codes })) x jobs) is

  -- other codes
  pub other_codes : (change : Codes → Codes) → line'.codes ≡ change line.codes → jobs_with jobs t line' ≡ with_codes_of jobs t change
  other_codes change codes = by (map.get jobs t.0) refl
    where
      by : (o : Option PlainJob) → map.get jobs t.0 ≡ o → jobs_with jobs t line' ≡ with_codes_of jobs t change
      by None none = codes_in (λ old. line'.codes) None none ∙ sym (codes_in change None none)
      by (Some j) there =
          codes_in (λ old. line'.codes) (Some j) there ∙ (λ i. map.insert jobs t.0 (record j { codes = (codes ∙ ap change (sym (own_codes j there))) i }))
          ∙ sym (codes_in change (Some j) there)

  -- the same
  pub same_codes : line'.codes ≡ line.codes → jobs_with jobs t line' ≡ jobs
  same_codes codes = by (map.get jobs t.0) refl
    where
      by : (o : Option PlainJob) → map.get jobs t.0 ≡ o → jobs_with jobs t line' ≡ jobs
      by None none = codes_in (λ old. line'.codes) None none
      by (Some j) there =
          codes_in (λ old. line'.codes) (Some j) there ∙ (λ i. map.insert jobs t.0 (record j { codes = (codes ∙ sym (own_codes j there)) i }))
          ∙ put_same jobs t.0 j there
