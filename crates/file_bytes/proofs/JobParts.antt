-- The job at a terminal with other JFNs, and with other characters stored for it.
use Rattle.std.proofs.Common.{◌≡◌, ◌≢◌, ◌⊎◌, inl, inr, ℕ, ◌<◌, List, [], ◌∷◌, length, Option, None, Some, refl, sym, ◌∙◌, ap, arith, get_or-set_same}
use Rattle.std.specs.Prelude.{drop}
use Rattle.std.specs.Option.{IsSomeAnd, option_map_or}
use Rattle.std.specs.FinMap as map
use Rattle.std.specs.Ordering.{nat_cmp}
use Rattle.std.proofs.lemmas.Bool.{cases_eq}
use Rattle.std.proofs.lemmas.List.{length-map}
use Rattle.number_map.proofs.Keys.{get_put, get_put_other, same}
use Rattle.machine_names.specs.Bounds.{IsTerminal}
use Rattle.machine_names.specs.declared.names.Tty.{Tty}
use Rattle.plain_files.specs.NamedFiles.{open_named}
use Rattle.plain_files.specs.OpenFiles.{OpenFile, OpenFiles, moved_file, open_at}
use Rattle.plain_typing.specs.Lines.{InputLine}
use Rattle.plain_model.specs.State.{PlainJob}
use Rattle.plain_model.specs.ByteCalls.{behind_first, with_input, with_position}
use Rattle.plain_model.specs.FileCalls.{Jobs, with_held}
use Rattle.file_tables.specs.declared.tables.FileTables.{FileTables}
use Rattle.file_tables.specs.Tables.{Changes, jfns_at, open_of}
use Rattle.file_bytes.specs.Asking.{HasLine, jobs_with}

module _ {V : Type 0} (m : map.FinMap nat_cmp V) (k : ℕ) where
  -- what is put where it stands changes nothing
  pub put_same : (v : V) → map.get m k ≡ Some v → map.insert m k v ≡ m
  put_same v there = same (map.insert m k v) m (λ q. by q (cases_eq q k))
    where
      by : (q : ℕ) → (q ≡ k) ⊎ (q ≢ k) → map.get (map.insert m k v) q ≡ map.get m q
      by q (inl e) = get_put m k q v e ∙ sym (ap (map.get m) e ∙ there)
      by q (inr ne) = get_put_other m k q v ne

  -- what is put twice is put once
  pub put_twice : (v w : V) → map.insert (map.insert m k v) k w ≡ map.insert m k w
  put_twice v w = same (map.insert (map.insert m k v) k w) (map.insert m k w) (λ q. by q (cases_eq q k))
    where
      by : (q : ℕ) → (q ≡ k) ⊎ (q ≢ k) → map.get (map.insert (map.insert m k v) k w) q ≡ map.get (map.insert m k w) q
      by q (inl e) = get_put (map.insert m k v) k q w e ∙ sym (get_put m k q w e)
      by q (inr ne) = get_put_other (map.insert m k v) k q w ne ∙ get_put_other m k q v ne ∙ sym (get_put_other m k q w ne)

module _ (jobs : Jobs) (t : Tty) where
  abbrev Here : Option PlainJob → Type 0
  Here o = map.get jobs t.0 ≡ o

  held_in : (change : OpenFiles → OpenFiles) (o : Option PlainJob) → Here o → with_held jobs t change ≡ option_map_or (λ j. map.insert jobs t.0 (record j { jfns = change j.jfns })) o jobs
  held_in change o is = ap (λ (x : Option PlainJob). option_map_or (λ j. map.insert jobs t.0 (record j { jfns = change j.jfns })) x jobs) is

  input_in : (change : List ℕ → List ℕ) (o : Option PlainJob) → Here o → with_input jobs t change ≡ option_map_or (λ j. map.insert jobs t.0 (record j { input = change j.input })) o jobs
  input_in change o is = ap (λ (x : Option PlainJob). option_map_or (λ j. map.insert jobs t.0 (record j { input = change j.input })) x jobs) is

module _ (jobs : Jobs) (t : Tty) (tables : FileTables) (line : InputLine) where
  -- the job with both, or none
  with_none : map.get jobs t.0 ≡ None → jobs_with jobs t tables line ≡ jobs
  with_none none =
      let held = held_in jobs t (λ old. jfns_at tables t.0) None none in
      ap (λ (js : Jobs). with_input js t (λ old. line.input)) held ∙ input_in jobs t (λ old. line.input) None none

  with_both : (j : PlainJob) → map.get jobs t.0 ≡ Some j → jobs_with jobs t tables line ≡ map.insert jobs t.0 (record j { jfns = jfns_at tables t.0; input = line.input })
  with_both j there =
      let k : PlainJob = record j { jfns = jfns_at tables t.0 } in
      let held = held_in jobs t (λ old. jfns_at tables t.0) (Some j) there in
      ap (λ (js : Jobs). with_input js t (λ old. line.input)) held
      ∙ input_in (map.insert jobs t.0 k) t (λ old. line.input) (Some k) (get_put jobs t.0 t.0 k refl)
      ∙ put_twice jobs t.0 k (record k { input = line.input })

module _ (jobs : Jobs) (t : Tty) (tables tables' : FileTables) (line line' : InputLine) (has : HasLine jobs t tables line) where
  own_jfns : (j : PlainJob) → map.get jobs t.0 ≡ Some j → j.jfns ≡ jfns_at tables t.0
  own_jfns j there = sym (ap (λ (o : Option PlainJob). option_map_or (λ k. k.jfns) o map.empty) there) ∙ has.jfns

  own_input : (j : PlainJob) → map.get jobs t.0 ≡ Some j → j.input ≡ line.input
  own_input j there = sym (ap (λ (o : Option PlainJob). option_map_or (λ k. k.input) o []) there) ∙ has.input

  -- other JFNs alone
  pub other_jfns : (change : OpenFiles → OpenFiles) → jfns_at tables' t.0 ≡ change (jfns_at tables t.0) → line'.input ≡ line.input → jobs_with jobs t tables' line' ≡ with_held jobs t change
  other_jfns change jfns input = by (map.get jobs t.0) refl
    where
      by : (o : Option PlainJob) → map.get jobs t.0 ≡ o → jobs_with jobs t tables' line' ≡ with_held jobs t change
      by None none = with_none jobs t tables' line' none ∙ sym (held_in jobs t change None none)
      by (Some j) there =
          with_both jobs t tables' line' j there
          ∙ (λ i. map.insert jobs t.0 (record j { jfns = (jfns ∙ ap change (sym (own_jfns j there))) i; input = (input ∙ sym (own_input j there)) i }))
          ∙ sym (held_in jobs t change (Some j) there)

  -- other characters alone
  pub other_input : (change : List ℕ → List ℕ) → jfns_at tables' t.0 ≡ jfns_at tables t.0 → line'.input ≡ change line.input → jobs_with jobs t tables' line' ≡ with_input jobs t change
  other_input change jfns input = by (map.get jobs t.0) refl
    where
      by : (o : Option PlainJob) → map.get jobs t.0 ≡ o → jobs_with jobs t tables' line' ≡ with_input jobs t change
      by None none = with_none jobs t tables' line' none ∙ sym (input_in jobs t change None none)
      by (Some j) there =
          with_both jobs t tables' line' j there
          ∙ (λ i. map.insert jobs t.0 (record j { jfns = (jfns ∙ sym (own_jfns j there)) i; input = (input ∙ ap change (sym (own_input j there))) i }))
          ∙ sym (input_in jobs t change (Some j) there)

  -- neither
  pub all_same : jfns_at tables' t.0 ≡ jfns_at tables t.0 → line'.input ≡ line.input → jobs_with jobs t tables' line' ≡ jobs
  all_same jfns input = by (map.get jobs t.0) refl
    where
      by : (o : Option PlainJob) → map.get jobs t.0 ≡ o → jobs_with jobs t tables' line' ≡ jobs
      by None none = with_none jobs t tables' line' none
      by (Some j) there =
          with_both jobs t tables' line' j there
          ∙ (λ i. map.insert jobs t.0 (record j { jfns = (jfns ∙ sym (own_jfns j there)) i; input = (input ∙ sym (own_input j there)) i }))
          ∙ put_same jobs t.0 j there

-- the characters behind the oldest
pub taken_is : (cs : List ℕ) → drop 1 cs ≡ behind_first cs
taken_is [] = refl
taken_is (c ∷ cs) = refl

-- the JFNs of the job at a terminal behind a change of them
module _ (old new : FileTables) (t : Tty) (terminal : IsTerminal t) where
  within : t.0 < length (open_of old)
  within = omega (arith, terminal, old.sound.terminals, length-map old.jobs (open_named old.dir))

  pub now_held : (jfns : OpenFiles) → Changes old new t.0 jfns → jfns_at new t.0 ≡ jfns
  now_held jfns changes = ap (λ opens. open_at opens t.0) changes ∙ get_or-set_same (open_of old) t.0 jfns map.empty within

  -- one of them goes to another byte
  pub now_moved : (n at : ℕ) → IsSomeAnd (map.get (jfns_at old t.0) n) (λ j. Changes old new t.0 (map.insert (jfns_at old t.0) n (moved_file at j))) → jfns_at new t.0 ≡ with_position n at (jfns_at old t.0)
  now_moved n at moved = by (map.get (jfns_at old t.0) n) refl moved
    where
      by : (o : Option OpenFile) → map.get (jfns_at old t.0) n ≡ o → IsSomeAnd o (λ j. Changes old new t.0 (map.insert (jfns_at old t.0) n (moved_file at j))) → jfns_at new t.0 ≡ with_position n at (jfns_at old t.0)
      by None is h = absurd h
      by (Some j) is h =
          now_held (map.insert (jfns_at old t.0) n (moved_file at j)) h
          ∙ ap (λ (o : Option OpenFile). option_map_or (λ k. map.insert (jfns_at old t.0) n (moved_file at k)) o (jfns_at old t.0)) (sym is)
