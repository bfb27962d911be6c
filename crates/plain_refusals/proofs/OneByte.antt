-- What a change of the calls on bytes does to positions of JFNs and to what is stored, where a JFN that is moved comes to the next byte.
use Rattle.std.proofs.Common.{◌≡◌, ◌≢◌, ◌⊎◌, ℕ, ◌+◌, List, [], Option, None, Some, inl, inr, refl, sym, ◌∙◌, ap, subst}
use Rattle.std.specs.Option.{option_map_or}
use Rattle.std.specs.Cmp.{nat_cmp_total}
use Rattle.std.specs.FinMap as map
use Rattle.std.specs.FinMap.{nat_cmp-IsAntisymmetric}
use Rattle.std.proofs.lemmas.Bool.{cases_eq}
use Rattle.machine_names.proofs.Keys.{get_put, get_put_other}
use Rattle.machine_names.specs.declared.names.Tty.{Tty}
use Rattle.machine_names.specs.Orders.{name_cmp}
use Rattle.plain_files.specs.OpenFiles.{OpenFile, OpenFiles}
use Rattle.plain_model.specs.declared.call.ByteChange.{ByteChange}
use Rattle.plain_model.specs.declared.call.ByteChange.TheVariants.{Nothing, Take, Move, Put}
use Rattle.plain_model.specs.ByteCalls.{behind_first, byte_changed, input_at, with_input, with_position, written}
use Rattle.plain_model.specs.FileCalls.{FileParts, Jobs, held_at, with_held}
use Rattle.plain_model.specs.State.{PlainJob}

-- where a JFN stands then
abbrev Stands : Option OpenFile → OpenFile → Type 0
Stands o j = (k : OpenFile) × (o ≡ Some k) × ((k.at ≡ j.at) ⊎ (k.at ≡ j.at + 1))

-- positions move by one byte at most, and of what is stored the oldest may be gone
pub record Steps (old new : Jobs) : Type 0 where
  pub positions : (t : Tty) (n : ℕ) (j : OpenFile) → map.get (held_at old t) n ≡ Some j → Stands (map.get (held_at new t) n) j
  pub input : (t : Tty) → (input_at new t ≡ input_at old t) ⊎ (input_at new t ≡ behind_first (input_at old t))

pub none_steps : (jobs : Jobs) → Steps jobs jobs
none_steps jobs = record { positions = λ t n j is. (j, is, inl refl); input = λ t. inl refl }

-- the JFNs and what is stored of the job at a terminal
abbrev jfns_in : Option PlainJob → OpenFiles
jfns_in o = option_map_or (λ j. j.jfns) o map.empty

abbrev input_in : Option PlainJob → List ℕ
input_in o = option_map_or (λ j. j.input) o []

-- one job is another
module _ (jobs : Jobs) (t : Tty) (x y : PlainJob) (is : map.get jobs t.0 ≡ Some x)
    (positions : (n : ℕ) (j : OpenFile) → map.get x.jfns n ≡ Some j → Stands (map.get y.jfns n) j) (input : (y.input ≡ x.input) ⊎ (y.input ≡ behind_first x.input)) where
  abbrev new : Jobs
  new = map.insert jobs t.0 y

  here : (u : Tty) → u.0 ≡ t.0 → map.get new u.0 ≡ Some y
  here u same = get_put nat_cmp_total nat_cmp-IsAntisymmetric jobs t.0 u.0 y same

  there : (u : Tty) → u.0 ≡ t.0 → map.get jobs u.0 ≡ Some x
  there u same = ap (map.get jobs) same ∙ is

  other : (u : Tty) → u.0 ≢ t.0 → map.get new u.0 ≡ map.get jobs u.0
  other u ne = get_put_other nat_cmp_total nat_cmp-IsAntisymmetric jobs t.0 u.0 y ne

  job_steps : Steps jobs (map.insert jobs t.0 y)
  job_steps = record {
    positions = λ u n j held. elim (cases_eq u.0 t.0) [
      | inl same ↦ subst (λ o. Stands (map.get (jfns_in o) n) j) (sym (here u same)) (positions n j (ap (λ o. map.get (jfns_in o) n) (sym (there u same)) ∙ held))
      | inr ne ↦ (j, ap (λ o. map.get (jfns_in o) n) (other u ne) ∙ held, inl refl)
    ];
    input = λ u. elim (cases_eq u.0 t.0) [
      | inl same ↦ subst (λ o. (input_in o ≡ input_in (map.get jobs u.0)) ⊎ (input_in o ≡ behind_first (input_in (map.get jobs u.0)))) (sym (here u same))
          (subst (λ o. (y.input ≡ input_in o) ⊎ (y.input ≡ behind_first (input_in o))) (sym (there u same)) input)
      | inr ne ↦ inl (ap input_in (other u ne))
    ];
  }

-- a JFN is moved to the next byte
module _ (jobs : Jobs) (t : Tty) (n at : ℕ) (next : (j : OpenFile) → map.get (held_at jobs t) n ≡ Some j → at ≡ j.at + 1) where
  moved_in : (m : OpenFiles) → ((j : OpenFile) → map.get m n ≡ Some j → at ≡ j.at + 1) → (k : ℕ) (j : OpenFile) → map.get m k ≡ Some j → Stands (map.get (with_position n at m) k) j
  moved_in m fits k j is = by (map.get m n) refl
    where
      by : (o : Option OpenFile) → map.get m n ≡ o → Stands (map.get (option_map_or (λ i. map.insert m n (record i { at = at })) o m) k) j
      by None none = (j, is, inl refl)
      by (Some i) found = elim (cases_eq k n) [
        | inl same ↦ (
            let one : i ≡ j = (let both : Some i ≡ Some j = sym found ∙ ap (map.get m) (sym same) ∙ is in cc both) in
            (record i { at = at }, get_put nat_cmp_total nat_cmp-IsAntisymmetric m n k (record i { at = at }) same, inr (fits i found ∙ ap (λ (x : OpenFile). x.at + 1) one))
            )
        | inr ne ↦ (j, get_put_other nat_cmp_total nat_cmp-IsAntisymmetric m n k (record i { at = at }) ne ∙ is, inl refl)
      ]

  pub moved_steps : Steps jobs (with_held jobs t (with_position n at))
  moved_steps = by (map.get jobs t.0) refl
    where
      by : (o : Option PlainJob) → map.get jobs t.0 ≡ o → Steps jobs (option_map_or (λ j. map.insert jobs t.0 (record j { jfns = with_position n at j.jfns })) o jobs)
      by None none = none_steps jobs
      by (Some x) is = job_steps jobs t x (record x { jfns = with_position n at x.jfns }) is (moved_in x.jfns (λ j held. next j (ap (λ o. map.get (jfns_in o) n) is ∙ held))) (inl refl)

-- the oldest character is taken
pub taken_steps : (jobs : Jobs) (t : Tty) → Steps jobs (with_input jobs t behind_first)
taken_steps jobs t = by (map.get jobs t.0) refl
  where
    by : (o : Option PlainJob) → map.get jobs t.0 ≡ o → Steps jobs (option_map_or (λ j. map.insert jobs t.0 (record j { input = behind_first j.input })) o jobs)
    by None none = none_steps jobs
    by (Some x) is = job_steps jobs t x (record x { input = behind_first x.input }) is (λ n j held. (j, held, inl refl)) (inr refl)

-- A CHANGE, where a JFN that it moves comes to the next byte
abbrev pub ToNext : Jobs → ByteChange → Type 0
ToNext jobs (Move t n at) = (j : OpenFile) → map.get (held_at jobs t) n ≡ Some j → at ≡ j.at + 1
ToNext jobs change = Unit {0}

pub change_steps : (change : ByteChange) (v : FileParts name_cmp) → ToNext v.jobs change → Steps v.jobs (byte_changed (λ name. name) change v).jobs
unfolding byte_changed
change_steps Nothing v next = none_steps v.jobs
change_steps (Take t) v next = taken_steps v.jobs t
change_steps (Move t n at) v next = moved_steps v.jobs t n at next
change_steps (Put t n byte) v next = by (map.get (held_at v.jobs t) n) refl
  where
    by : (o : Option OpenFile) → map.get (held_at v.jobs t) n ≡ o → Steps v.jobs (option_map_or (written (λ name. name) v t n byte) o v).jobs
    by None none = none_steps v.jobs
    by (Some j) is = moved_steps v.jobs t n (j.at + 1) (λ k held. (let both : Some j ≡ Some k = sym is ∙ held in let same : j ≡ k = cc both in ap (λ (x : OpenFile). x.at + 1) same))
