-- A generated script moves on from stage to stage.
use Rattle.std.proofs.Common.{◌≡◌, ℕ, suc, ◌+◌, ◌-◌, ◌*◌, [], ◌∷◌, ◌++◌, refl, ◌∙◌, ap, arith}
use Rattle.std.specs.Prelude.{codes, map}
use Rattle.std.specs.List.{range_with_len}
use Rattle.script_texts.specs.declared.event.Event.TheVariants.{Login, Words, Run, Evict, Forks}
use Rattle.script_lang.specs.Generator.{drawn, evictions, fills, generated_file, logins, next_number, number_after, one_word, pokes, program_words, programs, shown, terminal}
use Rattle.script_lang.specs.Stages.{behind_code, closing, evicting, loading, rest_of}
use Rattle.script_lang.specs.declared.stages.Loading.TheVariants.{Code}
use Rattle.script_lang.specs.declared.stages.ScriptStage.TheVariants as at

-- the first of several, and none
module _ (t n : ℕ) (m : ℕ) (more : n ≡ suc m) where
  pub logins-first : logins t n ≡ Login (terminal t) (codes "U") ∷ logins (t + 1) m
  unfolding logins
  logins-first = ap (λ k. map (λ k. Login (terminal k) (codes "U")) (range_with_len t k)) more

  pub fills-first : fills t n ≡ Words generated_file t 0 (one_word (t + 1)) ∷ fills (t + 1) m
  unfolding fills
  fills-first = ap (λ k. map (λ k. Words generated_file k 0 (one_word (k + 1))) (range_with_len t k)) more

  pub shown-first : shown t n ≡ Forks (terminal t) ∷ shown (t + 1) m
  unfolding shown
  shown-first = ap (λ k. map (λ k. Forks (terminal k)) (range_with_len t k)) more

  pub evicting-first : (x : ℕ) → evicting n x ≡ Evict (drawn 160 x) ∷ Run 500 ∷ evicting m (next_number x)
  unfolding evictions
  evicting-first x = ap (λ k. evictions k x ++ closing) more

pub logins-none : (t : ℕ) → logins t 0 ≡ []
unfolding logins
logins-none t = refl

pub fills-none : (p : ℕ) → fills p 0 ≡ []
unfolding fills
fills-none p = refl

pub shown-none : (t : ℕ) → shown t 0 ≡ []
unfolding shown
shown-none t = refl

pub evicting-none : (x : ℕ) → evicting 0 x ≡ closing
unfolding evictions
evicting-none x = refl

pub loading-none : (t x : ℕ) → loading t 0 x ≡ evicting 40 x
unfolding programs
loading-none t x = refl

number_twice : (m x : ℕ) → number_after (2 * suc m) x ≡ number_after (2 * m) (number_after 2 x)
number_twice m x = let two : 2 * suc m ≡ suc (suc (2 * m)) = omega arith in ap (λ n. number_after n x) two

-- the first program of several
pub loading-first : (t n m x : ℕ) → n ≡ suc m → loading t n x ≡ pokes t 0o100 program_words ++ behind_code t m x
unfolding programs
loading-first t n m x more = ap (λ k. loading t k x) more ∙ ap (λ k. programs t (suc m) x ++ evicting 40 k) (number_twice m x)

-- where a program begins
pub begun : (t m x : ℕ) → 8 - t ≡ suc m → m ≡ 7 - t → loading t (8 - t) x ≡ rest_of (at.Load t (Code 0)) x
unfolding rest_of
begun t m x more last = loading-first t (8 - t) m x more ∙ ap (λ k. pokes t 0o100 program_words ++ behind_code t k x) last
