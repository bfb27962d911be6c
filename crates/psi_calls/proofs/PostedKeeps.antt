-- Channels that are posted leave each fork in its place, within its limits.
use Rattle.std.proofs.Common.{◌≡◌, ℕ, zero, suc, ◌+◌, ◌<◌, ◌≤◌, Bool, true, false, cond, List, [], ◌∷◌, Option, None, Some, refl, sym, ◌∙◌, ap, subst, arith}
use Rattle.std.specs.Prelude.{filter}
use Rattle.std.specs.List.{list_any, range_with_len}
use Rattle.std.specs.Option.{option_map_or}
use Rattle.std.specs.FinMap as map
use Rattle.machine_names.specs.declared.names.ForkName.{ForkName}
use Rattle.plain_model.specs.declared.fork.Fork.{Fork}
use Rattle.plain_model.specs.declared.interrupt.TheConstants.{CHANNELS}
use Rattle.plain_model.specs.Forks.{ForkMap}
use Rattle.plain_model.specs.Interrupts.{channels_of, forces, has_channel, posted, posted_all}
use Rattle.plain_model.specs.Posting.{told_if, with_all_posted}
use Rattle.plain_model.specs.Trees.{end_told}
use Rattle.plain_model.proofs.ForkMaps.{AreOwn}
use Rattle.job_forks.specs.Limits.{IsBodyOf}
use Rattle.job_forks.proofs.Telling.{end_keeps, posted_mild}
use Rattle.job_forks.proofs.Places.{IsMild, Keep, changed_keeps, keep_itself, keep_on}

-- ---- the channels of a list

abbrev AreChannels : List ℕ → Type 0
AreChannels [] = Unit {0}
AreChannels (channel ∷ channels) = (channel < CHANNELS) × AreChannels channels

filtered : (p : ℕ → Bool) (n from : ℕ) → from + n ≤ CHANNELS → AreChannels (filter p (range_with_len from n))
filtered p zero from low = tt
filtered p (suc n) from low = by (p from) (filtered p n (from + 1) (omega arith))
  where
    by : (b : Bool) → AreChannels (filter p (range_with_len (from + 1) n)) → AreChannels (cond b (from ∷ filter p (range_with_len (from + 1) n)) (filter p (range_with_len (from + 1) n)))
    by true rest = (omega arith, rest)
    by false rest = rest

all_mild : (channels : List ℕ) → AreChannels channels → (k : Fork) → IsMild (λ f. posted_all f channels) k
all_mild [] are k = record { name = refl; slot = refl; superior = refl; units = refl; within = λ b. b }
all_mild (channel ∷ channels) are k =
    let first = posted_mild channel are.0 k in
    let rest = all_mild channels are.1 (posted k channel) in
    record { name = rest.name ∙ first.name; slot = rest.slot ∙ first.slot; superior = rest.superior ∙ first.superior; units = rest.units ∙ first.units; within = λ b. rest.within (first.within b) }

-- those of a word leave a fork's place and its units, and keep its limits
pub word_mild : (word : ℕ) (k : Fork) → IsMild (λ f. posted_all f (channels_of word)) k
word_mild word k = all_mild (channels_of word) (filtered (has_channel word) 36 0 (omega arith)) k

-- a fork that lives has such a body
pub word_fits : (forks : ForkMap) (word : ℕ) (k : Fork) → map.get forks k.name ≡ Some k → IsBodyOf forks k.name (posted_all k (channels_of word)).body
word_fits forks word k lives = let mild = word_mild word k in record { fork = k; lives = lives; units = mild.units; within = mild.within }

-- ---- forks of which one takes them, and that is told

told_if_keeps : (ended : Bool) (forks : ForkMap) (f : Fork) → Keep forks (map.insert forks f.name f) → Keep forks (told_if ended forks f)
told_if_keeps true forks f put = let whole : ForkMap = map.insert forks f.name f in keep_on forks whole (end_told whole f) put (end_keeps whole put.own f)
told_if_keeps false forks f put = put

module _ (forks : ForkMap) (own : AreOwn forks) (word : ℕ) where
  abbrev channels : List ℕ
  channels = channels_of word

  abbrev IsSoundIn : Fork → Type 0
  IsSoundIn f = (map.get forks f.name ≡ Some f) × IsMild (λ g. posted_all g channels) f

  all_keep : (k : Fork) → map.get forks k.name ≡ Some k → Keep forks (with_all_posted forks channels k)
  all_keep k lives =
      let g : Fork = posted_all k channels in
      let mild = word_mild word k in
      let put = changed_keeps forks own (λ f. posted_all f channels) (Some k) (λ f is. (let same : k ≡ f = cc is in subst IsSoundIn same (lives, mild))) in
      told_if_keeps (list_any (forces k.body.psi) channels) forks g (subst (λ (n : ForkName). Keep forks (map.insert forks n g)) (sym mild.name) put)

  pub channels_keep : (name : ForkName) → Keep forks (option_map_or (with_all_posted forks channels) (map.get forks name) forks)
  channels_keep name = by (map.get forks name) refl
    where
      by : (o : Option Fork) → map.get forks name ≡ o → Keep forks (option_map_or (with_all_posted forks channels) o forks)
      by None is = keep_itself forks own
      by (Some k) is = all_keep k (ap (map.get forks) (own name k is) ∙ is)
