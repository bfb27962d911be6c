-- The channels of a word, one after another, and the fork to which they are posted.
use Rattle.std.proofs.Common.{◌≡◌, ◌≢◌, ℕ, zero, suc, ◌+◌, ◌-◌, ◌<◌, ◌≤◌, List, [], ◌∷◌, Bool, true, false, Option, None, Some, refl, sym, ◌∙◌, ap, arith, cond, inl, inr}
use Rattle.std.proofs.lemmas.Nat.Bits.{bit_at-pow_same, bit_at-pow_other}
use Rattle.std.proofs.lemmas.Bool.{cases_eq, cond_both}
use Rattle.word36.specs.Boolean.{function_of}
use Rattle.word36.specs.Words.{bit}
use Rattle.word36.specs.declared.opcodes.TheConstants.{IOR}
use Rattle.ka10_alu.specs.MaskedBits.{truth}
use Rattle.ka10_alu.proofs.MaskedBits.{boolean_bit}
use Rattle.std.specs.Prelude.{filter, ◌==◌}
use Rattle.std.specs.List.{list_any, range_with_len}
use Rattle.std.specs.Option.{option_map, option_map_or}
use Rattle.std.specs.FinMap as map
use Rattle.machine_names.specs.declared.names.ForkName.{ForkName}
use Rattle.plain_model.specs.declared.fork.Body.{Body}
use Rattle.plain_model.specs.declared.fork.Fork.{Fork}
use Rattle.script_texts.specs.declared.status.ForkStatus.TheVariants.{Forced}
use Rattle.plain_model.specs.declared.interrupt.TheConstants.{CHANNELS}
use Rattle.plain_model.specs.Forks.{ForkMap, with_status}
use Rattle.plain_model.specs.Interrupts.{channel_word, channels_of, forces, has_channel, is_panic, listens, pended, posted, posted_all, with_channels}
use Rattle.plain_model.specs.Posting.{told_if, with_all_posted}
use Rattle.plain_model.specs.Trees.{changed, end_told, with_body}
use Rattle.plain_model.proofs.Posted.{IsSame, posted_same}
use Rattle.fork_tree.specs.Changes.{body_in}
use Rattle.fork_tree.proofs.Slots.{get_put}

-- those from one on
abbrev pub channels_from : ℕ → ℕ → List ℕ
channels_from word channel = filter (has_channel word) (range_with_len channel (CHANNELS - channel))

module _ (word channel : ℕ) (below : channel < CHANNELS) where
  left : CHANNELS - channel ≡ suc (CHANNELS - (channel + 1))
  left = omega (arith, below)

  pub one_more : has_channel word channel ≡ true → channels_from word channel ≡ channel ∷ channels_from word (channel + 1)
  one_more has = ap (λ n. filter (has_channel word) (range_with_len channel n)) left ∙ rw has refl

  pub one_past : has_channel word channel ≡ false → channels_from word channel ≡ channels_from word (channel + 1)
  one_past lacks = ap (λ n. filter (has_channel word) (range_with_len channel n)) left ∙ rw lacks refl

pub none_left : (word channel : ℕ) → CHANNELS ≤ channel → channels_from word channel ≡ []
none_left word channel over = let left : CHANNELS - channel ≡ 0 = omega (arith, over) in ap (λ n. filter (has_channel word) (range_with_len channel n)) left

-- numbers below a bound of which one alone passes a test
module _ (p : ℕ → Bool) (channel most : ℕ) (is : p channel ≡ true) (others : (i : ℕ) → i ≢ channel → i < most → p i ≡ false) where
  none_past : (n from : ℕ) → channel < from → from + n ≤ most → filter p (range_with_len from n) ≡ []
  none_past zero from past within = refl
  none_past (suc n) from past within = rw (others from (omega (arith, past)) (omega (arith, within))) (none_past n (from + 1) (omega (arith, past)) (omega (arith, within)))

  one_alone : (n from : ℕ) → from ≤ channel → channel < from + n → from + n ≤ most → filter p (range_with_len from n) ≡ channel ∷ []
  one_alone zero from low high within = absurd (omega (arith, low, high))
  one_alone (suc n) from low high within = elim (cases_eq from channel) [
    | inl here ↦ rw (here, is) (ap (λ rest. channel ∷ rest) (none_past n (channel + 1) (omega arith) (omega (arith, within, here))))
    | inr ne ↦ rw (others from ne (omega (arith, within))) (one_alone n (from + 1) (omega (arith, low, ne)) (omega (arith, high)) (omega (arith, within)))
  ]

-- the word with one channel has that alone
pub alone : (channel : ℕ) → channel < CHANNELS → channels_of (channel_word channel) ≡ channel ∷ []
alone channel below =
    one_alone (has_channel (channel_word channel)) channel 36 (ap (λ b. b == 1) (bit_at-pow_same (35 - channel)))
    (λ i ne within. ap (λ b. b == 1) (bit_at-pow_other (35 - channel) (35 - i) (omega (arith, ne, within, below))))
    36 0 (omega arith) below (omega arith)

-- a fork with the body that channels left has taken them
pub body_left : (forks : ForkMap) (change : Fork → Fork) (after body : Body) (o : Option Fork) → body ≡ body_in o → ((f : Fork) → with_body after f ≡ change (with_body body f))
    → changed forks (with_body after) o ≡ changed forks change o
body_left forks change after body None is e = refl
body_left forks change after body (Some k) is e = ap (map.insert forks k.name) (e k ∙ ap (λ b. change (with_body b k)) is)

-- channels leave a fork in its place
pub all_same : (channels : List ℕ) (f : Fork) → IsSame f (posted_all f channels)
all_same [] f = (refl, refl, refl)
all_same (channel ∷ channels) f =
    let one = posted_same f channel in
    let rest = all_same channels (posted f channel) in
    (rest.0 ∙ one.0, rest.1 ∙ one.1, rest.2 ∙ one.2)

-- the fork of a name with the body that some channels leave
module _ (forks : ForkMap) (name : ForkName) (channels : List ℕ) (after : Body) (k : Fork) (there : map.get forks name ≡ Some k) (own : k.name ≡ name)
    (is : (f : Fork) → with_body after f ≡ posted_all (with_body k.body f) channels) where
  abbrev g : Fork
  g = posted_all k channels

  put : changed forks (with_body after) (map.get forks name) ≡ map.insert forks g.name g
  put = ap (changed forks (with_body after)) there ∙ (ap (map.insert forks k.name) (is k) ∙ ap (λ n. map.insert forks n g) (sym (all_same channels k).0))

  whole : (ended : Bool) → list_any (forces k.body.psi) channels ≡ ended → option_map_or (with_all_posted forks channels) (map.get forks name) forks ≡ told_if ended forks g
  whole ended e = ap (λ o. option_map_or (with_all_posted forks channels) o forks) there ∙ ap (λ b. told_if b forks g) e

  goes_on : list_any (forces k.body.psi) channels ≡ false → changed forks (with_body after) (map.get forks name) ≡ option_map_or (with_all_posted forks channels) (map.get forks name) forks
  goes_on e = put ∙ sym (whole false e)

  is_told : list_any (forces k.body.psi) channels ≡ true
      → option_map_or (end_told (changed forks (with_body after) (map.get forks name))) (map.get (changed forks (with_body after) (map.get forks name)) name) (changed forks (with_body after) (map.get forks name))
      ≡ option_map_or (with_all_posted forks channels) (map.get forks name) forks
  is_told e =
      ap (λ m. option_map_or (end_told m) (map.get m name) m) put
      ∙ (ap (λ o. option_map_or (end_told (map.insert forks g.name g)) o (map.insert forks g.name g)) (get_put forks g.name name g (sym ((all_same channels k).0 ∙ own)))
      ∙ sym (whole true e))

-- the fork whose body is lent
pub lent : (o : Option Fork) (body : Body) → Some body ≡ option_map (λ (f : Fork). f.body) o → (k : Fork) × (o ≡ Some k) × (body ≡ k.body)
lent None body e = absurd (cc e)
lent (Some k) body e = (k, refl, cc e)

-- whether one of some channels forces it
pub whether : (o : Option Fork) (body : Body) (channels : List ℕ) → Some body ≡ option_map (λ (f : Fork). f.body) o
    → list_any (forces body.psi) channels ≡ option_map_or (λ f. list_any (forces f.body.psi) channels) o false
whether None body channels e = absurd (cc e)
whether (Some k) body channels e = let is : body ≡ k.body = cc e in ap (λ (b : Body). list_any (forces b.psi) channels) is

-- the same from that body
module _ (forks : ForkMap) (name : ForkName) (channels : List ℕ) (body after : Body) (found : Some body ≡ option_map (λ (f : Fork). f.body) (map.get forks name))
    (own : (f : Fork) → map.get forks name ≡ Some f → f.name ≡ name) (is : (f : Fork) → with_body after f ≡ posted_all (with_body body f) channels) where
  pub all_put : list_any (forces body.psi) channels ≡ false → changed forks (with_body after) (map.get forks name) ≡ option_map_or (with_all_posted forks channels) (map.get forks name) forks
  all_put e =
      let k = lent (map.get forks name) body found in
      goes_on forks name channels after k.0 k.1 (own k.0 k.1) (λ f. is f ∙ ap (λ b. posted_all (with_body b f) channels) k.2) (sym (ap (λ (b : Body). list_any (forces b.psi) channels) k.2) ∙ e)

  pub all_told : list_any (forces body.psi) channels ≡ true
      → option_map_or (end_told (changed forks (with_body after) (map.get forks name))) (map.get (changed forks (with_body after) (map.get forks name)) name) (changed forks (with_body after) (map.get forks name))
      ≡ option_map_or (with_all_posted forks channels) (map.get forks name) forks
  all_told e =
      let k = lent (map.get forks name) body found in
      is_told forks name channels after k.0 k.1 (own k.0 k.1) (λ f. is f ∙ ap (λ b. posted_all (with_body b f) channels) k.2) (sym (ap (λ (b : Body). list_any (forces b.psi) channels) k.2) ∙ e)

-- ---- which channels are pending

-- a bit of the one word or of the other
either_one : (a : ℕ) → a < 2 → truth (function_of IOR) a 1 ≡ 1
either_one zero low = refl
either_one (suc zero) low = refl
either_one (suc (suc a)) low = absurd (omega (arith, low))

either_none : (a : ℕ) → a < 2 → truth (function_of IOR) a 0 ≡ a
either_none zero low = refl
either_none (suc zero) low = refl
either_none (suc (suc a)) low = absurd (omega (arith, low))

pub with_one : (w c : ℕ) → c < CHANNELS → bit (with_channels w (channel_word c)) c ≡ 1
with_one w c below = boolean_bit IOR w (channel_word c) c (omega arith, omega arith) below ∙ (ap (truth (function_of IOR) (bit w c)) (bit_at-pow_same (35 - c)) ∙ either_one (bit w c) (omega arith))

pub with_other : (w c d : ℕ) → c < CHANNELS → d < CHANNELS → d ≢ c → bit (with_channels w (channel_word c)) d ≡ bit w d
with_other w c d below within ne =
    boolean_bit IOR w (channel_word c) d (omega arith, omega arith) within
    ∙ (ap (truth (function_of IOR) (bit w d)) (bit_at-pow_other (35 - c) (35 - d) (omega (arith, ne, below, within))) ∙ either_none (bit w d) (omega arith))

pub pending_here : (f : Fork) (c : ℕ) → c < CHANNELS → listens f.body.psi c ≡ true → has_channel (posted f c).body.psi.pending c ≡ true
pending_here f c below takes = rw takes (ap (λ b. b == 1) (with_one f.body.psi.pending c below))

pub pending_others : (f : Fork) (c d : ℕ) → c < CHANNELS → d < CHANNELS → d ≢ c → has_channel (posted f c).body.psi.pending d ≡ has_channel f.body.psi.pending d
pending_others f c d below within ne =
    cond_both (listens f.body.psi c) (pended f c) (cond (is_panic c) (with_status f (Forced c)) f) (λ (g : Fork). has_channel g.body.psi.pending d ≡ has_channel f.body.psi.pending d)
    (λ takes. ap (λ b. b == 1) (with_other f.body.psi.pending c d below within ne))
    (λ misses. cond_both (is_panic c) (with_status f (Forced c)) f (λ (g : Fork). has_channel g.body.psi.pending d ≡ has_channel f.body.psi.pending d) (λ panics. refl) (λ drops. refl))
