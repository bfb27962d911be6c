-- What is counted of lists is counted of longer ones.
use Rattle.std.proofs.Common.{◌≡◌, ℕ, ◌+◌, List, [], ◌∷◌, ◌++◌, Bool, true, false, cond, refl, sym, ap, ap₂, ◌∙◌, arith, zero, suc, append_assoc}
use Rattle.std.specs.Prelude.{filter, length, min, replicate}
use Rattle.std.proofs.lemmas.List.{length-append}
use Rattle.std.proofs.lemmas.List.Elements.{filter-append}
use Rattle.std.proofs.lemmas.List.{append-nil}
use Rattle.script_texts.specs.declared.event.Item.{Item}
use Rattle.script_texts.specs.declared.event.Item.TheVariants.{Char, ForkLine, Examined, PageLine, PageWord, UnitLine, Refusal}
use Rattle.script_texts.specs.declared.event.Step.{Step}
use Rattle.script_texts.specs.declared.event.Step.TheVariants.{Outer, Unit as AUnit, Idle}
use Rattle.texts.specs.Tally.{counted, is_character, is_event, is_idle, is_unit, most_counted, tally, with_item, with_steps}

count-append : {X : Type 0} (p : X → Bool) (xs ys : List X) → length (filter p (xs ++ ys)) ≡ length (filter p xs) + length (filter p ys)
count-append p xs ys = ap length (filter-append p xs ys) ∙ length-append (filter p xs) (filter p ys)

count_yes : {X : Type 0} (p : X → Bool) (x : X) → p x ≡ true → (n : ℕ) → length (filter p (replicate n x)) ≡ n
count_yes p x is zero = refl
count_yes p x is (suc n) = ap (λ b. length (cond b (x ∷ filter p (replicate n x)) (filter p (replicate n x)))) is ∙ ap suc (count_yes p x is n)

count_no : {X : Type 0} (p : X → Bool) (x : X) → p x ≡ false → (n : ℕ) → length (filter p (replicate n x)) ≡ 0
count_no p x is zero = refl
count_no p x is (suc n) = ap (λ b. length (cond b (x ∷ filter p (replicate n x)) (filter p (replicate n x)))) is ∙ count_no p x is n

-- as many more, and no more
more : {X : Type 0} (p : X → Bool) (xs : List X) (x : X) (n : ℕ) → p x ≡ true → counted (min (length (filter p xs)) most_counted) n ≡ min (length (filter p (xs ++ replicate n x))) most_counted
more p xs x n is = let sum = count-append p xs (replicate n x) in let here = count_yes p x is n in omega (arith, sum, here)

same : {X : Type 0} (p : X → Bool) (xs : List X) (x : X) (n : ℕ) → p x ≡ false → min (length (filter p xs)) most_counted ≡ min (length (filter p (xs ++ replicate n x))) most_counted
same p xs x n is = let sum = count-append p xs (replicate n x) in let here = count_no p x is n in omega (arith, sum, here)

-- the parts of a line, put one behind another
pub parted : (l a b c d e f : List ℕ) → ((((((l ++ a) ++ b) ++ c) ++ d) ++ e) ++ f) ≡ l ++ ((a ++ (b ++ (c ++ (d ++ e)))) ++ f)
parted l a b c d e f =
    ap (λ x. x ++ f) (append_assoc (((l ++ a) ++ b) ++ c) d e ∙ append_assoc ((l ++ a) ++ b) c (d ++ e) ∙ append_assoc (l ++ a) b (c ++ (d ++ e)) ∙ append_assoc l a (b ++ (c ++ (d ++ e))))
    ∙ append_assoc l (a ++ (b ++ (c ++ (d ++ e)))) f

-- equal entries are counted
pub tally_steps : (is : List Item) (ss : List Step) (s : Step) (n : ℕ) → with_steps (tally is ss) s n ≡ tally is (ss ++ replicate n s)
tally_steps is ss (Outer e) n = λ i. record {
  events = more is_event ss (Outer e) n refl i;
  units = same is_unit ss (Outer e) n refl i;
  idles = same is_idle ss (Outer e) n refl i;
  characters = min (length (filter is_character is)) most_counted;
}
tally_steps is ss (AUnit f) n = λ i. record {
  events = same is_event ss (AUnit f) n refl i;
  units = more is_unit ss (AUnit f) n refl i;
  idles = same is_idle ss (AUnit f) n refl i;
  characters = min (length (filter is_character is)) most_counted;
}
tally_steps is ss Idle n = λ i. record {
  events = same is_event ss Idle n refl i;
  units = same is_unit ss Idle n refl i;
  idles = more is_idle ss Idle n refl i;
  characters = min (length (filter is_character is)) most_counted;
}

with_characters : (is : List Item) (ss : List Step) (n : ℕ) → n ≡ min (length (filter is_character is)) most_counted → record (tally is ss) { characters = n } ≡ tally is ss
with_characters is ss n e = ap (λ k. record (tally is ss) { characters = k }) e

-- an item is counted
pub tally_item : (is : List Item) (ss : List Step) (i : Item) → with_item (tally is ss) i ≡ tally (is ++ i ∷ []) ss
tally_item is ss (Char tty c) = with_characters (is ++ Char tty c ∷ []) ss _ (more is_character is (Char tty c) 1 refl)
tally_item is ss (ForkLine l) = with_characters (is ++ ForkLine l ∷ []) ss _ (same is_character is (ForkLine l) 1 refl)
tally_item is ss (Examined t serial address word) = with_characters (is ++ Examined t serial address word ∷ []) ss _ (same is_character is (Examined t serial address word) 1 refl)
tally_item is ss (PageLine name page) = with_characters (is ++ PageLine name page ∷ []) ss _ (same is_character is (PageLine name page) 1 refl)
tally_item is ss (PageWord offset word) = with_characters (is ++ PageWord offset word ∷ []) ss _ (same is_character is (PageWord offset word) 1 refl)
tally_item is ss (UnitLine f address) = with_characters (is ++ UnitLine f address ∷ []) ss _ (same is_character is (UnitLine f address) 1 refl)
tally_item is ss (Refusal cause) = with_characters (is ++ Refusal cause ∷ []) ss _ (same is_character is (Refusal cause) 1 refl)

-- lists with nothing behind them
pub tally_nil : (is : List Item) (ss : List Step) → tally is ss ≡ tally (is ++ []) (ss ++ [])
tally_nil is ss = ap₂ tally (sym (append-nil is)) (sym (append-nil ss))
