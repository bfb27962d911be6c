use Rattle.std.proofs.Common.{rules, ◌≡◌, ◌≤◌, ◌<◌, List, [], ◌∷◌, length, get_or, map, String, string_bytes, codes, true, ap, subst, ◌∙◌, arith}
use Rattle.std.specs.Str.{bytes_eq}
use Rattle.std.proofs.lemmas.Slice.Eq.{bytes_eq-Decides}
use Rattle.script_texts.specs.Script.{IsDecimal}
use Rattle.command_words.proofs.text_words.asked_terminal.Goals as goal

-- two words, by each of them
both : {Z : Type 0} (words : List (String Z)) (a b : String Z) → 2 ≤ length words → length words < 3 → a ≡ get_or words 0 a → b ≡ get_or words 1 b → words ≡ a ∷ b ∷ []
both [] a b some few p q = absurd (omega (arith, some))
both (x ∷ []) a b some few p q = absurd (omega (arith, some))
both (x ∷ y ∷ []) a b some few p q = cc
both (x ∷ y ∷ z ∷ zs) a b some few p q = absurd (omega (arith, few))

pub returns : goal.returns
returns c =
    let a = c.name-item.result in
    let b = c.number-item.result in
    let name : bytes_eq (string_bytes a) (codes "asm") ≡ true = search rules in
    let spelled = (bytes_eq-Decides (string_bytes a) (codes "asm")).0 name in
    let words = both c.args.words.now a b c.in-len2.len_at_least c.in-len2.len_below c.name-item.is c.number-item.is in
    (string_bytes b, ap (map string_bytes) words ∙ ap (λ l. l ∷ string_bytes b ∷ []) spelled, (subst (λ l. IsDecimal 2 l c.in_ok-n.n) c.as_bytes-2.ensures.value c.in_ok-n.ensures, omega (arith, c.if-n.false)))
