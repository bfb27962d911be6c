use Rattle.std.proofs.Common.{rules, ◌≡◌, ◌≢◌, ◌<◌, ◌^◌, ◌∷◌, [], length, take, arith, sym, ◌∙◌, ap, subst, codes, Some, None}
use Rattle.std.proofs.lemmas.Bool.{eqb-true}
use Rattle.std.proofs.lemmas.Bool.Decides.{Decides-eqb, nat_tests}
use Rattle.std.proofs.lemmas.List.{length-take-le, nil_from_length, take_more_set}
use Rattle.std.proofs.lemmas.List.Elements.{All-set}
use Rattle.std.proofs.lemmas.Slice.Eq.{strip_prefix_is}
use Rattle.script_texts.specs.Script.{WordFields}
use Rattle.script_lang.specs.Rows.{StartsNoWord, StartsWord}
use Rattle.script_lang.proofs.Fronts.{octal_below}
use Rattle.script_lang.proofs.RowWords.{rowing, starts_no_word, starts_with_space, starts_word, zeros_set}
use Rattle.script_lang.proofs.Sequences.{Reaches, reaches_beyond, reaches_end, reaches_more, reaches_nothing}
use Rattle.script_lang.proofs.rows.row.Goals as goal

pub returns-then-count-eq-MOST_WORDS : goal.returns-then-count-eq-MOST_WORDS
returns-then-count-eq-MOST_WORDS c ws h =
    let l = c.loop-rest in
    let some : l.rest.now ≢ [] = λ none. grind (arith, nat_tests, ap length none) in
    omega (arith, reaches_beyond rowing c.args.text.now (take l.count l.words) l.rest.now l.invariant.reaches some ws h, length-take-le l.count l.words (omega (arith, l.invariant.few, l.invariant.room)))

pub returns-in_err-strip_prefix : goal.returns-in_err-strip_prefix
returns-in_err-strip_prefix c =
    let l = c.loop-rest in
    let some : l.rest.now ≢ [] = λ none. grind (arith, nat_tests, ap length none) in
    let stuck = starts_with_space l.rest.now (strip_prefix_is Decides-eqb l.rest.now (codes " ") None c.in_err-strip_prefix.ensures.cases) in
    rw c.from_residual.ensures (λ ws h. absurd (reaches_nothing rowing c.args.text.now (take l.count l.words) l.rest.now l.invariant.reaches some stuck ws h))

pub returns-in_err-words : goal.returns-in_err-words
returns-in_err-words c =
    let l = c.loop-rest in
    let some : l.rest.now ≢ [] = λ none. grind (arith, nat_tests, ap length none) in
    let fields = c.in_ok-strip_prefix.field-0 in
    let opened : l.rest.now ≡ 32 ∷ fields.now = strip_prefix_is Decides-eqb l.rest.now (codes " ") (Some fields) c.in_ok-strip_prefix.ensures.cases in
    let stuck = subst StartsNoWord (sym opened) (starts_no_word fields.now c.head.result.0.now c.head.result.1.now c.head.ensures c.in_err-words.ensures) in
    rw c.from_residual-in_err-words.ensures (λ ws h. absurd (reaches_nothing rowing c.args.text.now (take l.count l.words) l.rest.now l.invariant.reaches some stuck ws h))

pub loop-rest-preserved : goal.loop-rest-preserved
loop-rest-preserved c =
    let l = c.loop-rest in
    let word = c.in_ok-words.field-0 in
    let fields = c.in_ok-strip_prefix.field-0 in
    let opened : l.rest.now ≡ 32 ∷ fields.now = strip_prefix_is Decides-eqb l.rest.now (codes " ") (Some fields) c.in_ok-strip_prefix.ensures.cases in
    let first = subst (λ t. StartsWord t word c.head.result.1.now) (sym opened) (starts_word fields.now c.head.result.0.now c.head.result.1.now word c.head.ensures c.in_ok-words.ensures) in
    record {
      few = omega arith;
      room = search rules;
      small = All-set (λ w. w < 2 ^ 36) l.words l.count word (octal_below 12 c.head.result.0.now word c.in_ok-words.ensures) l.invariant.small;
      zeros = zeros_set l.words l.count word (omega (arith, l.invariant.room)) l.invariant.zeros;
      reaches =
          subst (λ done. Reaches WordFields c.args.text.now done c.head.result.1.now) (sym (take_more_set l.words l.count word (omega (arith, l.invariant.room))))
          (reaches_more rowing c.args.text.now (take l.count l.words) l.rest.now c.head.result.1.now word l.invariant.reaches first);
    }

pub returns : goal.returns
returns c =
    let l = c.loop-rest in
    let none : l.rest.now ≡ [] = nil_from_length l.rest.now (eqb-true (length l.rest.now) 0 (sym c.is_empty.ensures ∙ c.loop-rest-test.false)) in
    record {
      fields = reaches_end rowing c.args.text.now (take l.count l.words) l.rest.now l.invariant.reaches none;
      most = l.invariant.few;
      room = l.invariant.room;
      words = l.invariant.small;
      rest = l.invariant.zeros;
    }
