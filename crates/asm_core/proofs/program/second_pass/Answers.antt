use Rattle.std.proofs.Common.{◌≡◌, ◌∙◌, ◌++◌, ◌∷◌, List, [], Ok, Err, ⊎_elim, inl, inr, refl, sym, ap, arith}
use Rattle.std.proofs.lemmas.Result.{err_from_is_err_and}
use Rattle.asm_core.specs.declared.line.Line.{Line}
use Rattle.asm_core.specs.declared.line.Placed.{Placed}
use Rattle.asm_core.specs.Passes.{IsUndefined, kept}
use Rattle.asm_core.specs.Places.{assembled_by, behind, first_undefined, location, placed_from, used, uses, words_by}
use Rattle.asm_core.proofs.Assembling.{assembled_more, assembled_none, defined_more, line_fits, line_more, line_read, no_line, none_used, outcome_done, outcome_undefined, read_all, undefined_here}
use Rattle.asm_core.proofs.Reading.{start_read}
use Rattle.asm_core.proofs.Surveying.{location_more, words_below}
use Rattle.asm_core.proofs.program.second_pass.Goals as goal

nowhere : 0 ≡ location []
unfolding location
nowhere = refl

pub loop-text-init : goal.loop-text-init
loop-text-init c =
    let symbols = kept c.args.symbols.now in
    record {
      before = [];
      read = start_read c.args.text.now;
      location = nowhere;
      within = omega arith;
      words = c.new-program.ensures.items ∙ sym (assembled_none symbols);
      defined = none_used symbols;
    }

pub returns-in_default-read_line : goal.returns-in_default-read_line
returns-in_default-read_line c =
    let l = c.loop-text in
    let i = l.invariant in
    absurd (no_line i.before c.requires.0 l.left.now (i.read ∙ c.requires.1) c.in-Some.text.now c.in-Some.others.now c.in-Some.ensures.cut c.in_default-read_line.ensures.value)

pub place-requires : goal.place-requires
place-requires c =
    let l = c.loop-text in
    let i = l.invariant in
    let x = c.in-Some-read_line.line in
    let fits = line_fits i.before c.requires.0 l.left.now (i.read ∙ c.requires.1) c.in-Some.text.now c.in-Some.others.now c.in-Some.ensures.cut x c.in-Some-read_line.ensures.value l.location i.location in
    words_below l.location x i.within fits

pub behind-location-requires : goal.behind-location-requires
behind-location-requires c =
    let l = c.loop-text in
    let i = l.invariant in
    let x = c.in-Some-read_line.line in
    let fits = line_fits i.before c.requires.0 l.left.now (i.read ∙ c.requires.1) c.in-Some.text.now c.in-Some.others.now c.in-Some.ensures.cut x c.in-Some-read_line.ensures.value l.location i.location in
    words_below l.location x i.within fits

pub returns-in_err-place : goal.returns-in_err-place
returns-in_err-place c =
    let l = c.loop-text in
    let i = l.invariant in
    let x = c.in-Some-read_line.line in
    let text = c.args.text.now in
    let lines = c.requires.0 in
    let symbols = kept c.args.symbols.now in
    let p = err_from_is_err_and c.from_residual.result c.from_residual.ensures.1 in
    let more = line_more i.before lines l.left.now (i.read ∙ c.requires.1) c.in-Some.text.now c.in-Some.others.now c.in-Some.ensures.cut x c.in-Some-read_line.ensures.value in
    let told = λ (h : IsUndefined symbols (used x.statement) c.in_err-place.field-0.0).
    outcome_undefined text lines c.requires.1 symbols c.requires.2 h.0 (ap (λ (xs : List Line). first_undefined symbols (uses xs)) more.1 ∙ undefined_here symbols i.before more.0 x h.0 i.defined h.2) ∙ ap Err (sym h.1) in
    rw (p.1, p.2) (⊎_elim inl (λ h. inr (told h)) c.in_err-place.ensures.fault)

pub loop-text-preserved : goal.loop-text-preserved
loop-text-preserved c =
    let l = c.loop-text in
    let i = l.invariant in
    let x = c.in-Some-read_line.line in
    let symbols = kept c.args.symbols.now in
    let done = c.in_ok-place.ensures.done in
    record {
      before = i.before ++ x ∷ [];
      read = line_read i.before c.requires.0 l.left.now (i.read ∙ c.requires.1) c.in-Some.text.now c.in-Some.others.now c.in-Some.ensures.cut x c.in-Some-read_line.ensures.value ∙ sym c.requires.1;
      location = c.behind-location.ensures.value ∙ (ap (λ n. behind n x.statement) i.location ∙ sym (location_more i.before x));
      within = c.behind-location.ensures.within;
      words =
          done.1
          ∙ (ap (λ (ps : List Placed). ps ++ placed_from l.location (words_by symbols x.statement)) i.words
          ∙ (ap (λ n. assembled_by symbols [] i.before ++ placed_from n (words_by symbols x.statement)) i.location ∙ sym (assembled_more symbols i.before x)));
      defined = defined_more symbols i.before x i.defined done.0;
    }

pub returns : goal.returns
returns c =
    let l = c.loop-text in
    let i = l.invariant in
    let lines = c.requires.0 in
    let symbols = kept c.args.symbols.now in
    let all : i.before ≡ lines = read_all i.before lines l.left.now (i.read ∙ c.requires.1) c.in_default.ensures.cut in
    let defined = ap (λ (xs : List Line). first_undefined symbols (uses xs)) (sym all) ∙ i.defined in
    outcome_done c.args.text.now lines c.requires.1 symbols c.requires.2 defined ∙ (ap (λ (xs : List Line). Ok (assembled_by symbols [] xs)) (sym all) ∙ ap Ok (sym i.words))
