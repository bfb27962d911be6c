use Rattle.std.proofs.Common.{◌≡◌, ◌∷◌, IsTrue, Some, codes, false, refl}
use Rattle.std.proofs.lemmas.Bool.Decides.{Decides-eqb}
use Rattle.std.proofs.lemmas.Slice.Eq.{strip_prefix_is}
use Rattle.script_lang.proofs.NameParts.{is_name, name_parts, unclosed, unpointed}
use Rattle.script_lang.proofs.names.file_name.Goals as goal

pub returns-in_err-dir : goal.returns-in_err-dir
returns-in_err-dir c =
    let text = c.args.text.now in
    let rest = c.in_ok-strip_prefix.field-0 in
    let opened : text ≡ 60 ∷ rest.now = strip_prefix_is Decides-eqb text (codes "<") (Some rest) c.in_ok-strip_prefix.ensures.cases in
    rw c.from_residual-in_err-dir.ensures (unclosed text rest.now opened c.in_err-dir.ensures)

pub returns-in_err-stem : goal.returns-in_err-stem
returns-in_err-stem c =
    let text = c.args.text.now in
    let rest = c.in_ok-strip_prefix.field-0 in
    let opened : text ≡ 60 ∷ rest.now = strip_prefix_is Decides-eqb text (codes "<") (Some rest) c.in_ok-strip_prefix.ensures.cases in
    rw c.from_residual-in_err-stem.ensures (unpointed text rest.now opened c.in_ok-dir.dir.now c.in_ok-dir.file.now c.in_ok-dir.ensures c.in_err-stem.ensures)

pub returns-then-not-are_parts : goal.returns-then-not-are_parts
returns-then-not-are_parts c h =
    let text = c.args.text.now in
    let rest = c.in_ok-strip_prefix.field-0 in
    let opened : text ≡ 60 ∷ rest.now = strip_prefix_is Decides-eqb text (codes "<") (Some rest) c.in_ok-strip_prefix.ensures.cases in
    let parts : IsTrue false = c.if-not-are_parts.ensures.1 (name_parts text rest.now opened c.in_ok-dir.dir.now c.in_ok-dir.file.now c.in_ok-dir.ensures c.in_ok-stem.stem.now c.in_ok-stem.extension.now c.in_ok-stem.ensures h) in
    cc parts

pub returns : goal.returns
returns c =
    let text = c.args.text.now in
    let rest = c.in_ok-strip_prefix.field-0 in
    let opened : text ≡ 60 ∷ rest.now = strip_prefix_is Decides-eqb text (codes "<") (Some rest) c.in_ok-strip_prefix.ensures.cases in
    let name = is_name text rest.now opened c.in_ok-dir.dir.now c.in_ok-dir.file.now c.in_ok-dir.ensures c.in_ok-stem.stem.now c.in_ok-stem.extension.now c.in_ok-stem.ensures
    (c.if-not-are_parts.ensures.0 refl) c.if-text-gt-MOST_FILE.false in
    (c.new.ensures, name)
