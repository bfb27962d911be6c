use Rattle.std.proofs.Common.{◌∙◌, sym, ap, length, arith, length-append, append_assoc, ◌++◌}
use Rattle.std.proofs.lemmas.List.{length-map}
use Rattle.std.specs.Char.{to_ascii_uppercase}
use Rattle.machine_names.specs.FileNames.{directory_before, extension_behind, raised}
use Rattle.script_lang.proofs.FullNames.{full_name-parts, length-full_name}
use Rattle.script_lang.proofs.named.full_name.Goals as goal

pub returns-in_err-add_directory : goal.returns-in_err-add_directory
returns-in_err-add_directory c =
    let user = c.args.user.now in
    let text = c.args.text.now in
    let extension = c.args.extension.now in
    rw c.from_residual.ensures (omega (arith, length-full_name user extension text, ap length c.new-full.ensures, c.in_err-add_directory.ensures))

pub returns-in_err-add_raised : goal.returns-in_err-add_raised
returns-in_err-add_raised c =
    let user = c.args.user.now in
    let text = c.args.text.now in
    let extension = c.args.extension.now in
    let begun = c.in_ok-add_directory.ensures ∙ ap (λ l. l ++ directory_before user text) c.new-full.ensures in
    rw c.from_residual-in_err-add_raised.ensures (omega (arith, length-full_name user extension text, ap length begun, c.in_err-add_raised.ensures))

pub returns-in_err-add_extension : goal.returns-in_err-add_extension
returns-in_err-add_extension c =
    let user = c.args.user.now in
    let text = c.args.text.now in
    let extension = c.args.extension.now in
    let begun = c.in_ok-add_directory.ensures ∙ ap (λ l. l ++ directory_before user text) c.new-full.ensures in
    let more = c.in_ok-add_raised.ensures ∙ ap (λ l. l ++ raised text) begun in
    let long = ap length more ∙ length-append (directory_before user text) (raised text) in
    rw c.from_residual-in_err-add_extension.ensures
    (omega (arith, length-full_name user extension text, long, length-map text to_ascii_uppercase, c.in_err-add_extension.ensures))

pub returns : goal.returns
returns c =
    let user = c.args.user.now in
    let text = c.args.text.now in
    let extension = c.args.extension.now in
    let begun = c.in_ok-add_directory.ensures ∙ ap (λ l. l ++ directory_before user text) c.new-full.ensures in
    let more = c.in_ok-add_raised.ensures ∙ ap (λ l. l ++ raised text) begun in
    c.in_ok-add_extension.ensures ∙ ap (λ l. l ++ extension_behind extension text) more
    ∙ (append_assoc (directory_before user text) (raised text) (extension_behind extension text) ∙ sym (full_name-parts user extension text))
