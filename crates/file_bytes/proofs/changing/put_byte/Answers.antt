use Rattle.std.proofs.Common.{◌≡◌, None, Some, inl, sym, ◌∙◌}
use Rattle.machine_names.specs.declared.names.Kind.TheVariants.{Write}
use Rattle.machine_names.specs.declared.names.Place.TheVariants.{File}
use Rattle.machine_names.specs.Orders.{file_page}
use Rattle.page_contracts.specs.Stores.{traffic}
use Rattle.page_contracts.proofs.Losing.{loses_on}
use Rattle.plain_pages.specs.References.{in_file, word_at}
use Rattle.call_turns.specs.Telling.{page_need}
use Rattle.call_turns.proofs.Looks.{needed_is}
use Rattle.file_bytes.proofs.Settled.{is_ready, not_needed, there_then}
use Rattle.file_bytes.proofs.changing.put_byte.Goals as goal

pub returns-in-Ok-clause-loses : goal.returns-in-Ok-clause-loses
returns-in-Ok-clause-loses g c =
    let means = g.P.Pages.means in
    loses_on (traffic means.store c.args.pages.now) (traffic means.store c.settle.new.self) (traffic means.store c.put.new.self) c.settle.ensures.loses c.put.ensures.loses

pub returns-in_default-word_of-clause-told : goal.returns-in_default-word_of-clause-told
returns-in_default-word_of-clause-told g c d f =
    let means = g.P.Pages.means in
    let mid = c.settle.new.self in
    let q = means.plain mid d in
    let at = file_page c.args.file.0 c.args.at.0 in
    let fits = (c.settle.ensures.told d f).0 in
    let none = not_needed q (means.scene mid) at c.args.owner (sym (c.in-Ready.ensures.told d c.args.owner fits (inl c.requires.owner))) in
    let some = needed_is (page_need (means.scene mid) q (in_file at)) (word_at q (in_file at) c.args.at.1) c.in_default-word_of.field-0 (c.in_default-word_of.ensures.told d fits) in
    let two : None ≡ Some c.in_default-word_of.field-0 = sym none ∙ some in
    absurd (cc two)

pub returns-in_default : goal.returns-in_default
returns-in_default g c =
    let means = g.P.Pages.means in
    let old = c.args.pages.now in
    let mid = c.settle.new.self in
    let file = c.args.file in
    let page = c.args.at.0 in
    record {
      told = λ d f. (
          let fits = (c.settle.ensures.told d f).0 in
          let q = means.plain mid d in
          let touched = sym c.touch.ensures.answer ∙ c.touch.ensures.told d c.args.owner fits (inl c.requires.owner) in
          let there = there_then means old mid file page q c.settle.ensures.filed (g.met.P.Pages.agrees mid d fits).filed in
          absurd (c.in_default.not-Ready (c.touch.ensures.answer ∙ is_ready q (file_page file.0 page) c.args.owner (means.scene mid) (means.touched old (File file page) Write) (means.touched mid (File file page) Write) touched c.settle.ensures.settles there)));
      loses = c.settle.ensures.loses;
      made = record { lives = c.settle.ensures.lives; forks = c.settle.ensures.forks; most = c.settle.ensures.most; serial = c.settle.ensures.serial; serials = c.settle.ensures.serials };
    }
