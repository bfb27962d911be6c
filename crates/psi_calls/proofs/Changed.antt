-- What the changes of calls on pseudo-interrupts leave.
use Rattle.std.proofs.Common.{◌≡◌, ℕ, sym, ◌∙◌, ap}
use Rattle.std.specs.Option.{option_map_or}
use Rattle.std.specs.FinMap as map
use Rattle.machine_names.specs.declared.names.ForkName.{ForkName}
use Rattle.machine_names.specs.declared.names.Tty.{Tty}
use Rattle.plain_pages.specs.PlainPages.{NumberedPages}
use Rattle.plain_typing.specs.Lines.{InputLine}
use Rattle.plain_model.specs.declared.call.InterruptChange.TheVariants.{Become, Post, Assign, Unassign}
use Rattle.plain_model.specs.declared.fork.Body.{Body}
use Rattle.plain_model.specs.FileCalls.{Jobs}
use Rattle.plain_model.specs.InterruptCalls.{interrupt_changed, with_codes_of}
use Rattle.plain_model.specs.Interrupts.{channels_of}
use Rattle.plain_model.specs.Posting.{with_all_posted}
use Rattle.plain_model.specs.Trees.{PlainTree, with_body, with_changed_of}
use Rattle.psi_calls.specs.Turning.{Changes, FileMap, HasCodes, jobs_with, parts}
use Rattle.psi_calls.proofs.JobCodes.{other_codes, same_codes}

-- other forks, and the same codes
trees_change : (tree tree' goal : PlainTree) (line line' : InputLine) (t : Tty) → tree' ≡ goal → line' ≡ line → (files : FileMap) (jobs : Jobs) (clock : ℕ) (p : NumberedPages) → HasCodes jobs t line
    → parts tree' files (jobs_with jobs t line') clock p ≡ parts goal files jobs clock p
trees_change tree tree' goal line line' t is kept files jobs clock p has =
    ap (λ (u : PlainTree). parts u files (jobs_with jobs t line') clock p) is ∙ ap (λ (js : Jobs). parts goal files js clock p) (same_codes jobs t line line' has (ap (λ (l : InputLine). l.codes) kept))

pub become_changes : (tree tree' : PlainTree) (line line' : InputLine) (t : Tty) (name : ForkName) (body : Body) → tree' ≡ with_changed_of tree name (with_body body) → line' ≡ line → Changes tree tree' line line' t (Become name body)
unfolding interrupt_changed
become_changes tree tree' line line' t name body is kept = trees_change tree tree' (with_changed_of tree name (with_body body)) line line' t is kept

pub post_changes : (tree tree' : PlainTree) (line line' : InputLine) (t : Tty) (name : ForkName) (word : ℕ)
    → tree' ≡ record tree { forks = option_map_or (with_all_posted tree.forks (channels_of word)) (map.get tree.forks name) tree.forks } → line' ≡ line → Changes tree tree' line line' t (Post name word)
unfolding interrupt_changed
post_changes tree tree' line line' t name word is kept = trees_change tree tree' _ line line' t is kept

pub assign_changes : (tree tree' : PlainTree) (line line' : InputLine) (who f : ForkName) (code channel : ℕ) → f ≡ who → tree' ≡ tree → line' ≡ record line { codes = map.insert line.codes code (f, channel) }
    → Changes tree tree' line line' who.tty (Assign code f channel)
unfolding interrupt_changed
assign_changes tree tree' line line' who f code channel own same is files jobs clock p has =
    ap (λ (u : PlainTree). parts u files (jobs_with jobs who.tty line') clock p) same
    ∙ ap (λ (js : Jobs). parts tree files js clock p) (other_codes jobs who.tty line line' has (λ codes. map.insert codes code (f, channel)) (ap (λ (l : InputLine). l.codes) is))
    ∙ ap (λ (g : ForkName). parts tree files (with_codes_of jobs g.tty (λ codes. map.insert codes code (f, channel))) clock p) (sym own)

pub unassign_changes : (tree tree' : PlainTree) (line line' : InputLine) (t u : Tty) (code : ℕ) → u ≡ t → tree' ≡ tree → line' ≡ record line { codes = map.remove line.codes code } → Changes tree tree' line line' t (Unassign u code)
unfolding interrupt_changed
unassign_changes tree tree' line line' t u code own same is files jobs clock p has =
    ap (λ (v : PlainTree). parts v files (jobs_with jobs t line') clock p) same
    ∙ ap (λ (js : Jobs). parts tree files js clock p) (other_codes jobs t line line' has (λ codes. map.remove codes code) (ap (λ (l : InputLine). l.codes) is))
    ∙ ap (λ (x : Tty). parts tree files (with_codes_of jobs x (λ codes. map.remove codes code)) clock p) (sym own)
