use Rattle.std.proofs.Common.{◌≡◌, ◌⊎◌, ◌<◌, ℕ, List, true, length, sym, ◌∙◌, ap, subst, rules}
use Rattle.page_contracts.specs.Stores.{HomePlace, is_here, most_held, place}
use Rattle.page_contracts.specs.declared.store.TheConstants.{CONSOLE_HOLDER}
use Rattle.paged_store.specs.StoreMeaning.{homes_of}
use Rattle.store_tests.proofs.Looking.{still_once_used}
use Rattle.store_tests.proofs.calls.keep.Goals as goal

pub keep-requires-clause-can : goal.keep-requires-clause-can
keep-requires-clause-can c =
    let s = c.args.store.now in
    let there : is_here (place (homes_of s) c.args.home.0) ≡ true = c.is_here.ensures (search rules) in
    let used = c.used.ensures.used in
    record {
      here = ap (λ (ps : List HomePlace). is_here (place ps c.args.home.0)) c.used.ensures.homes ∙ there;
      still = still_once_used s c.used.new.self c.args.home.0 there used;
      member = subst (λ (m : ℕ). (c.args.holder < m) ⊎ (c.args.holder ≡ CONSOLE_HOLDER)) (sym used.framed.members) (c.is_member.ensures.member (search rules));
    }

pub keep-requires-clause-few : goal.keep-requires-clause-few
keep-requires-clause-few c =
    subst (λ (held : ℕ → List ℕ). length (held c.args.holder) < most_held c.args.holder) (sym c.used.ensures.used.holds) (c.has_room.ensures (search rules))
