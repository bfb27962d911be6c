-- The entries that words of maps stand for, once the page of a home has a share, or goes.
use Rattle.std.proofs.Common.{◌≡◌, ◌≢◌, ℕ, List, true, false, cond, Option, None, Some, is_some, refl, sym, ◌∙◌, ap}
use Rattle.std.specs.Prelude.{IsSome}
use Rattle.std.specs.Option.{option_and_then}
use Rattle.std.specs.Cmp.{nat_cmp_total}
use Rattle.std.specs.FinMap as fin
use Rattle.std.proofs.lemmas.List.{get_or-set_other}
use Rattle.machine_names.proofs.Keys.{get_put_other}
use Rattle.machine_names.specs.declared.names.Access.{Access}
use Rattle.machine_names.specs.declared.names.PageName.{PageName}
use Rattle.page_homes.specs.declared.homes.Home.{Home}
use Rattle.share_table.specs.declared.pointer.Pointer.{Pointer}
use Rattle.share_table.specs.declared.pointer.Pointer.TheVariants as pointer
use Rattle.share_table.specs.declared.shares.Share.{Share}
use Rattle.share_table.specs.declared.shares.SharedPage.{SharedPage}
use Rattle.share_table.specs.Shares.{page_at, with_page}
use Rattle.pager_walk.specs.declared.paged_entry.PagedEntry.TheVariants.{Page}
use Rattle.pager_walk.specs.Decoding.{pointer_in}
use Rattle.pager_walk.specs.PagedMaps.{Tables, entry_for, entry_in, name_at, page_entry}
use Rattle.paged_tables.specs.NameCounts.{count_of, share_at}
use Rattle.paged_tables.specs.PagedTables.{AreShared}
use Rattle.paged_tables.proofs.FiledShares.{Gone, gone, names_gone, shares_gone}
use Rattle.paged_tables.proofs.Sharing.{shares_home}

-- an entry that names the page of a home
named_entry : (names : List (Option PageName)) (home : Home) (a : Access) → IsSome (page_entry names home a) → page_entry names home a ≡ Some (Page home a)
named_entry names home a = by (is_some (name_at names home.0))
  where
    by : (c : _) → IsSome (cond c (Some (Page home a)) None) → cond c (Some (Page home a)) None ≡ Some (Page home a)
    by true some = refl
    by false some = absurd (cc some)

module _ (t : Tables) (h : ℕ) where
  -- a word that stands for an entry stands for it also where there is a share more
  module _ (s : Share) (fresh : page_at t.shares s.0 ≡ None) (page : SharedPage) where
    abbrev pub with_more : Tables
    with_more = record t { shares = with_page t.shares s.0 page }

    shared_more : (k : Share) (a : Access) (o : Option SharedPage) → page_at t.shares k.0 ≡ o → IsSome (option_and_then (λ p. page_entry t.names p.home a) o) → page_at with_more.shares k.0 ≡ o
    shared_more k a None e some = absurd (cc some)
    shared_more k a (Some p) e some = get_put_other nat_cmp_total fin.nat_cmp-IsAntisymmetric t.shares.pages s.0 k.0 page (λ same. (let z : None ≡ Some p = sym fresh ∙ ap (page_at t.shares) (sym same) ∙ e in cc z)) ∙ e

    pub entry_more : (w : ℕ) → IsSome (entry_in t w) → entry_in with_more w ≡ entry_in t w
    entry_more w = by (pointer_in w)
      where
        by : (o : Option Pointer) → IsSome (option_and_then (entry_for t) o) → option_and_then (entry_for with_more) o ≡ option_and_then (entry_for t) o
        by None some = refl
        by (Some pointer.Empty) some = refl
        by (Some (pointer.Private home a)) some = refl
        by (Some (pointer.Indirect serial p a)) some = refl
        by (Some (pointer.Shared k a)) some = ap (option_and_then (λ (p : SharedPage). page_entry t.names p.home a)) (shared_more k a (page_at t.shares k.0) refl some)

  -- and where the page of a home goes that it doesn't name
  module _ (shared : List (Option Share)) (a : AreShared t.shares t.names shared) (one : count_of t.shares (name_at t.names h) (share_at shared h) ≡ 1) where
    abbrev pub with_gone : Tables
    with_gone = record t { names = names_gone t.shares t.names shared a h; shares = shares_gone t.shares t.names shared a h }

    page_other : (home : Home) (b : Access) → home.0 ≢ h → page_entry with_gone.names home b ≡ page_entry t.names home b
    page_other home b ne = ap (λ (o : Option PageName). cond (is_some o) (Some (Page home b)) None) (get_or-set_other t.names h home.0 None None ne)

    shared_gone : (k : Share) (b : Access) (o : Option SharedPage) → page_at t.shares k.0 ≡ o → IsSome (option_and_then (λ p. page_entry t.names p.home b) o)
        → ((home : Home) → option_and_then (λ p. page_entry t.names p.home b) o ≡ Some (Page home b) → home.0 ≢ h)
        → option_and_then (λ p. page_entry with_gone.names p.home b) (page_at with_gone.shares k.0) ≡ option_and_then (λ p. page_entry t.names p.home b) o
    shared_gone k b None e some apart = absurd (cc some)
    shared_gone k b (Some p) e some apart =
        let ne = apart p.home (named_entry t.names p.home b some) in
        let g : Gone t.shares t.names shared a h = gone t.shares t.names shared a h one in
        let other : share_at shared h ≡ Some (record { 0 = k.0 }) → ⊥ = λ own.
        (let x = shares_home t.shares t.names shared a h (record { 0 = k.0 }) own in
        let same : x.page ≡ p = (let z : Some x.page ≡ Some p = sym x.is ∙ e in cc z) in ne (ap (λ (q : SharedPage). q.home.0) (sym same) ∙ x.home)) in
        ap (option_and_then (λ (q : SharedPage). page_entry with_gone.names q.home b)) (g.others k.0 other ∙ e) ∙ page_other p.home b ne

    pub entry_gone : (w : ℕ) → IsSome (entry_in t w) → ((home : Home) (b : Access) → entry_in t w ≡ Some (Page home b) → home.0 ≢ h) → entry_in with_gone w ≡ entry_in t w
    entry_gone w = by (pointer_in w)
      where
        by : (o : Option Pointer) → IsSome (option_and_then (entry_for t) o) → ((home : Home) (b : Access) → option_and_then (entry_for t) o ≡ Some (Page home b) → home.0 ≢ h) → option_and_then (entry_for with_gone) o ≡ option_and_then (entry_for t) o
        by None some apart = refl
        by (Some pointer.Empty) some apart = refl
        by (Some (pointer.Private home b)) some apart = page_other home b (apart home b (named_entry t.names home b some))
        by (Some (pointer.Indirect serial p b)) some apart = refl
        by (Some (pointer.Shared k b)) some apart = shared_gone k b (page_at t.shares k.0) refl some (λ home e. apart home b e)
