use Rattle.std.proofs.Common.{◌≡◌, ◌<◌, ◌≤◌, ◌∙◌, ℕ, Bool, cond, sym, ap, arith}
use Rattle.std.specs.Prelude.{nat_lt}
use Rattle.std.proofs.lemmas.Bool.{lt-ltb, le-ltb}
use Rattle.page_contracts.specs.declared.store.Room.TheVariants.{Enough, NeedFrame, Full}
use Rattle.page_contracts.specs.Stores.{room_of}
use Rattle.paged_store.proofs.Making.{free_count}
use Rattle.paged_store.proofs.store.PagedStoreStore.room.Goals as goal

full : (homes frames pages : ℕ) → homes < pages → Full ≡ room_of homes frames pages
full homes frames pages less = sym (ap (λ (b : Bool). cond b Full (cond (nat_lt frames pages) NeedFrame Enough)) (lt-ltb homes pages less))

few : (homes frames pages : ℕ) → pages ≤ homes → frames < pages → NeedFrame ≡ room_of homes frames pages
few homes frames pages some less =
    sym (ap (λ (b : Bool). cond b Full (cond (nat_lt frames pages) NeedFrame Enough)) (le-ltb homes pages some) ∙ ap (λ (b : Bool). cond b NeedFrame Enough) (lt-ltb frames pages less))

enough : (homes frames pages : ℕ) → pages ≤ homes → pages ≤ frames → Enough ≡ room_of homes frames pages
enough homes frames pages some all =
    sym (ap (λ (b : Bool). cond b Full (cond (nat_lt frames pages) NeedFrame Enough)) (le-ltb homes pages some) ∙ ap (λ (b : Bool). cond b NeedFrame Enough) (le-ltb frames pages all))

pub returns-then-spare-pages : goal.returns-then-spare-pages
returns-then-spare-pages c = let count = free_count c.args.self.now in full _ _ c.args.pages (omega (arith, count, c.spare.ensures, c.if-spare-pages.true))

pub returns-then-spare-pages-2 : goal.returns-then-spare-pages-2
returns-then-spare-pages-2 c =
    let count = free_count c.args.self.now in
    few _ _ c.args.pages (omega (arith, count, c.spare.ensures, c.if-spare-pages.false)) (omega (arith, c.spare-else-spare-pages.ensures, c.if-spare-pages-2.true))

pub returns-else-spare-pages-2 : goal.returns-else-spare-pages-2
returns-else-spare-pages-2 c =
    let count = free_count c.args.self.now in
    enough _ _ c.args.pages (omega (arith, count, c.spare.ensures, c.if-spare-pages.false)) (omega (arith, c.spare-else-spare-pages.ensures, c.if-spare-pages-2.false))
