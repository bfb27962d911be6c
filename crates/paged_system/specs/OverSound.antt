-- A store that is sound is sound as a part of what has it in it.
use Rattle.std.specs.Prelude.{ℕ, Option, Some, None, MatchOption}
use Rattle.page_contracts.specs.Stores.{CanLeave, IsNext, IsSound, StoreMeaning}
use Rattle.paged_system.specs.Over.{over}

module _ {S P : Type 0} (part : S → P) (means : StoreMeaning P) (s : S) where
  pub leaves : (frame home : ℕ) → CanLeave (over part means) s frame home → CanLeave means (part s) frame home
  leaves frame home c = record { there = c.there; still = c.still; unheld = c.unheld }

  pub leaves_over : (frame home : ℕ) → CanLeave means (part s) frame home → CanLeave (over part means) s frame home
  leaves_over frame home c = record { there = c.there; still = c.still; unheld = c.unheld }

  next : (victim : Option ℕ) → MatchOption victim ((frame home : ℕ) → CanLeave means (part s) frame home → ⊥) (IsNext means (part s)) → MatchOption victim ((frame home : ℕ) → CanLeave (over part means) s frame home → ⊥) (IsNext (over part means) s)
  next None none = λ frame home can. none frame home (leaves frame home can)
  next (Some frame) n = record {
    home = n.home;
    leaves = leaves_over frame n.home n.leaves;
    oldest = λ g other can. n.oldest g other (leaves g other can);
    least = λ g other can same. n.least g other (leaves g other can) same;
  }

  pub sound : IsSound means (part s) → IsSound (over part means) s
  sound o = record {
    few = o.few;
    pages = o.pages;
    finds = o.finds;
    apart = o.apart;
    comes = o.comes;
    goes = o.goes;
    once = o.once;
    held = o.held;
    unmoved = o.unmoved;
    shared = o.shared;
    seated = λ framed home here. (let f = o.seated framed home here in record { frame = f.frame; is = f.is });
    given = o.given;
    single = o.single;
    members = o.members;
    few_held = o.few_held;
    none_held = o.none_held;
    held_once = o.held_once;
    numbered = o.numbered;
    aged = o.aged;
    next = next (means.victim (part s)) o.next;
    core = o.core;
    still = o.still;
    frames = o.frames;
  }
