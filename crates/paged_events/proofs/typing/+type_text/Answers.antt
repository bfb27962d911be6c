use Rattle.std.proofs.Common.{◌≡◌, ◌+◌, ◌-◌, ◌<◌, ◌≤◌, ℕ, zero, suc, List, [], ◌∷◌, drop, get_or, length, refl, sym, ◌∙◌, ap, subst, arith}
use Rattle.std.proofs.lemmas.List.{drop_more}
use Rattle.std.proofs.lemmas.Result.{on_ok_weaker}
use Rattle.machine_names.specs.declared.names.Tty.{Tty}
use Rattle.plain_model.specs.State.{PlainState}
use Rattle.plain_model.specs.TypeEvents.{typed_all, typed_at}
use Rattle.plain_model.specs.Trees.{PlainTree}
use Rattle.paged_events.specs.Turns.{TookText}
use Rattle.paged_events.specs.declared.fault.Fault.TheVariants.{Drum, Taker}
use Rattle.paged_events.proofs.Outside.{other_err, outside_nil, uses_failed, uses_then, uses_well}
use Rattle.paged_events.proofs.TextLists.{text_took}
use Rattle.paged_events.proofs.Texts.{core_then, cut_part, did_none, first_part, joined, typed_behind, typed_more, typed_none, typed_well}
use Rattle.paged_events.proofs.typing.+type_text.Goals as goal

-- nothing is left behind the last
drop_all : (n : ℕ) (xs : List ℕ) → length xs ≤ n → drop n xs ≡ []
drop_all zero [] low = refl
drop_all zero (x ∷ xs) low = absurd (omega (arith, low))
drop_all (suc n) [] low = refl
drop_all (suc n) (x ∷ xs) low = drop_all n xs (omega (arith, low))

-- the last characters, so many, are the first of them and those behind it
from_one : (s : PlainState) (t : Tty) (text : List ℕ) (left : ℕ) → (left ≡ 0 → ⊥) → left ≤ length text
    → typed_all s t (drop (length text - left) text) ≡ joined (typed_at s t (get_or text (length text - left) 0)) (λ q. typed_all q t (drop (length text - (left - 1)) text))
from_one s t text left some few =
    let at : ℕ = length text - left in
    let low : at < length text = omega (arith, some, few) in
    let next : at + 1 ≡ length text - (left - 1) = omega (arith, some, few) in
    ap (typed_all s t) (drop_more text at 0 low) ∙ typed_more s t (get_or text at 0) (drop (at + 1) text) ∙ ap (λ n. joined (typed_at s t (get_or text at 0)) (λ q. typed_all q t (drop n text))) next

pub returns-then-left-eq0-clause-typed : goal.returns-then-left-eq0-clause-typed
returns-then-left-eq0-clause-typed g n c =
    let all : length c.args.text.now ≤ (length c.args.text.now - c.args.left) = let none = c.if-left-eq0.true in omega (arith, none) in
    typed_well g.S.System.means g.D.Drum.held g.T.Taker.stands g.T.Taker.cut _ (λ q. typed_all q c.args.t (drop (length c.args.text.now - c.args.left) c.args.text.now)) c.args.waits.now.system c.args.waits.now.system c.args.drum.now c.args.drum.now c.args.out.now c.args.out.now (did_none g.S.System.means g.D.Drum.held g.T.Taker.stands g.T.Taker.cut (λ q. typed_all q c.args.t (drop (length c.args.text.now - c.args.left) c.args.text.now)) c.args.waits.now.system c.args.drum.now c.args.out.now (λ words st fits. ap (typed_all (g.S.System.means.plain c.args.waits.now.system words) c.args.t) (drop_all (length c.args.text.now - c.args.left) c.args.text.now all) ∙ typed_none (g.S.System.means.plain c.args.waits.now.system words) c.args.t))

pub returns-then-left-eq0-clause-outside : goal.returns-then-left-eq0-clause-outside
returns-then-left-eq0-clause-outside g n c =
    uses_well g.T.Taker.onward g.T.Taker.fault_count g.D.Drum.fault_count g.D.Drum.read_count g.D.Drum.write_count g.D.Drum.size _ c.args.out.now c.args.out.now c.args.drum.now c.args.drum.now (outside_nil g.T.Taker.onward g.T.Taker.fault_count g.D.Drum.fault_count g.D.Drum.read_count g.D.Drum.write_count g.D.Drum.size c.args.out.now c.args.drum.now)

pub returns-in-Ok-clause-typed : goal.returns-in-Ok-clause-typed
returns-in-Ok-clause-typed g n c =
    typed_behind g.S.System.means g.D.Drum.held g.T.Taker.stands g.T.Taker.cut c.type_text.result (λ q. typed_at q c.args.t (get_or c.args.text.now (length c.args.text.now - c.args.left) 0)) (λ q. typed_all q c.args.t (drop (length c.args.text.now - (c.args.left - 1)) c.args.text.now)) (λ q. typed_all q c.args.t (drop (length c.args.text.now - c.args.left) c.args.text.now)) c.args.waits.now.system c.type_one.new.waits.system c.type_text.new.waits.system c.args.drum.now c.type_one.new.drum c.type_text.new.drum c.args.out.now c.type_one.new.out c.type_text.new.out (λ words st fits. from_one (g.S.System.means.plain c.args.waits.now.system words) c.args.t c.args.text.now c.args.left c.if-left-eq0.false c.requires.left) c.in-Ok.ensures.typed.ok c.type_text.ensures.typed

pub returns-in-Ok-clause-outside : goal.returns-in-Ok-clause-outside
returns-in-Ok-clause-outside g n c =
    uses_then g.T.Taker.onward g.T.Taker.fault_count g.D.Drum.fault_count g.D.Drum.read_count g.D.Drum.write_count g.D.Drum.size c.type_text.result c.args.out.now c.type_one.new.out c.type_text.new.out c.args.drum.now c.type_one.new.drum c.type_text.new.drum c.type_one.ensures.outside.later c.type_text.ensures.outside

pub returns-in-Ok-clause-within : goal.returns-in-Ok-clause-within
returns-in-Ok-clause-within g n c =
    on_ok_weaker c.type_text.result (λ stays k w. stays k (c.in-Ok.ensures.within k w)) c.type_text.ensures.within

pub returns-in-Ok-clause-core : goal.returns-in-Ok-clause-core
returns-in-Ok-clause-core g n c =
    on_ok_weaker c.type_text.result
    (core_then g.S.System.means g.D.Drum.held g.T.Taker.stands g.T.Taker.cut (λ q. typed_at q c.args.t (get_or c.args.text.now (length c.args.text.now - c.args.left) 0)) c.args.waits.now.system c.type_one.new.waits.system c.type_text.new.waits.system c.args.waits.now.lists c.type_one.new.waits.lists c.type_text.new.waits.lists c.args.drum.now c.type_one.new.drum c.args.out.now c.type_one.new.out
    c.in-Ok.ensures.typed.ok c.in-Ok.ensures.core)
    c.type_text.ensures.core

pub returns-in-Ok-clause-marks : goal.returns-in-Ok-clause-marks
returns-in-Ok-clause-marks g n c =
    record { limit = c.type_text.ensures.marks.limit ∙ c.type_one.ensures.marks.limit; frames = c.type_text.ensures.marks.frames ∙ c.type_one.ensures.marks.frames; auto = c.type_text.ensures.marks.auto ∙ c.type_one.ensures.marks.auto }

pub returns-in-Err-clause-typed : goal.returns-in-Err-clause-typed
returns-in-Err-clause-typed g n c =
    record {
      ok = tt;
      stopped = λ is. first_part g.S.System.means g.D.Drum.held g.T.Taker.stands g.T.Taker.cut (λ q. typed_at q c.args.t (get_or c.args.text.now (length c.args.text.now - c.args.left) 0)) (λ q. typed_all q c.args.t (drop (length c.args.text.now - c.args.left) c.args.text.now)) c.args.waits.now.system c.args.drum.now c.args.out.now c.type_one.new.out (λ words st fits. ((λ q. typed_all q c.args.t (drop (length c.args.text.now - (c.args.left - 1)) c.args.text.now)), from_one (g.S.System.means.plain c.args.waits.now.system words) c.args.t c.args.text.now c.args.left c.if-left-eq0.false c.requires.left)) (c.in-Err.ensures.typed.stopped (other_err c.in-Err.fault Drum is));
      cutoff = λ is. cut_part g.S.System.means g.D.Drum.held g.T.Taker.stands g.T.Taker.cut (λ q. typed_at q c.args.t (get_or c.args.text.now (length c.args.text.now - c.args.left) 0)) (λ q. typed_all q c.args.t (drop (length c.args.text.now - c.args.left) c.args.text.now)) c.args.waits.now.system c.args.drum.now c.args.out.now c.type_one.new.out (λ words st fits. ((λ q. typed_all q c.args.t (drop (length c.args.text.now - (c.args.left - 1)) c.args.text.now)), from_one (g.S.System.means.plain c.args.waits.now.system words) c.args.t c.args.text.now c.args.left c.if-left-eq0.false c.requires.left)) (c.in-Err.ensures.typed.cutoff (other_err c.in-Err.fault Taker is));
    }

pub returns-in-Err-clause-outside : goal.returns-in-Err-clause-outside
returns-in-Err-clause-outside g n c =
    uses_failed g.T.Taker.onward g.T.Taker.fault_count g.D.Drum.fault_count g.D.Drum.read_count g.D.Drum.write_count g.D.Drum.size c.in-Err.fault c.args.out.now c.type_one.new.out c.args.drum.now c.type_one.new.drum c.in-Err.ensures.outside

pub returns-then-left-eq0-clause-lists : goal.returns-then-left-eq0-clause-lists
returns-then-left-eq0-clause-lists g n c words st fits =
    let l = c.args.waits.now.lists.sched in
    let all : length c.args.text.now ≤ (length c.args.text.now - c.args.left) = let none = c.if-left-eq0.true in omega (arith, none) in
    subst (λ (cs : List ℕ). TookText (g.S.System.means.plain c.args.waits.now.system words) c.args.t cs l l) (sym (drop_all (length c.args.text.now - c.args.left) c.args.text.now all)) refl

pub returns-in-Ok-clause-lists : goal.returns-in-Ok-clause-lists
returns-in-Ok-clause-lists g n c =
    on_ok_weaker c.type_text.result
    (text_took g.S.System.means g.D.Drum.held g.T.Taker.stands g.T.Taker.cut (λ s d fits. ap (λ (t : PlainTree). t.forks) (g.met.S.System.forked s d fits)) c.args.t c.args.text.now c.args.left c.args.waits.now.system c.type_one.new.waits.system c.args.waits.now.lists.sched c.type_one.new.waits.lists.sched c.type_text.new.waits.lists.sched c.args.drum.now c.type_one.new.drum c.args.out.now c.type_one.new.out c.if-left-eq0.false c.requires.left
    c.in-Ok.ensures.typed.ok c.in-Ok.ensures.lists)
    c.type_text.ensures.lists
