-- Texts that are put into a room one behind another.
use Rattle.std.proofs.Common.{◌≡◌, ℕ, ◌+◌, ◌-◌, ◌<◌, ◌≤◌, List, [], ◌++◌, length, take, drop, get_or, refl, sym, ◌∙◌, ap, subst, arith, append_assoc, length-append}
use Rattle.std.proofs.lemmas.List.{append-nil, drop-drop}
use Rattle.std.proofs.lemmas.Slice.{take-put_mid, drop-put_mid}
use Rattle.std.specs.List.{flat_map}
use Rattle.script_lang.proofs.FlatMaps.{flat_more}
use Rattle.script_lang.specs.Canonical.{Adds}
use borrow.Rule.Slice.PartMut.{put_mid}

pub adds_none : (room : List ℕ) (at : ℕ) → Adds room room at at []
adds_none room at = record { ends = omega arith; front = sym (append-nil (take at room)); stays = refl }

-- a text is put into the part that is as long
pub adds_part : (room piece text : List ℕ) (at k : ℕ) → piece ≡ text → k ≡ length text → at + length text ≤ length room → Adds room (put_mid at k room piece) at (at + length text) text
adds_part room piece text at k same long fits =
    let many : length piece ≡ length text = ap length same in
    record {
      ends = refl;
      front = take-put_mid at k room piece (at + length text) (omega (arith, many)) (omega (arith, fits)) ∙ ap (λ l. take at room ++ l) same;
      stays = drop-put_mid at k room piece (at + length text) (omega (arith, long)) (omega (arith, fits)) (omega (arith, many, long));
    }

same_behind : (old new : List ℕ) (mid end : ℕ) → mid ≤ end → drop mid new ≡ drop mid old → drop end new ≡ drop end old
same_behind old new mid end above same =
    let split : end ≡ mid + (end - mid) = omega (arith, above) in
    ap (λ k. drop k new) split ∙ (sym (drop-drop (end - mid) mid new) ∙ (ap (λ l. drop (end - mid) l) same ∙ (drop-drop (end - mid) mid old ∙ ap (λ k. drop k old) (sym split))))

pub adds_both : (a b c : List ℕ) (at mid end : ℕ) (x y : List ℕ) → Adds a b at mid x → Adds b c mid end y → Adds a c at end (x ++ y)
adds_both a b c at mid end x y p q = record {
  ends = omega (arith, p.ends, q.ends, length-append x y);
  front = q.front ∙ (ap (λ l. l ++ y) p.front ∙ append_assoc (take at a) x y);
  stays = q.stays ∙ same_behind a b mid end (omega (arith, q.ends)) p.stays;
}

pub adds_same : (a b : List ℕ) (at end : ℕ) {x y : List ℕ} → x ≡ y → Adds a b at end x → Adds a b at end y
adds_same a b at end same p = subst (Adds a b at end) same p

-- the text of one thing more
pub adds_each : {X : Type 0} (f : X → List ℕ) (a b c : List ℕ) (at mid end : ℕ) (xs : List X) (i : ℕ) (d : X) → i < length xs → Adds a b at mid (flat_map f (take i xs)) → Adds b c mid end (f (get_or xs i d))
    → Adds a c at end (flat_map f (take (i + 1) xs))
adds_each f a b c at mid end xs i d h p q = adds_same a c at end (sym (flat_more f xs i d h)) (adds_both a b c at mid end (flat_map f (take i xs)) (f (get_or xs i d)) p q)
