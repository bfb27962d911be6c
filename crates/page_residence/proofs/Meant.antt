-- The transfers of one home among all that are queued.
use Rattle.std.proofs.Common.{◌≡◌, ℕ, ◌≤◌, ◌==◌, List, [], ◌∷◌, map, filter, count_by, Option, None, Some, is_some, Bool, true, false, not, cond, ◌&&◌, refl, sym, ◌∙◌, ap, arith}
use Rattle.std.specs.Option.{option_map_or}
use Rattle.std.specs.List.{list_any}
use Rattle.std.proofs.lemmas.Bool.{false≢true, true≢false, eqb-true, eq-eqb, and_parts, and_from, not-true}
use Rattle.page_contracts.specs.Stores.{arrives, departs, moves, noted_all, noted, need_of}
use Rattle.page_contracts.specs.Stores as meaning
use Rattle.frame_table.specs.declared.tenant.Tenant.{Tenant}
use Rattle.frame_table.specs.Core.{Core, can_go}
use Rattle.drum_queue.specs.declared.transfer.Transfer.{Transfer}
use Rattle.drum_queue.specs.declared.transfer.Transfer.TheVariants.{Read, Write}
use Rattle.drum_queue.specs.Transfers.{Transfers, transfer_of, without, writes}
use Rattle.page_residence.specs.Resident.{home_at, home_of, frame_for, reads, meant, is_moving, pins_in, holds_in}
use Rattle.page_residence.proofs.Seating.{none_has}
use Rattle.page_residence.proofs.Agreeing.{Agrees}
use Rattle.page_residence.proofs.Queues.{IsPicked, else_unframed, else_idle, picked_none, picked_at, bound_at}

about_arrives : (h : ℕ) (x : meaning.Transfer) → arrives h x ≡ true → h ≡ meaning.home_of x
about_arrives h (meaning.arrival k) is = eqb-true h k is
about_arrives h (meaning.departure k) is = absurd (false≢true is)

about_departs : (h : ℕ) (x : meaning.Transfer) → departs h x ≡ true → h ≡ meaning.home_of x
about_departs h (meaning.arrival k) is = absurd (false≢true is)
about_departs h (meaning.departure k) is = eqb-true h k is

about_moves : (h : ℕ) (x : meaning.Transfer) → moves h x ≡ true → h ≡ meaning.home_of x
about_moves h x is = eqb-true h (meaning.home_of x) is

arrives_meant : (h : ℕ) (t : Transfer) → home_of t ≡ h → arrives h (meant t) ≡ reads (Some t)
arrives_meant h (Read f k) e = eq-eqb h k.0 (sym e)
arrives_meant h (Write f k) e = refl

departs_meant : (h : ℕ) (t : Transfer) → home_of t ≡ h → departs h (meant t) ≡ writes (Some t)
departs_meant h (Read f k) e = refl
departs_meant h (Write f k) e = eq-eqb h k.0 (sym e)

moves_meant : (h : ℕ) (t : Transfer) → home_of t ≡ h → moves h (meant t) ≡ true
moves_meant h (Read f k) e = eq-eqb h k.0 (sym e)
moves_meant h (Write f k) e = eq-eqb h k.0 (sym e)

-- What a test finds of a frame's transfer: whether it picks it, that one, and all but it.
pub record IsOfFrame (p : meaning.Transfer → Bool) (q : List Transfer) (f : ℕ) (picks : Bool) : Type 0 where
  pub any : list_any p (map meant q) ≡ picks
  pub those : filter p (map meant q) ≡ cond picks (option_map_or (λ t. meant t ∷ []) (transfer_of f q) []) []
  pub others : meaning.without p (map meant q) ≡ map meant (cond picks (without f q) q)
  pub few : count_by p (map meant q) ≤ 1

module _ (c : Core) (q : Transfers) (r : Agrees c q) (h : ℕ) where
  -- a home without a frame has no transfer
  pub none_of : (p : meaning.Transfer → Bool) → ((x : meaning.Transfer) → p x ≡ true → h ≡ meaning.home_of x) → frame_for c.seats h ≡ None → IsPicked p q.queued false [] []
  none_of p about away = picked_none h p about q.queued [] [] (else_unframed c.seats h q.queued r.bound (none_has c.seats h away))

  few_picked : (p : meaning.Transfer → Bool) (picks : Bool) (one : List meaning.Transfer) (rest : List Transfer) → IsPicked p q.queued picks one rest → count_by p (map meant q.queued) ≤ 1
  few_picked p picks one rest is = at picks is.count
    where
      at : (b : Bool) → count_by p (map meant q.queued) ≡ cond b 1 0 → count_by p (map meant q.queued) ≤ 1
      at true e = omega (arith, e)
      at false e = omega (arith, e)

  of_frame : (p : meaning.Transfer → Bool) → ((x : meaning.Transfer) → p x ≡ true → h ≡ meaning.home_of x) → (test : Option Transfer → Bool) → test None ≡ false
      → ((t : Transfer) → home_of t ≡ h → p (meant t) ≡ test (Some t)) → (f : ℕ) → home_at c.seats f ≡ Some h → IsOfFrame p q.queued f (test (transfer_of f q.queued))
  of_frame p about test idle meets f given = at (transfer_of f q.queued) refl
    where
      at : (o : Option Transfer) → transfer_of f q.queued ≡ o → IsOfFrame p q.queued f (test o)
      at None is =
          let picked = picked_none h p about q.queued [] [] (else_idle c.seats f h q.queued r.bound r.single given is) in
          record {
            any = picked.any ∙ sym idle;
            those = picked.those ∙ ap (λ (b : Bool). cond b (option_map_or (λ t. meant t ∷ []) (transfer_of f q.queued) []) []) (sym idle);
            others = picked.others ∙ ap (λ (b : Bool). map meant (cond b (without f q.queued) q.queued)) (sym idle);
            few = few_picked p false [] [] picked;
          }
      at (Some t) is =
          let picked = picked_at h p about c.seats f q.queued r.bound r.single r.once given t is in
          let own = bound_at c.seats f q.queued t r.bound is in
          let two : Some h ≡ Some (home_of t) = sym given ∙ own.1 in
          let e : home_of t ≡ h = cc in
          let test_is = meets t e in
          record {
            any = picked.any ∙ test_is;
            those = picked.those ∙ ap (λ (b : Bool). cond b (meant t ∷ []) []) test_is
                ∙ ap (λ (o : Option Transfer). cond (test (Some t)) (option_map_or (λ u. meant u ∷ []) o []) []) (sym is);
            others = picked.others ∙ ap (λ (b : Bool). map meant (cond b (without f q.queued) q.queued)) test_is;
            few = few_picked p (p (meant t)) (meant t ∷ []) (without f q.queued) picked;
          }

  pub arrivals : (f : ℕ) → home_at c.seats f ≡ Some h → IsOfFrame (arrives h) q.queued f (reads (transfer_of f q.queued))
  arrivals f given = of_frame (arrives h) (about_arrives h) reads refl (arrives_meant h) f given

  pub departures : (f : ℕ) → home_at c.seats f ≡ Some h → IsOfFrame (departs h) q.queued f (writes (transfer_of f q.queued))
  departures f given = of_frame (departs h) (about_departs h) writes refl (departs_meant h) f given

  pub moving_of : (f : ℕ) → home_at c.seats f ≡ Some h → IsOfFrame (moves h) q.queued f (is_some (transfer_of f q.queued))
  moving_of f given = of_frame (moves h) (about_moves h) is_some refl (moves_meant h) f given

  pub no_arrivals : frame_for c.seats h ≡ None → IsPicked (arrives h) q.queued false [] []
  no_arrivals away = none_of (arrives h) (about_arrives h) away

  pub no_departures : frame_for c.seats h ≡ None → IsPicked (departs h) q.queued false [] []
  no_departures away = none_of (departs h) (about_departs h) away

  pub not_moving : frame_for c.seats h ≡ None → IsPicked (moves h) q.queued false [] []
  not_moving away = none_of (moves h) (about_moves h) away

-- a page that may leave its frame: it has no pin, and no transfer of it is queued
pub goes_parts : (s : Option Tenant) → option_map_or can_go s false ≡ true → (is_some s ≡ true) × (pins_in s ≡ 0) × (is_moving s ≡ false)
goes_parts None is = absurd (false≢true is)
goes_parts (Some t) is =
    let both = and_parts (not (not ((t.holds == 0) && (t.pins == 0)))) (not t.in_transfer) is in
    let kept = not-true (not ((t.holds == 0) && (t.pins == 0))) both.0 in
    let none = twice ((t.holds == 0) && (t.pins == 0)) kept in
    (refl, eqb-true t.pins 0 (and_parts (t.holds == 0) (t.pins == 0) none).1, not-true t.in_transfer both.1)
  where
    twice : (b : Bool) → not b ≡ false → b ≡ true
    twice true e = refl
    twice false e = absurd (true≢false e)

pub parts_go : (s : Option Tenant) → is_some s ≡ true → holds_in s ≡ 0 → pins_in s ≡ 0 → is_moving s ≡ false → option_map_or can_go s false ≡ true
parts_go None some holds pins still = absurd (false≢true some)
parts_go (Some t) some holds pins still =
    and_from (not (not ((t.holds == 0) && (t.pins == 0)))) (not t.in_transfer)
    (ap (λ (b : Bool). not (not b)) (and_from (t.holds == 0) (t.pins == 0) (eq-eqb t.holds 0 holds) (eq-eqb t.pins 0 pins))) (ap not still)
