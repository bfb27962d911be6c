-- What a frame put last and a frame taken out make of the arrays.
use Rattle.std.proofs.Common.{◌≡◌, ◌≢◌, ℕ, zero, suc, ◌+◌, ◌-◌, ◌<◌, ◌≤◌, inl, inr, List, [], ◌∷◌, ◌++◌, length, true, false, refl, sym, ◌∙◌, ap, subst, arith, length-append, get_or, slice_index, slice_set, replicate}
use Rattle.std.proofs.lemmas.Grind.{get_or_default_zero}
use Rattle.std.proofs.lemmas.List.{get_or-set_same, get_or-set_other, length-set, get_or-replicate, length-replicate}
use Rattle.frame_order.specs.FrameOrder.{Order, stands_in, without, IsOnce, IsOrder, threaded}
use Rattle.frame_order.specs.Ring.{IsThread, IsRing, ring_order, ring_view}
use Rattle.frame_order.proofs.Orders.{other_frame, found, once_at, once_push, without_found, stands_push, stands_around, not_true, absent_first, order_fits}
use Rattle.frame_order.proofs.Threads.{length-threaded, threaded-thread, thread_parts, thread_without, TakesOut, thread_push, PutsLast, before_end}

-- arrays that thread an order from the end to the end are a ring of it
record Rings (end len : ℕ) (before behind order : List ℕ) : Type 0 where
  pub ring : IsRing end len before behind
  pub is : ring_order end len behind ≡ order

rings : (end len : ℕ) (before behind order : List ℕ)
    → length before ≡ end + 1 → length behind ≡ end + 1
    → ((f : ℕ) → slice_index before f ≤ end) → ((f : ℕ) → slice_index behind f ≤ end)
    → IsThread (slice_index before) (slice_index behind) end order end
    → IsOrder (record { frames = end; order = order }) → length order ≡ len
    → Rings end len before behind order
rings end len before behind order before_size behind_size before_inside behind_inside thread fits long =
    let is : ring_order end len behind ≡ order =
    ap (λ (n : ℕ). threaded (slice_index behind) n (slice_index behind end)) (sym long) ∙ threaded-thread (slice_index before) (slice_index behind) end end order thread in
    record {
      ring = record {
        before_size = before_size;
        behind_size = behind_size;
        before_inside = before_inside;
        behind_inside = behind_inside;
        thread = subst (λ (fs : List ℕ). IsThread (slice_index before) (slice_index behind) end fs end) (sym is) thread;
        order = subst (λ (fs : List ℕ). IsOrder (record { frames = end; order = fs })) (sym is) fits;
      };
      is = is;
    }

replicate_inside : (n x f : ℕ) → slice_index (replicate n x) f ≤ x
replicate_inside zero x f = omega arith
replicate_inside (suc n) x zero = omega arith
replicate_inside (suc n) x (suc f) = replicate_inside n x f

-- the arrays at the beginning, with no frame
pub empty_ring : (end : ℕ) → IsRing end 0 (replicate (end + 1) end) (replicate (end + 1) end)
unfolding IsThread
empty_ring end =
    let all : (f : ℕ) → slice_index (replicate (end + 1) end) f ≤ end = λ f. replicate_inside (end + 1) end f in
    let at_end : slice_index (replicate (end + 1) end) end ≡ end = get_or-replicate {A = ℕ} (end + 1) end end 0 (omega arith) in
    (rings end 0 (replicate (end + 1) end) (replicate (end + 1) end) []
    (length-replicate {A = ℕ} (end + 1) end) (length-replicate {A = ℕ} (end + 1) end) all all
    (at_end, at_end)
    (record { once = tt; below = λ f here. absurd cc }) refl).ring

set_inside : (end : ℕ) (places : List ℕ) (i x : ℕ) → x ≤ end → ((f : ℕ) → slice_index places f ≤ end) → (f : ℕ) → slice_index (slice_set places i x) f ≤ end
set_inside end [] i x small inside f = omega arith
set_inside end (p ∷ ps) zero x small inside zero = small
set_inside end (p ∷ ps) zero x small inside (suc f) = inside (suc f)
set_inside end (p ∷ ps) (suc i) x small inside zero = inside zero
set_inside end (p ∷ ps) (suc i) x small inside (suc f) = set_inside end ps i x small (λ g. inside (suc g)) f

end_absent : (end len : ℕ) (before behind : List ℕ) → IsRing end len before behind → stands_in end (ring_order end len behind) ≡ false
end_absent end len before behind ring = not_true _ (λ here. let under = ring.order.below end here in omega arith)

puts_last : (end len f last : ℕ) (before behind : List ℕ) → IsRing end len before behind → f < end → last ≡ slice_index before end → last ≢ f
    → PutsLast (slice_index before) (slice_index behind)
    (slice_index (slice_set (slice_set before f last) end f)) (slice_index (slice_set (slice_set behind last f) f end)) f end
puts_last end len f last before behind ring under is apart =
    let inside : last ≤ end = omega (arith, ring.before_inside end) in
    let before_size = ring.before_size in
    let behind_size = ring.behind_size in
    let other : f ≢ end = omega arith in
    let behind_last = slice_set behind last f in
    let before_f = slice_set before f last in
    let long_behind : length behind_last ≡ end + 1 = length-set behind last f ∙ ring.behind_size in
    let long_before : length before_f ≡ end + 1 = length-set before f last ∙ ring.before_size in
    record {
      last_behind = subst (λ (g : ℕ). slice_index (slice_set behind_last f end) g ≡ f) is
          (get_or-set_other behind_last f last end 0 apart ∙ get_or-set_same behind last f 0 (omega arith));
      behind_end = get_or-set_same behind_last f end 0 (omega arith);
      end_before = get_or-set_same before_f end f 0 (omega arith);
      before_last = get_or-set_other before_f end f f 0 other ∙ get_or-set_same before f last 0 (omega arith) ∙ is;
      other_behind = λ g not_last not_f. get_or-set_other behind_last f g end 0 not_f ∙ get_or-set_other behind last g f 0 (λ same. not_last (same ∙ is));
      other_before = λ g not_end not_f. get_or-set_other before_f end g f 0 not_end ∙ get_or-set_other before f g last 0 not_f;
    }

ring_push : (end len f last : ℕ) (before behind : List ℕ) → IsRing end len before behind → f < end
    → stands_in f (ring_order end len behind) ≡ false → last ≡ slice_index before end
    → Rings end (len + 1) (slice_set (slice_set before f last) end f) (slice_set (slice_set behind last f) f end) (ring_order end len behind ++ f ∷ [])
ring_push end len f last before behind ring under absent is =
    let order = ring_order end len behind in
    let at_end = before_end (slice_index before) (slice_index behind) end end order ring.thread in
    let apart_end : end ≢ f = omega arith in
    let last_apart : last ≢ f = λ same. other_frame (slice_index before end) f (end ∷ order) at_end (absent_first f end order (λ e. apart_end (sym e)) absent) (sym is ∙ same) in
    let puts = puts_last end len f last before behind ring under is last_apart in
    let inside : last ≤ end = omega (arith, ring.before_inside end) in
    let thread = thread_push (slice_index before) (slice_index behind)
    (slice_index (slice_set (slice_set before f last) end f)) (slice_index (slice_set (slice_set behind last f) f end)) end end f order
    puts ring.thread apart_end absent ring.order.once (end_absent end len before behind ring) (end_absent end len before behind ring) in
    rings end (len + 1) (slice_set (slice_set before f last) end f) (slice_set (slice_set behind last f) f end) (order ++ f ∷ [])
    (length-set (slice_set before f last) end f ∙ length-set before f last ∙ ring.before_size)
    (length-set (slice_set behind last f) f end ∙ length-set behind last f ∙ ring.behind_size)
    (set_inside end (slice_set before f last) end f (omega arith) (set_inside end before f last inside ring.before_inside))
    (set_inside end (slice_set behind last f) f end (omega arith) (set_inside end behind last f (omega arith) ring.behind_inside))
    thread
    (record {
      once = once_push f order ring.order.once absent;
      below = λ g here. elim (stands_push g f order here) [ inl before ↦ ring.order.below g before | inr same ↦ omega arith ];
    })
    (length-append order (f ∷ []) ∙ ap (λ (n : ℕ). n + 1) (length-threaded (slice_index behind) len (slice_index behind end)))

takes_out : (end len f last next : ℕ) (before behind : List ℕ) → IsRing end len before behind → last ≡ slice_index before f → next ≡ slice_index behind f
    → TakesOut (slice_index before) (slice_index behind) (slice_index (slice_set before next last)) (slice_index (slice_set behind last next)) f
takes_out end len f last next before behind ring last_is next_is =
    let last_inside : last ≤ end = omega (arith, ring.before_inside f) in
    let next_inside : next ≤ end = omega (arith, ring.behind_inside f) in
    let before_size = ring.before_size in
    let behind_size = ring.behind_size in
    record {
      joined_behind = subst (λ (g : ℕ). slice_index (slice_set behind last next) g ≡ slice_index behind f) last_is
          (get_or-set_same behind last next 0 (omega arith) ∙ next_is);
      joined_before = subst (λ (g : ℕ). slice_index (slice_set before next last) g ≡ slice_index before f) next_is
          (get_or-set_same before next last 0 (omega arith) ∙ last_is);
      other_behind = λ g other. get_or-set_other behind last g next 0 (λ same. other (same ∙ last_is));
      other_before = λ g other. get_or-set_other before next g last 0 (λ same. other (same ∙ next_is));
    }

ring_without : (end len f last next : ℕ) (before behind : List ℕ) → IsRing end len before behind
    → stands_in f (ring_order end len behind) ≡ true → last ≡ slice_index before f → next ≡ slice_index behind f
    → Rings end (len - 1) (slice_set before next last) (slice_set behind last next) (without f (ring_order end len behind))
ring_without end len f last next before behind ring here last_is next_is =
    let order = ring_order end len behind in
    let there = found f order here in
    let sides = there.front ++ there.rest in
    let whole : order ≡ there.front ++ f ∷ there.rest = there.is in
    let once : IsOnce (there.front ++ f ∷ there.rest) = subst IsOnce whole ring.order.once in
    let at = once_at f there.front there.rest once in
    let left : without f order ≡ sides = ap (without f) whole ∙ without_found f there.front there.rest once in
    let last_inside : last ≤ end = omega (arith, ring.before_inside f) in
    let next_inside : next ≤ end = omega (arith, ring.behind_inside f) in
    let below : (g : ℕ) → stands_in g sides ≡ true → g < end =
    λ g here. ring.order.below g (subst (λ (fs : List ℕ). stands_in g fs ≡ true) (sym whole) (stands_around g f there.front there.rest here)) in
    let end_apart : stands_in end sides ≡ false = not_true _ (λ h. let under = below end h in omega arith) in
    let parts = thread_parts (slice_index before) (slice_index behind) end end f there.front there.rest
    (subst (λ (fs : List ℕ). IsThread (slice_index before) (slice_index behind) end fs end) whole ring.thread) in
    let thread = thread_without (slice_index before) (slice_index behind) (slice_index (slice_set before next last)) (slice_index (slice_set behind last next))
    end end f there.front there.rest (takes_out end len f last next before behind ring last_is next_is) parts.0 parts.1 at.once end_apart end_apart in
    let long = ap length whole ∙ length-append there.front (f ∷ there.rest) in
    let counted = length-threaded (slice_index behind) len (slice_index behind end) in
    subst (λ (fs : List ℕ). Rings end (len - 1) (slice_set before next last) (slice_set behind last next) fs) (sym left)
    (rings end (len - 1) (slice_set before next last) (slice_set behind last next) sides
    (length-set before next last ∙ ring.before_size) (length-set behind last next ∙ ring.behind_size)
    (set_inside end before next last last_inside ring.before_inside) (set_inside end behind last next next_inside ring.behind_inside)
    thread (record { once = at.once; below = below })
    (omega (arith, long, counted, length-append there.front there.rest)))

-- no more frames are there than there are
pub ring_fits : (end len : ℕ) (before behind : List ℕ) → IsRing end len before behind → len ≤ end
ring_fits end len before behind ring =
    omega (arith, order_fits (record { frames = end; order = ring_order end len behind }) ring.order, length-threaded (slice_index behind) len (slice_index behind end))

-- the arrays are a ring, and this is its order
pub record Becomes (end len : ℕ) (before behind : List ℕ) (o : Order) : Type 0 where
  pub ring : IsRing end len before behind
  pub view : ring_view end len behind ≡ o

becomes : (end len : ℕ) (before behind order : List ℕ) → Rings end len before behind order → Becomes end len before behind (record { frames = end; order = order })
becomes end len before behind order is =
    let made : List ℕ → Order = λ fs. record { frames = end; order = fs } in
    record { ring = is.ring; view = ap made is.is }

-- a frame is put before the end, behind the one that was last
pub frame_pushed : (end len f last : ℕ) (before behind : List ℕ) (o : Order) → IsRing end len before behind → ring_view end len behind ≡ o
    → f < o.frames → stands_in f o.order ≡ false → last ≡ get_or before end last
    → Becomes end (len + 1) (slice_set (slice_set before f last) end f) (slice_set (slice_set behind last f) f end) (record o { order = o.order ++ f ∷ [] })
frame_pushed end len f last before behind o ring view under absent last_read =
    let below : f < end = subst (λ (p : Order). f < p.frames) (sym view) under in
    let apart : stands_in f (ring_order end len behind) ≡ false = subst (λ (p : Order). stands_in f p.order ≡ false) (sym view) absent in
    let size = ring.before_size in
    let last_is : last ≡ slice_index before end = last_read ∙ get_or_default_zero before end last (omega arith) in
    subst (λ (p : Order). Becomes end (len + 1) (slice_set (slice_set before f last) end f) (slice_set (slice_set behind last f) f end) (record p { order = p.order ++ f ∷ [] })) view
    (becomes end (len + 1) _ _ (ring_order end len behind ++ f ∷ []) (ring_push end len f last before behind ring below apart last_is))

-- what stood around a frame that is taken out is joined
pub frame_taken : (end len f last next : ℕ) (before behind : List ℕ) (o : Order) → IsRing end len before behind → ring_view end len behind ≡ o
    → stands_in f o.order ≡ true → last ≡ get_or before f last → next ≡ get_or behind f next
    → Becomes end (len - 1) (slice_set before next last) (slice_set behind last next) (record o { order = without f o.order })
frame_taken end len f last next before behind o ring view there last_read next_read =
    let here : stands_in f (ring_order end len behind) ≡ true = subst (λ (p : Order). stands_in f p.order ≡ true) (sym view) there in
    let below = ring.order.below f here in
    let before_size = ring.before_size in
    let behind_size = ring.behind_size in
    let last_is : last ≡ slice_index before f = last_read ∙ get_or_default_zero before f last (omega arith) in
    let next_is : next ≡ slice_index behind f = next_read ∙ get_or_default_zero behind f next (omega arith) in
    subst (λ (p : Order). Becomes end (len - 1) (slice_set before next last) (slice_set behind last next) (record p { order = without f p.order })) view
    (becomes end (len - 1) _ _ (without f (ring_order end len behind)) (ring_without end len f last next before behind ring here last_is next_is))
