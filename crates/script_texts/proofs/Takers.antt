-- Entries and takers go on.
use Rattle.std.proofs.Common.{◌<◌, List, [], ◌∷◌, ◌++◌, length, refl, sym, ◌∙◌, ap, subst, arith, append_assoc, length-append}
use Rattle.std.proofs.lemmas.List.{append-nil}
use Rattle.script_texts.specs.declared.event.Event.{Event}
use Rattle.script_texts.specs.declared.event.Item.{Item}
use Rattle.script_texts.specs.declared.event.Step.{Step}
use Rattle.script_texts.specs.Follows.{AreTurns, Follows, FollowsOne}
use Rattle.script_texts.specs.Taker.{GoesOn, IsCut, StaysOnward, max_steps}

pub AreTurns-append : (xs ys : List Step) → AreTurns xs → AreTurns ys → AreTurns (xs ++ ys)
AreTurns-append [] ys a b = b
AreTurns-append (x ∷ xs) ys a b = (a.0, AreTurns-append xs ys a.1 b)

-- one event more
abbrev pub Follows-push : (es : List Event) (e : Event) (xs ys : List Step) → Follows es xs → FollowsOne e ys → Follows (es ++ e ∷ []) (xs ++ ys)
Follows-push [] e xs ys a b = (ys, [], ap (λ l. l ++ ys) a ∙ sym (append-nil ys), b, refl)
Follows-push (f ∷ es) e xs ys a b =
    (a.0, a.1 ++ ys, ap (λ l. l ++ ys) a.2 ∙ append_assoc a.0 a.1 ys, a.3, Follows-push es e a.1 ys a.4 b)

module _ {T : Type 0} (onward : T → T → Type 0) where
  pub onward_nil : (t : T) → StaysOnward onward t t
  onward_nil t = record { each = λ first h. h }

  pub onward_then : (a b c : T) → StaysOnward onward a b → StaysOnward onward b c → StaysOnward onward a c
  onward_then a b c f g = record { each = λ first h. g.each first (f.each first h) }

module _ {T : Type 0} (stands : T → T → List Item → List Step → Type 0) where
  -- nothing is given
  pub goes_on_nil : (t : T) → GoesOn stands t t [] []
  goes_on_nil t = record { each = λ first is ss few s. subst (λ js. stands first t js (ss ++ [])) (sym (append-nil is)) (subst (λ ts. stands first t is ts) (sym (append-nil ss)) s) }

  pub goes_on_append : (a b c : T) (is js : List Item) (ss ts : List Step) → GoesOn stands a b is ss → GoesOn stands b c js ts → GoesOn stands a c (is ++ js) (ss ++ ts)
  goes_on_append a b c is js ss ts f g = record {
    each = λ first ks us few s.
        let enough : length (us ++ ss) < max_steps = omega (arith, few, length-append us ss, length-append us (ss ++ ts), length-append ss ts) in
        let enough2 : length ((us ++ ss) ++ ts) < max_steps = omega (arith, few, ap length (append_assoc us ss ts)) in
        let one = f.each first ks us enough s in
        let two = g.each first (ks ++ is) (us ++ ss) enough2 one in
        subst (λ ls. stands first c ls (us ++ (ss ++ ts))) (append_assoc ks is js) (subst (λ vs. stands first c ((ks ++ is) ++ js) vs) (append_assoc us ss ts) two);
  }

module _ {T : Type 0} (stands cut : T → T → List Item → List Step → Type 0) where
  -- a failure after what went
  pub cut_behind : (a b c : T) (is js : List Item) (ss ts : List Step) → GoesOn stands a b is ss → IsCut stands cut b c js ts → IsCut stands cut a c (is ++ js) (ss ++ ts)
  cut_behind a b c is js ss ts f g = record {
    each = λ first ks more us rest few s.
        let enough : length (us ++ ss) < max_steps = omega (arith, few, length-append us ss, length-append us (ss ++ ts), length-append ss ts) in
        let enough2 : length ((us ++ ss) ++ ts) < max_steps = omega (arith, few, ap length (append_assoc us ss ts)) in
        let one = f.each first ks us enough s in
        let two = g.each first (ks ++ is) more (us ++ ss) rest enough2 one in
        subst (λ ls. cut first c (ls ++ more) ((us ++ (ss ++ ts)) ++ rest)) (append_assoc ks is js) (subst (λ vs. cut first c (((ks ++ is) ++ js) ++ more) (vs ++ rest)) (append_assoc us ss ts) two);
  }

  -- whatever follows
  pub cut_longer : (a b : T) (is js : List Item) (ss ts : List Step) → IsCut stands cut a b is ss → IsCut stands cut a b (is ++ js) (ss ++ ts)
  cut_longer a b is js ss ts f = record {
    each = λ first ks more us rest few s.
        let enough : length (us ++ ss) < max_steps = omega (arith, few, length-append us ss, length-append us (ss ++ ts), length-append ss ts) in
        let one = f.each first ks (js ++ more) us (ts ++ rest) enough s in
        subst (λ ls. cut first b ls ((us ++ (ss ++ ts)) ++ rest)) (sym (append_assoc (ks ++ is) js more) ∙ ap (λ l. l ++ more) (append_assoc ks is js)) (subst (λ vs. cut first b ((ks ++ is) ++ (js ++ more)) vs) (sym (append_assoc (us ++ ss) ts rest) ∙ ap (λ l. l ++ rest) (append_assoc us ss ts)) one);
  }
