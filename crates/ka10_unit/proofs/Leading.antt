-- Addresses that are reached word by word.
use Rattle.std.proofs.Common.{◌≡◌, ℕ, suc, ◌+◌, ◌-◌, ◌<◌, ◌≤◌, true, false, List, refl, ◌∙◌, arith}
use Rattle.std.specs.Prelude.{Ok, Err}
use Rattle.plain_units.specs.declared.channel.TheConstants.{ILLEGAL_INSTRUCTION}
use Rattle.machine_names.specs.declared.names.ForkName.{ForkName}
use Rattle.machine_names.specs.declared.names.Kind.TheVariants.{Read}
use Rattle.plain_units.specs.Steps.{refers, run}
use Rattle.plain_units.specs.Addressing.{address, address_within, indexed, is_indirect}
use Rattle.ka10_deeds.specs.declared.word_fields.Address.{Address}
use Rattle.ka10_unit.specs.declared.taken.Taken.{Taken}
use Rattle.ka10_unit.specs.declared.taken.Stop.{Stop}
use Rattle.ka10_unit.specs.declared.taken.Stop.TheVariants.{Trap}
use Rattle.ka10_unit.specs.Gathers.{Framed}
use Rattle.ka10_deeds.specs.Addresses.{addressed}
use Rattle.ka10_unit.specs.Taking.{Follows, Stands}
use Rattle.ka10_unit.specs.Planning.{Leads, reached, reached_within}

one_more : (n i : ℕ) → i < n → n - i ≡ suc (n - (i + 1))
one_more n i h = omega arith

module _ (f : ForkName) (p : Framed) (ac : List ℕ) where
  -- nothing is taken yet
  pub leads_none : (t : Taken) (w : ℕ) → Stands f p t → Leads f p ac t t (reached ac w) (reached_within 17 ac w)
  unfolding address
  leads_none t w s = record { stands = s; runs = λ next. refl }

  module _ (old mid : Taken) (first i w : ℕ) where
    -- an indirect word is taken
    pub leads_on : (new : Taken) (v : ℕ) → i < 17 → is_indirect w ≡ true → Leads f p ac old mid (reached ac first) (reached_within (17 - i) ac w) → Follows f p ac mid new (refers (indexed ac w) Read) (Ok v)
        → Leads f p ac old new (reached ac first) (reached_within (17 - (i + 1)) ac v)
    unfolding address_within
    leads_on new v less ind before here =
        record { stands = here.stands; runs = λ next. before.runs next ∙ rw (one_more 17 i less, ind) (here.runs (λ x. reached_within (17 - (i + 1)) ac x next)) }

    -- it stops the unit
    pub leads_stop : (new : Taken) (stop : Stop) → i < 17 → is_indirect w ≡ true → Leads f p ac old mid (reached ac first) (reached_within (17 - i) ac w) → Follows f p ac mid new (refers (indexed ac w) Read) (Err stop)
        → Follows {A = Address} f p ac old new (reached ac first) (Err stop)
    unfolding address_within
    leads_stop new stop less ind before here =
        record { stands = here.stands; runs = λ next. before.runs next ∙ rw (one_more 17 i less, ind) (here.runs (λ x. reached_within (17 - (i + 1)) ac x next)) }

    -- the address is there
    pub leads_done : (e : Address) → i < 17 → is_indirect w ≡ false → e ≡ addressed ac w → Leads f p ac old mid (reached ac first) (reached_within (17 - i) ac w)
        → Follows f p ac old mid (reached ac first) (Ok e)
    unfolding address_within
    leads_done e less direct is before =
        record { stands = before.stands; runs = λ next. before.runs next ∙ rw (one_more 17 i less, direct, is) refl }

    -- there were too many words
    pub leads_out : 17 ≤ i → Leads f p ac old mid (reached ac first) (reached_within (17 - i) ac w) → Follows {A = Address} f p ac old mid (reached ac first) (Err (Trap ILLEGAL_INSTRUCTION))
    unfolding address_within run
    leads_out out before =
        let none : 17 - i ≡ 0 = omega arith in
        record { stands = before.stands; runs = λ next. before.runs next ∙ rw none refl }
