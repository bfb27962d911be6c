-- The words ask for one run at most.
use Rattle.std.proofs.Common.{◌≡◌, inl, inr, ℕ, List, ap, ◌∙◌, arith, map, String, string_bytes}
use Rattle.command_words.specs.Words.{Ask}
use Rattle.command_words.specs.declared.request.EventSource.TheVariants.{Script, Generated}
use Rattle.command_words.specs.declared.request.Request.{Request}
use Rattle.command_words.proofs.Reading.{one_run}
use Rattle.run_console.specs.Command.{Generates, IsAsked, IsUsage, ReadsScript}

module _ {Z : Type 0} (words : List (String Z)) where
  pub not_usage : (pages : ℕ) (request : Request) → IsAsked words pages request → IsUsage words pages → ⊥
  not_usage pages request asked (inl none) = none request asked.asks
  not_usage pages request asked (inr more) =
      let same : request.sizes.drum ≡ more.0.sizes.drum = ap (λ r. r.sizes.drum) (one_run (map string_bytes words) request more.0 asked.asks more.1) in
      absurd (omega (arith, same, more.2, asked.enough))

  -- they ask for the script, or for the generated one
  pub asks_script : (request : Request) → Ask words request → ReadsScript words → request.events ≡ Script
  asks_script request asks reads = ap (λ r. r.events) (one_run (map string_bytes words) request reads.0 asks reads.1) ∙ reads.2

  pub asks_generated : (request : Request) (seed : ℕ) → Ask words request → Generates words seed → request.events ≡ Generated seed
  asks_generated request seed asks generates = ap (λ r. r.events) (one_run (map string_bytes words) request generates.0 asks generates.1) ∙ generates.2
