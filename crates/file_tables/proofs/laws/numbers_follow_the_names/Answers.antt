use Rattle.std.proofs.Common.{◌≡◌, ◌∙◌, ap, refl, ℕ, List, None}
use Rattle.std.specs.FinMap as map
use Rattle.plain_files.specs.Directory.{Creates, Files}
use Rattle.plain_files.specs.NamedFiles.{AreNumbers, by_name, number_of}
use Rattle.machine_names.proofs.Keys.{get_put, get_put_other, get_gone_other}
use Rattle.file_tables.proofs.Names.{absent_by_name, by_name_gone, by_name_put, name_apart, name_total, number_is}
use Rattle.file_tables.proofs.laws.numbers_follow_the_names.Goals as goal

pub returns-clause-each : goal.returns-clause-each
returns-clause-each c = λ m name f a. number_is m a name f

-- the numbers by name where a file was made
made : (old new : Files) (f : ℕ) (name : List ℕ) → AreNumbers old → Creates old new f name → number_of old name ≡ None
    → by_name new (λ k. k) ≡ map.insert (by_name old (λ k. k)) name f
made old new f name a c none =
    ap (λ (m : Files). by_name m (λ k. k)) c.put
    ∙ by_name_put old a f name c.below c.least.free (absent_by_name old a (λ k. k) name none) (λ k. k) (λ k. k) (λ g ne. refl)

pub returns-clause-made : goal.returns-clause-made
returns-clause-made c = λ old new f name a put none.
    (put.least.free, ap (λ n. map.get n name) (made old new f name a put none) ∙ get_put name_total name_apart (by_name old (λ k. k)) name name f refl)

pub returns-clause-others_made : goal.returns-clause-others_made
returns-clause-others_made c = λ old new f name other a put none ne.
    ap (λ n. map.get n other) (made old new f name a put none) ∙ get_put_other name_total name_apart (by_name old (λ k. k)) name other f ne

pub returns-clause-gone : goal.returns-clause-gone
returns-clause-gone c = λ m f name other a there ne.
    ap (λ n. map.get n other) (by_name_gone m a f name there (λ k. k)) ∙ get_gone_other name_total name_apart (by_name m (λ k. k)) name other ne
