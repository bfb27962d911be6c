-- Files, pages of files and JFNs that come, change or go leave files whole.
use Rattle.std.proofs.Common.{◌≡◌, ◌≢◌, ℕ, ◌+◌, ◌-◌, ◌<◌, ◌≤◌, Bool, true, false, cond, List, None, Some, ◌⊎◌, inl, inr, refl, sym, ◌∙◌, ap, subst, arith}
use Rattle.std.specs.Prelude.{is_some}
use Rattle.std.specs.Ordering.{nat_cmp}
use Rattle.std.specs.Cmp.{IsTotalOrder, nat_cmp_total}
use Rattle.std.specs.Cmp.Lexicographic.{nat_list_cmp_total}
use Rattle.std.specs.declared.cmp.Ordering.{Ordering}
use Rattle.std.specs.FinMap as map
use Rattle.std.specs.FinMap.{IsAntisymmetric, nat_cmp-IsAntisymmetric}
use Rattle.machine_names.specs.declared.names.PageName.{PageName}
use Rattle.machine_names.specs.Bounds.{IsFileName}
use Rattle.machine_names.specs.Orders.{FilePage, name_cmp, file_page_cmp}
use Rattle.machine_names.proofs.Keys.{cases_key, get_put, get_put_other, get_gone, get_gone_other}
use Rattle.machine_names.proofs.OrderLemmas.{name_cmp_apart, file_page_apart, file_page_total}
use Rattle.machine_names.specs.declared.names.TheConstants.{FILE_PAGES, MOST_FILES}
use Rattle.plain_files.specs.declared.bounds.TheConstants.{MOST_JFNS}
use Rattle.plain_files.specs.Sizes.{PlainFile, FitsFile}
use Rattle.plain_files.specs.OpenFiles.{OpenFile}
use Rattle.plain_model.specs.State.{PlainJob}
use Rattle.plain_laws.specs.WholeFiles.{Files, FilePages, Jfns, Jobs, FitsOpen, AreOpen, AreFilesWhole}

-- a value of a map in which one was put is that one, or was there
module _ {K V : Type 0} {R : K → K → Ordering} (o : IsTotalOrder R) (apart : IsAntisymmetric R) (m : map.FinMap R V) (k : K) where
  pub put_tells : (v : V) (q : K) (w : V) → map.get (map.insert m k v) q ≡ Some w → ((q ≡ k) × (v ≡ w)) ⊎ (map.get m q ≡ Some w)
  put_tells v q w is = elim (cases_key o apart q k) [
    | inl e ↦ (let same : Some v ≡ Some w = sym (get_put o apart m k q v e) ∙ is in let it : v ≡ w = cc same in inl (e, it))
    | inr ne ↦ inr (sym (get_put_other o apart m k q v ne) ∙ is)
  ]

  pub put_has : (v : V) (q : K) → map.contains_key (map.insert m k v) q ≡ true → (q ≡ k) ⊎ (map.contains_key m q ≡ true)
  put_has v q is = elim (cases_key o apart q k) [
    | inl e ↦ inl e
    | inr ne ↦ inr (sym (ap is_some (get_put_other o apart m k q v ne)) ∙ is)
  ]

  -- what was there is there
  pub put_keeps : (v : V) (q : K) → map.contains_key m q ≡ true → map.contains_key (map.insert m k v) q ≡ true
  put_keeps v q there = elim (cases_key o apart q k) [
    | inl e ↦ ap is_some (get_put o apart m k q v e)
    | inr ne ↦ ap is_some (get_put_other o apart m k q v ne) ∙ there
  ]

  -- what is there after another went was there
  pub gone_has : (q : K) → map.contains_key (map.remove m k) q ≡ true → map.contains_key m q ≡ true
  gone_has q there = elim (cases_key o apart q k) [
    | inl e ↦ absurd (let no : false ≡ true = sym (ap is_some (get_gone o apart m k q e)) ∙ there in cc no)
    | inr ne ↦ sym (ap is_some (get_gone_other o apart m k q ne)) ∙ there
  ]

  -- and is another
  pub gone_tells : (q : K) (w : V) → map.get (map.remove m k) q ≡ Some w → (q ≢ k) × (map.get m q ≡ Some w)
  gone_tells q w is = elim (cases_key o apart q k) [
    | inl e ↦ absurd (let no : None ≡ Some w = sym (get_gone o apart m k q e) ∙ is in cc no)
    | inr ne ↦ (ne, sym (get_gone_other o apart m k q ne) ∙ is)
  ]

-- JFNs that are there still fit where all files are there still
pub still_open : (files other : Files) → ((name : List ℕ) → map.contains_key files name ≡ true → map.contains_key other name ≡ true) → (jfns : Jfns) → AreOpen files jfns → AreOpen other jfns
still_open files other stay jfns held n j is = let was = held n j is in (was.0, was.1, (stay j.file was.2.0, was.2.1, was.2.2))

module _ (files : Files) (pages : FilePages) (jobs : Jobs) (w : AreFilesWhole files pages jobs) where
  -- a file that is made, or changed
  pub file_put : (name : List ℕ) (f : PlainFile) → IsFileName name → FitsFile f → (map.contains_key files name ≡ true) ⊎ (map.len files < MOST_FILES) → AreFilesWhole (map.insert files name f) pages jobs
  file_put name f full fits room = record {
    named = record { named = λ k g is. named k g (put_tells nat_list_cmp_total name_cmp_apart files name f k g is); few = few room };
    placed = λ at there. (let was = w.placed at there in (stay at.file was.0, was.1));
    jfns = λ t j is. still_open files (map.insert files name f) stay j.jfns (w.jfns t j is);
  }
    where
      stay : (k : List ℕ) → map.contains_key files k ≡ true → map.contains_key (map.insert files name f) k ≡ true
      stay = put_keeps nat_list_cmp_total name_cmp_apart files name f

      named : (k : List ℕ) (g : PlainFile) → ((k ≡ name) × (f ≡ g)) ⊎ (map.get files k ≡ Some g) → IsFileName k × FitsFile g
      named k g (inl e) = (subst IsFileName (sym e.0) full, subst FitsFile e.1 fits)
      named k g (inr is) = w.named.named k g is

      more : (b : Bool) → map.contains_key files name ≡ b → (b ≡ true) ⊎ (map.len files < MOST_FILES) → map.len (map.insert files name f) ≤ MOST_FILES
      more true there room = omega (arith, w.named.few, map.len-insert nat_list_cmp_total files name f, ap (λ b. cond b (map.len files) (map.len files + 1)) there)
      more false none (inl is) = absurd (cc is)
      more false none (inr room) = omega (arith, room, map.len-insert nat_list_cmp_total files name f, ap (λ b. cond b (map.len files) (map.len files + 1)) none)

      few : (map.contains_key files name ≡ true) ⊎ (map.len files < MOST_FILES) → map.len (map.insert files name f) ≤ MOST_FILES
      few room = more (map.contains_key files name) refl room

  -- a page of a file that is there
  pub page_put : (at : FilePage (List ℕ)) (n : PageName) → map.contains_key files at.file ≡ true → at.page < FILE_PAGES → AreFilesWhole files (map.insert pages at n) jobs
  page_put at n there below = record {
    named = w.named;
    placed = λ q is. elim (put_has (file_page_total nat_list_cmp_total) (file_page_apart name_cmp_apart) pages at n q is) [
      | inl e ↦ (ap (λ (x : FilePage (List ℕ)). map.contains_key files x.file) e ∙ there, subst (λ (x : FilePage (List ℕ)). x.page < FILE_PAGES) (sym e) below)
      | inr was ↦ w.placed q was
    ];
    jfns = w.jfns;
  }

  -- a job that is made, or whose JFNs are others
  pub job_put : (t : ℕ) (j : PlainJob) → AreOpen files j.jfns → AreFilesWhole files pages (map.insert jobs t j)
  job_put t j held = record {
    named = w.named;
    placed = w.placed;
    jfns = λ u k is. elim (put_tells nat_cmp_total nat_cmp-IsAntisymmetric jobs t j u k is) [
      | inl e ↦ subst (λ (x : PlainJob). AreOpen files x.jfns) e.1 held
      | inr was ↦ w.jfns u k was
    ];
  }

  -- a job that goes
  pub job_gone : (t : ℕ) → AreFilesWhole files pages (map.remove jobs t)
  job_gone t = record { named = w.named; placed = w.placed; jfns = λ u j is. w.jfns u j (gone_tells nat_cmp_total nat_cmp-IsAntisymmetric jobs t u j is).1 }

  -- fewer pages of files
  pub pages_fewer : (rest : FilePages) → ((at : FilePage (List ℕ)) → map.contains_key rest at ≡ true → map.contains_key pages at ≡ true) → AreFilesWhole files rest jobs
  pages_fewer rest there = record { named = w.named; placed = λ at is. w.placed at (there at is); jfns = w.jfns }

  -- a page that goes
  pub page_gone : (at : FilePage (List ℕ)) → AreFilesWhole files (map.remove pages at) jobs
  page_gone at = pages_fewer (map.remove pages at) (λ q is. gone_has (file_page_total nat_list_cmp_total) (file_page_apart name_cmp_apart) pages at q is)

  -- a file that goes, which has no page any more and for which no JFN stands
  pub file_gone : (name : List ℕ) → ((at : FilePage (List ℕ)) → map.contains_key pages at ≡ true → at.file ≢ name) → ((t n : ℕ) (j : PlainJob) (i : OpenFile) → map.get jobs t ≡ Some j → map.get j.jfns n ≡ Some i → i.file ≢ name)
      → AreFilesWhole (map.remove files name) pages jobs
  file_gone name bare closed = record {
    named = record { named = λ k f is. w.named.named k f (gone_tells nat_list_cmp_total name_cmp_apart files name k f is).1; few = few (map.contains_key files name) refl };
    placed = λ at is. (let was = w.placed at is in (stays at.file (bare at is) was.0, was.1));
    jfns = λ t j is n i has. (let was = w.jfns t j is n i has in (was.0, was.1, (stays i.file (closed t n j i is has) was.2.0, was.2.1, was.2.2)));
  }
    where
      stays : (k : List ℕ) → k ≢ name → map.contains_key files k ≡ true → map.contains_key (map.remove files name) k ≡ true
      stays k other there = ap is_some (get_gone_other nat_list_cmp_total name_cmp_apart files name k other) ∙ there

      few : (b : Bool) → map.contains_key files name ≡ b → map.len (map.remove files name) ≤ MOST_FILES
      few true is = omega (arith, w.named.few, map.len-remove nat_list_cmp_total files name, ap (λ b. cond b (map.len files - 1) (map.len files)) is)
      few false is = omega (arith, w.named.few, map.len-remove nat_list_cmp_total files name, ap (λ b. cond b (map.len files - 1) (map.len files)) is)

-- there is no file, no page of one, and no job
pub no_files_whole : AreFilesWhole map.empty map.empty map.empty
no_files_whole = record {
  named = record { named = λ name f is. absurd (let no : None ≡ Some f = sym (map.get-empty name_cmp name) ∙ is in cc no); few = omega (arith, map.len-empty name_cmp PlainFile) };
  placed = λ at is. absurd (let no : false ≡ true = sym (ap is_some (map.get-empty (file_page_cmp name_cmp) at)) ∙ is in cc no);
  jfns = λ t j is. absurd (let no : None ≡ Some j = sym (map.get-empty nat_cmp t) ∙ is in cc no);
}

-- a job holds no JFN
pub none_open : (files : Files) → AreOpen files map.empty
none_open files n j is = absurd (let no : None ≡ Some j = sym (map.get-empty nat_cmp n) ∙ is in cc no)

-- one JFN more, or changed, and one less
pub jfn_put : (files : Files) (jfns : Jfns) (n : ℕ) (j : OpenFile) → AreOpen files jfns → 1 ≤ n → n ≤ MOST_JFNS → FitsOpen files j → AreOpen files (map.insert jfns n j)
jfn_put files jfns n j held from most fits k i is = elim (put_tells nat_cmp_total nat_cmp-IsAntisymmetric jfns n j k i is) [
  | inl e ↦ (subst (λ x. 1 ≤ x) (sym e.0) from, subst (λ x. x ≤ MOST_JFNS) (sym e.0) most, subst (FitsOpen files) e.1 fits)
  | inr was ↦ held k i was
]

pub jfn_gone : (files : Files) (jfns : Jfns) (n : ℕ) → AreOpen files jfns → AreOpen files (map.remove jfns n)
jfn_gone files jfns n held k i is = held k i (gone_tells nat_cmp_total nat_cmp-IsAntisymmetric jfns n k i is).1
