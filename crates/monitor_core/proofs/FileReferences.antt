-- References to pages of files, by the names of the files and by their numbers.
use Rattle.std.proofs.Common.{◌≡◌, ℕ, ◌+◌, Bool, true, false, cond, List, [], ◌∷◌, Option, None, Some, refl, sym, ◌∙◌, ap, subst}
use Rattle.std.specs.Ordering.{nat_cmp}
use Rattle.std.specs.Option.{option_map_or}
use Rattle.std.specs.FinMap as fin
use Rattle.machine_names.specs.declared.names.PageName.{PageName}
use Rattle.machine_names.specs.declared.names.Tty.{Tty}
use Rattle.machine_names.specs.declared.names.Kind.TheVariants.{Write}
use Rattle.machine_names.specs.Orders.{file_page, name_cmp}
use Rattle.plain_pages.specs.PlainPages.{NumberedPages}
use Rattle.plain_pages.specs.References.{Referred, Spot, blank, denied, full, granted, in_file, in_its_file, make, make_all, makings, next_page, page_at, reference, stored, with_word}
use Rattle.plain_pages.specs.Room.{HasRoom}
use Rattle.plain_pages.proofs.Refiled.{room_refiled}
use Rattle.plain_files.specs.Directory.{Files}
use Rattle.plain_files.specs.NamedFiles.{AreFiled, AreNumbers, page_named, pages_named}
use Rattle.plain_model.specs.FileEvents.{stored_row}
use Rattle.file_tables.proofs.Pages.{filed_put, page_at as page_found, page_put}
use Rattle.monitor_core.specs.Systems.{named}
use Rattle.monitor_core.proofs.NamedPages.{alike_named}

-- what a reference comes to, where files are known by names
abbrev pub named_result : Files → Referred nat_cmp → Referred name_cmp
named_result m (granted q) = granted (named m q)
named_result m (denied kind) = denied kind
named_result m full = full

module _ (m : Files) (a : AreNumbers m) (f page : ℕ) (there : fin.contains_key m f ≡ true) where
  -- the page, by the file's number and by its name
  abbrev pub at : Spot ℕ
  at = in_file (file_page f page)

  abbrev pub at_name : Spot (List ℕ)
  at_name = in_file (page_named m (file_page f page))

  -- the page that is there
  pub page_is : (p : NumberedPages) → AreFiled m p.files → page_at (named m p) at_name ≡ page_at p at
  unfolding page_at
  page_is p filed = page_found m a p.files filed (file_page f page) there

  stored_files : (p : NumberedPages) (offset word : ℕ) → (stored p at offset word).files ≡ p.files
  stored_files p offset word = by (page_at p at)
    where
      by : (n : Option PageName) → (option_map_or (with_word p offset word) n p).files ≡ p.files
      by None = refl
      by (Some n) = refl

  stored_named : (p : NumberedPages) → AreFiled m p.files → (offset word : ℕ) → stored (named m p) at_name offset word ≡ named m (stored p at offset word)
  stored_named p filed offset word = ap (λ n. option_map_or (with_word (named m p) offset word) n (named m p)) (page_is p filed) ∙ by (page_at p at)
    where
      by : (n : Option PageName) → option_map_or (with_word (named m p) offset word) n (named m p) ≡ named m (option_map_or (with_word p offset word) n p)
      by None = refl
      by (Some n) = refl

  -- words that are stored one behind the other
  pub row_files : (words : List ℕ) (offset : ℕ) (p : NumberedPages) → (stored_row p at offset words).files ≡ p.files
  row_files [] offset p = refl
  row_files (w ∷ ws) offset p = row_files ws (offset + 1) (stored p at offset w) ∙ stored_files p offset w

  pub row_named : (words : List ℕ) (offset : ℕ) (p : NumberedPages) → AreFiled m p.files → stored_row (named m p) at_name offset words ≡ named m (stored_row p at offset words)
  row_named [] offset p filed = refl
  row_named (w ∷ ws) offset p filed =
      ap (λ q. stored_row q at_name (offset + 1) ws) (stored_named p filed offset w)
      ∙ row_named ws (offset + 1) (stored p at offset w) (subst (AreFiled m) (sym (stored_files p offset w)) filed)

  module _ (p : NumberedPages) (filed : AreFiled m p.files) (owner : Tty) where
    -- a page that is made in the file
    abbrev made : NumberedPages
    made = make p owner (blank at)

    made_filed : AreFiled m made.files
    unfolding make
    made_filed = filed_put m a p.files filed (file_page f page) there (next_page p owner)

    made_named : make (named m p) owner (blank at_name) ≡ named m made
    unfolding make
    made_named = λ i. record (named m made) { files = sym (page_put m a p.files filed (file_page f page) there (next_page p owner)) i }

    made_room : HasRoom (named m made) owner ≡ HasRoom made owner
    made_room = room_refiled name_cmp made (pages_named m made.files) (alike_named m made a made_filed) owner

    -- a reference to write
    pub write_named : reference (named m p) at_name Write owner ≡ named_result m (reference p at Write owner)
    unfolding reference makings make_all
    write_named =
        ap (λ o. option_map_or (make_all (named m p) owner) (in_its_file Write (page_named m (file_page f page)) o) (denied Write)) (page_found m a p.files filed (file_page f page) there)
        ∙ by (fin.get p.files (file_page f page))
      where
        moved : (b : Bool) → ◌≡◌ {A = Referred name_cmp} (cond b (granted (named m made)) full) (named_result m (cond b (granted made) full))
        moved true = refl
        moved false = refl

        by : (o : Option PageName) → option_map_or (make_all (named m p) owner) (in_its_file Write (page_named m (file_page f page)) o) (denied Write)
            ≡ named_result m (option_map_or (make_all p owner) (in_its_file Write (file_page f page) o) (denied Write))
        by None =
            ap (λ r. cond (HasRoom r owner) (granted r) full) made_named
            ∙ ap (λ b. cond b (granted (named m made)) full) made_room
            ∙ moved (HasRoom made owner)
        by (Some n) = refl

    -- which leaves only pages of files that are there
    pub write_filed : (q : NumberedPages) → reference p at Write owner ≡ granted q → AreFiled m q.files
    unfolding reference makings make_all
    write_filed q refers = by (fin.get p.files (file_page f page)) refers
      where
        room : (b : Bool) → cond b (granted made) full ≡ granted q → AreFiled m q.files
        room true g = let same : made ≡ q = cc g in subst (λ (x : NumberedPages). AreFiled m x.files) same made_filed
        room false g = absurd (cc g)

        by : (o : Option PageName) → option_map_or (make_all p owner) (in_its_file Write (file_page f page) o) (denied Write) ≡ granted q → AreFiled m q.files
        by None g = room (HasRoom made owner) g
        by (Some n) g = let same : p ≡ q = cc g in subst (λ (x : NumberedPages). AreFiled m x.files) same filed
