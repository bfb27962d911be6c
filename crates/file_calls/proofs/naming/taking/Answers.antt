use Rattle.std.proofs.Common.{◌≡◌, true, false, refl, sym, ◌∙◌, ap}
use Rattle.std.specs.Prelude.{is_some}
use Rattle.std.specs.FinMap as map
use Rattle.plain_model.specs.declared.call.FileChange.TheVariants.{Take}
use Rattle.file_tables.specs.Tables.{files_of}
use Rattle.file_calls.specs.Asking.{asked_of}
use Rattle.file_calls.specs.Changing.{IsSound}
use Rattle.std.proofs.lemmas.Bool.{ltb_from_iff}
use Rattle.file_calls.proofs.Taking.{fits_as, found_there, makes_it, none_free, refuses_it, takes_it}
use Rattle.file_calls.proofs.naming.taking.Goals as goal

pub returns-in_default-clause-turn : goal.returns-in_default-clause-turn
returns-in_default-clause-turn c user p = none_free c.args.tables.now c.args.name (asked_of c.args.who c.args.regs.now user c.args.tables.now) p (sym c.in_default.ensures)

pub returns-then-there-clause-turn : goal.returns-then-there-clause-turn
returns-then-there-clause-turn c user p =
    let tables = c.args.tables.now in
    let a = asked_of c.args.who c.args.regs.now user tables in
    let there : is_some (map.get (files_of tables) c.args.name) ≡ true = found_there tables c.args.name c.find.result c.find.ensures.found ∙ sym c.is_some-there.ensures ∙ c.if-there.true in
    takes_it tables c.args.name a p c.in-Some.n (sym c.in-Some.ensures) there ∙ ap (λ e. record { end = e; pages = p }) (sym (c.telling.ensures.end a refl))

pub returns-then-there-clause-fits : goal.returns-then-there-clause-fits
returns-then-there-clause-fits c =
    let tables = c.args.tables.now in
    let name = c.args.name in
    let there : is_some (map.get (files_of tables) name) ≡ true = found_there tables name c.find.result c.find.ensures.found ∙ sym c.is_some-there.ensures ∙ c.if-there.true in
    fits_as (IsSound tables c.args.who.tty) (Take c.args.who.tty c.in-Some.n name) c.telling.result
    (((c.requires.terminal, sym c.in-Some.ensures), there), refl) c.telling.ensures.fits

pub returns-then-not-makes_files-clause-turn : goal.returns-then-not-makes_files-clause-turn
returns-then-not-makes_files-clause-turn c user p =
    let tables = c.args.tables.now in
    let absent : is_some (map.get (files_of tables) c.args.name) ≡ false = found_there tables c.args.name c.find.result c.find.ensures.found ∙ sym c.is_some-there.ensures ∙ c.if-there.false in
    refuses_it tables c.args.name (asked_of c.args.who c.args.regs.now user tables) p c.in-Some.n (sym c.in-Some.ensures) absent (sym c.makes_files.ensures ∙ c.if-not-makes_files.true)

pub returns-then-has_room-clause-turn : goal.returns-then-has_room-clause-turn
returns-then-has_room-clause-turn c user p =
    let tables = c.args.tables.now in
    let a = asked_of c.args.who c.args.regs.now user tables in
    let absent : is_some (map.get (files_of tables) c.args.name) ≡ false = found_there tables c.args.name c.find.result c.find.ensures.found ∙ sym c.is_some-there.ensures ∙ c.if-there.false in
    makes_it tables c.args.name a p c.in-Some.n (sym c.in-Some.ensures) absent (sym c.makes_files.ensures ∙ c.if-not-makes_files.false) true (sym (ltb_from_iff c.has_room.ensures) ∙ c.if-has_room.true)
    ∙ ap (λ e. record { end = e; pages = p }) (sym (c.telling-then-has_room.ensures.end a refl))

pub returns-else-has_room-clause-turn : goal.returns-else-has_room-clause-turn
returns-else-has_room-clause-turn c user p =
    let tables = c.args.tables.now in
    let absent : is_some (map.get (files_of tables) c.args.name) ≡ false = found_there tables c.args.name c.find.result c.find.ensures.found ∙ sym c.is_some-there.ensures ∙ c.if-there.false in
    makes_it tables c.args.name (asked_of c.args.who c.args.regs.now user tables) p c.in-Some.n (sym c.in-Some.ensures) absent (sym c.makes_files.ensures ∙ c.if-not-makes_files.false) false (sym (ltb_from_iff c.has_room.ensures) ∙ c.if-has_room.false)
