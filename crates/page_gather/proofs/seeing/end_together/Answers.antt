use Rattle.std.proofs.Common.{None, refl, sym, ◌∙◌}
use Rattle.page_gather.proofs.Judged.{first_empty, second_empty, one_end, first_new, second_new, first_nameless, second_nameless, names_together}
use Rattle.page_gather.proofs.seeing.end_together.Goals.{then-x-via-then-x, then-x-via-else-x+then-y, then-is_new-via-then-is_new, then-is_new-via-else-is_new+then-is_new-2}
use Rattle.page_gather.proofs.seeing.end_together.Goals as goal

pub returns-then-x : goal.returns-then-x
returns-then-x g c = record {
  told = λ d q owner homes a b fits j k.
      elim c.then-x.branch [
        | then-x-via-then-x w ↦ first_empty _ q _ owner c.args.changes.now homes a b c.args.x c.args.y j k w.if-x.true
        | then-x-via-else-x+then-y w ↦ second_empty _ q _ owner c.args.changes.now homes a b c.args.x c.args.y j k w.if-y.true
      ];
}

pub returns-then-is_same : goal.returns-then-is_same
returns-then-is_same g c = record { told = λ d q owner homes a b fits j k. one_end _ q _ owner c.args.changes.now homes a b c.args.x c.args.y j k c.if-x.false c.if-y.false (sym c.if-is_same.ensures) }

pub returns-then-is_new : goal.returns-then-is_new
returns-then-is_new g c = record {
  told = λ d q owner homes a b fits j k.
      elim c.then-is_new.branch [
        | then-is_new-via-then-is_new w ↦ first_new _ q _ owner c.args.changes.now homes a b c.args.x c.args.y j k c.if-x.false c.if-y.false (sym c.if-is_same.ensures) (sym w.if-is_new.ensures)
        | then-is_new-via-else-is_new+then-is_new-2 w ↦ second_new _ q _ owner c.args.changes.now homes a b c.args.x c.args.y j k c.if-x.false c.if-y.false (sym c.if-is_same.ensures) (sym w.if-is_new-2.ensures)
      ];
}

pub returns-in_default : goal.returns-in_default
returns-in_default g c = record {
  told = λ d q owner homes a b fits j k.
      first_nameless _ q _ owner c.args.changes.now homes a b c.args.x c.args.y j k c.if-x.false c.if-y.false (sym c.if-is_new.ensures) (sym c.if-is_new-2.ensures) None (c.in_default.ensures.told d fits) refl;
}

pub returns-in_default-page_at : goal.returns-in_default-page_at
returns-in_default-page_at g c = record {
  told = λ d q owner homes a b fits j k.
      second_nameless _ q _ owner c.args.changes.now homes a b c.args.x c.args.y j k c.if-x.false c.if-y.false (sym c.if-is_new.ensures) (sym c.if-is_new-2.ensures) None (c.in_default-page_at.ensures.told d fits) refl;
}

pub returns : goal.returns
returns g c = record {
  told = λ d q owner homes a b fits j k.
      c.is_same_page.ensures ∙ names_together _ q _ owner c.args.changes.now homes a b c.args.x c.args.y j k c.if-x.false c.if-y.false (sym c.if-is_new.ensures) (sym c.if-is_new-2.ensures) c.in-Some.n c.in-Some-page_at.m c.in-Some.field-0-1 c.in-Some-page_at.field-0-1 (c.in-Some.ensures.told d fits) (c.in-Some-page_at.ensures.told d fits);
}
