use Rattle.std.proofs.Common.{◌+◌, ◌<◌, sym, ◌∙◌, ap, subst, refl, arith}
use Rattle.std.specs.FinMap as map
use Rattle.number_map.specs.Numbers.{AreTaken, IsLeastFree}
use Rattle.number_map.proofs.Full.{IsWithin, len_full, len_free}
use Rattle.machine_names.specs.declared.names.FileNo.{FileNo}
use Rattle.machine_names.specs.declared.names.TheConstants.{MOST_FILES}
use Rattle.plain_files.specs.Directory.{AreFiles, Files, IsAbsent}
use Rattle.file_dir.proofs.Places.{files_put, order_put, split_on}
use Rattle.file_dir.proofs.dir.Dir.create.Goals as goal

in_bounds : (m : Files) → AreFiles m → IsWithin m 0 (0 + MOST_FILES)
in_bounds m a = (λ k low. absurd (omega arith), λ k high. a.below k (omega arith))

pub returns-in_default : goal.returns-in_default
returns-in_default c =
    let m = c.self.inside.names in
    let taken : AreTaken m 0 (0 + MOST_FILES) = c.in_default.ensures.least in
    (ap map.len (sym c.self.view_is) ∙ len_full m 0 MOST_FILES (in_bounds m c.self.invariant.0) taken, refl)

pub unreachable-requires : goal.unreachable-requires
unreachable-requires c =
    let m = c.self.inside.names in
    let least = c.in-Some.ensures.least in
    omega (
      arith,
      c.self.invariant.2,
      c.self.invariant.1.size,
      c.in_default-insert.ensures.full,
      c.self.inside.order.ok.0,
      len_free m 0 MOST_FILES c.in-Some.n c.args.name.now (in_bounds m c.self.invariant.0) least.1.after (omega (arith, least.0)) least.1.free,
    )

pub invariant_of-self : goal.invariant_of-self
invariant_of-self c =
    let m = c.self.inside.names in
    let order = c.self.inside.order.items in
    let name = c.args.name.now in
    let place = c.count_before-place.result in
    let o = c.self.invariant.1 in
    let least = c.in-Some.ensures.least in
    let f : FileNo = record { 0 = c.in-Some.n } in
    let absent : IsAbsent m name = subst (λ files. IsAbsent files name) (sym c.self.view_is) c.requires.absent in
    let split = split_on m order o c.deref.result.now c.as_slice.result.now name place c.deref.ensures.value c.as_slice.ensures c.count_before-place.ensures.place
    c.count_before-place.ensures.within in
    rw (c.insert-2.ensures.put, c.in-Ok.ensures.items) (
      files_put m c.self.invariant.0 c.in-Some.n name least.0 c.requires.name absent,
      order_put m order o f name place least.1.free absent split,
      omega (arith, c.self.invariant.2, c.in-Ok.ensures.capacity),
    )

pub returns : goal.returns
returns c =
    let m = c.self.inside.names in
    let least = c.in-Some.ensures.least in
    record {
      room = subst (λ files. map.len files < MOST_FILES) c.self.view_is
          (len_free m 0 MOST_FILES c.in-Some.n c.args.name.now (in_bounds m c.self.invariant.0) least.1.after (omega (arith, least.0)) least.1.free);
      least = subst (λ files. IsLeastFree files 0 c.in-Some.n) c.self.view_is least.1;
      below = least.0;
      put = c.insert-2.ensures.put ∙ ap (λ files. map.insert files c.in-Some.n c.args.name.now) c.self.view_is;
    }
