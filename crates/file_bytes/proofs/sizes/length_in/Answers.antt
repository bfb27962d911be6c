use Rattle.std.proofs.Common.{◌≤◌, ◌+◌, ◌-◌, ◌*◌, ◌/◌, subst, sym, ℕ}
use Rattle.plain_files.specs.Bytes.{most_bytes}
use Rattle.file_bytes.proofs.Lengths.{fits_room}
use Rattle.file_bytes.proofs.sizes.length_in.Goals as goal

pub returns-clause-room : goal.returns-clause-room
returns-clause-room c =
    let fits = fits_room c.args.size c.args.own c.args.length c.requires.fits.0 c.requires.fits.1 in
    subst (λ (k : ℕ). (c.args.length + c.from-per_word.result - 1) / c.from-per_word.result * k ≤ most_bytes c.args.size) (sym c.from.ensures)
    (subst (λ (k : ℕ). (c.args.length + k - 1) / k * (36 / c.args.size) ≤ most_bytes c.args.size) (sym c.from-per_word.ensures) fits)
