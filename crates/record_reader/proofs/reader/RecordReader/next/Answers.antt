use Rattle.std.proofs.Common.{◌≡◌, [], ◌∷◌, ◌++◌, refl, subst}
use Rattle.line_buffer.specs.Feeds.{AllLeft}
use Rattle.record_reader.specs.OneLine.{told}
use Rattle.record_reader.specs.Verdicts.{EndsAs, whole}
use Rattle.record_reader.specs.Reader.{StandsIn, pending}
use Rattle.record_reader.proofs.Standing.{reads_as, still_stands}
use Rattle.record_reader.proofs.reader.RecordReader.next.Goals as goal

pub returns-in-One-clause-stands : goal.returns-in-One-clause-stands
returns-in-One-clause-stands g c text lines l h is =
    let x = c.in-One.said in
    let same : told x ≡ l = cc (c.of.ensures, is) in
    subst (λ m. StandsIn g.S.Source.left text c.line.new.self c.line.new.s (lines ++ m ∷ [])) same
    (still_stands g.S.Source.left text c.args.self.now c.args.s.now lines h c.line.new.self c.line.new.s (told x) (c.in-One.ensures.takes x refl) (c.in-One.ensures.advances x refl))

pub returns-in-End-clause-ends : goal.returns-in-End-clause-ends
returns-in-End-clause-ends g c v lines h has =
    let is : whole ≡ v = cc h in
    subst (λ w. AllLeft g.S.Source.left (pending c.args.self.now) c.args.s.now (EndsAs lines w)) is (c.in-End.ensures.end refl)

pub returns-in-End-clause-decides : goal.returns-in-End-clause-decides
returns-in-End-clause-decides g c text lines v h is =
    let same : whole ≡ v = cc is in
    reads_as g.S.Source.left text c.args.self.now c.args.s.now lines h v
    (subst (λ w. AllLeft g.S.Source.left (pending c.args.self.now) c.args.s.now (EndsAs lines w)) same (c.in-End.ensures.end refl))
