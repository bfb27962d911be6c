use Rattle.std.proofs.Common.{refl}
use Rattle.file_image.specs.Images.{image}
use Rattle.file_image.proofs.Images.{is_image, images_apart, images_not_bad}
use Rattle.file_image.proofs.laws.images_are_images.Goals as goal

pub returns-clause-files : goal.returns-clause-files
returns-clause-files c = is_image

pub returns-clause-none : goal.returns-clause-none
unfolding image
returns-clause-none c = refl

pub returns-clause-apart : goal.returns-clause-apart
returns-clause-apart c = images_apart

pub returns-clause-whole : goal.returns-clause-whole
returns-clause-whole c = images_not_bad
