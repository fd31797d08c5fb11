use Rattle.std.proofs.Common.{sym}
use Rattle.maps.proofs.Faults.{images_inside, says_outside, says_equal, says_product}
use Rattle.maps.proofs.examine.Goals as goal

pub returns-in-Some : goal.returns-in-Some
returns-in-Some c = record { answer = sym (says_outside _ _ _ _ _ c.requires.size _ (sym c.in-Some.ensures.answer)) }

pub returns-in-Some-equal_images : goal.returns-in-Some-equal_images
returns-in-Some-equal_images c =
    record { answer = sym (says_equal _ _ _ _ _ c.requires.size _ (sym c.in_default.ensures.answer) (sym (c.in-Some-equal_images.ensures.answer _ _ _))) }

pub wrong_product-requires : goal.wrong_product-requires
wrong_product-requires c = record { inside = images_inside _ _ _ c.requires.size (sym c.in_default.ensures.answer) }

pub returns-in-Some-wrong_product : goal.returns-in-Some-wrong_product
returns-in-Some-wrong_product c =
    record { answer = sym (says_product _ _ _ _ _ c.requires.size (sym c.in_default.ensures.answer) (sym (c.in_default-equal_images.ensures.answer _ _ _)) _ (sym c.in-Some-wrong_product.ensures.answer)) }

pub returns-in-None : goal.returns-in-None
returns-in-None c =
    record { answer = sym (says_product _ _ _ _ _ c.requires.size (sym c.in_default.ensures.answer) (sym (c.in_default-equal_images.ensures.answer _ _ _)) _ (sym c.in-None.ensures.answer)) }
