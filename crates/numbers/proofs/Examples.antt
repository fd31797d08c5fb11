-- The examples, computed from the definitions. Assumes nothing.
use mathlib.Core.Path.{refl}
use Rattle.numbers.specs.NumbersExamples.{WordsExamples, ValuesExamples}

pub words_examples : WordsExamples
words_examples = (refl, refl, refl, refl)

pub values_examples : ValuesExamples
values_examples = (refl, refl, refl, refl, refl, refl, refl, refl, refl, refl, refl, refl, refl, refl, refl)
