-- The worked examples, by computing. Assumes nothing.
use Rattle.std.proofs.Common.{refl}
use Rattle.model.specs.Examples.{WorkedExamples}

pub worked_examples : WorkedExamples
worked_examples = refl
