-- The theorem itself.
use Rattle.quantity.proofs.Numbered.{numbers_differ}
use Rattle.quantity.proofs.laws.numbers_differ.Goals as goal

pub returns : goal.returns
returns c = numbers_differ
