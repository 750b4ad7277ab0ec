-- The theorems themselves.
use Rattle.verdict.proofs.Classes.{complete_formula}
use Rattle.verdict.proofs.WholeCap.{at_most_10}
use Rattle.verdict.proofs.laws.complete_instrument.Goals as goal

pub returns : goal.returns
returns c = record { complete_formula = complete_formula; at_most_10 = at_most_10 }
