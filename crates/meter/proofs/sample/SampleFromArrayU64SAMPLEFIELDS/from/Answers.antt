-- A list of four is the list of its elements.
use Rattle.std.proofs.Common.{rules}
use Rattle.meter.specs.Sample.{sample_fields, sample_numbers}
use Rattle.meter.proofs.Elements.{all}
use Rattle.meter.proofs.sample.SampleFromArrayU64SAMPLEFIELDS.from.Goals as goal

pub returns : goal.returns
unfolding sample_numbers
returns c = all c.args.f sample_fields (search rules)
