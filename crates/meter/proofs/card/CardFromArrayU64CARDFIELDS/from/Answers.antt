-- A list of thirteen is the list of its elements.
use Rattle.std.proofs.Common.{rules}
use Rattle.meter.specs.Card.{card_fields, fields_of}
use Rattle.meter.proofs.Elements.{all}
use Rattle.meter.proofs.card.CardFromArrayU64CARDFIELDS.from.Goals as goal

pub returns : goal.returns
unfolding fields_of
returns c = all c.args.f card_fields (search rules)
