-- A line that was read takes no more bytes than there are; and what is promised of the answer is promised of what stands at the front.
use Rattle.std.proofs.Common.{◌∙◌, sym, rules}
use Rattle.lines.proofs.Exactness.{read_number, refused_exactly, never_for_pressure}
use Rattle.lines.proofs.RoundTrips.{front_within, read_within}
use Rattle.lines.proofs.reading.read_line.Goals as goal

pub slice_bounds-rest-count : goal.slice_bounds-rest-count
slice_bounds-rest-count c = (front_within _ _ _ (sym c.front_line-front.ensures ∙ c.in-Ok.is)).1

pub slice_bounds-rest-start : goal.slice_bounds-rest-start
slice_bounds-rest-start c = (front_within _ _ _ (sym c.front_line-front.ensures ∙ c.in-Ok.is)).1

pub returns-clause-front : goal.returns-clause-front
returns-clause-front = search rules

pub returns-clause-number : goal.returns-clause-number
returns-clause-number c = read_number _ _ _ (returns-clause-front c)

pub returns-clause-refused_exactly : goal.returns-clause-refused_exactly
returns-clause-refused_exactly c = refused_exactly _ _ _ (returns-clause-front c)

pub returns-clause-never_for_pressure : goal.returns-clause-never_for_pressure
returns-clause-never_for_pressure c = never_for_pressure _ _ _ (returns-clause-front c)

pub returns-clause-read_within : goal.returns-clause-read_within
returns-clause-read_within c = read_within _ _ _ (returns-clause-front c)
