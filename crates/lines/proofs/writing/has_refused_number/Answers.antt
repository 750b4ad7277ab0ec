-- Whether one of the numbers has too many digits, or one that the edition lacks is not 0.
use Rattle.std.proofs.Common.{◌≡◌, ◌∙◌, ap, ◌^◌}
use lib.Dec.{leb}
use Rattle.std.specs.List.{list_any}
use Rattle.lines.specs.Number.{most_digits, some_long, some_nonzero}
use Rattle.lines.proofs.writing.has_refused_number.Goals as goal

pub returns-then-has_from : goal.returns-then-has_from
returns-then-has_from c =
    let long : c.has_from.result ≡ some_long c.args.listed.now.shown = c.has_from.ensures ∙ ap (list_any (leb (10 ^ most_digits))) c.shown.ensures in
    rw (← long, c.if-has_from.true)

pub returns-else-has_from : goal.returns-else-has_from
returns-else-has_from c =
    let long : c.has_from.result ≡ some_long c.args.listed.now.shown = c.has_from.ensures ∙ ap (list_any (leb (10 ^ most_digits))) c.shown.ensures in
    let lacked : c.has_from-else-has_from.result ≡ some_nonzero c.args.listed.now.lacked = c.has_from-else-has_from.ensures ∙ ap (list_any (leb 1)) c.lacked.ensures in
    rw (← long, c.if-has_from.false) lacked
