-- By the commas, where the line is ended and its first field is the letter alone.
use Rattle.std.proofs.Common.{◌∙◌, sym}
use Rattle.std.proofs.lemmas.Bool.{not-false}
use Rattle.lines.proofs.Faults.{no_end, by_commas}
use Rattle.lines.proofs.fault.is_misshapen.Goals as goal

pub returns-in-Some : goal.returns-in-Some
returns-in-Some c =
    by_commas c.args.count c.args.after.now _ c.commas_in.ensures _ _ c.in-Some.is c.unwrap_or.ensures (not-false _ (sym c.goes_on.ensures ∙ c.if-goes_on.false))

pub returns-in-None : goal.returns-in-None
returns-in-None c = no_end c.args.count c.args.after.now _ c.commas_in.ensures c.in-None.is
