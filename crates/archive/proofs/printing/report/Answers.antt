-- The line is the report's, so it tells what the report tells.
use Rattle.std.proofs.Common.{rules}
use Rattle.archive.proofs.Printed.{archive_exactly, over_limit_exactly}
use Rattle.archive.proofs.printing.report.Goals as goal

pub returns-clause-answer : goal.returns-clause-answer
returns-clause-answer c = search rules

pub returns-clause-archive_exactly : goal.returns-clause-archive_exactly
returns-clause-archive_exactly c = archive_exactly c.args.limit c.args.input.now _ (returns-clause-answer c)

pub returns-clause-over_limit_exactly : goal.returns-clause-over_limit_exactly
returns-clause-over_limit_exactly c = over_limit_exactly c.args.limit c.args.input.now _ (returns-clause-answer c)
