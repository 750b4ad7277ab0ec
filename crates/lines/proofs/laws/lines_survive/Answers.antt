-- The round trips, each way.
use Rattle.lines.proofs.RoundTrips.{written_then_read, read_then_written}
use Rattle.lines.proofs.laws.lines_survive.Goals as goal

pub returns : goal.returns
returns c = record { written_then_read = written_then_read; read_then_written = read_then_written }
