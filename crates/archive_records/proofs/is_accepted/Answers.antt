-- `archive_records::is_accepted` meets its contract.
use Rattle.archive_records.proofs.Order.{never_is}
use Rattle.archive_records.proofs.is_accepted.Goals as goal

pub returns : goal.returns
returns c = rw (c.both.ensures, c.at_most-rising.ensures, c.falls_at.ensures, never_is _ _)
