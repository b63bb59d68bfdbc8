-- What the entries of the archive answer and leave. Above: promises, demands. Below: entry's openings, archive_records.
pub mod Archive
