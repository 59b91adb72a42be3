pub mod MadeLog
