pub mod PairedLogs
