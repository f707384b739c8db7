pub mod Lists
pub mod TolerantLogs
