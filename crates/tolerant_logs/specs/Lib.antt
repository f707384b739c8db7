pub mod TolerantLog
