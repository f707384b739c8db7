pub mod Shedding
