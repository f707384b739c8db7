pub mod AllRows
