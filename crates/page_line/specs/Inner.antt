pub mod PagePut
