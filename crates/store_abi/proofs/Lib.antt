pub mod TextLeft
