pub mod LastPlace
