pub mod InForm
pub mod Reaches
pub mod GoingBack
