pub mod Before
pub mod Lines
