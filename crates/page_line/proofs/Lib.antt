pub mod ServicePage
