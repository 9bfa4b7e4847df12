pub mod Laws
pub mod Plain
