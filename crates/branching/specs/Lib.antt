pub mod Node
pub mod Choice
pub mod Laws
