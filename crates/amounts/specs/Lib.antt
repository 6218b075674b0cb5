pub mod Amounts
pub mod Text
pub mod Laws
