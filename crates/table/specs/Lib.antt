pub mod Table
pub mod Deal
pub mod FiveDigits
pub mod Orders
pub mod Promise
pub mod Arrange
