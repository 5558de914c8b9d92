pub mod Exchanges
pub mod ServedConnections
pub mod Seats
pub mod ServedHalls
pub mod ServedInTurn
pub mod inner
