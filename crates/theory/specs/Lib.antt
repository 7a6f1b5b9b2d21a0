pub mod Event
pub mod Log
pub mod Plain
pub mod View
pub mod Change
pub mod Protocol
