pub mod Bodies
pub mod Fronts
pub mod Opens
pub mod Walks
pub mod Sizes
pub mod Stays
