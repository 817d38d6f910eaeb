mod Keys
mod Held
mod Numbers
mod Steps
pub mod Laws
