mod StatesAfter
mod StatesCells
mod StatesContents
mod StatesCut
mod StatesHeld
mod StatesHistory
mod StatesReached
mod StatesRead
mod StatesRows
mod StatesSchema
mod StatesSlots
pub mod Answering
pub mod Kept
pub mod Labelling
pub mod Traces
