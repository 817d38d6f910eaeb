pub mod AllChanged
pub mod AllRows
