pub mod CheckAndMutate
pub mod ReadModifyWrite
