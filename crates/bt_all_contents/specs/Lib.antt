pub mod AllContents
