pub mod Codecs
pub mod Items
pub mod Many
pub mod Places
