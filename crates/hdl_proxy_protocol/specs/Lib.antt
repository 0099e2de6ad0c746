-- What a proxy says before the octets of a client.
pub mod Header
