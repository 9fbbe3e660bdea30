pub mod Common
pub mod InPlace
pub mod PacketLemmas
pub mod Speech
pub mod Taking
