pub use Rattle.gw_records.specs.Streams
pub use Rattle.gw_records.specs.Records
pub use Rattle.gw_records.specs.Outcome
pub mod Encode
pub mod Decode
