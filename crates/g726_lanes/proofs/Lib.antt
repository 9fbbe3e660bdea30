mod Common
pub mod Each
pub mod AdaptLanes
pub mod Numbers
pub mod PoleLanes
pub mod FilterLanes
pub mod Floats
pub mod QuantLanes
pub mod PredictionUpdates
pub mod PredictionNumbers
pub mod AdaptationUpdates
pub mod Steps
pub mod Frames
pub mod SegmentLanes
