pub mod InnerMasks
