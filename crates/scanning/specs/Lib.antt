pub mod InnerStates
