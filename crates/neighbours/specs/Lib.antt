pub mod InnerNeighbours
