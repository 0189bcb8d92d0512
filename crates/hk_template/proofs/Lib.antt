-- The proofs about templates.
pub mod Nodes
pub mod Growth
pub mod Shallow
pub mod Steps
pub mod Bools
pub mod Fronts
pub mod Words
pub mod Tags
pub mod Cutting
pub mod Printing
pub mod Grammar
pub mod Ends
pub mod Trims
pub mod Rests
