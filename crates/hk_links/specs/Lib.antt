pub mod Laws
pub mod Parts
pub mod Path
pub mod Printed
pub mod Report
pub mod Value
