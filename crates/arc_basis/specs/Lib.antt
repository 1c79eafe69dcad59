pub mod Basis
pub mod BasisTables
pub mod SeamTables
