mod Below
pub mod ContactColumn
pub mod ContactLaw
mod DomainTest
pub mod Examples
mod Identity
pub mod IdentityColumns
mod IdentityDomains
mod IdentityPieces
pub mod Laws
