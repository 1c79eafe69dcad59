mod Accepted
mod BookRules
mod CurvesSoFar
mod FirstNamed
mod TwistsSoFar
mod Rules
mod SoFar
mod Text
pub mod Laws
mod Few
mod Parts
pub mod ReadAccepted
mod Said
mod Sizes
