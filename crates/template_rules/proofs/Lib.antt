-- Laws of layer 3.
pub mod Tests
pub mod Rounding
pub mod Exact
pub mod WholeNumbers
pub mod Walk
pub mod Bounds
pub mod FirstPart
pub mod Held
pub mod Valid
pub mod Css
pub mod Answer
pub mod Thin
pub mod Nothing
pub mod WrittenOut
pub mod CssWhole
pub mod WholeExample
