-- CSS Grid Level 2, 8.3, the rule of named.rs, and what the theorems between them ask.
pub mod Css
pub mod CssMarks
pub mod CssOrder
pub mod Conditions
pub mod Rule
pub mod Template
pub mod Walk
pub mod Cases
pub mod OneMore
pub mod OneMoreCases
