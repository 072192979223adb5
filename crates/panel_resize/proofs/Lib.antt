pub mod CountNow
