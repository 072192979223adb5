-- Laws of written-out tracks: those of a template component by component (Components), which of them are open (Opens), and where none is a fit (Fits).
pub mod Components
pub mod Opens
pub mod Fits
