pub mod Fronts
pub mod LabelText
pub mod Characters
pub mod CellTexts
mod Worked
