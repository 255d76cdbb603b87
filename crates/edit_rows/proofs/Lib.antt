pub mod ReadEdits
mod LabelRows
mod PieceRows
mod PreludeRows
mod RefusalRows
mod StretchRows
pub mod ReadJoins
mod JoinRows
mod ListEditRows
mod SeamEditRows
