pub mod InsetLists
pub mod UnitWriters
pub mod held
