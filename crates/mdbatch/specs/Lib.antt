pub mod BatchHtml
pub mod CleanText
pub mod GatheredUnits
pub mod TextLabels
pub mod ViewHtml
pub mod UnitsAtOnce
pub mod UnitsTaken
