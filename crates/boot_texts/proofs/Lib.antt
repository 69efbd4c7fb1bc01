mod LinePieces
pub mod LastValue
pub mod LineFronts
pub mod EntryReading
mod OsDoubles
mod OsValues
mod OsReading
pub mod PatternItems
pub mod PatternSearch
pub mod PatternLaws
pub mod FileLines
pub mod ConfChanges
pub mod PatternDecisions
pub mod ConfChoices
pub mod EntryText
mod EntryLines
