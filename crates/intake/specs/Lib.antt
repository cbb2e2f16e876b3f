-- What is taken in of a record: the settings of its sheet.
pub mod Intake
pub mod Taken
