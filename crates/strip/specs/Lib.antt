-- What fetching answers, leaves and reports, and what the code behind it goes by.
pub mod Fetch
pub mod Touched
pub mod Steps
