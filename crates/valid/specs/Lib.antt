-- Which bytes external text does not show.
pub mod Valid
