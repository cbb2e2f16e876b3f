-- Adjoining plans on one canvas: what is told, what each entry receives and every pixel afterwards; and a side cut at the edges.
pub mod Canvas
pub mod Cuts
