-- The frames of the panels of the picture. Assumes nothing.
pub mod Panels
