-- The words of the refusals: the definitions that contracts cite.
pub mod Words
