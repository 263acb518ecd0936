-- Lines of a text: the definitions that contracts cite.
pub mod Line
