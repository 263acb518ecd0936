-- Cases as text: the definitions that contracts cite. Assumes nothing.
pub mod Text
pub mod Lists
