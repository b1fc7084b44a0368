pub mod WriteLaws
mod Lists
