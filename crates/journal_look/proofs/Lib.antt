pub mod MoreThere
