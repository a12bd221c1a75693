pub mod Judging
pub mod Fewer
pub mod KindOrder
