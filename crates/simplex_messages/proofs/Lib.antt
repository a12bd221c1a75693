pub mod FirstItems
pub mod SlotLemmas
