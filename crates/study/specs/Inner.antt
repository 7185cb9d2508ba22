-- What the proofs of demand 3 cite besides; no reader of the demand needs it.
pub mod Holding
pub mod Laws
