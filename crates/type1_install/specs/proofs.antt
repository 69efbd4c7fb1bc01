-- Proofs, and no definitions: a ghost item of the code cites each, and so may cite it only here.
pub mod HashingLaws
