pub mod MoreHeld
