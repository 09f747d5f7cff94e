pub mod Printed
pub mod TextParts
pub mod LineBounds
pub mod AtMost
pub mod Settled
