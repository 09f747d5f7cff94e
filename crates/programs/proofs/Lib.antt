pub mod TextIn
