-- Document 01, "Messages and assembly": a reader over the lent message.
pub mod Handing
