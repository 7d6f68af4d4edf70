pub mod FirstMessage
