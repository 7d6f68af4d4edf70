-- The outer layer: the events of document 01 move a group of bases as the inner theorem asks.
-- Refusals 16 and 18 see to it that what arrives over a good link is in the log at its other
-- end; frames written read back as the messages sent; what is turned down changes nothing.
pub mod Beginning
pub mod Events
pub mod Faulty
pub mod Follows
pub mod Frames
pub mod History
pub mod Refusals
pub mod Stopping
pub mod Truth
pub mod Waiting
