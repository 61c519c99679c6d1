-- one answer, and what our reader wrote
pub mod Outcomes
pub mod Reading
pub mod Again
-- roles and slots, and rows that passed the check
pub mod Digits
pub mod Slots
pub mod Numbers
-- what waits
pub mod Ranges
pub mod Stacking
pub mod Spelling
pub mod Knowing
pub mod Loads
pub mod Touring
pub mod Beginning
-- rows and links in place
pub mod Moving
pub mod Agreeing
pub mod Packing
pub mod Rooting
-- which rows stay
pub mod Keeping
-- the passes together
pub mod Settling
pub mod Telling
