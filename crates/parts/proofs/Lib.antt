-- samples
pub mod Samples
-- statements elsewhere
pub mod Kinship
-- the token list without some statements
pub mod Carried
pub mod Sequence
pub mod Leaving
pub mod Shorter
-- two token lists as one
pub mod Pairs
-- words of tokens
pub mod Words
pub mod Numbering
-- what is written
pub mod Walking
pub mod Statements
pub mod Upward
-- what rows say
pub mod Hearing
pub mod Spelling
pub mod Voices
pub mod Speaking
-- rows moved
pub mod Spanned
pub mod Likeness
pub mod Carrying
pub mod Moving
pub mod Dropping
-- two scripts as one
pub mod Unmoved
-- packed rows pass the check
pub mod Sizes
pub mod Symbols
pub mod Access
pub mod Passing
-- all of it, of a call
pub mod Screens
