pub mod Tests
pub mod Ranges
pub mod Tables
pub mod Patterns
pub mod Matching
pub mod Lexemes
pub mod Quotes
pub mod Runs
pub mod Floats
-- one reading, one refusal, one answer
pub mod Machine
pub mod Outcomes
pub mod Places
pub mod Answers
-- rows
pub mod Growth
pub mod Symbols
pub mod Seek
pub mod Worded
pub mod Room
pub mod Halves
pub mod Handles
pub mod Words
pub mod Asking
pub mod Sizes
pub mod Order
pub mod Shapes
pub mod Pieces
pub mod Forest
pub mod Decoding
pub mod Tops
pub mod Trees
pub mod Parents
pub mod Lengths
pub mod Calls
pub mod Demands
pub mod Larger
pub mod Builtins
-- the two editions
pub mod Follow
pub mod Tallies
pub mod Operands
pub mod Later
pub mod Editions
-- what could have stood at a place, and what is open there
pub mod Stack
pub mod Finish
pub mod Expected
pub mod Verdicts
pub mod Stopping
pub mod Height
pub mod Unexpected
pub mod Fares
pub mod Refusing
pub mod Openings
pub mod Overflow
-- a guard and the script of it
pub mod Steady
pub mod Rooting
pub mod Guards
-- samples
pub mod Reader
pub mod Doors
pub mod Spelled
pub mod Told
pub mod Samples
pub mod Replies
pub mod Named
