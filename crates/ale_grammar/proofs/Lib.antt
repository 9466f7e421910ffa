mod Putting
mod Going
mod Sides
mod Tying
mod ResolveLaw
pub mod LinesAreBound
mod Parting
mod Gathering
mod Gathered
mod Fragment
mod GrammarLaw
mod ReadLines
mod Keeping
mod Assembled
mod Answering
