mod Numbering
mod Slotting
mod Lineage
mod Steps
mod Scoping
mod Walks
mod Members
mod Naming
