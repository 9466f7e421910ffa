mod Depth
mod Dependences
mod Fillings
mod Grouping
mod Members
mod Tables
