mod Canonical
mod Lengths
mod LineGraph
mod Names
mod Pieces
mod Places
mod Rules
mod Tree
