mod Lines
mod Pairs
mod Running
mod Building
mod OneAdder
mod TwoAdders
mod OutOfOrder
mod List
