mod Behind
mod Turns
mod Table
mod Steps
