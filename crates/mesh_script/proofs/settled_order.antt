mod Orders
mod Owing
mod Counting
