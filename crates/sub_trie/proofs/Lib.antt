mod Risen
mod Orders
mod Recalls
mod Keyed
mod Owned
mod Closing
mod Listing
mod Rooms
