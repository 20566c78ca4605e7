mod Bodies
mod Texts
mod Runs
mod Places
mod Ranges
