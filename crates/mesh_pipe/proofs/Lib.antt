mod Server
mod Text
