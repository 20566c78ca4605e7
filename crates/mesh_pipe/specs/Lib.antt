-- the pipe's text: what one client is written, of what was read of it
pub mod PipeText
-- the server of a pipe, by its one shard
pub mod PipeServing
-- what the server of a pipe is between two asks of its client's connection, and what its calls do
pub mod PipeStates
-- what a pipe still has to say, and what its steps do about it
pub mod PipeRuns
-- what a pipe does, over any reader and writer that tell their bytes
pub mod PipeTheorem
-- how a program ends whose pipe has ended
pub mod Ending
