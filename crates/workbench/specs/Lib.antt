-- What C and Python are told of a search, of its positions and questions about states, of its reservation, of players and of bursts.
pub mod Numbers
pub mod Positions
pub mod Needs
pub mod Players
pub mod Bursts
