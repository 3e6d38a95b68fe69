mod Taken
mod Running
