mod ToldFronts
mod Writings
