mod Looks
mod JobLooks
